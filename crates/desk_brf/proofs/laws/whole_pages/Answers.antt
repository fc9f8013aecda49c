use Rattle.desk_brf.proofs.WholePages.{whole_pages}
use Rattle.desk_brf.proofs.laws.whole_pages.Goals as goal

pub returns : goal.returns
returns c = whole_pages
