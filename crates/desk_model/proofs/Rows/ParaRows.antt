-- The rows of the paragraphs of a book.
use Rattle.std.proofs.Common.{List, map}
use Rattle.std.specs.List.{enumerate_from}
use Rattle.desk_model.specs.Book.{Paragraph}
use Rattle.desk_model.specs.Shows.{para_of}
use Rattle.desk_parts.specs.Rows.{Para}

-- those of paragraphs with their places, from 1
abbrev pub paras_of : List Paragraph → List Para
paras_of paragraphs = map para_of (enumerate_from 1 paragraphs)
