use Rattle.louis_translate.proofs.LongestRuns.{IsRun-run}
use Rattle.louis_translate.proofs.laws.longest_runs.Goals as goal

pub returns : goal.returns
returns c = IsRun-run
