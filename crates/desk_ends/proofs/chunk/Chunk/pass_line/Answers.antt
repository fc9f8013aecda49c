use Rattle.std.proofs.Common.{ap, ◌∙◌, ℕ, ◌+◌, List, take, rules}
use Rattle.desk_ends.specs.Lines.{with_bytes}
use Rattle.desk_ends.proofs.OneLine.{no-feed}
use Rattle.desk_ends.proofs.WaitingBytes.{later-is, none-left, passes-line, waiting-is}
use Rattle.desk_ends.proofs.chunk.Chunk.pass_line.Goals as goal

pub returns-in-Some : goal.returns-in-Some
returns-in-Some c =
    let chunk = c.self.inside in
    let is = waiting-is chunk.from chunk.to chunk.bytes c.args.self.now c.self.invariant.0 c.self.view_is in
    let later = later-is chunk.from chunk.to chunk.bytes c.args.self.now c.self.invariant.0 c.self.view_is (c.in-Some.end + 1) in
    let found = rw is at c.in-Some.ensures in
    passes-line c.args.self.now _ c.args.line.now c.extend.new.self c.in-Some.end found.0 found.1 found.2 later (c.extend.ensures ∙ ap (λ (t : List ℕ). with_bytes c.args.line.now (take (c.in-Some.end + 1) t)) is)

pub returns-in-None : goal.returns-in-None
returns-in-None c = search (rules, waiting-is, none-left, no-feed)
