use Rattle.std.proofs.Common.{◌≡◌, ◌++◌, List, ℕ, is_ok, length, refl, ap, ◌∙◌, arith, flat_map, Option, map, length-append}
use Rattle.std.proofs.lemmas.Result.{err_from_is_err_and}
use Rattle.louis_table.specs.Meaning.{Meaning}
use Rattle.louis_translate.specs.declared.choices.Choice.{Choice}
use Rattle.louis_translate.specs.Braille.{braille}
use Rattle.louis_translate.specs.Items.{PieceItem, made_by, made_cells}
use Rattle.louis_translate.proofs.PieceLists.{braille-made}
use Rattle.desk_ends.specs.Cells.{text_of}
use Rattle.desk_ends.proofs.Sending.{Sending-none}
use Rattle.desk_translate.proofs.Putting.{Putting, Putting-done, Putting-first, Putting-no_first, Putting-no_own, Putting-no_sign, Putting-piece}
use Rattle.desk_translate.proofs.braille.put_print.Goals as goal

-- before anything is put, all is still to come
start : (meaning : Meaning) (print : List ℕ) (choices : List Choice) (left : List PieceItem) (a : Option (List ℕ)) (block : List ℕ) → left ≡ map (made_by meaning print) choices
    → Putting left a a block (block ++ text_of (braille meaning print choices))
start meaning print choices left a block made =
    Sending-none a block _ _
    (ap (λ (cells : List ℕ). block ++ text_of cells) (ap (λ (rest : List PieceItem). flat_map made_cells rest) made ∙ braille-made meaning print choices))

pub returns-in_err-put_run : goal.returns-in_err-put_run
returns-in_err-put_run g c =
    let p = err_from_is_err_and c.from_residual.result c.from_residual.ensures.1 in
    let run = c.put_run.ensures in
    λ choices tiles.
    Putting-no_first g.K.Sink.can_fail _ _ _ _ _ _ c.new-pieces.result c.put_run.new.pieces run.taken _ (start (g.B.RuleBook.meaning c.args.book.now) c.args.print.now choices _ _ _ (c.new-pieces.ensures choices tiles)) run.parts run.puts _ _ (ap is_ok c.in_err-put_run.was) (ap is_ok p.1)

pub loop-piece-init : goal.loop-piece-init
loop-piece-init g c =
    let run = c.put_run.ensures in
    λ choices tiles.
    Putting-first g.K.Sink.can_fail _ _ _ _ _ _ c.new-pieces.result c.put_run.new.pieces run.taken _ (start (g.B.RuleBook.meaning c.args.book.now) c.args.print.now choices _ _ _ (c.new-pieces.ensures choices tiles)) run.parts run.puts (ap is_ok c.in_ok-put_run.was)

pub returns-in_err-put_cells : goal.returns-in_err-put_cells
returns-in_err-put_cells g c =
    let p = err_from_is_err_and c.from_residual-in_err-put_cells.result c.from_residual-in_err-put_cells.ensures.1 in
    λ choices tiles.
    Putting-no_sign _ c.in-Some.piece _ c.in-Some.ensures g.K.Sink.can_fail _ _ _ c.loop-piece.block _ _ _ (c.loop-piece.invariant choices tiles) c.put_cells.ensures _ _ (ap is_ok c.in_err-put_cells.was) (ap is_ok p.1)

pub returns-in_err-put_cells-2 : goal.returns-in_err-put_cells-2
returns-in_err-put_cells-2 g c =
    let p = err_from_is_err_and c.from_residual-in_err-put_cells-2.result c.from_residual-in_err-put_cells-2.ensures.1 in
    λ choices tiles.
    Putting-no_own _ c.in-Some.piece _ c.in-Some.ensures g.K.Sink.can_fail _ _ _ c.loop-piece.block _ _ _ (c.loop-piece.invariant choices tiles) c.put_cells.ensures (ap is_ok c.in_ok-put_cells.was) _ _ _ c.put_cells-in-Some.ensures _ _ (ap is_ok c.in_err-put_cells-2.was) (ap is_ok p.1)

pub returns-in_err-put_run-2 : goal.returns-in_err-put_run-2
returns-in_err-put_run-2 g c =
    let p = err_from_is_err_and c.from_residual-in_err-put_run-2.result c.from_residual-in_err-put_run-2.ensures.1 in
    let run = c.put_run-in-Some.ensures in
    λ choices tiles.
    Putting-no_first g.K.Sink.can_fail _ _ _ _ _ _ c.next_chosen.new.self c.put_run-in-Some.new.pieces run.taken _
    (Putting-piece _ c.in-Some.piece _ c.in-Some.ensures g.K.Sink.can_fail _ _ _ c.loop-piece.block _ _ _ (c.loop-piece.invariant choices tiles) c.put_cells.ensures (ap is_ok c.in_ok-put_cells.was) _ _ _ c.put_cells-in-Some.ensures (ap is_ok c.in_ok-put_cells-2.was))
    run.parts run.puts _ _ (ap is_ok c.in_err-put_run-2.was) (ap is_ok p.1)

pub loop-piece-preserved : goal.loop-piece-preserved
loop-piece-preserved g c =
    let run = c.put_run-in-Some.ensures in
    λ choices tiles.
    Putting-first g.K.Sink.can_fail _ _ _ _ _ _ c.next_chosen.new.self c.put_run-in-Some.new.pieces run.taken _
    (Putting-piece _ c.in-Some.piece _ c.in-Some.ensures g.K.Sink.can_fail _ _ _ c.loop-piece.block _ _ _ (c.loop-piece.invariant choices tiles) c.put_cells.ensures (ap is_ok c.in_ok-put_cells.was) _ _ _ c.put_cells-in-Some.ensures (ap is_ok c.in_ok-put_cells-2.was))
    run.parts run.puts (ap is_ok c.in_ok-put_run-2.was)

pub returns : goal.returns
returns g c = λ choices tiles.
    Putting-done g.K.Sink.can_fail _ _ _ c.loop-piece.block _ _ (c.loop-piece.invariant choices tiles) c.in_default.ensures.0 refl

pub loop-piece-smaller : goal.loop-piece-smaller
loop-piece-smaller g c =
    let run = c.put_run-in-Some.ensures in
    omega (arith, ap length c.in-Some.ensures, ap length run.parts, length-append run.taken c.put_run-in-Some.new.pieces)
