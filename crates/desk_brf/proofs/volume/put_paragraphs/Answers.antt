use Rattle.std.proofs.Common.{◌≡◌, ◌∷◌, length, is_ok, ap, sym, subst, ◌∙◌, arith}
use Rattle.std.specs.Prelude.{All}
use Rattle.std.proofs.lemmas.List.Elements.{All-tail}
use Rattle.std.proofs.lemmas.Result.{err_from_is_err_and}
use Rattle.desk_brf.specs.Counting.{in_volume}
use Rattle.desk_brf.specs.Volume.{HasSixDotCells}
use Rattle.desk_brf.specs.Volumes.{volume_of}
use Rattle.desk_brf.proofs.CellBounds.{braille-few}
use Rattle.desk_brf.proofs.CheckLemmas.{Walking-none, Walking-more, Walking-room, Walking-there, Walking-found, Walking-braille}
use Rattle.desk_brf.proofs.PuttingLemmas.{Paragraphs-none, Paragraphs-same, Paragraphs-more, Paragraphs-fails, Paragraphs-done, braille-six_dot}
use Rattle.desk_brf.proofs.VolumeLemmas.{in_volume-is, in_volume-in, in_volume-out, count-few}
use Rattle.desk_brf.proofs.volume.put_paragraphs.Goals as goal

pub loop-paragraph-init : goal.loop-paragraph-init
loop-paragraph-init g c =
    let book = c.args.book.now in
    let number = c.args.volume in
    let left = c.into_iter-paragraph-iterator.result in
    let count = c.new-volumes.result.count in
    let iter : left ≡ book.paragraphs = c.into_iter-paragraph-iterator.ensures.into_iter_gives ∙ c.list-paragraph-items.ensures in
    let parts : volume_of book number ≡ in_volume number count left =
    in_volume-is book number ∙ (ap (λ k. in_volume number k book.paragraphs) (sym c.new-volumes.ensures) ∙ ap (in_volume number count) (sym iter)) in
    let wide = c.width.ensures.least in
    let width = c.width.ensures.width in
    let none = c.requires.none in
    let size = ap length iter in
    record {
      walking = Walking-none book count left c.new-volumes.ensures iter;
      six_dot = subst (All (HasSixDotCells book)) parts c.requires.six_dot;
      putting = Paragraphs-same _ _ book c.args.layout.now (volume_of book number) (volume_of book number) (in_volume number count left) _ parts
          (Paragraphs-none _ book c.args.layout.now (volume_of book number) _ none (omega (arith, wide, width)) c.requires.six_dot);
      fewer = omega (arith, none, size);
    }

pub loop-paragraph-preserved-then-not-next_is_in :
    goal.loop-paragraph-preserved-then-not-next_is_in
loop-paragraph-preserved-then-not-next_is_in g c =
    let book = c.args.book.now in
    let number = c.args.volume in
    let step = c.in-Some.ensures.steps in
    let item = c.in-Some.paragraph in
    let inv = c.loop-paragraph.invariant in
    let iter = c.loop-paragraph.paragraph-iterator in
    let count = c.loop-paragraph.volumes.count in
    let next = c.next_is_in.new.self.count in
    let left = c.next.new.self in
    let n = c.next_is_in.ensures in
    let le = count-few number count next step.0 left item.struck item.begins_volume c.next_is_in.result step.2.struck step.2.begins_volume n.count n.is_in in
    let out = in_volume-out number count next step.0 left item.struck item.begins_volume c.next_is_in.result step.2.struck step.2.begins_volume n.count n.is_in c.if-not-next_is_in.true in
    let same : in_volume number count iter ≡ in_volume number next left = ap (in_volume number count) step.1 ∙ out in
    let size = ap length step.1 in
    let fewer = inv.fewer in
    record {
      walking = Walking-more book c.version.ensures.sound count iter inv.walking step.0 left step.1 next le;
      six_dot = subst (All (HasSixDotCells book)) same inv.six_dot;
      putting = Paragraphs-same _ _ book c.args.layout.now (volume_of book number) (in_volume number count iter) (in_volume number next left) _ same inv.putting;
      fewer = omega (arith, size, fewer);
    }

pub next_is_in-requires : goal.next_is_in-requires
next_is_in-requires g c =
    let step = c.in-Some.ensures.steps in
    Walking-room c.args.book.now c.version.ensures.sound c.loop-paragraph.volumes.count c.loop-paragraph.paragraph-iterator c.loop-paragraph.invariant.walking step.0 c.next.new.self step.1

pub cells_of-cells-requires : goal.cells_of-cells-requires
cells_of-cells-requires g c =
    let step = c.in-Some.ensures.steps in
    Walking-found c.args.book.now c.version.ensures.sound c.loop-paragraph.volumes.count c.loop-paragraph.paragraph-iterator c.loop-paragraph.invariant.walking step.0 c.next.new.self step.1
    c.in-Some.paragraph.id step.2.id

pub put_paragraph-requires-clause-dots : goal.put_paragraph-requires-clause-dots
put_paragraph-requires-clause-dots g c =
    let book = c.args.book.now in
    let number = c.args.volume in
    let step = c.in-Some.ensures.steps in
    let item = c.in-Some.paragraph in
    let inv = c.loop-paragraph.invariant in
    let iter = c.loop-paragraph.paragraph-iterator in
    let count = c.loop-paragraph.volumes.count in
    let next = c.next_is_in.new.self.count in
    let left = c.next.new.self in
    let n = c.next_is_in.ensures in
    let cells = c.cells_of-cells.result.now in
    let in' = in_volume-in number count next step.0 left item.struck item.begins_volume c.next_is_in.result step.2.struck step.2.begins_volume n.count n.is_in c.if-not-next_is_in.false in
    let braille = Walking-braille book c.version.ensures.sound count iter inv.walking step.0 left step.1 item.id step.2.id cells c.cells_of-cells.ensures in
    braille-six_dot book (in_volume number count iter) (in_volume number next left) step.0 cells inv.six_dot (ap (in_volume number count) step.1 ∙ in') braille

pub put_paragraph-requires-clause-count : goal.put_paragraph-requires-clause-count
put_paragraph-requires-clause-count g c =
    let book = c.args.book.now in
    let sound = c.version.ensures.sound in
    let step = c.in-Some.ensures.steps in
    let item = c.in-Some.paragraph in
    let inv = c.loop-paragraph.invariant in
    let iter = c.loop-paragraph.paragraph-iterator in
    let count = c.loop-paragraph.volumes.count in
    let left = c.next.new.self in
    let cells = c.cells_of-cells.result.now in
    let braille = Walking-braille book sound count iter inv.walking step.0 left step.1 item.id step.2.id cells c.cells_of-cells.ensures in
    let few = braille-few book step.0 cells sound (Walking-there book sound count iter inv.walking step.0 left step.1) braille in
    omega (arith, few, ap length step.1, inv.fewer, sound.few_paragraphs)

pub returns-in_err-put_paragraph-clause-lines : goal.returns-in_err-put_paragraph-clause-lines
returns-in_err-put_paragraph-clause-lines g c =
    let F = g.K.Sink.can_fail in
    let book = c.args.book.now in
    let number = c.args.volume in
    let step = c.in-Some.ensures.steps in
    let item = c.in-Some.paragraph in
    let inv = c.loop-paragraph.invariant in
    let iter = c.loop-paragraph.paragraph-iterator in
    let count = c.loop-paragraph.volumes.count in
    let next = c.next_is_in.new.self.count in
    let left = c.next.new.self in
    let n = c.next_is_in.ensures in
    let cells = c.cells_of-cells.result.now in
    let in' = in_volume-in number count next step.0 left item.struck item.begins_volume c.next_is_in.result step.2.struck step.2.begins_volume n.count n.is_in c.if-not-next_is_in.false in
    let braille = Walking-braille book c.version.ensures.sound count iter inv.walking step.0 left step.1 item.id step.2.id cells c.cells_of-cells.ensures in
    let p = err_from_is_err_and c.from_residual.result c.from_residual.ensures.1 in
    let puts = rw step.2.style at c.put_paragraph.ensures.lines in
    Paragraphs-fails F _ _ _ book c.args.layout.now (volume_of book number) (in_volume number count iter) (in_volume number next left) step.0 _ _ inv.putting
    (ap (in_volume number count) step.1 ∙ in') cells braille _ puts _ _ (ap is_ok c.in_err-put_paragraph.was) (ap is_ok p.1)

pub loop-paragraph-preserved : goal.loop-paragraph-preserved
loop-paragraph-preserved g c =
    let F = g.K.Sink.can_fail in
    let book = c.args.book.now in
    let sound = c.version.ensures.sound in
    let number = c.args.volume in
    let step = c.in-Some.ensures.steps in
    let item = c.in-Some.paragraph in
    let inv = c.loop-paragraph.invariant in
    let iter = c.loop-paragraph.paragraph-iterator in
    let count = c.loop-paragraph.volumes.count in
    let next = c.next_is_in.new.self.count in
    let left = c.next.new.self in
    let n = c.next_is_in.ensures in
    let cells = c.cells_of-cells.result.now in
    let le = count-few number count next step.0 left item.struck item.begins_volume c.next_is_in.result step.2.struck step.2.begins_volume n.count n.is_in in
    let in' = in_volume-in number count next step.0 left item.struck item.begins_volume c.next_is_in.result step.2.struck step.2.begins_volume n.count n.is_in c.if-not-next_is_in.false in
    let front : in_volume number count iter ≡ step.0 ∷ in_volume number next left = ap (in_volume number count) step.1 ∙ in' in
    let braille = Walking-braille book sound count iter inv.walking step.0 left step.1 item.id step.2.id cells c.cells_of-cells.ensures in
    let few = braille-few book step.0 cells sound (Walking-there book sound count iter inv.walking step.0 left step.1) braille in
    let size = ap length step.1 in
    let fewer = inv.fewer in
    let more = c.in_ok-put_paragraph.ensures.few in
    let puts = rw step.2.style at c.put_paragraph.ensures.lines in
    record {
      walking = Walking-more book sound count iter inv.walking step.0 left step.1 next le;
      six_dot = All-tail (HasSixDotCells book) step.0 (in_volume number next left) (subst (All (HasSixDotCells book)) front inv.six_dot);
      putting = Paragraphs-more F _ _ _ book c.args.layout.now (volume_of book number) (in_volume number count iter) (in_volume number next left) step.0 _ _ inv.putting
          front cells braille _ puts (ap is_ok c.in_ok-put_paragraph.was);
      fewer = omega (arith, few, size, fewer, more);
    }

pub returns-clause-lines : goal.returns-clause-lines
returns-clause-lines g c =
    let book = c.args.book.now in
    let number = c.args.volume in
    let count = c.loop-paragraph.volumes.count in
    let iter = c.loop-paragraph.paragraph-iterator in
    Paragraphs-done g.K.Sink.can_fail _ _ book c.args.layout.now (volume_of book number) (in_volume number count iter) _ c.loop-paragraph.invariant.putting
    (ap (in_volume number count) c.in-None.ensures.steps.0)

pub returns-clause-few : goal.returns-clause-few
returns-clause-few g c = omega (arith, c.loop-paragraph.invariant.fewer, c.version.ensures.sound.few_paragraphs)
