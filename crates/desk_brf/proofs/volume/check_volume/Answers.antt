use Rattle.std.proofs.Common.{◌≡◌, ◌∙◌}
use Rattle.desk_brf.proofs.CheckLemmas.{Checking-none, Checking-skips, Checking-takes, Checking-stops, Checking-there, Checking-missing, Walking-none, Walking-more, Walking-room, Walking-found, Walking-braille}
use Rattle.desk_brf.proofs.VolumeLemmas.{in_volume-in, in_volume-out, count-few}
use Rattle.desk_brf.proofs.volume.check_volume.Goals as goal

pub loop-paragraph-init : goal.loop-paragraph-init
loop-paragraph-init c =
    let iter : c.into_iter-paragraph-iterator.result ≡ c.args.book.now.paragraphs = c.into_iter-paragraph-iterator.ensures.into_iter_gives ∙ c.list-paragraph-items.ensures in
    record {
      walking = Walking-none c.args.book.now c.new-volumes.result.count c.into_iter-paragraph-iterator.result c.new-volumes.ensures iter;
      checking = Checking-none c.args.book.now c.args.volume c.new-volumes.result.count c.into_iter-paragraph-iterator.result c.new-volumes.ensures iter;
    }

pub loop-paragraph-preserved-then-not-next_is_in :
    goal.loop-paragraph-preserved-then-not-next_is_in
loop-paragraph-preserved-then-not-next_is_in c =
    let book = c.args.book.now in
    let step = c.in-Some.ensures.steps in
    let item = c.in-Some.paragraph in
    let inv = c.loop-paragraph.invariant in
    let count = c.loop-paragraph.volumes.count in
    let next = c.next_is_in.new.self.count in
    let left = c.next.new.self in
    let n = c.next_is_in.ensures in
    let le = count-few c.args.volume count next step.0 left item.struck item.begins_volume c.next_is_in.result step.2.struck step.2.begins_volume n.count n.is_in in
    let out = in_volume-out c.args.volume count next step.0 left item.struck item.begins_volume c.next_is_in.result step.2.struck step.2.begins_volume n.count n.is_in c.if-not-next_is_in.true in
    record {
      walking = Walking-more book c.version.ensures.sound count c.loop-paragraph.paragraph-iterator inv.walking step.0 left step.1 next le;
      checking = Checking-skips book c.args.volume count next c.loop-paragraph.paragraph-iterator c.loop-paragraph.is_there inv.checking step.0 left step.1 out;
    }

pub next_is_in-requires : goal.next_is_in-requires
next_is_in-requires c =
    let step = c.in-Some.ensures.steps in
    Walking-room c.args.book.now c.version.ensures.sound c.loop-paragraph.volumes.count c.loop-paragraph.paragraph-iterator c.loop-paragraph.invariant.walking step.0 c.next.new.self step.1

pub cells_of-requires : goal.cells_of-requires
cells_of-requires c =
    let step = c.in-Some.ensures.steps in
    Walking-found c.args.book.now c.version.ensures.sound c.loop-paragraph.volumes.count c.loop-paragraph.paragraph-iterator c.loop-paragraph.invariant.walking step.0 c.next.new.self step.1
    c.in-Some.paragraph.id step.2.id

pub returns-in-Some-first_eight_dot : goal.returns-in-Some-first_eight_dot
returns-in-Some-first_eight_dot c =
    let book = c.args.book.now in
    let step = c.in-Some.ensures.steps in
    let item = c.in-Some.paragraph in
    let inv = c.loop-paragraph.invariant in
    let count = c.loop-paragraph.volumes.count in
    let next = c.next_is_in.new.self.count in
    let left = c.next.new.self in
    let n = c.next_is_in.ensures in
    let cells = c.cells_of.result.now in
    let in' = in_volume-in c.args.volume count next step.0 left item.struck item.begins_volume c.next_is_in.result step.2.struck step.2.begins_volume n.count n.is_in c.if-not-next_is_in.false in
    let braille = Walking-braille book c.version.ensures.sound count c.loop-paragraph.paragraph-iterator inv.walking step.0 left step.1 item.id step.2.id cells c.cells_of.ensures in
    Checking-stops book c.args.volume count next c.loop-paragraph.paragraph-iterator c.loop-paragraph.is_there inv.checking step.0 left step.1 in' item.id c.in-Some-first_eight_dot.cell cells
    step.2.id braille c.in-Some-first_eight_dot.ensures.some

pub loop-paragraph-preserved : goal.loop-paragraph-preserved
loop-paragraph-preserved c =
    let book = c.args.book.now in
    let step = c.in-Some.ensures.steps in
    let item = c.in-Some.paragraph in
    let inv = c.loop-paragraph.invariant in
    let count = c.loop-paragraph.volumes.count in
    let next = c.next_is_in.new.self.count in
    let left = c.next.new.self in
    let n = c.next_is_in.ensures in
    let cells = c.cells_of.result.now in
    let le = count-few c.args.volume count next step.0 left item.struck item.begins_volume c.next_is_in.result step.2.struck step.2.begins_volume n.count n.is_in in
    let in' = in_volume-in c.args.volume count next step.0 left item.struck item.begins_volume c.next_is_in.result step.2.struck step.2.begins_volume n.count n.is_in c.if-not-next_is_in.false in
    let braille = Walking-braille book c.version.ensures.sound count c.loop-paragraph.paragraph-iterator inv.walking step.0 left step.1 item.id step.2.id cells c.cells_of.ensures in
    record {
      walking = Walking-more book c.version.ensures.sound count c.loop-paragraph.paragraph-iterator inv.walking step.0 left step.1 next le;
      checking = Checking-takes book c.args.volume count next c.loop-paragraph.paragraph-iterator c.loop-paragraph.is_there inv.checking step.0 left step.1 in'
          (cells, braille, c.in_default.ensures.none);
    }

pub returns-then-is_there : goal.returns-then-is_there
returns-then-is_there c =
    Checking-there c.args.book.now c.args.volume c.loop-paragraph.volumes.count c.loop-paragraph.paragraph-iterator c.loop-paragraph.is_there c.loop-paragraph.invariant.checking
    c.in-None.ensures.steps.0 c.if-is_there.true

pub returns-else-is_there : goal.returns-else-is_there
returns-else-is_there c =
    Checking-missing c.args.book.now c.args.volume c.loop-paragraph.volumes.count c.loop-paragraph.paragraph-iterator c.loop-paragraph.is_there c.loop-paragraph.invariant.checking
    c.in-None.ensures.steps.0 c.if-is_there.false
