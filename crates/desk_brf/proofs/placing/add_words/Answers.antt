use Rattle.std.proofs.Common.{◌≡◌, ℕ, ◌+◌, ◌≤◌, List, ◌∷◌, [], length, take, drop, sym, ap, ◌∙◌, length-append, length-drop, arith, rules}
use Rattle.std.proofs.lemmas.List.{take_rest, length-take-le}
use Rattle.std.proofs.lemmas.List.Elements.{All-drop}
use Rattle.desk_brf.proofs.AsciiLemmas.{ascii-length}
use Rattle.desk_brf.proofs.WordLemmas.{words-word}
use Rattle.desk_brf.specs.Volume.{IsSixDot}
use Rattle.desk_brf.specs.Words.{words}
use Rattle.desk_brf.proofs.LineLemmas.{AddsWords-none, AddsWords-more}
use Rattle.desk_brf.proofs.placing.add_words.Goals as goal

pub loop-len-init : goal.loop-len-init
loop-len-init c =
    record {
      added = AddsWords-none c.args.used (words c.args.cells.now) (words c.skip_blanks-rest.result.now) c.args.line.now c.skip_blanks-rest.ensures.words;
      at_word = c.skip_blanks-rest.ensures.at_word;
      dots = search rules;
      fewer = c.skip_blanks-rest.ensures.rest;
      fits = c.requires.used;
      length_is = omega arith;
    }

pub loop-len-preserved : goal.loop-len-preserved
loop-len-preserved c =
    let rest = c.loop-len.rest.now in
    let len = c.word_len-len.result in
    let left = c.skip_blanks-rest-in-loop-len.result.now in
    let k = c.skip_blanks-rest-in-loop-len.ensures in
    let same : words left ≡ words (drop len rest) = rw (take_rest rest len) at k.words in
    let fewer : length left ≤ length (drop len rest) = rw (take_rest rest len) at k.rest in
    let dropped = length-drop len rest in
    let within = c.word_len-len.ensures.within in
    let was = c.loop-len.invariant in
    let was_fewer = was.fewer in
    let was_fits = was.fits in
    let was_length = was.length_is in
    let fits = c.if-len-room.false in
    let p = c.push_cells.ensures in
    let pushed : length c.push_cells.new.self ≡ length c.loop-len.line + (1 + len) =
    ap length p.1 ∙ (length-append c.push.new.self p.0 ∙ (rw c.push.ensures
    (let one = length-append c.loop-len.line (32 ∷ []) in let more : length p.0 ≡ len = ascii-length (take len rest) p.0 p.2 ∙ length-take-le len rest within in omega arith))) in
    record {
      added = AddsWords-more c.args.used (words c.args.cells.now) (words rest) (words left) (take len rest) c.args.line.now c.loop-len.line c.push_cells.new.self
          c.loop-len.used (c.loop-len.used + (len + 1)) was.added
          (words-word len rest c.word_len-len.ensures ∙ ap (λ (ws : List (List ℕ)). take len rest ∷ ws) (sym same))
          (rw c.push.ensures at p) (ap (λ k. c.loop-len.used + (k + 1)) (sym (length-take-le len rest within)));
      at_word = k.at_word;
      dots = (rw (take_rest rest len) at k.dots) (All-drop IsSixDot len rest was.dots);
      fewer = omega (arith, fewer, dropped, was_fewer);
      fits = omega (arith, fits, was_fits);
      length_is = omega (arith, pushed, was_length);
    }

pub returns-then-len-room-clause-line : goal.returns-then-len-room-clause-line
returns-then-len-room-clause-line c =
    let rest = c.loop-len.rest.now in
    let len = c.word_len-len.result in
    let was = c.loop-len.invariant in
    let fits = was.fits in
    let long = c.if-len-room.true in
    record {
      after = c.loop-len.used;
      added = was.added;
      fits = fits;
      full = λ next others e.
          let front : take len rest ∷ words (drop len rest) ≡ next ∷ others = sym (words-word len rest c.word_len-len.ensures) ∙ e in
          let same : take len rest ≡ next = cc in
          let size : length next ≡ len = ap length (sym same) ∙ length-take-le len rest c.word_len-len.ensures.within in
          omega (arith, size, fits, long);
    }
