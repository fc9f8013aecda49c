use Rattle.std.proofs.Common.{◌-◌, take, drop, arith}
use Rattle.std.proofs.lemmas.List.{take_rest, length-take-le}
use Rattle.desk_brf.specs.Words.{words}
use Rattle.desk_brf.proofs.LineLemmas.{LaysLine-cut, LaysLine-whole}
use Rattle.desk_brf.proofs.WordLemmas.{words-word, cut-words, cut-rest, cut-at_word, cut-some}
use Rattle.desk_brf.proofs.placing.lay_line.Goals as goal

pub returns-then-len-room-clause-line : goal.returns-then-len-room-clause-line
returns-then-len-room-clause-line c =
    let cells = c.args.cells.now in
    let room = c.args.room in
    let len = c.word_len-len.result in
    let word = c.word_len-len.ensures in
    let within = word.within in
    let long = c.if-len-room.true in
    let p = c.push_cells.ensures in
    rw (take_rest cells room)
    (LaysLine-cut room (words cells) (words (drop room cells)) (words (drop len cells)) (take room cells) (take (len - room) (drop room cells)) c.args.line.now
    c.push_cells.new.self p.0 (cut-words len room cells word long) (length-take-le room cells (omega (arith, within, long)))
    (cut-some len room cells word long) (cut-rest len room cells word long) p.1 p.2)

pub returns-then-len-room-clause-at_word : goal.returns-then-len-room-clause-at_word
returns-then-len-room-clause-at_word c =
    rw (take_rest c.args.cells.now c.args.room) (cut-at_word c.word_len-len.result c.args.room c.args.cells.now c.word_len-len.ensures c.if-len-room.true)

pub returns-clause-line : goal.returns-clause-line
returns-clause-line c =
    let cells = c.args.cells.now in
    let len = c.word_len-len.result in
    let p = c.push_cells-2.ensures in
    let fill = c.add_words.ensures.line in
    LaysLine-whole c.args.room (words cells) (words (drop len cells)) (words c.add_words.result.now) (take len cells) c.args.line.now c.push_cells-2.new.self
    c.add_words.new.line p.0 (words-word len cells c.word_len-len.ensures) p.1 p.2
    (rw (length-take-le len cells c.word_len-len.ensures.within) (rw (take_rest cells len) at fill))
