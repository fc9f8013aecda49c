use Rattle.std.proofs.Common.{◌≡◌, ℕ, ◌+◌, List, ◌++◌, length, take}
use Rattle.desk_brf.specs.Placing.{IsAscii}
use Rattle.desk_brf.specs.declared.page_line.TheConstants.{LINE_BYTES}
use Rattle.desk_brf.proofs.page_line.put_ascii.Given as goal

abbrev pub invariant-loop-i : goal.invariant-loop-i
invariant-loop-i l = record {
  room : length l.bytes ≡ LINE_BYTES;
  put : List ℕ;
  bytes : take (l.place + l.i) l.bytes ≡ take l.place l.initial.bytes ++ put;
  ascii : IsAscii (take l.i l.cells) put;
}
