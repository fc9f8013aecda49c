use Rattle.std.proofs.Common.{◌≡◌, ◌≤◌, length, take}
use Rattle.desk_translate.proofs.print.Print.copy_ascii.Given as goal

-- the bytes so far stand in the print
abbrev pub invariant-loop-place : goal.invariant-loop-place
invariant-loop-place l = record {
  kept : l.self-inside.len ≤ 4000;
  long : length l.self-inside.characters ≡ 4000;
  front : take l.place l.self-inside.characters ≡ take l.place l.bytes;
}
