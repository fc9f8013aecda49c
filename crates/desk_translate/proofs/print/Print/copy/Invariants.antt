use Rattle.std.proofs.Common.{◌≡◌, ◌≤◌, ◌++◌, length, take, chars, IsUtf8}
use Rattle.std.specs.Str.Iter.{chars_rest}
use Rattle.desk_translate.proofs.print.Print.copy.Given as goal

-- what came stands in the print, and what is left are the other characters
abbrev pub invariant-loop-character : goal.invariant-loop-character
invariant-loop-character l = record {
  count : l.len ≡ length l.yielded;
  kept : l.self-inside.len ≤ 4000;
  long : length l.self-inside.characters ≡ 4000;
  few : l.len ≤ 4000;
  front : take l.len l.self-inside.characters ≡ l.yielded;
  is_text : IsUtf8 (chars_rest l.character-iterator);
  others : l.yielded ++ chars (chars_rest l.character-iterator) ≡ chars l.text;
}
