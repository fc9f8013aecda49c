use Rattle.std.proofs.Common.{◌≡◌, ◌<◌, ℕ, length, IsSome, slice_index, chars}
use Rattle.louis_table.specs.Meaning.{definition_of}
use Rattle.louis_translate.proofs.print.first_undefined.Given as goal

abbrev pub invariant-loop-character : goal.invariant-loop-character
invariant-loop-character l = record {
  can_next : (goal.iterator-loop-character).can_next l.character-iterator;
  is_finite : (goal.iterator-loop-character).is_finite l.character-iterator;
  counted : l.place ≡ length l.yielded;
  defined : (i : ℕ) → i < l.place → IsSome (definition_of l.table (slice_index (chars l.text) i));
}
