-- What is left at the end of an input, and what goes out of it.
use Rattle.std.proofs.Common.{◌≡◌, ◌≢◌, ℕ, Bool, true, List, [], ◌∷◌, refl, sym, subst, inr}
use Rattle.std.proofs.KnownBytes.{Appends-nil}
use Rattle.louis_table.specs.Meaning.{Meaning}
use Rattle.desk_ends.specs.Lines.{HasNoFeed, without_ending}
use Rattle.desk_ends.specs.Sending.{Sends}
use Rattle.desk_ends.specs.declared.ends.Sink.{Ghosts}
use Rattle.desk_ends.proofs.Sending.{Transmits-whole}
use Rattle.desk_translate.specs.Sends.{IsLastAnswer, SendsLast, SendsLine}
use Rattle.desk_translate.proofs.Answering.{answer_to, is-answer, output_of}
use Rattle.desk_translate.proofs.Cuts.{output_of-line}

pub last-answer : (meaning : Meaning) (bytes : List ℕ) → HasNoFeed bytes → IsLastAnswer meaning bytes (output_of meaning bytes)
last-answer meaning [] none = refl
last-answer meaning (b ∷ bytes) none =
    let line = without_ending (b ∷ bytes) in
    (answer_to meaning line, is-answer meaning line, output_of-line meaning (b ∷ bytes) (inr none) (λ e. cc))

none-answered : (meaning : Meaning) (bytes text : List ℕ) → [] ≡ bytes → IsLastAnswer meaning bytes text → text ≡ []
none-answered meaning bytes text none right = subst (λ (t : List ℕ). IsLastAnswer meaning t text) (sym none) right

module _ {K : Type 0} (sink : Ghosts K) (old new : K) (meaning : Meaning) where
  pub SendsLast-none : (bytes : List ℕ) → [] ≡ bytes → SendsLast sink old old meaning bytes true
  SendsLast-none bytes none = λ text right.
      subst (λ (t : List ℕ). Sends sink old old t true) (sym (none-answered meaning bytes text none right))
      (Transmits-whole sink.can_fail (sink.contents old) (sink.contents old) [] true (Appends-nil (sink.contents old)) refl)

  pub SendsLast-some : (bytes : List ℕ) (ok : Bool) → [] ≢ bytes → SendsLine sink old new meaning (without_ending bytes) ok
      → SendsLast sink old new meaning bytes ok
  SendsLast-some [] ok some sends = absurd (some refl)
  SendsLast-some (b ∷ bytes) ok some sends = λ text right.
      subst (λ (t : List ℕ). Sends sink old new t ok) (sym right.2) (sends right.0 right.1)

  -- the answers to it go out
  pub SendsLast-answers : (bytes : List ℕ) (ok : Bool) → HasNoFeed bytes → SendsLast sink old new meaning bytes ok
      → Sends sink old new (output_of meaning bytes) ok
  SendsLast-answers bytes ok none sends = sends (output_of meaning bytes) (last-answer meaning bytes none)
