-- An action's name and a word that doesn't begin with a hyphen, read by computing.
use Rattle.std.proofs.Common.{◌≡◌, [], ◌∷◌, Some, Bor, codes, refl, ap, sym, ne_eqb}
use Rattle.clap.specs.Words.{Text}
use Rattle.clap.proofs.OnLiterals.{clap_on_literals}
use Rattle.desk_words.specs.Subcommands.{whole}
use Rattle.desk_words.specs.Plain.{IsPlain}
use Rattle.desk_words.specs.Words.{NamesAction}
use Rattle.desk_words.specs.declared.action.Action.TheVariants.{Check, New, Session, Translate}

pub new_with : (word : Bor Text) (t : Text) → word.now ≡ t → IsPlain t → NamesAction whole (codes "braildesk" ∷ codes "new" ∷ t ∷ []) (New word)
unfolding clap_on_literals
new_with word [] e plain = record { taken = refl; asked = (refl, ap Some (sym e)) }
new_with word (x ∷ xs) e plain = let other = ne_eqb x 45 plain in record { taken = simp other refl; asked = simp other (refl, ap Some (sym e)) }

pub session_with : (word : Bor Text) (t : Text) → word.now ≡ t → IsPlain t → NamesAction whole (codes "braildesk" ∷ codes "session" ∷ t ∷ []) (Session word)
unfolding clap_on_literals
session_with word [] e plain = record { taken = refl; asked = (refl, ap Some (sym e)) }
session_with word (x ∷ xs) e plain = let other = ne_eqb x 45 plain in record { taken = simp other refl; asked = simp other (refl, ap Some (sym e)) }

pub translate_with : (word : Bor Text) (t : Text) → word.now ≡ t → IsPlain t → NamesAction whole (codes "braildesk" ∷ codes "translate" ∷ t ∷ []) (Translate word)
unfolding clap_on_literals
translate_with word [] e plain = record { taken = refl; asked = (refl, ap Some (sym e)) }
translate_with word (x ∷ xs) e plain = let other = ne_eqb x 45 plain in record { taken = simp other refl; asked = simp other (refl, ap Some (sym e)) }

pub check_with : (word : Bor Text) (t : Text) → word.now ≡ t → IsPlain t → NamesAction whole (codes "braildesk" ∷ codes "check" ∷ t ∷ []) (Check word)
unfolding clap_on_literals
check_with word [] e plain = record { taken = refl; asked = (refl, ap Some (sym e)) }
check_with word (x ∷ xs) e plain = let other = ne_eqb x 45 plain in record { taken = simp other refl; asked = simp other (refl, ap Some (sym e)) }
