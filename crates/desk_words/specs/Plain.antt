-- Words as they are mostly written.
use Rattle.std.specs.Prelude.{◌≢◌, [], ◌∷◌, codes, slice_index}
use Rattle.std.specs.Borrow.{Bor}
use Rattle.clap.specs.Words.{App, Text}
use Rattle.desk_words.specs.Words.{NamesAction}
use Rattle.desk_words.specs.declared.action.Action.{Action as ActionTerm}

-- the word doesn't begin with a hyphen
abbrev pub IsPlain : Text → Type 0
IsPlain word = slice_index word 0 ≢ 45

-- an action's name and a word ask for the action with that word
abbrev pub NamesWith : App → Text → (Bor Text → ActionTerm) → Bor Text → Type 0
NamesWith app name action word =
    NamesAction app (codes "braildesk" ∷ name ∷ word.now ∷ []) (action word)
