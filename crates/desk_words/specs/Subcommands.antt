-- The commands that read the words: what a parse reads of them.
use Rattle.std.specs.Prelude.{ℕ, List, [], ◌∷◌, Some, codes, false, true}
use Rattle.clap.specs.Words.{App, Rule, Shape, Text, new_app, new_rule}
use Rattle.clap.specs.declared.builder.action.ArgAction.TheVariants.{Set}
use Rattle.clap.specs.declared.builder.value_parser.ValueParser.TheVariants.{Unsigned}

-- ---- arguments

-- a word that has to be there, at its place
abbrev pub operand : Text → Rule
operand id = record (new_rule id) { required = true; action = Some Set; value_names = 1 }

-- a number that follows its name, or this one if it is left out
abbrev pub size : Text → Text → Rule
size id value = record (new_rule id) {
  long = Some id;
  action = Some Set;
  value_names = 1;
  defaults = value ∷ [];
}

-- the argument is a number within these limits
abbrev pub within : ℕ → ℕ → Rule → Rule
within least most rule = record rule { parser = Some (Unsigned least most) }

-- ---- actions

-- an action with these arguments, in order
abbrev pub acts : Text → List Rule → Shape
acts name rules = record ((new_app name).top) { rules = rules }

-- the action on the book in a file
abbrev pub on_file : Text → Shape
on_file name = acts name (operand (codes "file") ∷ [])

-- the action that writes a volume: its file, the number of the volume, and the size of a page
abbrev pub export : Shape
export = acts (codes "export")
    (operand (codes "file") ∷ within 1 20000 (operand (codes "volume"))
    ∷ within 10 60 (size (codes "width") (codes "40"))
    ∷ within 5 40 (size (codes "lines") (codes "25")) ∷ [])

-- the action that translates by a table
abbrev pub translate : Shape
translate = acts (codes "translate") (operand (codes "table") ∷ [])

-- ---- the program

-- the program without actions, of which one has to be named
abbrev pub bare : App
bare = record {
  top = record ((new_app (codes "braildesk")).top) {
    subcommand_required = true;
    disable_help_subcommand = true;
  };
  subs = [];
}

-- the program with these actions
abbrev pub program : List Shape → App
program actions = record { top = record bare.top { is_leaf = false }; subs = actions }

-- the program with all its actions
abbrev pub whole : App
whole = program
    (on_file (codes "new") ∷ on_file (codes "session") ∷ export ∷ translate
    ∷ on_file (codes "check") ∷ [])
