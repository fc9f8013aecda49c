-- What stands for a print, choice by choice.
use Rattle.std.specs.Prelude.{ℕ, List, ◌++◌}
use Rattle.louis_table.specs.Meaning.{Meaning}
use Rattle.louis_translate.specs.declared.choices.Choice.{Choice}
use Rattle.louis_translate.specs.declared.pieces.Piece.{Piece}
use Rattle.louis_translate.specs.Sign.{sign_at}
use Rattle.louis_translate.specs.Braille.{chosen_cells}

-- a choice, the sign before its start, and its cells
pub record PieceItem : Type 0 where
  pub choice : Choice
  pub sign : List ℕ
  pub own : List ℕ

-- what a piece shows
abbrev pub item_of : Piece → PieceItem
item_of piece = record { choice = piece.choice; sign = piece.sign.now; own = piece.own.now }

-- what a choice makes from a print
abbrev pub made_by : Meaning → List ℕ → Choice → PieceItem
made_by meaning print choice = record {
  choice = choice;
  sign = sign_at meaning print choice.start;
  own = chosen_cells meaning print choice.start choice.rule;
}

-- its cells, the sign first
abbrev pub made_cells : PieceItem → List ℕ
made_cells made = made.sign ++ made.own
