-- What stays of a file that is read, and which tables it has by its format.
use Rattle.std.proofs.Common.{◌≡◌, Bool, true, List, map, map-id, refl, sym, subst, ap, ◌∙◌, IsPermutation}
use Rattle.sqlite.specs.Effect.{Database}
use Rattle.sqlite.specs.State.{IsUnchanged, State}
use Rattle.desk_parts.specs.declared.file_table.FileTable.{FileTable}
use Rattle.desk_rows.specs.Contents.{Contents}
use Rattle.desk_rows.specs.Layout.{Layout}
use Rattle.desk_rows.specs.States.{IsFile, ShowsContents}
use Rattle.desk_rows.specs.Tables.{is_there}
use Rattle.desk_store.specs.Formats.{Format, IsOfFormat, IsPresent, Presence, named, needed, presence, unnamed}
use Rattle.desk_store.specs.Opening.{Stays}

-- ---- a connection that stays as it was

pub as_it_was : (old new : State) → IsUnchanged old new → Stays old new
as_it_was old new same = record { now = same.0.now_is; committed = same.0.committed_is; is_open = same.0.is_open ∙ sym same.0.was_open }

pub same_state : (s : State) → Stays s s
same_state s = record { now = refl; committed = refl; is_open = refl }

pub stays_then : (a b c : State) → Stays a b → Stays b c → Stays a c
stays_then a b c p q = record { now = q.now ∙ p.now; committed = q.committed ∙ p.committed; is_open = q.is_open ∙ p.is_open }

pub shows_still : (old new : State) → Stays old new → (l : Layout) (c : Contents) → ShowsContents l c old → ShowsContents l c new
shows_still old new same l c was = record {
  schema = ap (λ (d : Database). d.schema) same.now ∙ was.schema;
  is = subst (λ (d : Database). IsFile l c d.trees) (sym same.now) was.is;
}

-- ---- lists of rows as they are shown

pub as_listed : {X : Type 0} (xs ys : List X) → IsPermutation xs (map (λ y. y) ys) → IsPermutation xs ys
as_listed xs ys p = subst (λ (zs : List _). IsPermutation xs zs) (map-id ys) p

-- ---- the tables of a format

-- one that both formats treat alike
pub in_both : (f : Format) (t : FileTable) → presence unnamed t ≡ presence named t → presence f t ≡ presence named t
in_both unnamed t alike = alike
in_both named t alike = refl

pub has_in_both : (f : Format) (l : Layout) (t : FileTable) → IsOfFormat f l → presence unnamed t ≡ presence named t
    → IsPresent (presence named t) (l.has t) (is_there l.schema t)
has_in_both f l t of alike = subst (λ (p : Presence). IsPresent p (l.has t) (is_there l.schema t)) (in_both f t alike) (of t)

-- one that has to be there is there
pub is_here : {has there : Bool} → IsPresent needed has there → there ≡ true
is_here present = sym present.0 ∙ present.1
