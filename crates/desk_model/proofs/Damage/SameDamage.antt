-- The same is damaged in rows in any order.
use Rattle.std.proofs.Common.{◌≡◌, ℕ, ℤ, List, Contains, Option, None, Some, refl, sym, ◌∙◌, subst, inl, inr, IsPermutation, int_eq}
use Rattle.std.proofs.lemmas.List.Sorted.{Contains-permutation, IsPermutation-sym, IsPermutation-trans, length_permutation}
use Rattle.louis_table.specs.Meaning.{Meaning}
use Rattle.desk_parts.specs.declared.file_table.FileTable.{FileTable}
use Rattle.desk_parts.specs.declared.file_table.FileTable.TheVariants.{Book, Tab, Para, Corr, Mark, Cache, NamedCorr}
use Rattle.desk_model.specs.Damage.{HasPara, HasSoundEntries, IsDamaged, IsDamagedBook, IsDamagedCache, IsDamagedEntries, IsDamagedMark, IsDamagedPara, IsDamagedTab, IsFirstDamage, IsItsTable, IsNumber, IsSoundCacheRow, IsSoundMarkRow, IsSoundParaRow, IsSpanned, IsWithin, rows_with}
use Rattle.desk_parts.specs.FileRows.{FileRows, entries_in}
use Rattle.desk_parts.specs.Rows.{Mark as MarkRow, NamedCorr as EntryRow, Para as ParaRow, ParaCells, Tab as TabRow}
use Rattle.desk_model.specs.SameRows.{AreSameCaches, AreSameRows}
use Rattle.desk_model.proofs.Lists.Permutations.{IsPermutation-filter}
use Rattle.desk_model.proofs.Rows.SameRows.{entries_in-moved, table_of-moved, symmetric}

-- ---- keys

module _ {X : Type 0} (key : X → ℤ) (xs ys : List X) (moved : IsPermutation xs ys) where
  rows_with-moved : (id : ℤ) → rows_with key id ys ≡ rows_with key id xs
  rows_with-moved id =
      let has = λ (row : X). int_eq (key row) id in
      length_permutation _ _ (IsPermutation-filter has _ _ moved)

  pub IsNumber-moved : (last : ℕ) (id : ℤ) → IsNumber key last xs id → IsNumber key last ys id
  IsNumber-moved last id number = record {
    within = number.within;
    once = rows_with-moved id ∙ number.once;
    next = elim number.next [
      | inl first ↦ inl first
      | inr (row, there, before) ↦ inr (row, Contains-permutation _ _ row moved there, before)
    ];
  }

  -- a row with this key that isn't sound is there in any order
  unsound-moved : (Sound OtherSound : X → Type 0) → ((row : X) → OtherSound row → Sound row) → (id : ℤ)
      → (row : X) × Contains xs row × (key row ≡ id) × ¬ Sound row → (row : X) × Contains ys row × (key row ≡ id) × ¬ OtherSound row
  unsound-moved Sound OtherSound back id (row, there, is, unsound) = (row, Contains-permutation _ _ row moved there, is, λ sound. unsound (back row sound))

-- ---- tab

damaged-tab : (tabs others : List TabRow) → IsPermutation tabs others → (id : ℤ) → IsDamagedTab tabs id → IsDamagedTab others id
damaged-tab tabs others moved id (sorted, sorts, ordered, unsound) =
    (sorted, IsPermutation-trans _ _ _ (IsPermutation-sym _ _ moved) sorts, ordered, unsound)

-- ---- para

table-moved : (tabs others : List TabRow) → IsPermutation tabs others → (row : ParaRow) (meaning : Meaning) → IsItsTable tabs row meaning → IsItsTable others row meaning
table-moved tabs others moved row meaning its = record {
  table = its.table;
  there = Contains-permutation _ _ its.table moved its.there;
  named = its.named;
  means = its.means;
}

para-moved : (paras others : List ParaRow) → IsPermutation paras others → (id : ℤ) → HasPara paras id → HasPara others id
para-moved paras others moved id (row, there, named) = (row, Contains-permutation _ _ row moved there, named)

sound-para : (tabs tabs' : List TabRow) (paras paras' : List ParaRow) → IsPermutation tabs tabs' → IsPermutation paras paras'
    → (row : ParaRow) → IsSoundParaRow tabs paras row → IsSoundParaRow tabs' paras' row
sound-para tabs tabs' paras paras' tabs-moved paras-moved row sound = record {
  number = IsNumber-moved (λ (other : ParaRow). other.id) paras paras' paras-moved _ row.id sound.number;
  place = subst (λ (n : ℕ). IsWithin 1 n row.place) (sym (length_permutation _ _ paras-moved)) sound.place;
  own = λ other there. sound.own other (Contains-permutation _ _ other (IsPermutation-sym _ _ paras-moved) there);
  original = sound.original;
  print = sound.print;
  meaning = sound.meaning;
  table = table-moved tabs tabs' tabs-moved row sound.meaning sound.table;
  defined = sound.defined;
  style = sound.style;
  volume = sound.volume;
  struck = sound.struck;
}

-- ---- corr, corr2

sound-entries : (entries others : List EntryRow) → IsPermutation entries others → (para : ParaRow) → HasSoundEntries entries para → HasSoundEntries others para
sound-entries entries others moved para sound =
    let is_its = λ (row : EntryRow). int_eq row.entry.para para.id in
    record {
      sorted = sound.sorted;
      its_own = IsPermutation-trans _ _ _ (IsPermutation-filter is_its _ _ (IsPermutation-sym _ _ moved)) sound.its_own;
      each = sound.each;
      print = sound.print;
    }

-- ---- mark

sound-mark : (paras paras' : List ParaRow) (marks marks' : List MarkRow) → IsPermutation paras paras' → IsPermutation marks marks'
    → (row : MarkRow) → IsSoundMarkRow paras marks row → IsSoundMarkRow paras' marks' row
sound-mark paras paras' marks marks' paras-moved marks-moved row sound =
    let number = IsNumber-moved (λ (other : MarkRow). other.id) marks marks' marks-moved _ row.id sound.number in
    let span : IsSpanned paras' row = record {
      paragraph = sound.span.paragraph;
      there = Contains-permutation _ _ sound.span.paragraph paras-moved sound.span.there;
      named = sound.span.named;
      start = sound.span.start;
      ordered = sound.span.ordered;
      stop = sound.span.stop;
    } in
    assumption

-- ---- cache

sound-cache : (tabs tabs' : List TabRow) (paras paras' : List ParaRow) (caches caches' : List ParaCells)
    → IsPermutation tabs tabs' → IsPermutation paras paras' → IsPermutation caches caches'
    → (row : ParaCells) → IsSoundCacheRow tabs paras caches row → IsSoundCacheRow tabs' paras' caches' row
sound-cache tabs tabs' paras paras' caches caches' tabs-moved paras-moved caches-moved row sound = record {
  once = rows_with-moved (λ (other : ParaCells). other.para) caches caches' caches-moved row.para ∙ sound.once;
  paragraph = sound.paragraph;
  there = Contains-permutation _ _ sound.paragraph paras-moved sound.there;
  named = sound.named;
  meaning = sound.meaning;
  table = table-moved tabs tabs' tabs-moved sound.paragraph sound.meaning sound.table;
  choices = sound.choices;
  tiles = sound.tiles;
  cells = sound.cells;
}

-- ---- every table

module _ (a b : FileRows) (same : AreSameRows a b) where
  abbrev back : AreSameRows b a
  back = symmetric a b same

  damaged-para : (id : ℤ) → IsDamagedPara a.tabs a.paras id → IsDamagedPara b.tabs b.paras id
  damaged-para =
      unsound-moved (λ (row : ParaRow). row.id) a.paras b.paras same.paras (IsSoundParaRow a.tabs a.paras) (IsSoundParaRow b.tabs b.paras)
      (sound-para b.tabs a.tabs b.paras a.paras back.tabs back.paras)

  damaged-entries : (id : ℤ) → IsDamagedEntries a.paras (entries_in a.entries) id → IsDamagedEntries b.paras (entries_in b.entries) id
  damaged-entries id (inl damage) =
      inl (unsound-moved (λ (para : ParaRow). para.id) a.paras b.paras same.paras (HasSoundEntries (entries_in a.entries)) (HasSoundEntries (entries_in b.entries))
      (sound-entries (entries_in b.entries) (entries_in a.entries) (entries_in-moved b.entries a.entries back.entries)) id damage)
  damaged-entries id (inr damage) =
      let entries = entries_in-moved a.entries b.entries same.entries in
      inr (unsound-moved (λ (row : EntryRow). row.entry.para) (entries_in a.entries) (entries_in b.entries) entries (λ row. HasPara a.paras id) (λ row. HasPara b.paras id)
      (λ row. para-moved b.paras a.paras back.paras id) id damage)

  damaged-mark : (id : ℤ) → IsDamagedMark a.paras a.marks id → IsDamagedMark b.paras b.marks id
  damaged-mark =
      unsound-moved (λ (row : MarkRow). row.id) a.marks b.marks same.marks (IsSoundMarkRow a.paras a.marks) (IsSoundMarkRow b.paras b.marks)
      (sound-mark b.paras a.paras b.marks a.marks back.paras back.marks)

  damaged-cache : (caches others : List ParaCells) → IsPermutation caches others → (id : ℤ) → IsDamagedCache a.tabs a.paras caches id → IsDamagedCache b.tabs b.paras others id
  damaged-cache caches others moved id (inl damage) =
      inl (unsound-moved (λ (row : ParaCells). row.para) caches others moved (IsSoundCacheRow a.tabs a.paras caches) (IsSoundCacheRow b.tabs b.paras others)
      (sound-cache b.tabs a.tabs b.paras a.paras others caches back.tabs back.paras (IsPermutation-sym _ _ moved)) id damage)
  damaged-cache caches others moved id (inr (has, none)) =
      inr (para-moved a.paras b.paras same.paras id has, rows_with-moved (λ (row : ParaCells). row.para) caches others moved id ∙ none)

  damaged-caches : (x y : Option (List ParaCells)) → AreSameCaches x y → (id : ℤ)
      → (caches : List ParaCells) × (x ≡ Some caches) × IsDamagedCache a.tabs a.paras caches id
      → (caches : List ParaCells) × (y ≡ Some caches) × IsDamagedCache b.tabs b.paras caches id
  damaged-caches None None nothing id (caches, is, damage) = absurd (cc)
  damaged-caches (Some some) (Some others) moved id (caches, is, damage) =
      let own : some ≡ caches = cc in
      (others, refl, damaged-cache some others moved id (subst (λ (rows : List ParaCells). IsDamagedCache a.tabs a.paras rows id) (sym own) damage))
  damaged-caches x y other id damage = absurd other

  pub damaged : (table : FileTable) (id : ℤ) → IsDamaged a table id → IsDamaged b table id
  damaged Book id damage = subst (λ books. IsDamagedBook books id) same.books damage
  damaged Tab id damage = damaged-tab a.tabs b.tabs same.tabs id damage
  damaged Para id damage = damaged-para id damage
  damaged Corr id (is, damage) = (table_of-moved a.entries b.entries same.entries ∙ is, damaged-entries id damage)
  damaged NamedCorr id (is, damage) = (table_of-moved a.entries b.entries same.entries ∙ is, damaged-entries id damage)
  damaged Mark id damage = damaged-mark id damage
  damaged Cache id damage = damaged-caches a.caches b.caches same.caches id damage

pub first-damage : (a b : FileRows) (table : FileTable) (id : ℤ) → AreSameRows a b → IsFirstDamage a table id → IsFirstDamage b table id
first-damage a b table id same first =
    let there = damaged b a (symmetric a b same) in
    record {
      damaged = damaged a b same table id first.damaged;
      tables = λ other n damage. first.tables other n (there other n damage);
      ids = λ n damage. first.ids n (there table n damage);
    }
