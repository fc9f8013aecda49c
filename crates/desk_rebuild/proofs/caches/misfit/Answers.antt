use Rattle.std.proofs.Common.{◌≡◌, ℕ, ◌+◌, ℤ, pos, ◌+ℤ◌, ◌≤ℤ◌, false, true, length, subst, sym, ap, refl, ◌∙◌, arith, rules, inl, inr, w64, to_z, of_z, FitsSigned}
use Rattle.std.proofs.lemmas.Bool.{cases_lt}
use Rattle.std.proofs.lemmas.Int.{ints, to_z-of_z}
use Rattle.std.proofs.lemmas.Option.{slice_get_read, slice_get_past}
use Rattle.desk_rebuild.specs.Caches.{IsItsBraille, IsRightAt}
use Rattle.desk_parts.specs.Rows.{ParaCells}
use Rattle.desk_rebuild.proofs.caches.misfit.Goals.{then-row-id-2-via-then-row-id-2, then-row-id-2-via-else-row-id-2+then-not-is_its_braille}
use Rattle.desk_rebuild.proofs.caches.misfit.Goals as goal
use lib.Signed.{lt_z}

no-earlier : (para a b : ℤ) (n : ℕ) → a ≡ para → b ≡ pos n → lt_z a b ≡ false → pos n ≤ℤ para
no-earlier para a b n own id other = grind (arith, ints)

no-later : (para a b : ℤ) (n : ℕ) → a ≡ para → b ≡ pos n → para ≡ pos n → lt_z b a ≡ true → ⊥
no-later para a b n own id is more = grind (arith, ints)

same-id : (para a b : ℤ) (n : ℕ) → a ≡ para → b ≡ pos n → lt_z a b ≡ false → lt_z b a ≡ false → para ≡ pos n
same-id para a b n own id less more = grind (arith, ints)

pub returns-then-row-id-2-clause-some : goal.returns-then-row-id-2-clause-some
returns-then-row-id-2-clause-some c =
    let index = c.loop-index.index in
    let row = c.in-Some.row.now in
    let fits : FitsSigned w64 c.row.inside.para = search rules in
    let id : to_z w64 (of_z w64 (to_z w64 index +ℤ pos 1)) ≡ pos (index + 1) = omega (arith, ints, c.loop-index-test.true, c.requires.few) in
    let own = to_z-of_z w64 c.row.inside.para fits ∙ ap (λ (row : ParaCells). row.para) c.row.view_is in
    record {
      index = index;
      before = c.loop-index.invariant;
      here = inr
          (inl (record {
            held = c.index-paragraphs-index.result;
            at = slice_get_read c.args.paragraphs.now (length c.args.paragraphs.now) index c.index-paragraphs-index.result refl c.loop-index-test.true c.index-paragraphs-index.is;
            id_is = id;
            row = row;
            row_at = slice_get_read c.args.rows.now (length c.args.rows.now) index row refl c.in-Some.ensures.lookup.3.0 c.in-Some.ensures.lookup.1;
            no_earlier = no-earlier row.para _ _ (index + 1) own id c.if-row-id.false;
            wrong = λ (is, braille). elim c.then-row-id-2.branch [
              | then-row-id-2-via-then-row-id-2 w ↦ no-later row.para _ _ (index + 1) own id is w.if-row-id-2.true
              | then-row-id-2-via-else-row-id-2+then-not-is_its_braille w ↦
                  let cells = sym (ap (λ (row : ParaCells). row.cells) c.row.view_is) ∙ sym w.deref.ensures.value in
                  let yes = w.is_its_braille.ensures.1 (subst (IsItsBraille c.args.tables.now c.index-paragraphs-index.result) cells braille) in
                  let no = w.if-not-is_its_braille.true in
                  absurd (cc)
            ];
          }));
    }

pub loop-index-preserved : goal.loop-index-preserved
loop-index-preserved c = λ index less.
    let row = c.in-Some.row.now in
    let at = c.loop-index.index in
    let fits : FitsSigned w64 c.row.inside.para = search rules in
    let id : to_z w64 (of_z w64 (to_z w64 at +ℤ pos 1)) ≡ pos (at + 1) = omega (arith, ints, c.loop-index-test.true, c.requires.few) in
    let own = to_z-of_z w64 c.row.inside.para fits ∙ ap (λ (row : ParaCells). row.para) c.row.view_is in
    let cells = ap (λ (row : ParaCells). row.cells) c.row.view_is in
    let here : IsRightAt c.args.tables.now c.args.paragraphs.now c.args.rows.now at = record {
      held = c.index-paragraphs-index.result;
      at = slice_get_read c.args.paragraphs.now (length c.args.paragraphs.now) at c.index-paragraphs-index.result refl c.loop-index-test.true c.index-paragraphs-index.is;
      row = row;
      row_at = slice_get_read c.args.rows.now (length c.args.rows.now) at row refl c.in-Some.ensures.lookup.3.0 c.in-Some.ensures.lookup.1;
      para = same-id row.para _ _ (at + 1) own id c.if-row-id.false c.if-row-id-2.false;
      cells = subst (IsItsBraille c.args.tables.now c.index-paragraphs-index.result) (c.deref.ensures.value ∙ cells) (c.is_its_braille.ensures.0 c.if-not-is_its_braille.false);
    } in
    elim (cases_lt index at) [
      | inl before ↦ c.loop-index.invariant index before
      | inr behind ↦
          let same : at ≡ index = omega (arith, less, behind) in
          subst (IsRightAt c.args.tables.now c.args.paragraphs.now c.args.rows.now) same here
    ]

pub returns-in_err-row-clause-none : goal.returns-in_err-row-clause-none
returns-in_err-row-clause-none c =
    rw c.from_residual.ensures
    (record {
      right = λ index less. c.loop-index.invariant index (omega (arith, less, c.loop-index-test.false));
      none = slice_get_past c.args.rows.now (length c.args.paragraphs.now) c.in_err-row.ensures.lookup.3;
    })

pub returns-clause-some : goal.returns-clause-some
returns-clause-some c =
    let fits : FitsSigned w64 c.row-2.inside.para = search rules in
    let row = c.in_ok-row.row.now in
    let place = length c.args.paragraphs.now in
    record {
      index = place;
      before = λ index less. c.loop-index.invariant index (omega (arith, less, c.loop-index-test.false));
      here = inr
          (inr (record {
            row = row;
            row_at = slice_get_read c.args.rows.now (length c.args.rows.now) place row refl c.in_ok-row.ensures.lookup.3.0 c.in_ok-row.ensures.lookup.1;
            id_is = to_z-of_z w64 c.row-2.inside.para fits ∙ ap (λ (row : ParaCells). row.para) c.row-2.view_is;
            past = inr refl;
          }));
    }
