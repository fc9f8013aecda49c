-- Lines and pages as they are sent.
use Rattle.std.proofs.Common.{◌≡◌, ℕ, zero, suc, ◌+◌, ◌-◌, ◌*◌, ◌/◌, ◌%◌, ◌^◌, ◌<◌, ◌≤◌, ◌⊎◌, inl, inr, Bool, true, false, List, [], ◌∷◌, ◌++◌, length, Option, refl, sym, ap, subst, ◌∙◌, append_assoc, length-append, arith}
use Rattle.std.specs.Prelude.{replicate, map}
use Rattle.std.specs.Fmt.{decimal}
use Rattle.std.proofs.KnownBytes.{Appends-trans}
use Rattle.std.proofs.lemmas.Bool.{both_ways}
use Rattle.std.proofs.lemmas.List.{append-nil, length-map, length-replicate}
use Rattle.std.proofs.lemmas.Fmt.{length-decimal-le}
use Rattle.std.proofs.lemmas.Nat.{mod-mul-add, div-add-mod', mod_below}
use Rattle.desk_ends.specs.Sending.{Transmits}
use Rattle.desk_brf.specs.Laying.{FillsPage, bytes_of_lines, page_end}
use Rattle.desk_brf.specs.PageLayout.{Layout, text_lines}
use Rattle.desk_brf.specs.Pages.{digit_letter, with_ending, number_text, number_line}

-- one text after another
module _ (F : Type 0) (a b c : Option (List ℕ)) (x y : List ℕ) (first second : Bool) where
  pub Transmits-then : Transmits F a b x [] first → first ≡ true → Transmits F b c y [] second → Transmits F a c (x ++ y) [] second
  Transmits-then s whole t =
      let all : s.out ≡ x = sym (append-nil s.out) ∙ (ap (λ (r : List ℕ). s.out ++ r) (sym (s.holds whole)) ∙ s.begins) in
      record {
        out = s.out ++ t.out;
        rest = t.rest;
        appends = Appends-trans a b c s.out t.out s.appends t.appends;
        begins = append_assoc s.out t.out t.rest ∙ (ap (λ (r : List ℕ). s.out ++ r) t.begins ∙ ap (λ (r : List ℕ). r ++ y) all);
        holds = t.holds;
        fails = t.fails;
      }

  -- the first fails
  pub Transmits-stop : Transmits F a b x [] first → first ≡ false → second ≡ false → Transmits F a b (x ++ y) [] second
  Transmits-stop s failed not_whole =
      record {
        out = s.out;
        rest = s.rest ++ y;
        appends = s.appends;
        begins = sym (append_assoc s.out s.rest y) ∙ ap (λ (r : List ℕ). r ++ y) s.begins;
        holds = λ whole. absurd (both_ways second not_whole whole);
        fails = λ _. s.fails failed;
      }

-- the whole of another text that is the same
pub Transmits-same : (F : Type 0) (a b : Option (List ℕ)) (x y held : List ℕ) (ok : Bool) → x ≡ y → Transmits F a b x held ok → Transmits F a b y held ok
Transmits-same F a b x y held ok e s = subst (λ (t : List ℕ). Transmits F a b t held ok) e s

-- the end of a page after its last line of text
pub page_end-full : (layout : Layout) (n t w : ℕ) → t ≡ text_lines layout → w ≡ layout.width → n % t ≡ 0
    → with_ending (number_line w (n / t)) ++ 12 ∷ [] ≡ page_end layout n
page_end-full layout n t w e f full =
    let at : n % text_lines layout ≡ 0 = ap (λ k. n % k) (sym e) ∙ full in
    rw (e, f, at)

module _ (n t : ℕ) (some : 0 < t) where
  cases : (n % t ≡ 0) ⊎ (0 < n % t)
  cases = by (n % t)
    where
      by : (r : ℕ) → (r ≡ 0) ⊎ (0 < r)
      by zero = inl refl
      by (suc r) = inr (omega arith)

  -- this many lines are missing on the page
  pub missing-few : (t - n % t) % t < t
  missing-few = mod_below (t - n % t) t some

  pub missing-fill : (n + (t - n % t) % t) % t ≡ 0
  missing-fill =
      let parts : n / t * t + n % t ≡ n = div-add-mod' n t in
      let below : n % t < t = mod_below n t some in
      elim cases [
        | inl none ↦
            let nothing : (t - n % t) % t ≡ 0 = ap (λ k. k % t) (let e : t - n % t ≡ 1 * t + 0 = omega arith in e) ∙ mod-mul-add 1 t 0 some in
            ap (λ k. k % t) (let e : n + (t - n % t) % t ≡ n / t * t + 0 = omega arith in e) ∙ mod-mul-add (n / t) t 0 some
        | inr more ↦
            let left : (t - n % t) % t ≡ t - n % t =
            ap (λ k. k % t) (let e : t - n % t ≡ 0 * t + (t - n % t) = omega arith in e) ∙ mod-mul-add 0 t (t - n % t) (omega arith) in
            ap (λ k. k % t) (let e : n + (t - n % t) % t ≡ (n / t + 1) * t + 0 = omega arith in e) ∙ mod-mul-add (n / t + 1) t 0 some
      ]

-- the line of a page's number fits if a line of 60 cells does
pub number_line-short : (width number : ℕ) → width ≤ 60 → number < 2 ^ 64 → length (number_line width number) ≤ 60
number_line-short width number narrow fits =
    let below : number < 10 ^ 20 = omega arith in
    let digits : length (decimal number) ≤ 20 = length-decimal-le 20 number (omega arith) below fits in
    let letters : length (map digit_letter (decimal number)) ≡ length (decimal number) = length-map (decimal number) digit_letter in
    let text : length (number_text number) ≡ suc (length (decimal number)) = ap suc letters in
    let all = length-append (replicate (width - length (number_text number)) 32) (number_text number) in
    omega (arith, digits, text, all, length-replicate {A = ℕ} (width - length (number_text number)) 32, narrow)

-- the same, said otherwise
pub Transmits-reported : (F : Type 0) (a b : Option (List ℕ)) (x held : List ℕ) (ok reported : Bool) → ok ≡ reported → Transmits F a b x held ok → Transmits F a b x held reported
Transmits-reported F a b x held ok reported e s = subst (λ (t : Bool). Transmits F a b x held t) e s

-- the first of empty lines
pub bytes_of_lines-blank : (layout : Layout) (n k m : ℕ) → k ≡ m + 1
    → bytes_of_lines layout n (replicate k []) ≡ (with_ending [] ++ page_end layout (n + 1)) ++ bytes_of_lines layout (n + 1) (replicate m [])
bytes_of_lines-blank layout n k m e = ap (λ j. bytes_of_lines layout n (replicate j [])) (let h : k ≡ suc m = omega arith in h)

pub FillsPage-from : (F : Type 0) (a b : Option (List ℕ)) (layout : Layout) (n t after : ℕ) (ok : Bool) → t ≡ text_lines layout → 0 < t
    → Transmits F a b (bytes_of_lines layout n (replicate ((t - n % t) % t) [])) [] ok → (ok ≡ true → after ≡ n + (t - n % t) % t) → FillsPage F a b layout n after ok
FillsPage-from F a b layout n t after ok e some sent count =
    record {
      blank = (t - n % t) % t;
      fewest = subst (λ k. (t - n % t) % t < k) e (missing-few n t some);
      full = ap (λ k. (n + (t - n % t) % t) % k) (sym e) ∙ missing-fill n t some;
      sent = sent;
      count = count;
    }
