-- What several sends do, one after another.
use Rattle.std.proofs.Common.{◌≡◌, ℕ, Bool, true, false, List, [], ◌++◌, Option, refl, sym, ap, subst, ◌∙◌, append_assoc, rules, IsErrAnd, Result, Ok, Err, is_ok, OnOk, OnErr, append-nil}
use Rattle.std.specs.Io.KnownBytes.{Appends}
use Rattle.std.proofs.KnownBytes.{Appends-nil, Appends-trans}
use Rattle.std.proofs.lemmas.Bool.{both_ways}
use Rattle.desk_ends.specs.Sending.{Transmits}

-- what is said of an Ok, and of an Err
pub at_ok : {T E : Type 0} (r : Result T E) (P : Type 0) → OnOk r P → is_ok r ≡ true → P
at_ok (Ok x) P h e = h
at_ok (Err x) P h e = absurd cc

pub at_err : {T E : Type 0} (r : Result T E) (P : Type 0) → OnErr r P → is_ok r ≡ false → P
at_err (Ok x) P h e = absurd cc
at_err (Err x) P h e = h

-- the exit of a `?`
pub fails-at : {T E : Type 0} (r : Result T E) (Q : E → Type 0) → IsErrAnd r Q → is_ok r ≡ false
fails-at (Ok x) Q h = absurd h
fails-at (Err y) Q h = refl

-- what went out is whole
pub Transmits-whole : (F : Type 0) (a b : Option (List ℕ)) (text : List ℕ) (ok : Bool) → Appends a b text → ok ≡ true → Transmits F a b text [] ok
Transmits-whole F a b text ok h t = search rules

-- what went out, the block and what is still to come are the whole
pub record Sending (old now : Option (List ℕ)) (block rest whole : List ℕ) : Type 0 where
  pub out : List ℕ
  pub appends : Appends old now out
  pub sends : out ++ (block ++ rest) ≡ whole

pub Sending-none : (a : Option (List ℕ)) (block rest whole : List ℕ) → block ++ rest ≡ whole → Sending a a block rest whole
Sending-none a block rest whole e = record { out = []; appends = Appends-nil a; sends = e }

pub Sending-same : (a b : Option (List ℕ)) (block rest rest' whole : List ℕ) → Sending a b block rest whole → rest ≡ rest' → Sending a b block rest' whole
Sending-same a b block rest rest' whole done e = search rules

module _ (F : Type 0) (a b c : Option (List ℕ)) (block held rest whole : List ℕ) (ok : Bool) (done : Sending a b block rest whole) where
  -- the last piece is sent
  pub Sending-last : Transmits F b c (block ++ rest) held ok → Transmits F a c whole held ok
  Sending-last s =
      record {
        out = done.out ++ s.out;
        rest = s.rest;
        appends = Appends-trans a b c done.out s.out done.appends s.appends;
        begins = append_assoc done.out s.out s.rest ∙ (ap (λ (t : List ℕ). done.out ++ t) s.begins ∙ done.sends);
        holds = s.holds;
        fails = s.fails;
      }

  -- the block is sent, and nothing is to come
  pub Sending-end : rest ≡ [] → Transmits F b c block held ok → Transmits F a c whole held ok
  Sending-end none s = Sending-last (subst (λ (t : List ℕ). Transmits F b c t held ok) (sym (append-nil block) ∙ ap (λ (t : List ℕ). block ++ t) (sym none)) s)

  module _ (piece after : List ℕ) (parts : rest ≡ piece ++ after) (s : Transmits F b c (block ++ piece) held ok) where
    joined : s.out ++ (s.rest ++ after) ≡ block ++ rest
    joined =
        sym (append_assoc s.out s.rest after)
        ∙ (ap (λ (t : List ℕ). t ++ after) s.begins ∙ (append_assoc block piece after ∙ ap (λ (t : List ℕ). block ++ t) (sym parts)))

    all : (done.out ++ s.out) ++ (s.rest ++ after) ≡ whole
    all = append_assoc done.out s.out (s.rest ++ after) ∙ (ap (λ (t : List ℕ). done.out ++ t) joined ∙ done.sends)

    -- a piece is sent
    pub Sending-more : ok ≡ true → Sending a c held after whole
    Sending-more t =
        record {
          out = done.out ++ s.out;
          appends = Appends-trans a b c done.out s.out done.appends s.appends;
          sends = ap (λ (r : List ℕ). (done.out ++ s.out) ++ (r ++ after)) (sym (s.holds t)) ∙ all;
        }

    -- a piece fails
    pub Sending-fails : (keep : List ℕ) (ok' : Bool) → ok ≡ false → ok' ≡ false → Transmits F a c whole keep ok'
    Sending-fails keep ok' f f' =
        record {
          out = done.out ++ s.out;
          rest = s.rest ++ after;
          appends = Appends-trans a b c done.out s.out done.appends s.appends;
          begins = all;
          holds = λ t. absurd (both_ways ok' f' t);
          fails = λ _. s.fails f;
        }

-- a text is put after the block by a first piece and others
module _ {F : Type 0} {a b : Option (List ℕ)} (block : List ℕ) {held text : List ℕ} (piece after : List ℕ) {ok : Bool}
    (parts : text ≡ piece ++ after) (s : Transmits F a b (block ++ piece) held ok) where
  pub Sending-first : ok ≡ true → Sending a b held after (block ++ text)
  Sending-first = Sending-more F a a b block held text (block ++ text) ok (Sending-none a block text (block ++ text) refl) piece after parts s

  pub Sending-no_first : {keep : List ℕ} {ok' : Bool} → ok ≡ false → ok' ≡ false → Transmits F a b (block ++ text) keep ok'
  Sending-no_first {keep} {ok'} = Sending-fails F a a b block held text (block ++ text) ok (Sending-none a block text (block ++ text) refl) piece after parts s keep ok'

-- a text that is equal is put
pub Transmits-same : {F : Type 0} {a b : Option (List ℕ)} (block : List ℕ) {held this that : List ℕ} {ok : Bool} → this ≡ that
    → Transmits F a b (block ++ this) held ok → Transmits F a b (block ++ that) held ok
Transmits-same {F} {a} {b} block {held} {this} {that} {ok} e s = subst (λ (t : List ℕ). Transmits F a b (block ++ t) held ok) e s

-- all pieces are sent
pub Sending-done : (F : Type 0) (a b : Option (List ℕ)) (block whole : List ℕ) (ok : Bool) → Sending a b block [] whole → ok ≡ true → Transmits F a b whole block ok
Sending-done F a b block whole ok done t = search rules
