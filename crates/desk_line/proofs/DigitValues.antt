-- Numbers by their digits.
use Rattle.std.proofs.Common.{◌≡◌, ℕ, ◌+◌, ◌*◌, ◌-◌, ◌^◌, ◌<◌, ◌≤◌, true, List, length, get_or, take, leb, add-one, arith}
use Rattle.std.specs.List.{list_all}
use Rattle.std.specs.Char.{is_ascii_digit}
use Rattle.std.specs.Int.{IsInRange}
use Rattle.std.specs.Str.Parse.{digits_value}
use Rattle.std.proofs.lemmas.Bool.{leb-true, and_parts}
use Rattle.std.proofs.lemmas.List.Sums.{AllPass-from_list_all}
use Rattle.std.proofs.lemmas.Int.Digits.{digits_value_more}
use Rattle.std.proofs.lemmas.Str.{digit_value_digit}
use Rattle.std.proofs.Math.Nat.{pow-le-pow_right, pow-suc}

-- a digit by its test
pub digit-in-range : (c : ℕ) → is_ascii_digit c ≡ true → IsInRange 48 57 c
digit-in-range c e = let b = and_parts (leb 48 c) (leb c 57) e in (leb-true 48 c b.0, leb-true c 57 b.1)

pub digit-at : (digits : List ℕ) (i : ℕ) → list_all is_ascii_digit digits ≡ true → i < length digits → IsInRange 48 57 (get_or digits i 0)
digit-at digits i all lt = digit-in-range (get_or digits i 0) (AllPass-from_list_all is_ascii_digit digits all i 0 lt)

-- a digit more
module _ (digits : List ℕ) (i value : ℕ) (lt : i < length digits) (few : i ≤ 15) (range : IsInRange 48 57 (get_or digits i 0))
    (is : value ≡ digits_value 10 (take i digits)) (small : value + 1 ≤ 10 ^ i) where
  pub value-bound : value + 1 ≤ 1_000_000_000_000_000
  value-bound = let m : 10 ^ i ≤ 10 ^ 15 = pow-le-pow_right (omega arith) few in omega arith

  pub value-more : (digit : ℕ) → digit ≡ get_or digits i 0 - 48 → value * 10 + digit ≡ digits_value 10 (take (i + 1) digits)
  value-more digit d = let m = digits_value_more 10 digits i lt in let v = digit_value_digit (get_or digits i 0) range in omega (arith, m, v, is)

  pub value-small : (digit : ℕ) → digit ≡ get_or digits i 0 - 48 → value * 10 + digit + 1 ≤ 10 ^ (i + 1)
  value-small digit d = let p : 10 ^ (i + 1) ≡ 10 ^ i * 10 = rw add-one (pow-suc 10 i) in omega (arith, p)
