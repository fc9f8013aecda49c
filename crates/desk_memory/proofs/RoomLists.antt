-- The room of a list that gets one item more.
use Rattle.std.proofs.Common.{◌≡◌, ℕ, zero, suc, ◌+◌, ◌-◌, ◌*◌, ◌<◌, ◌≤◌, sym, ap, ◌∙◌, arith, nat_le}
use Rattle.std.proofs.lemmas.Bool.{cond-false, cond-true, le-leb, lt-leb}
use Rattle.desk_memory.specs.Room.{grown, room_of}

pub room_of-more : (n : ℕ) → room_of (n + 1) ≡ grown (room_of n) (n + 1)
room_of-more n = let next : n + 1 ≡ suc n = omega arith in ap room_of next ∙ ap (grown (room_of n)) (sym next)

pub grown-within : (room count : ℕ) → count ≤ room → grown room count ≡ room
grown-within room count le = cond-true (nat_le count room) room (2 * count) (le-leb count room le)

grown-past : (room count : ℕ) → room < count → grown room count ≡ 2 * count
grown-past room count less = cond-false (nat_le count room) room (2 * count) (lt-leb count room less)

-- the room stays as long as it suffices
room_of-stays : (n more : ℕ) → n + more ≤ room_of n → room_of (n + more) ≡ room_of n
room_of-stays n zero fits = ap room_of (let same : n + 0 ≡ n = omega arith in same)
room_of-stays n (suc more) fits =
    let rest = room_of-stays n more (omega (arith, fits)) in
    let next : n + suc more ≡ (n + more) + 1 = omega arith in
    ap room_of next ∙ (room_of-more (n + more) ∙ (grown-within (room_of (n + more)) (n + more + 1) (omega (arith, rest, fits)) ∙ rest))

-- a list that is longer than its room gets twice one more, which is the room of the lists up to that length
pub room_of-past : (room count : ℕ) → room < count → room_of room ≡ room
    → (room_of (2 * (room + 1)) ≡ 2 * (room + 1)) × (count ≤ 2 * (room + 1) → room_of count ≡ 2 * (room + 1))
room_of-past room count less full = (up_to (2 * (room + 1)) (omega arith) (omega arith), up_to count (omega (arith, less)))
  where
    first : room_of (room + 1) ≡ 2 * (room + 1)
    first = room_of-more room ∙ (ap (λ had. grown had (room + 1)) full ∙ grown-past room (room + 1) (omega arith))

    up_to : (length : ℕ) → room + 1 ≤ length → length ≤ 2 * (room + 1) → room_of length ≡ 2 * (room + 1)
    up_to length low high =
        let more : length ≡ (room + 1) + (length - (room + 1)) = omega (arith, low) in
        ap room_of more ∙ (room_of-stays (room + 1) (length - (room + 1)) (omega (arith, first, low, high)) ∙ first)
