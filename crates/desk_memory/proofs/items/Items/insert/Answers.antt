use Rattle.std.proofs.Common.{◌≡◌, ◌+◌, ◌≤◌, ℕ, true, is_ok, length, None, subst, sym, ap, ap₂, ◌∙◌, arith, option_map, vec_capacity}
use Rattle.desk_memory.specs.Room.{Suffices, grown, room_of}
use Rattle.desk_memory.proofs.RoomLists.{grown-within, room_of-more}
use Rattle.desk_memory.proofs.items.Items.insert.Goals as goal

-- the list has room itself, and as much as before
pub invariant_of-self : goal.invariant_of-self
invariant_of-self g c =
    let old = c.self.inside.items in
    let done : is_ok c.insert.result ≡ true = ap is_ok c.unwrap.ensures in
    let longer = rw done at c.insert.ensures.len in
    let count : length c.insert.new.self.items ≡ length old.items + 1 = omega (arith, longer, old.ok.0, c.insert.new.self.ok.0) in
    let more : c.len.result + 1 ≡ length old.items + 1 = omega (arith, c.len.ensures, old.ok.0) in
    let none : c.args.room ≡ None = sym c.room.view_is ∙ ap (option_map (λ v. vec_capacity v)) c.in_default.is in
    let now : c.grown-self-inside.result ≡ grown (room_of (length old.items)) (length old.items + 1) = c.grown-self-inside.ensures ∙ ap₂ grown c.self.invariant.0 more in
    let fits : length c.args.self.now + 1 ≤ room_of (length c.args.self.now) = subst (Suffices (length c.args.self.now)) none c.requires.room in
    let enough : length old.items + 1 ≤ room_of (length old.items) = subst (λ (n : ℕ). n + 1 ≤ room_of n) (sym (ap length c.self.view_is)) fits in
    let same : c.grown-self-inside.result ≡ room_of (length old.items) = now ∙ grown-within (room_of (length old.items)) (length old.items + 1) enough in (
      now ∙ (sym (room_of-more (length old.items)) ∙ ap room_of (sym count)),
      omega (arith, same, c.self.invariant.0, c.self.invariant.1, c.insert.ensures.capacity),
    )
