-- What the writes do to the list of the used slots. Assumes nothing.
use Rattle.std.specs.Prelude.{List, [], ◌∷◌, Bool, true, false, ℕ, zero, suc, ltb, eqb, set}
use Rattle.group.specs.declared.Slot.{Slot}

-- the list with s as slot i
abbrev pub replace_at : ℕ → Slot → List Slot → List Slot
replace_at i s l = set l i s

-- the slot's record in level n
abbrev pub at_level : ℕ → Slot → Slot
at_level n s = record { level = n; held = s.held }

-- the slot one level further down
abbrev pub pushed_down : Slot → Slot
pushed_down s = at_level (suc s.level) s

-- slot i and all behind it one level further down
unfoldable pub push_down_from : ℕ → List Slot → List Slot
push_down_from i [] = []
push_down_from zero (s ∷ l) = pushed_down s ∷ push_down_from zero l
push_down_from (suc i) (s ∷ l) = s ∷ push_down_from i l

-- the number of the level below it fits two bytes, too
unfoldable pub can_go_down : Slot → Bool
can_go_down s = ltb s.level 65535

-- the new number of a level behind the level `old`, which got the number `new`: the same, or the next
unfoldable pub renumbered : ℕ → ℕ → ℕ → ℕ
renumbered old new level = elim (eqb level old) [ true ↦ new | false ↦ suc new ]

-- the slots with their levels numbered anew behind a slot of the level `old`, which got the number `new`
unfoldable pub renumber_levels : ℕ → ℕ → List Slot → List Slot
unfolding renumbered
renumber_levels old new [] = []
renumber_levels old new (s ∷ l) = at_level (renumbered old new s.level) s ∷ renumber_levels s.level (renumbered old new s.level) l
