-- Making way for an approximate record among a group's slots: who loses offsets, what is left of the slots, levels numbered anew. Assumes nothing.
use Rattle.std.specs.Prelude.{◌≡◌, List, [], ◌∷◌, Bool, true, false, ◌&&◌, ℕ, suc, ◌≤◌, ◌<◌, eqb, length}
use Rattle.std.proofs.Math.Option.{Option, some}
use Rattle.model.specs.Record.{Record, kind, is_approximate}
use Rattle.model.specs.Levels.{shrink}
use Rattle.record.specs.Scan.{masked}
use Rattle.group.specs.Layout.{owner_of}
use Rattle.group.specs.Cutting.{Placed}
use Rattle.insertion.specs.Slots.{slot, keep_slot}

-- what is left of a slot's record: an approximate one gives up the offsets that pass the test
unfoldable pub given : (ℕ → Bool) → Record → Option Record
given lost r = elim (is_approximate (kind r)) [ true ↦ shrink lost r | false ↦ some r ]

-- whoever owns an offset taken is noted among the losers, by the owner's number
abbrev pub Noted : List ℕ → List ℕ → List ℕ → Type 0
Noted b taken losers = (o : ℕ) → o < 256 → masked taken o ≡ true → 0 < owner_of b o → masked losers (owner_of b o) ≡ true

-- the owners of the mask's offsets from `start` to before `end` are noted; whether there is one is told
pub record Noting (b mask losers : List ℕ) (start end : ℕ) (some-own : Bool) : Type 0 where
  pub size : length losers ≡ 257
  pub notes : (o : ℕ) → start ≤ o → o < end → masked mask o ≡ true → 0 < owner_of b o → (masked losers (owner_of b o) ≡ true) × (some-own ≡ true)

-- an approximate record that is noted
unfoldable pub is_loser : List ℕ → Record → Bool
is_loser losers r = is_approximate (kind r) && masked losers (suc r.start)

-- the slots of which something is left
unfoldable pub give_up_slots : (ℕ → Bool) → List Placed → List Placed
give_up_slots lost [] = []
give_up_slots lost (s ∷ l) = keep_slot s.level (given lost s.item) (give_up_slots lost l)

-- the new number of level m, where the level met last was o and became n
unfoldable pub renumber : ℕ → ℕ → ℕ → ℕ
renumber o n m = elim (eqb m o) [ true ↦ n | false ↦ suc n ]

-- levels renumbered so that none is left out, where the level met last was o and became n
unfoldable pub settle : ℕ → ℕ → List Placed → List Placed
settle o n [] = []
settle o n (s ∷ l) = slot (renumber o n s.level) s.item ∷ settle s.level (renumber o n s.level) l
