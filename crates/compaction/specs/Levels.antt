-- The levels that records get as they are put back, one after the other. Assumes nothing.
use Rattle.std.specs.Prelude.{◌≡◌, List, [], ◌∷◌, ℕ, ◌≤◌, ◌<◌, length, get_or, pos}
use Rattle.model.specs.Record.{Record}
use Rattle.model.specs.Levels.{Group, depth, put_at}
use Rattle.group.specs.declared.Slot.{Slot}
use Rattle.group.specs.Cutting.{in_level}
use Rattle.group.specs.Held.{slot_for}

-- a record whose range is offset o
abbrev pub point : ℕ → Record
point o = record { start = o; span = 0; word = 0; intercept = pos 0; owned = [] }

-- the slots of the records in the order in which they are put back into g, each with the level that it gets
unfoldable pub arrivals : Group → List Record → List Slot
arrivals g [] = []
arrivals g (r ∷ l) = slot_for (in_level (depth r g) r) ∷ arrivals (put_at (depth r g) r g) l

-- x is the greatest of the numbers from index s to before e, or 0 if there are none
pub record Greatest (l : List ℕ) (s e x : ℕ) : Type 0 where
  pub bound : (o : ℕ) → s ≤ o → o < e → get_or l o 0 ≤ x
  pub least : (k : ℕ) → ((o : ℕ) → s ≤ o → o < e → get_or l o 0 ≤ k) → x ≤ k

-- the numbers from index s to before e became v, the others stay
pub record Covered (l m : List ℕ) (s e v : ℕ) : Type 0 where
  pub long : length m ≡ length l
  pub within : (o : ℕ) → s ≤ o → o < e → get_or m o 0 ≡ v
  pub before : (o : ℕ) → o < s → get_or m o 0 ≡ get_or l o 0
  pub behind : (o : ℕ) → e ≤ o → get_or m o 0 ≡ get_or l o 0
