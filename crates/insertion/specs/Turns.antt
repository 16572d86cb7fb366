-- Level 0's records under a new one: where a slot stands among the others, and how it comes out of its turn. Assumes nothing.
use Rattle.std.specs.Prelude.{◌≡◌, List, [], ◌∷◌, ◌++◌, Bool, true, false, ◌&&◌, ℕ, suc, ◌+◌, ◌≤◌, ltb, eqb, length}
use Rattle.model.specs.Lists.{all}
use Rattle.model.specs.Record as model
use Rattle.model.specs.Record.{end}
use Rattle.model.specs.Levels.{Level, Group, meets, into, Fate, stays, sinks, goes, stayers, sinkers, sink_all}
use Rattle.model.specs.Sound.{is_filled, ordered}
use Rattle.octets.specs.Slots.{insert_at}
use Rattle.record.specs.declared.Record.{Record}
use Rattle.record.specs.Read.{as_record}
use Rattle.group.specs.declared.Slot.{Slot}
use Rattle.group.specs.Layout.{slots_of}
use Rattle.group.specs.Cutting.{flat}
use Rattle.group.specs.Held.{slots_for}
use Rattle.slots.specs.View.{Room}
use Rattle.insertion.specs.Shown.{Shown}
use Rattle.insertion.specs.declared.Outcome.{Outcome}
use Rattle.insertion.specs.declared.Outcome.TheVariants.{Passed, Taken, Behind}

-- where slot i stands: level 0 has z slots, `before` before slot i, which holds the item, and `behind` behind it; the levels below are
-- in order and hold records
pub record Standing (i z : ℕ) : Type 0 where
  pub before : Level
  pub item : model.Record
  pub behind : Level
  pub below : Group
  pub index : i ≡ length before
  pub count : z ≡ length (before ++ (item ∷ behind))
  pub filled : all is_filled below ≡ true
  pub in_order : all (ordered 0) below ≡ true

-- the slots are that group's
pub record Laid (b : List ℕ) (i z : ℕ) : Type 0 where
  pub at : Standing i z
  pub room : Room b
  pub slots : slots_of b ≡ slots_for ((at.before ++ (at.item ∷ at.behind)) ∷ at.below)

-- the bytes hold its records
pub record Facing (b : List ℕ) (i z : ℕ) : Type 0 where
  pub at : Standing i z
  pub shown : Shown b (flat ((at.before ++ (at.item ∷ at.behind)) ∷ at.below))

-- level 0's records met their fates under r, whose place is before record p of those that stayed there
pub record MadeWay (r : model.Record) (top : Level) (rest : Group) (b : List ℕ) (p : ℕ) : Type 0 where
  pub shown : Shown b (flat (stayers r top ∷ sink_all (sinkers r top) rest))
  pub inside : p ≤ length (stayers r top)
  pub place : insert_at p r (stayers r top) ≡ into r (stayers r top)

-- a record that stays beside r stands before its place, or behind it
unfoldable pub side : model.Record → model.Record → Outcome
side r s = elim (ltb r.start s.start) [ true ↦ Behind | false ↦ Passed ]

-- how a record comes out of its turn under r, by its fate
unfoldable pub outcome : model.Record → Fate → Outcome
outcome r (stays s) = side r s
outcome r (sinks s) = Taken
outcome r goes = Taken

-- the record ends before an offset
unfoldable pub ends_before : ℕ → model.Record → Bool
ends_before o s = ltb (end s) o

-- the slot is of level 1 and ends before an offset
unfoldable pub is_ahead : ℕ → Slot → Bool
is_ahead o s = eqb s.level 1 && ltb (s.held.start + s.held.span) o

-- how many slots at the front are
unfoldable pub count_ahead : ℕ → List Slot → ℕ
count_ahead o [] = 0
count_ahead o (s ∷ l) = elim (is_ahead o s) [ true ↦ suc (count_ahead o l) | false ↦ 0 ]

-- the first slot is of level 1 and meets u
unfoldable pub meets_first : Record → List Slot → Bool
meets_first u [] = false
meets_first u (s ∷ l) = eqb s.level 1 && meets (as_record u []) (as_record s.held [])
