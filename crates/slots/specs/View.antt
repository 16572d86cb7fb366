-- What the functions on a group's bytes speak of: its used slots, and the owners of its offsets. Assumes nothing.
use Rattle.std.specs.Prelude as code
use Rattle.std.specs.Prelude.{◌≡◌, List, true, ℕ, suc, ◌+◌, ◌≤◌, ◌<◌, length}
use Rattle.std.proofs.Math.Option.{map}
use Rattle.model.specs.Device.{group_length}
use Rattle.model.specs.Options.{as_option}
use Rattle.model.specs.Record.{kind_of, is_approximate}
use Rattle.record.specs.declared.Record.{Record}
use Rattle.record.specs.Read.{bare}
use Rattle.record.specs.Scan.{masked}
use Rattle.group.specs.declared.Slot.{Slot}
use Rattle.model.specs.Levels.{group_limit, shrink}
use Rattle.group.specs.Layout.{offsets, flag_of, slots_of, owner_of}
use Rattle.slots.specs.Owners.{owner_left, owning}

-- the bytes of a group, with no more slots used than it has
abbrev pub Room : List ℕ → Type 0
Room b = (length b ≡ group_length) × (length (slots_of b) ≤ group_limit)

-- the bytes of a group whose used slots are l, and whose offsets have the owners w
abbrev pub Shows : List ℕ → List Slot → (ℕ → ℕ) → Type 0
Shows b l w = (length b ≡ group_length) × (slots_of b ≡ l) × ((o : ℕ) → o < offsets → owner_of b o ≡ w o)

-- owners are read: the flag isn't 0
abbrev pub Owned : List ℕ → Type 0
Owned b = 0 < flag_of b

-- the owner of offset o became w; all else is as before
pub record OwnerPut (s t : List ℕ) (o w : ℕ) : Type 0 where
  pub room : Room t
  pub slots : slots_of t ≡ slots_of s
  pub flag : flag_of t ≡ flag_of s
  pub there : owner_of t o ≡ w
  pub others : (k : ℕ) → (k ≡ o → ⊥) → owner_of t k ≡ owner_of s k

-- the owners of the offsets from `first` to before `end` are new, that of an offset o with the owner w is f o w; all else is as before
pub record OwnersPut (f : ℕ → ℕ → ℕ) (s t : List ℕ) (first end : ℕ) : Type 0 where
  pub room : Room t
  pub slots : slots_of t ≡ slots_of s
  pub flag : flag_of t ≡ flag_of s
  pub there : (o : ℕ) → first ≤ o → o < end → owner_of t o ≡ f o (owner_of s o)
  pub others : (o : ℕ) → (first ≤ o → o < end → ⊥) → owner_of t o ≡ owner_of s o

-- the offsets that an approximate record owns lie in its range
abbrev pub OwnsInRange : (ℕ → ℕ) → Record → Type 0
OwnsInRange w r = is_approximate (kind_of r.word) ≡ true → (o : ℕ) → o < offsets → w o ≡ suc r.start → (r.start ≤ o) × (o ≤ r.start + r.span)

-- a record of the group lost the offsets taken, and x is left of it; no slot is touched yet
pub record LeftOf (s t taken : List ℕ) (r : Record) (x : code.Option Record) : Type 0 where
  pub left : as_option x ≡ map bare (shrink (masked taken) (owning (owner_of s) r))
  pub room : Room t
  pub slots : slots_of t ≡ slots_of s
  pub flag : flag_of t ≡ flag_of s
  pub owners : (o : ℕ) → o < offsets → owner_of t o ≡ owner_left r x (masked taken o) (owner_of s o)
