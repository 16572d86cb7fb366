-- What one pass over the slots looks at, to tell whether the group is sound: each slot by itself and against those before it,
-- and each approximate record's ends. What such a record owns in its range is taken from a list of the owners, and in the end
-- nothing may be left there. Assumes nothing.
use Rattle.std.specs.Prelude.{List, [], ◌∷◌, Bool, true, false, ◌&&◌, ◌||◌, ℕ, zero, suc, ◌+◌, ◌-◌, ◌*◌, ◌%◌, ◌≤◌, min, ltb, leb, eqb, get_or, set, replicate}
use Rattle.model.specs.Lists.{all}
use Rattle.model.specs.Record.{Kind, single, accurate, approximate, kind_of, is_approximate}
use Rattle.record.specs.declared.Record.{Record}
use Rattle.group.specs.declared.Slot.{Slot}
use Rattle.group.specs.Layout.{offsets}
use Rattle.group.specs.Reading.{every_from}

abbrev pub approx : Record → Bool
approx r = is_approximate (kind_of r.word)

abbrev pub end_of : Record → ℕ
end_of r = r.start + r.span

-- how many offsets of group k are among N pages
unfoldable pub offsets_in : ℕ → ℕ → ℕ
offsets_in N k = min (N - offsets * k) offsets

-- a record's span is one that its word allows, and its word is in the table
unfoldable pub shaped_as : Kind → ℕ → Bool
shaped_as single span = eqb span 0
shaped_as (accurate d) span = leb d 255 && eqb (span % d) 0
shaped_as (approximate a) span = leb a 256

-- what soundness asks of a record's four numbers, in a group of m offsets
unfoldable pub shaped : ℕ → Record → Bool
shaped m r = ltb (end_of r) m && shaped_as (kind_of r.word) r.span

-- behind n levels, whose last is free from offset `from` on: a slot opens the next level or goes on with the last
unfoldable pub in_place : ℕ → ℕ → Slot → Bool
in_place n from s = eqb s.level n || (eqb (suc s.level) n && leb from s.held.start)

unfoldable pub in_places : ℕ → ℕ → List Slot → Bool
in_places n from [] = true
in_places n from (s ∷ l) = in_place n from s && in_places (suc s.level) (suc (end_of s.held)) l

-- Places are numbered through the levels, 256 each: place p is one of the last of n levels, or the first behind it.
abbrev pub InLast : ℕ → ℕ → Type 0
InLast n p = (p ≤ offsets * n) × (offsets * n ≤ p + offsets)

-- the offset that the last level is then free from, where place p is the first that is free
abbrev pub free_from : ℕ → ℕ → ℕ
free_from n p = p + offsets - offsets * n

-- an approximate record owns its first and last offset, by the owners c
unfoldable pub owns_ends : Bool → List ℕ → Record → Bool
owns_ends false c r = true
owns_ends true c r = eqb (get_or c r.start 0) (suc r.start) && eqb (get_or c (end_of r) 0) (suc r.start)

-- an owner, or 0 where it is the one named
unfoldable pub unnamed : ℕ → ℕ → ℕ
unnamed name v = elim (eqb v name) [ true ↦ 0 | false ↦ v ]

-- the owners, with 0 for the one named at n offsets from o on
unfoldable pub without : ℕ → ℕ → ℕ → List ℕ → List ℕ
without name zero o c = c
without name (suc n) o c = without name n (suc o) (set c o (unnamed name (get_or c o 0)))

-- the owners without those in an approximate record's range that name it
unfoldable pub taken : Bool → List ℕ → Record → List ℕ
taken false c r = c
taken true c r = without (suc r.start) (suc r.span) r.start c

-- each approximate record owns its ends, where those before it have taken theirs
unfoldable pub own_ends : List ℕ → List Slot → Bool
own_ends c [] = true
own_ends c (s ∷ l) = owns_ends (approx s.held) c s.held && own_ends (taken (approx s.held) c s.held) l

-- the owners that are left by all of them
unfoldable pub left_by : List ℕ → List Slot → List ℕ
left_by c [] = c
left_by c (s ∷ l) = left_by (taken (approx s.held) c s.held) l

-- a slot by itself and against those before it
abbrev pub slot_stands : ℕ → ℕ → ℕ → Slot → Bool
slot_stands m n from s = shaped m s.held && in_place n from s

-- the pass over the slots
abbrev pub slot_passes : ℕ → ℕ → ℕ → List ℕ → Slot → Bool
slot_passes m n from c s = slot_stands m n from s && owns_ends (approx s.held) c s.held

abbrev pub slots_pass : ℕ → ℕ → ℕ → List ℕ → List Slot → Bool
slots_pass m n from c l = (all (λ s. shaped m s.held) l && in_places n from l) && own_ends c l

-- no offset has an owner
abbrev pub unowned : List ℕ → Bool
unowned c = every_from (λ o. eqb (get_or c o 0) 0) offsets 0

-- the owners where none is read
abbrev pub no_owners : List ℕ
no_owners = replicate offsets 0
