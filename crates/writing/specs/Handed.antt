-- Document 01, 'Learning a batch': "The learned records are handed to the table as one list, in ascending order, with the sorted
-- batch beside it; an approximate record owns the offsets of its run." How run i is read: its record and how many pages it takes
-- from place i of `out` and of `taken`, and these pages, behind those of the runs before it, from the batch. Assumes nothing.
use Rattle.std.specs.Prelude.{◌≡◌, true, false, List, [], ℕ, zero, suc, ◌+◌, ◌-◌, ◌≤◌, ◌<◌, ltb, eqb, pos, length, get_or, take, drop, Some}
use Rattle.model.specs.Lists.{all, elem, ascending}
use Rattle.model.specs.Device.{group_of}
use Rattle.model.specs.Record.{Record, Kind, single, accurate, approximate, kind_of, member}
use Rattle.model.specs.Learning.{Run}
use Rattle.model.specs.Sound.{sound_record}
use Rattle.model.specs.Demand2.{offsets}
use Rattle.front.specs.Tables.{list_from}
use Rattle.record.specs.declared.Record as struct
use Rattle.record.specs.Read.{as_record}
use Rattle.writing.specs.declared.Place.{Place}

-- the place in the batch of run i's first page
unfoldable pub first_place : List ℕ → ℕ → ℕ
first_place taken zero = 0
first_place taken (suc i) = first_place taken i + get_or taken i 0

-- the offsets of n pages of the batch, from place a on
abbrev pub offsets_from : List ℕ → ℕ → ℕ → List ℕ
offsets_from w a n = offsets (take n (drop a w))

-- the offsets of run i's pages
abbrev pub offsets_at : List ℕ → List ℕ → ℕ → List ℕ
offsets_at w taken i = offsets_from w (first_place taken i) (get_or taken i 0)

-- "an approximate record owns the offsets of its run"; any other owns none
unfoldable pub owned_of : Kind → List ℕ → List ℕ
owned_of single os = []
owned_of (accurate d) os = []
owned_of (approximate a) os = os

-- the group that run i lies in
unfoldable pub run_group : List ℕ → List ℕ → ℕ → ℕ
run_group w taken i = group_of (get_or w (first_place taken i) 0)

-- run i's record, of which r has the four numbers
unfoldable pub owning : List ℕ → List ℕ → ℕ → struct.Record → Record
owning w taken i r = as_record r (owned_of (kind_of r.word) (offsets_at w taken i))

-- what is read where no record is
abbrev pub no_record : struct.Record
no_record = record { start = 0; span = 0; word = 0; intercept = pos 0 }

abbrev pub learned_at : List ℕ → List struct.Record → List ℕ → ℕ → Record
learned_at w out taken i = owning w taken i (get_or out i no_record)

-- run i
unfoldable pub handed_run : List ℕ → List struct.Record → List ℕ → ℕ → Run
handed_run w out taken i = record { group = run_group w taken i; learned = learned_at w out taken i; taken = get_or taken i 0 }

-- the n runs from run i on
unfoldable pub runs_from : List ℕ → List struct.Record → List ℕ → ℕ → ℕ → List Run
runs_from w out taken i n = list_from (handed_run w out taken) i n

-- of m runs from run i on, the first that doesn't lie in group k; if all do, the one behind them
unfoldable pub end_from : List ℕ → List ℕ → ℕ → ℕ → ℕ → ℕ
end_from w taken k i zero = i
end_from w taken k i (suc m) = elim (eqb (run_group w taken i) k) [ true ↦ end_from w taken k (suc i) m | false ↦ i ]

-- where the runs of run i's group end, of n runs in all
unfoldable pub runs_end : List ℕ → List ℕ → ℕ → ℕ → ℕ
runs_end w taken n i = end_from w taken (run_group w taken i) i (n - i)

-- the pages of the first n runs are there, one at least for each
pub record Counted (w taken : List ℕ) (n : ℕ) : Type 0 where
  pub counts : n ≤ length taken
  pub filled : (i : ℕ) → i < n → 1 ≤ get_or taken i 0
  pub pages : first_place taken n ≤ length w

-- a place, of n runs in all, has its run's first page, and where its group's runs end if it knows that
pub record Located (w taken : List ℕ) (n : ℕ) (p : Place) : Type 0 where
  pub page : p.page ≡ first_place taken p.run
  pub end : (e : ℕ) → p.end ≡ Some e → e ≡ runs_end w taken n p.run

-- the offsets of run i's pages are the members of its record
abbrev pub Members : List ℕ → List ℕ → ℕ → struct.Record → Type 0
Members w taken i r = (o : ℕ) → o < 256 → member (owning w taken i r) o ≡ elem o (offsets_at w taken i)

-- n runs beside a batch that ascends and lies below N
pub record Sorted (N : ℕ) (w taken : List ℕ) (n : ℕ) : Type 0 where
  pub ascends : ascending w ≡ true
  pub below : all (λ x. ltb x N) w ≡ true
  pub few : n ≤ 256
  pub counted : Counted w taken n

-- n runs are handed over: each one's record has the offsets of its pages for members, and is sound in the run's group
pub record Learned (N : ℕ) (w : List ℕ) (out : List struct.Record) (taken : List ℕ) (n : ℕ) : Type 0 where
  pub sorted : Sorted N w taken n
  pub records : n ≤ length out
  pub members : (i : ℕ) → i < n → Members w taken i (get_or out i no_record)
  pub sound : (i : ℕ) → i < n → sound_record N (run_group w taken i) (learned_at w out taken i) ≡ true
