-- A group takes in the runs handed over one by one: it has room for its runs that are left, and the first of them is inserted. What
-- the functions that do it rely on. Assumes nothing.
use Rattle.std.specs.Prelude.{◌≡◌, List, true, false, ℕ, ◌+◌, ◌-◌, ◌≤◌, ◌<◌, ltb, length, set}
use Rattle.model.specs.Device.{Device, group_length}
use Rattle.model.specs.Levels.{Group, group_limit, record_count, insert, compact}
use Rattle.model.specs.State.{State, with_groups, group_at}
use Rattle.model.specs.Sound.{sound_record, sound_group, sound_groups}
use Rattle.record.specs.declared.Record.{Record}
use Rattle.group.specs.Reading.{read_group}
use Rattle.state.specs.Shaped.{Shaped}
use Rattle.writing.specs.declared.Place.{Place}
use Rattle.writing.specs.Handed.{first_place, run_group, owning, runs_end, Counted, Located, Members, Sorted}

-- "If a group's records and the batch's for it are together more, it is compacted first": n of the batch's
unfoldable pub with_room : ℕ → Group → Group
with_room n g = elim (ltb group_limit (record_count g + n)) [ true ↦ compact g | false ↦ g ]

-- the group with run i's record, of which r has the four numbers, and room for its runs from i to e, e not included
unfoldable pub grown : List ℕ → List ℕ → ℕ → ℕ → Record → Group → Group
grown w taken i e r g = insert (owning w taken i r) (with_room (e - i) g)

-- the state with run i's record in its group, of n runs in all
unfoldable pub put_in : List ℕ → List ℕ → ℕ → ℕ → Record → State → State
put_in w taken n i r s =
    with_groups (set s.groups (run_group w taken i) (grown w taken i (runs_end w taken n i) r (group_at s (run_group w taken i)))) s

-- the bytes are read as a sound group
pub record SoundBytes (b : List ℕ) : Type 0 where
  pub N : ℕ
  pub number : ℕ
  pub size : length b ≡ group_length
  pub sound : sound_group N number (read_group b) ≡ true

-- so, and the run at a place can be put in: the runs up to e are there, and its record r is sound in that group
pub record Insertable (b w taken : List ℕ) (p : Place) (e : ℕ) (r : Record) : Type 0 where
  pub bytes : SoundBytes b
  pub counted : Counted w taken e
  pub inside : p.run < e
  pub few : e ≤ 256
  pub page : p.page ≡ first_place taken p.run
  pub members : Members w taken p.run r
  pub sound : sound_record bytes.N bytes.number (owning w taken p.run r) ≡ true

-- the run at a place, of n runs in all, is next, and r is its record
pub record InTurn (d : Device) (w taken : List ℕ) (n : ℕ) (s : State) (p : Place) (r : Record) : Type 0 where
  pub shaped : Shaped d s
  pub groups : sound_groups d.N 0 s.groups ≡ true
  pub sorted : Sorted d.N w taken n
  pub inside : p.run < n
  pub located : Located w taken n p
  pub members : Members w taken p.run r
  pub sound : sound_record d.N (run_group w taken p.run) (owning w taken p.run r) ≡ true
