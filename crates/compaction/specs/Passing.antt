-- The pass over a group's records from the top: what is left of those passed stands in the first slots, with the levels that these records
-- get, in the order in which they come. Assumes nothing.
use Rattle.std.specs.Prelude.{◌≡◌, List, [], ◌++◌, true, ℕ, ◌+◌, ◌≤◌, ◌<◌, length, get_or, take}
use Rattle.model.specs.Device.{group_length}
use Rattle.model.specs.Lists.{all}
use Rattle.model.specs.Record.{Record}
use Rattle.model.specs.Levels.{Group, listing, record_count, member_of_any, shrink_all, depth, put_back}
use Rattle.model.specs.Sound.{sound_record, sound_group}
use Rattle.model.specs.Totals.{total, OwnedOnce}
use Rattle.record.specs.Read.{bare}
use Rattle.record.specs.Scan.{masked}
use Rattle.group.specs.Layout.{offsets, slots_of, owner_of}
use Rattle.group.specs.Answers.{no_slot}
use Rattle.group.specs.Reading.{read_group}
use Rattle.insertion.specs.Shown.{weight}
use Rattle.compaction.specs.Levels.{point, arrivals}
use Rattle.compaction.specs.Ordering.{Full}

-- of the records of g, i are passed, and what is left of them takes n slots; the mask `above` has the members of those passed, the
-- table `deep` for each offset the level of a record there
pub record Passing (g : Group) (b above deep : List ℕ) (i n : ℕ) : Type 0 where
  pub kept : List Record
  pub passed : List Record
  pub rest : List Record
  pub full : Full b
  pub first : take n (slots_of b) ≡ arrivals [] kept
  pub behind : (j : ℕ) → j < length rest → (get_or (slots_of b) (i + j) no_slot).held ≡ bare (get_or rest j (point 0))
  pub place : length kept ≡ n
  pub low : n ≤ i
  pub count : i + length rest ≡ record_count g
  pub limit : record_count g ≤ 512
  pub owners : (o : ℕ) → o < offsets → owner_of b o ≡ total (weight o) (kept ++ rest)
  pub kept-sound : all (sound_record 256 0) kept ≡ true
  pub rest-sound : all (sound_record 256 0) rest ≡ true
  pub once : OwnedOnce (kept ++ rest)
  pub same : kept ++ shrink_all passed rest ≡ shrink_all [] (listing g)
  pub mask : length above ≡ offsets
  pub members : (o : ℕ) → o < offsets → masked above o ≡ member_of_any passed o
  pub table : length deep ≡ offsets
  pub deeps : (o : ℕ) → o < offsets → get_or deep o 0 ≡ depth (point o) (put_back kept [])

-- the pass is under way, and a record is to come
pub record UnderWay (b above deep : List ℕ) (i n : ℕ) : Type 0 where
  pub group : Group
  pub so : Passing group b above deep i n
  pub more : i < record_count group

-- the pass over m records starts
pub record Starting (b above deep : List ℕ) (m : ℕ) : Type 0 where
  pub group : Group
  pub so : Passing group b above deep 0 0
  pub all : m ≡ record_count group

-- the bytes are read as a sound group
pub record Compactable (b : List ℕ) : Type 0 where
  pub N : ℕ
  pub number : ℕ
  pub size : length b ≡ group_length
  pub sound : sound_group N number (read_group b) ≡ true
