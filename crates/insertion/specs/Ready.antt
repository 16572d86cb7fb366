-- What holds when a record is put into a group's bytes: the mask has its members, the group and the record are sound, there is room. Assumes nothing.
use Rattle.std.specs.Prelude.{◌≡◌, List, ◌∷◌, true, ℕ, ◌<◌, length}
use Rattle.model.specs.Device.{group_length}
use Rattle.model.specs.Lists.{all}
use Rattle.model.specs.Record as model
use Rattle.model.specs.Record.{member}
use Rattle.model.specs.Levels.{Level, Group, record_count}
use Rattle.model.specs.Sound.{sound_record, sound_group, is_filled, ordered}
use Rattle.record.specs.declared.Record.{Record}
use Rattle.record.specs.Read.{as_record}
use Rattle.record.specs.Scan.{masked}
use Rattle.group.specs.Cutting.{flat}
use Rattle.group.specs.Held.{Held}
use Rattle.insertion.specs.Shown.{Shown}

-- the mask has exactly the members of the record
abbrev pub Masks : List ℕ → model.Record → Type 0
Masks m r = (o : ℕ) → o < 256 → masked m o ≡ member r o

-- level 0, which may be empty, stands before levels that are not, all in order, and the mask has the members of r
pub record Parted (b m : List ℕ) (r : Record) : Type 0 where
  pub top : Level
  pub rest : Group
  pub owned : List ℕ
  pub shown : Shown b (flat (top ∷ rest))
  pub filled : all is_filled rest ≡ true
  pub in_order : all (ordered 0) (top ∷ rest) ≡ true
  pub members : Masks m (as_record r owned)

-- a sound group with room for one more record, and a sound record with the offsets that it owns
pub record Ready (b m : List ℕ) (r : Record) : Type 0 where
  pub N : ℕ
  pub number : ℕ
  pub group : Group
  pub owned : List ℕ
  pub size : length b ≡ group_length
  pub long : length m ≡ 256
  pub held : Held b group
  pub sound : sound_group N number group ≡ true
  pub few : record_count group < 512
  pub fits : sound_record N number (as_record r owned) ≡ true
  pub members : Masks m (as_record r owned)
