-- What compaction of a group leaves byte for byte: all that is not the group's part. `Ran` says only what is read. Assumes nothing.
use Rattle.std.specs.Prelude.{◌≡◌, List, ℕ, suc, take, drop}
use Rattle.model.specs.Device.{Device}
use Rattle.state.specs.Reading.{group_place}

-- outside the part of group k the bytes are as they were
pub record SameOutside (d : Device) (k : ℕ) (b b' : List ℕ) : Type 0 where
  pub before : take (group_place d k) b' ≡ take (group_place d k) b
  pub behind : drop (group_place d (suc k)) b' ≡ drop (group_place d (suc k)) b
