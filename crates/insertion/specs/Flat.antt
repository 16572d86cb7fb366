-- A level's records as they stand in the flat list of a group. Assumes nothing.
use Rattle.std.specs.Prelude.{List, map, ℕ}
use Rattle.model.specs.Levels.{Level}
use Rattle.group.specs.Cutting.{Placed, in_level}

-- the records of level n
abbrev pub tag : ℕ → Level → List Placed
tag n l = map (in_level n) l
