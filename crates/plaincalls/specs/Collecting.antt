-- The first checks of a collection: "After 1 and 2: 3", before any counting. Assumes nothing.
use Rattle.std.specs.Prelude.{List, [], ◌∷◌, ◌++◌, not, ℕ}
use Rattle.calls.specs.Refusals.{Check, ◌when◌, bad_length, not_sound, wrong_length}
use Rattle.plain.specs.Table.{Table, sound_table}
use Rattle.plain.specs.Calls.{opening}

abbrev pub admit_checks : List ℕ → List ℕ → Table → List Check
admit_checks plan erased t =
    opening t
    ++ (bad_length when wrong_length plan t.device.B
    ∷ bad_length when wrong_length erased t.device.M
    ∷ not_sound when not (sound_table t)
    ∷ [])
