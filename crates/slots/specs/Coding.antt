-- docs/LAYOUT.md, 'A slot': the ten bytes of a slot. Assumes nothing.
use Rattle.std.specs.Prelude.{List, ◌++◌, ℕ, ◌<◌}
use Rattle.octets.specs.Little.{bytes2}
use Rattle.record.specs.Coding.{eight, InEight}
use Rattle.group.specs.declared.Slot.{Slot}

-- a slot's ten bytes: its record's eight, then its level
unfoldable pub ten : Slot → List ℕ
unfolding eight
ten s = eight s.held ++ bytes2 s.level

-- a slot's numbers fit their bytes
abbrev pub InTen : Slot → Type 0
InTen s = (s.level < 65536) × InEight s.held
