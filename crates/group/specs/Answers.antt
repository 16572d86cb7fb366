-- What the answers of the reading functions stand for. Assumes nothing.
use Rattle.std.specs.Prelude.{pos}
use Rattle.group.specs.declared.Slot.{Slot}

-- a slot that stands for no record: what a list of slots gives beyond its end
abbrev pub no_slot : Slot
no_slot = record { level = 0; held = record { start = 0; span = 0; word = 0; intercept = pos 0 } }
