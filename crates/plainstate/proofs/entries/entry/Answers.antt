-- Four bytes read at its place.
use Rattle.plainstate.proofs.Shaping.{entry_in, entry_read}
use Rattle.plainstate.proofs.entries.entry.Goals as goal

pub get_u32-requires : goal.get_u32-requires
get_u32-requires c = entry_in _ _ c.requires.0 _ _ c.requires.1 c.entry_place-p.ensures

pub returns : goal.returns
returns c = entry_read _ _ c.requires.0 _ _ _ c.requires.1 c.entry_place-p.ensures c.get_u32.ensures
