-- Four bytes stored at its place: the law of that writer.
use Rattle.std.proofs.Common.{ap, ◌∙◌}
use mir.Facts.{Fits-lt-pow}
use Rattle.plainstate.specs.Reading.{read_table}
use Rattle.plainstate.proofs.Shaping.{entry_in}
use Rattle.plainstate.proofs.Writers.{entry-stored_at}
use Rattle.plainstate.proofs.entries.set_entry.Goals as goal

pub put_u32-requires : goal.put_u32-requires
put_u32-requires c = entry_in _ _ c.requires.0 _ _ c.requires.1 c.entry_place-p.ensures

pub returns : goal.returns
returns c =
    ap read_table c.put_u32.ensures
    ∙ entry-stored_at _ _ c.requires.0 _ _ c.requires.1 (Fits-lt-pow c.ranges.v) _ c.entry_place-p.ensures
