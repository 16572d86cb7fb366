-- The bits are an array of zeros.
use Rattle.std.proofs.Common.{arith}
use lib.ListN.{length-replicate}
use Rattle.model.proofs.Marks.{none_marked}
use Rattle.plainstate.proofs.sound.sound_within.Goals as goal

pub sound_by-requires : goal.sound_by-requires
sound_by-requires g c =
    (c.requires.0, simp length-replicate (omega arith), simp length-replicate (omega arith), none_marked _)
