-- `encode` meets its contract: the four stores are one.
use Rattle.std.proofs.Common.{rules}
use mir.Syntax.{w32}
use mir.Facts.{to_z-of_z}
use Rattle.record.proofs.Coding.{four-stored}
use Rattle.record.proofs.Record.encode.Goals as goal

pub returns : goal.returns
returns c = search (four-stored, to_z-of_z, w32, rules)
