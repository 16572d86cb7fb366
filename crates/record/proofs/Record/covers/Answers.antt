-- `covers` meets its contract: the distance from the start, modulo 256, is at most the span.
use Rattle.record.proofs.Members.{covers-near}
use Rattle.record.proofs.Record.covers.Goals as goal

pub returns : goal.returns
returns c = λ owned. covers-near _ _ c.requires.0 c.requires.1
