-- Where bytes of a line have come, they are the last line.
use native.Mathlib.Omega.{arith}
use Rattle.listing.proofs.Bytes.{no_line, last_line}
use Rattle.listing.proofs.session.finish.Goals as goal

pub returns-then-n-eq0 : goal.returns-then-n-eq0
returns-then-n-eq0 c = no_line _ _ _ _ _ c.requires.0 c.requires.1 (omega arith)

pub returns : goal.returns
returns c = last_line _ _ _ _ _ c.requires.0 (record { held = c.obey-out.new.memory.held; laid = c.obey-out.result }) _ _ _ (λ e. omega arith) c.obey-out.ensures
