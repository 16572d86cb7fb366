-- One law for each way a byte goes.
use native.Mathlib.Omega.{arith}
use mathlib.Core.Path.{◌∙◌}
use Rattle.listing.proofs.Bytes.{line-ends, byte_comes, line-full}
use Rattle.listing.proofs.session.step.Goals as goal

pub returns-then-byte-eq10 : goal.returns-then-byte-eq10
returns-then-byte-eq10 c =
    line-ends _ _ _ _ _ _ c.requires.0 (record { held = c.obey-out.new.memory.held; laid = c.obey-out.result }) _ _ _ c.if-byte-eq10.true (c.obey-out.auto.out ∙ c.requires.0.room) c.obey-out.ensures

pub returns-then-n-lt-LINE : goal.returns-then-n-lt-LINE
returns-then-n-lt-LINE c = byte_comes _ _ _ _ _ _ c.requires.0 c.requires.1 c.if-byte-eq10.false (omega arith)

pub returns-else-n-lt-LINE : goal.returns-else-n-lt-LINE
returns-else-n-lt-LINE c = line-full _ _ _ _ _ _ c.requires.0 c.requires.1 c.if-byte-eq10.false (omega arith)
