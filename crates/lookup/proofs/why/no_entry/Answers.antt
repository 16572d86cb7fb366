-- Zeros.
use Rattle.lookup.proofs.WhyEntries.{tells_zeros}
use Rattle.lookup.proofs.why.no_entry.Goals as goal

pub returns : goal.returns
returns c = tells_zeros
