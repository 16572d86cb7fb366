-- The record and the note behind it are one store.
use Rattle.lookup.proofs.WhyEntries.{twelve-stored}
use Rattle.lookup.proofs.why.put_entry.Goals as goal

pub returns : goal.returns
returns c = twelve-stored _ _ _ _ _ c.encode.ensures c.put_u32.ensures
