-- The count, then the entries.
use Rattle.collection.proofs.Clearing.{block-erased}
use Rattle.collection.proofs.erasing.erase_block.Goals as goal

pub returns : goal.returns
returns c = block-erased _ _ _ _ _ _ c.requires.0.numbers c.set_count.ensures c.erase.ensures
