-- `put_u8` meets its contract: a store of one element.
use Rattle.std.proofs.Common.{rules}
use Rattle.octets.proofs.Stores.{store_one}
use Rattle.octets.proofs.put_u8.Goals as goal

pub returns : goal.returns
returns c = search (store_one, rules)
