-- `put_u16` meets its contract: the two bytes that were copied into their part are stored.
use Rattle.std.proofs.Common.{arith, ap, ◌∙◌, ◌≡◌}
use Rattle.model.specs.Lists.{store}
use Rattle.octets.specs.Little.{bytes2}
use Rattle.octets.proofs.Stores.{lent_back}
use Rattle.octets.proofs.put_u16.Goals as goal

pub returns : goal.returns
unfolding bytes2
returns c =
    let is : c.copy_from_slice.new.self ≡ bytes2 c.args.v = c.copy_from_slice.ensures.after ∙ c.to_le_bytes.ensures in
    lent_back _ c.args.p c.args.s.now _ (rw is (omega arith)) (omega arith) ∙ ap (store c.args.s.now c.args.p) is
