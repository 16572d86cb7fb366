-- `put_u32` meets its contract: the four bytes that were copied into their part are stored.
use Rattle.std.proofs.Common.{arith, ap, refl, ◌∙◌, ◌≡◌, ◌/◌}
use Rattle.model.specs.Lists.{store}
use Rattle.octets.specs.Little.{bytes4}
use Rattle.octets.proofs.Stores.{lent_back}
use Rattle.octets.proofs.put_u32.Goals as goal

pub returns : goal.returns
unfolding bytes4
returns c =
    let third : c.args.v / 65536 ≡ c.args.v / 256 / 256 = omega arith in
    let fourth : c.args.v / 16777216 ≡ c.args.v / 256 / 256 / 256 = omega arith in
    let is : c.copy_from_slice.new.self ≡ bytes4 c.args.v = c.copy_from_slice.ensures.after ∙ c.to_le_bytes.ensures ∙ rw (third, fourth) refl in
    lent_back _ c.args.p c.args.s.now _ (rw is (omega arith)) (omega arith) ∙ ap (store c.args.s.now c.args.p) is
