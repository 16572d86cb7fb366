use Rattle.std.proofs.Common.{refl, arith}
use Rattle.lookup.proofs.Listing.{listed_from, listed_on, listed_all}
use Rattle.lookup.proofs.list.list_slots.Goals as goal

pub used-n-requires : goal.used-n-requires
used-n-requires c = c.requires.0.0

pub loop-i-init : goal.loop-i-init
unfolding listed_from
loop-i-init c = refl

pub get-requires : goal.get-requires
get-requires c = (c.requires.0, omega (arith, c.loop-i-test.true, c.used-n.ensures.1))

pub put_slot-requires : goal.put_slot-requires
put_slot-requires c = (omega (arith, c.requires.1), omega (arith, c.loop-i-test.true, c.used-n.ensures.1, c.requires.0.1), c.get.ensures.1)

pub loop-i-preserved : goal.loop-i-preserved
loop-i-preserved c = listed_on _ _ _ _ _ _ (omega (arith, c.loop-i-test.true, c.used-n.ensures.1)) c.get.ensures.0 c.put_slot.ensures c.loop-i.invariant

pub returns : goal.returns
returns c = (c.used-n.ensures.1, listed_all _ _ _ _ (omega (arith, c.loop-i-test.false, c.used-n.ensures.1)) c.loop-i.invariant)
