-- A block that isn't free is passed.
use Rattle.std.proofs.Common.{arith, refl}
use Rattle.model.specs.State.{lowest_in}
use Rattle.front.specs.Read.{numbers_of}
use Rattle.front.proofs.CountsRead.{length-read}
use Rattle.front.proofs.Scanning.{lowest_from, lowest_here, lowest_on, lowest-end}
use Rattle.front.proofs.counts.lowest_free.Goals as goal

pub loop-k-init : goal.loop-k-init
unfolding lowest_in lowest_from
loop-k-init c = refl

pub returns-then-count-eq0 : goal.returns-then-count-eq0
returns-then-count-eq0 c =
    let long = length-read (numbers_of c.args.d) c.args.state.now in
    lowest_here _ _ _ c.count.ensures.0 c.loop-k.invariant (omega (arith, long)) c.if-count-eq0.true

pub loop-k-preserved : goal.loop-k-preserved
loop-k-preserved c =
    let long = length-read (numbers_of c.args.d) c.args.state.now in
    lowest_on _ _ _ c.count.ensures.0 c.loop-k.invariant (omega (arith, long)) c.if-count-eq0.false

pub returns : goal.returns
returns c =
    let long = length-read (numbers_of c.args.d) c.args.state.now in
    lowest-end _ _ c.loop-k.invariant (omega (arith, long))
