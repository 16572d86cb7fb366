-- A byte more, and what it prints.
use Rattle.std.proofs.Common.{◌+◌, refl, arith}
use lib.Seq.{take_all}
use Rattle.std.proofs.KnownBytes.{Appends-nil}
use Rattle.listing.specs.Progress.{fed, fed_prints}
use Rattle.listing.proofs.Bytes.{going_on}
use Rattle.listing.proofs.Running.{fed_on, prints_on, on_err}
use Rattle.listing.proofs.session.feed.Goals as goal

pub loop-byte-init : goal.loop-byte-init
unfolding fed fed_prints
loop-byte-init g c = record { going = c.requires.0; handed = c.requires.1; here = refl; printed = Appends-nil _ }

pub step-requires : goal.step-requires
step-requires g c = (c.loop-byte.invariant.going, c.loop-byte.invariant.handed)

pub returns-in_err-hand-clause-stopped : goal.returns-in_err-hand-clause-stopped
returns-in_err-hand-clause-stopped g c =
    let made = c.step in
    on_err c.from_residual.result _
    (record {
      taken = c.loop-byte.byte-index + 1;
      cursor = record { held = made.new.memory.held; filled = made.new.line.filled; laid = made.new.out.waiting };
      going = rw c.hand.ensures.same made.ensures.going;
      leaves = fed_on c.args.bytes.now c.loop-byte.byte-index c.loop-byte-test.true _ c.loop-byte.invariant.here made.ensures.leaves;
    })

pub loop-byte-preserved : goal.loop-byte-preserved
loop-byte-preserved g c =
    let v = c.loop-byte.invariant in
    let made = c.step in
    let bytes = c.args.bytes.now in
    let i = c.loop-byte.byte-index in
    let less = c.loop-byte-test.true in record {
      going = rw c.in_ok-hand.ensures.same (going_on (record { held = made.new.memory.held; filled = made.new.line.filled; laid = made.new.out.waiting }) _ made.ensures.going);
      handed = omega (arith, c.in_ok-hand.ensures.waits);
      here = fed_on bytes i less _ v.here made.ensures.leaves;
      printed = prints_on bytes i less _ v.here _ _ _ v.printed made.ensures.prints c.in_ok-hand.ensures.prints;
    }

pub returns-clause-fed : goal.returns-clause-fed
returns-clause-fed g c =
    let v = c.loop-byte.invariant in
    record { going = v.going; leaves = rw (take_all _ _ c.loop-byte-test.false) at v.here; handed = v.handed }

pub returns-clause-prints : goal.returns-clause-prints
returns-clause-prints g c = rw (take_all _ c.args.bytes.now c.loop-byte-test.false) at c.loop-byte.invariant.printed
