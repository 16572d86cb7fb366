-- `skip` meets its contract: a slot more is ahead, or the first that isn't is there.
use mathlib.Core.Path.{◌≡◌, ◌∙◌}
use native.Mathlib.Omega.{arith}
use Rattle.insertion.proofs.Searches.{ahead_more, ahead_other, ahead-stop, ahead_none}
use Rattle.insertion.proofs.skip.Goals as goal
use Rattle.insertion.proofs.skip.Goals.{then-s-ne1-via-then-s-ne1, then-s-ne1-via-else-s-ne1+then-start-held}

pub returns-then-s-ne1 : goal.returns-then-s-ne1
returns-then-s-ne1 c =
    elim c.then-s-ne1.branch [
      | then-s-ne1-via-then-s-ne1 w ↦
          (omega arith, ahead_other _ _ _ (omega (arith, c.used-m.ensures.1)) c.get-s.ensures.0 _ _ c.loop-j.invariant w.if-s-ne1.true)
      | then-s-ne1-via-else-s-ne1+then-start-held w ↦
          (omega arith, ahead-stop _ _ _ (omega (arith, c.used-m.ensures.1)) c.get-s.ensures.0 _ _ c.loop-j.invariant w.if-s-ne1.false w.if-start-held.true)
    ]

pub loop-j-preserved : goal.loop-j-preserved
loop-j-preserved c =
    ahead_more _ _ _ (omega (arith, c.used-m.ensures.1)) c.get-s.ensures.0 _ _ c.loop-j.invariant c.if-s-ne1.false c.if-start-held.false

pub returns : goal.returns
returns c =
    let end : c.used-m.result ≡ c.loop-j.j = omega arith in
    (omega arith, end ∙ ahead_none _ _ (omega (arith, c.used-m.ensures.1)) _ _ c.loop-j.invariant)
