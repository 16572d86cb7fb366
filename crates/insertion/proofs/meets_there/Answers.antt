-- `meets_there` meets its contract: no slot, one of level 1, or one of another level.
use mathlib.Core.Path.{◌∙◌}
use native.Mathlib.Omega.{arith}
use borrow.Author.Tests.{ne_eqb}
use Rattle.group.specs.Layout.{slots_of}
use Rattle.insertion.proofs.Searches.{meets_there, meets_other, meets_none}
use Rattle.insertion.proofs.meets_there.Goals as goal

pub returns-then-p-used : goal.returns-then-p-used
returns-then-p-used c = meets_none (slots_of c.args.b.now) c.args.p (omega (arith, c.used.ensures.1)) c.args.u

pub returns-then-s-eq1 : goal.returns-then-s-eq1
returns-then-s-eq1 c =
    meets_there (slots_of c.args.b.now) c.args.p _ (omega (arith, c.requires.1, c.used.ensures.1)) c.get-s.ensures.0 c.args.u _ c.meets.ensures c.if-s-eq1.true

pub returns-else-s-eq1 : goal.returns-else-s-eq1
returns-else-s-eq1 c =
    ne_eqb _ _ c.if-s-eq1.false
    ∙ meets_other (slots_of c.args.b.now) c.args.p _ (omega (arith, c.requires.1, c.used.ensures.1)) c.get-s.ensures.0 c.args.u c.if-s-eq1.false
