-- The entry's page is marked, or another beyond the device's where it names none.
use Rattle.std.proofs.Common.{◌+◌, ◌*◌, arith}
use Rattle.model.specs.Device.{pages}
use Rattle.front.specs.Read.{numbers_of}
use Rattle.plainstate.proofs.Sizes.{small}
use Rattle.plainstate.proofs.Shaping.{length-entries}
use Rattle.plainstate.proofs.NamedPages.{some_named}
use Rattle.plainstate.proofs.naming.name_any.Goals as goal
use Rattle.plainstate.proofs.naming.name_any.Goals.{then-e-n, else-e-n}

pub overflow_mul-n : goal.overflow_mul-n
unfolding pages
overflow_mul-n c = omega (arith, (small _ c.requires.0.limits).all)

pub name_page-requires : goal.name_page-requires
unfolding pages
name_page-requires c = (elim c.if-e-n.branch [ then-e-n w ↦ omega arith | else-e-n w ↦ omega arith ], c.requires.1)

pub loop-j-preserved : goal.loop-j-preserved
unfolding pages
loop-j-preserved c =
    some_named _ (pages (numbers_of c.args.d)) (c.args.x + c.loop-j.j) c.entry-e.result c.if-e-n.p (omega (arith, length-entries _ _ c.requires.0)) c.entry-e.ensures
    _ c.loop-j.invariant (elim c.if-e-n.branch [ then-e-n w ↦ omega arith | else-e-n w ↦ omega arith ])
    _ (omega arith) _ c.name_page.ensures (c.args.beyond + 8 * c.loop-j.j)
    (elim c.if-e-n.branch [ then-e-n w ↦ (λ _. w.p-is, λ h. absurd (omega arith)) | else-e-n w ↦ (λ h. absurd (omega arith), λ _. w.p-is) ])
    (omega (arith, c.requires.2))
