-- The entry's page is marked, or another beyond the device's where it names none; it is counted where it names one.
use Rattle.std.proofs.Common.{◌<◌, ◌+◌, ◌-◌, ◌*◌, length, refl, arith}
use Rattle.model.specs.Device.{pages}
use Rattle.front.specs.Read.{numbers_of}
use Rattle.plain.specs.Table.{no_page}
use Rattle.plainstate.specs.Reading.{read_table}
use Rattle.plainstate.proofs.Sizes.{small}
use Rattle.plainstate.proofs.Shaping.{length-entries}
use Rattle.plainstate.proofs.NamedPages.{told_most, some_named, named_more}
use Rattle.plainstate.proofs.naming.name_some.Goals as goal
use Rattle.plainstate.proofs.naming.name_some.Goals.{then-e-n, else-e-n}

pub overflow_mul-n : goal.overflow_mul-n
unfolding pages
overflow_mul-n c = omega (arith, (small _ c.requires.0.limits).all)

pub name_page-requires : goal.name_page-requires
unfolding pages
name_page-requires c = (elim c.if-e-n.branch [ then-e-n w ↦ omega arith | else-e-n w ↦ omega arith ], c.requires.1)

pub loop-j-preserved : goal.loop-j-preserved
unfolding pages no_page
loop-j-preserved c =
    let there : c.loop-j.j < length (read_table c.args.state.now).entries = omega (arith, length-entries _ _ c.requires.0) in record {
      few = omega (arith, told_most c.entry-e.result);
      count = omega (arith, named_more _ _ _ there c.entry-e.ensures _ refl);
      bits = some_named _ (pages (numbers_of c.args.d)) c.loop-j.j c.entry-e.result c.if-e-n.p there c.entry-e.ensures
          _ c.loop-j.invariant.bits (elim c.if-e-n.branch [ then-e-n w ↦ omega arith | else-e-n w ↦ omega arith ])
          _ refl _ c.name_page.ensures (c.args.beyond + 8 * (c.loop-j.j - c.args.x))
          (elim c.if-e-n.branch [ then-e-n w ↦ (λ _. w.p-is, λ h. absurd (omega arith)) | else-e-n w ↦ (λ h. absurd (omega arith), λ _. w.p-is) ])
          (omega (arith, c.requires.2));
    }
