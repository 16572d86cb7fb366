-- Sixteen in a row that fill two bytes, or any sixteen.
use Rattle.std.proofs.Common.{arith}
use Rattle.plain.specs.Table.{no_page}
use Rattle.plainstate.proofs.Shaping.{length-entries}
use Rattle.plainstate.proofs.NamedPages.{row-marked}
use Rattle.plainstate.proofs.naming.name_below.Goals as goal

pub returns-then-in_steps : goal.returns-then-in_steps
unfolding no_page
returns-then-in_steps c =
    row-marked _ _ c.args.x c.entry-e.result _ _ _ (omega (arith, c.if-e-eq0.true)) (omega (arith, c.requires.4, length-entries _ _ c.requires.0))
    (c.in_steps.ensures c.if-in_steps.true) c.requires.6 c.fill_two.ensures
