-- Sixteen entries below the bound, sixteen that name none, or any sixteen.
use Rattle.std.proofs.Common.{arith}
use Rattle.plain.specs.Table.{no_page}
use Rattle.plainstate.specs.Reading.{read_table}
use Rattle.plainstate.proofs.Sizes.{small}
use Rattle.plainstate.proofs.Shaping.{length-entries}
use Rattle.plainstate.proofs.NamedPages.{all_named_lem, none_named, none_marked}
use Rattle.plainstate.proofs.naming.name_sixteen.Goals as goal

pub returns-then-all_below-clause-count : goal.returns-then-all_below-clause-count
unfolding no_page
returns-then-all_below-clause-count c =
    omega (
      arith,
      all_named_lem (read_table c.args.state.now).entries c.args.beyond c.args.x (omega (arith, c.requires.4)) 16
          (omega (arith, c.requires.5, length-entries _ _ c.requires.0)) (c.all_below.ensures c.if-all_below.true),
    )

pub returns-then-in_steps-clause-count : goal.returns-then-in_steps-clause-count
unfolding no_page
returns-then-in_steps-clause-count c =
    omega (
      arith,
      none_named (read_table c.args.state.now).entries 0 c.args.x 16 (omega (arith, length-entries _ _ c.requires.0))
          (λ j l. omega (arith, c.in_steps.ensures c.if-in_steps.true j l)),
    )

pub returns-then-in_steps-clause-bits : goal.returns-then-in_steps-clause-bits
unfolding no_page
returns-then-in_steps-clause-bits c =
    none_marked (read_table c.args.state.now).entries _ c.args.x (omega (arith, (small _ c.requires.0.limits).all)) 16 (omega (arith, length-entries _ _ c.requires.0))
    (λ j l. omega (arith, c.in_steps.ensures c.if-in_steps.true j l)) _ c.requires.6
