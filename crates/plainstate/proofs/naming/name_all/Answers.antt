-- All entries: sixteen at a time, then the rest.
use Rattle.std.proofs.Common.{◌≡◌, refl, ap, subst, ◌∙◌, ℕ, ◌+◌, ◌*◌, ◌/◌, List, length, arith}
use lib.Seq.{take_all}
use Rattle.model.specs.Lists.{elem}
use Rattle.model.specs.Device.{pages}
use Rattle.front.specs.Read.{numbers_of}
use Rattle.plain.specs.Table.{named_pages}
use Rattle.plainstate.specs.Reading.{read_table}
use Rattle.plainstate.specs.Bits.{bit_values, NamedTo, named_to}
use Rattle.plainstate.proofs.Sizes.{small}
use Rattle.plainstate.proofs.Shaping.{length-entries}
use Rattle.plainstate.proofs.NamedPages.{named_none, named-few}
use Rattle.plainstate.proofs.naming.name_all.Goals as goal

pub loop-i-init : goal.loop-i-init
unfolding named_pages
loop-i-init c = record { count = refl; bits = named_none (read_table c.args.state.now).entries _ _ c.requires.3 }

pub name_sixteen-c-requires : goal.name_sixteen-c-requires
unfolding bit_values
name_sixteen-c-requires c = (c.requires.0, refl, omega arith, omega arith, omega arith, omega arith, c.loop-i.invariant.bits)

pub overflow_add-c : goal.overflow_add-c
overflow_add-c c =
    omega (arith, (small _ c.requires.0.limits).logical, named-few (16 * c.loop-i.i + 16) (read_table c.args.state.now).entries)

pub name_some-requires : goal.name_some-requires
unfolding bit_values
name_some-requires c =
    let z : 16 * c.loop-i.i ≡ 16 * (c.args.d.n / 16) = omega arith in (
      c.requires.0,
      refl,
      omega arith,
      omega arith,
      omega arith,
      omega arith,
      omega arith,
      omega arith,
      subst (λ (x : ℕ). NamedTo (pages (numbers_of c.args.d)) x (read_table c.args.state.now).entries c.loop-i.bits) z c.loop-i.invariant.bits,
    )

-- the rest are counted behind the sixteens
rest : (es : List ℕ) (n i c r : ℕ) → i ≡ n / 16 → c ≡ named_to (16 * i) es → r + named_to (16 * (n / 16)) es ≡ named_to n es → c + r ≡ named_to n es
rest es n i c r h q p = omega (arith, ap (λ (j : ℕ). named_to (16 * j) es) h)

pub overflow_add-result : goal.overflow_add-result
overflow_add-result c =
    omega (
      arith,
      (small _ c.requires.0.limits).logical,
      named-few c.args.d.n (read_table c.args.state.now).entries,
      rest _ _ _ _ _ (omega arith) c.loop-i.invariant.count c.name_some.ensures.count,
    )

pub returns-clause-count : goal.returns-clause-count
returns-clause-count c =
    rest _ _ _ _ _ (omega arith) c.loop-i.invariant.count c.name_some.ensures.count
    ∙ ap (λ (l : List ℕ). length (named_pages l)) (take_all _ _ (omega (arith, length-entries _ _ c.requires.0)))

pub returns-clause-bits : goal.returns-clause-bits
returns-clause-bits c =
    λ p l. c.name_some.ensures.bits p l ∙ ap (elem p) (take_all _ _ (omega (arith, length-entries _ _ c.requires.0)))
