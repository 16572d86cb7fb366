-- One more entry is, by what it is joined to.
use Rattle.std.proofs.Common.{◌≡◌, ℕ, suc, ◌+◌, ◌≤◌, ◌<◌, ◌⊎◌, inl, inr, sym, subst, arith, bit_or}
use Rattle.model.proofs.Lists.{le_cases}
use Rattle.plain.specs.Table.{entry_at}
use Rattle.plainstate.specs.Reading.{read_table}
use Rattle.plainstate.proofs.Joining.{or_most_l, or_most_r}
use Rattle.plainstate.proofs.naming.all_below.Goals as goal

one_more : (f : ℕ → ℕ) (x t j r : ℕ) → ((i : ℕ) → i < j → f (x + i) ≤ t) → f (x + j) ≡ r → (i : ℕ) → i ≤ j → f (x + i) ≤ bit_or t r
one_more f x t j r before q i l = go (le_cases i j l)
  where
    go : (j ≡ i) ⊎ (suc i ≤ j) → f (x + i) ≤ bit_or t r
    go (inl z) = subst (λ (y : ℕ). f (x + y) ≤ bit_or t r) z (omega (arith, q, or_most_r t r))
    go (inr z) = omega (arith, before i z, or_most_l t r)

pub loop-j-preserved : goal.loop-j-preserved
loop-j-preserved c =
    λ i l. one_more (entry_at (read_table c.args.state.now)) _ _ _ _ c.loop-j.invariant (sym c.entry-any.ensures) i (omega arith)
