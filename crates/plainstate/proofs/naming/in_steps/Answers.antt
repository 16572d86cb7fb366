-- One more entry in step, where it is not off.
use Rattle.std.proofs.Common.{◌≡◌, ℕ, suc, ◌+◌, ◌*◌, ◌≤◌, ◌<◌, ◌⊎◌, inl, inr, sym, subst, ◌∙◌, arith, bit_or, bit_xor}
use Rattle.model.proofs.Lists.{le_cases}
use Rattle.plain.specs.Table.{entry_at}
use Rattle.plainstate.specs.Reading.{read_table}
use Rattle.plainstate.proofs.Joining.{or_none_l, or_none_r, xor_none}
use Rattle.plainstate.proofs.naming.in_steps.Goals as goal

one_more : (f : ℕ → ℕ) (x e s t j r : ℕ) → bit_or t (bit_xor r (e + j * s)) ≡ 0 → (t ≡ 0 → (i : ℕ) → i < j → f (x + i) ≡ e + i * s) → f (x + j) ≡ r
    → (i : ℕ) → i ≤ j → f (x + i) ≡ e + i * s
one_more f x e s t j r so before q i l = go (le_cases i j l)
  where
    go : (j ≡ i) ⊎ (suc i ≤ j) → f (x + i) ≡ e + i * s
    go (inl z) = subst (λ (y : ℕ). f (x + y) ≡ e + y * s) z (q ∙ xor_none r (e + j * s) (or_none_r t (bit_xor r (e + j * s)) so))
    go (inr z) = before (or_none_l t (bit_xor r (e + j * s)) so) i z

pub loop-j-preserved : goal.loop-j-preserved
loop-j-preserved c =
    λ so i l. one_more (entry_at (read_table c.args.state.now)) _ _ _ _ _ _ so c.loop-j.invariant (sym c.entry.ensures) i (omega arith)
