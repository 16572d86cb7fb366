-- A block has few valid pages, by any test. Assumes nothing.
use mathlib.Core.Path.{◌≡◌, refl}
use mathlib.Core.Bool.{Bool, true, false}
use Prim.Native.Nat.{ℕ, zero, suc, ◌≤◌}
use native.Mathlib.Omega.{arith}
use lib.ListN.{length}
use Rattle.model.specs.Lists.{select}
use Rattle.model.specs.Device.{Device, first_page}
use Rattle.calls.specs.Choice.{used_by}

-- no more are picked than there are
select-few : (t : ℕ → Bool) (n x : ℕ) → length (select t n x) ≤ n
unfolding select
select-few t zero x = omega arith
select-few t (suc n) x = go (t x) refl (select-few t n (suc x))
  where
    go : (b : Bool) → t x ≡ b → length (select t n (suc x)) ≤ n → length (select t (suc n) x) ≤ suc n
    go true e ih = rw (e, select) (omega arith)
    go false e ih = rw (e, select) (omega arith)

module _ (valid : ℕ → Bool) (d : Device) (k : ℕ) where
  -- A block has no more valid pages than pages.
  pub valid-few : length (used_by valid d k).pages ≤ d.B
  unfolding used_by
  valid-few = select-few valid d.B (first_page d k)
