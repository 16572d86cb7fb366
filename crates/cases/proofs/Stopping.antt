-- The pass stops as document 02, c, wants it, and the tempting ones don't: each is refuted on a small device. Assumes nothing.
use mathlib.Core.Path.{◌≡◌, refl}
use mathlib.Core.List.{[], ◌∷◌}
use mathlib.Core.Logic.{inr}
use Prim.Native.Nat.{ℕ, ◌≤◌}
use native.Mathlib.Omega.{arith}
use Rattle.model.specs.Spare.{pass_block, Stopped}
use Rattle.model.proofs.OnePass.{pass_stopped}
use Rattle.cases.specs.Opens.{everything}
use Rattle.cases.specs.Passes.{wide, sevens, Pass, Stops, erases_first, runs_on, one_more, backwards, rules_unused}

pub pass_stops : Stops pass_block
pass_stops = pass_stopped

-- what a pass would leave, stopped after n entries in block 1, of the pages 0 and 1
asked : (pass : Pass) → Stops pass → (n : ℕ) → n ≤ 12 → Stopped wide (0 ∷ 1 ∷ []) 1 n sevens (pass wide (0 ∷ 1 ∷ []) 1 n sevens)
unfolding everything wide sevens
asked pass h n l = h wide (0 ∷ 1 ∷ []) 1 n sevens (omega arith) (omega arith) l refl

-- the entry behind the stop is erased, ..
pub erases_first_rejected : Stops erases_first → ⊥
unfolding everything wide sevens erases_first
erases_first_rejected h = let z : ◌≡◌ {A = ℕ} 4294967295 7 = (asked erases_first h 5 (omega arith)).others 17 (inr (omega arith)) in absurd (omega arith)

-- .. or programmed, ..
pub runs_on_rejected : Stops runs_on → ⊥
unfolding everything wide sevens runs_on
runs_on_rejected h = let z : ◌≡◌ {A = ℕ} 4294967295 7 = (asked runs_on h 5 (omega arith)).others 17 (inr (omega arith)) in absurd (omega arith)

pub one_more_rejected : Stops one_more → ⊥
unfolding everything wide sevens one_more
one_more_rejected h = let z : ◌≡◌ {A = ℕ} 4294967295 7 = (asked one_more h 5 (omega arith)).others 17 (inr (omega arith)) in absurd (omega arith)

-- .. the last entry is written first, ..
pub backwards_rejected : Stops backwards → ⊥
unfolding everything wide sevens backwards
backwards_rejected h = let z : ◌≡◌ {A = ℕ} 4294967295 7 = (asked backwards h 1 (omega arith)).others 23 (inr (omega arith)) in absurd (omega arith)

-- .. the page behind the written ones names page 1.
pub rules_unused_rejected : Stops rules_unused → ⊥
unfolding everything wide sevens rules_unused
rules_unused_rejected h = let z : ◌≡◌ {A = ℕ} 1 4294967295 = (asked rules_unused h 7 (omega arith)).final 6 (omega arith) in absurd (omega arith)
