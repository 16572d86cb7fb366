-- Document 02, i: the tempting ways of learning don't take the fewest records; each is refuted on a few pages. Assumes nothing.
use mathlib.Core.Path.{◌≡◌}
use mathlib.Core.List.{List, [], ◌∷◌}
use Prim.Native.Nat.{ℕ, ◌≤◌}
use native.Mathlib.Omega.{arith}
use lib.ListN.{length, length-map}
use Rattle.model.specs.Learning.{Write, arrivals, sort, logicals, learn}
use Rattle.model.specs.NoShorter.{run_start, Learner, NoShorter}
use Rattle.model.specs.Budget.{Budget}
use Rattle.model.proofs.NoShorter.{no_shorter}
use Rattle.cases.specs.Shams.{learn_first}
use Rattle.cases.specs.Learners.{counting, cuts_short, accurate_only, page_by_page}

-- What is learned is a cutting, so no shortest list has more records ..
at_most : (f : Learner) → NoShorter f → (g p : ℕ) (ws : List Write) → length (f g p (logicals (sort ws))) ≤ length (learn g p (logicals (sort ws)))
at_most f h g p ws = omega (arith, (h g p ws).least _ (no_shorter g p ws).cuts, length-map (learn g p (logicals (sort ws))) run_start)

-- .. and a shortest list is a cutting, so it has no fewer.
at_least : (f : Learner) → NoShorter f → (g p : ℕ) (ws : List Write) → length (learn g p (logicals (sort ws))) ≤ length (f g p (logicals (sort ws)))
at_least f h g p ws = omega (arith, (no_shorter g p ws).least _ (h g p ws).cuts, length-map (f g p (logicals (sort ws))) run_start)

-- 0, 1 and 2 are one run; cut short, they are two ..
pub cut-short_rejected : NoShorter cuts_short → ⊥
unfolding counting cuts_short
cut-short_rejected h = let z : 2 ≤ 1 = at_most cuts_short h 0 0 (arrivals 0 (0 ∷ 1 ∷ 2 ∷ [])) in absurd (omega arith)

-- .. and page by page three, which is more than the one stride run, too.
pub page_by_page_rejected : NoShorter page_by_page → ⊥
unfolding counting page_by_page
page_by_page_rejected h = let z : 3 ≤ 1 = at_most page_by_page h 0 0 (arrivals 0 (0 ∷ 1 ∷ 2 ∷ [])) in absurd (omega arith)

pub page_by_page-over_budget : Budget page_by_page → ⊥
unfolding counting page_by_page
page_by_page-over_budget h = let z : ◌≡◌ {A = ℕ} 3 1 = (h 0 (arrivals 0 (0 ∷ 1 ∷ 2 ∷ []))).exact in absurd (omega arith)

-- At bound 1 the pages 0, 1, 4 and 5 are one approximate run, and two accurate ones.
pub accurate_only_rejected : NoShorter accurate_only → ⊥
unfolding counting accurate_only
accurate_only_rejected h = let z : 2 ≤ 1 = at_most accurate_only h 1 0 (arrivals 0 (0 ∷ 1 ∷ 4 ∷ 5 ∷ [])) in absurd (omega arith)

-- One record for the first run and none after is short, and no cutting.
pub first_only_rejected : NoShorter learn_first → ⊥
unfolding counting learn_first
first_only_rejected h = let z : 2 ≤ 1 = at_least learn_first h 0 0 (arrivals 0 (0 ∷ 1 ∷ 3 ∷ [])) in absurd (omega arith)
