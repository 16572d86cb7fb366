-- At bound 0 the runs learned are the maximal stride runs: a single pass finds the pages that they start at. Assumes nothing.
use mathlib.Core.Path.{◌≡◌, refl, sym, ◌∙◌, ap₂}
use mathlib.Core.List.{List, [], ◌∷◌, map}
use mathlib.Core.Option.{none, some}
use mathlib.Core.Bool.{Bool, true, false}
use Prim.Native.Nat.{ℕ, ◌+◌, ◌-◌}
use native.Mathlib.Omega.{arith}
use native.Mathlib.Nat.{le_refl}
use lib.Dec.{eqb}
use lib.ListN.{length, drop}
use borrow.Author.Tests.{eqb-true, eq-eqb}
use Rattle.model.specs.Device.{group_of, offset_of}
use Rattle.model.specs.Learning.{Run, Bounds, stride_length, accurate_run, next_run, ahead, learn}
use Rattle.model.specs.Demand2.{bounds_of}
use Rattle.model.specs.NoShorter.{run_start}
use Rattle.model.specs.Budget.{goes_on, runs_behind, stride_runs}
use Rattle.model.proofs.Bools.{iff_bool}
use Rattle.model.proofs.Lists.{Asc}
use Rattle.model.proofs.Runs.{first_run, Room, runs_all}

-- A run doesn't go on to a page of another group, ..
other_group : (d x y : ℕ) → eqb (group_of y) (group_of x) ≡ false → goes_on (some d) x y ≡ false
unfolding goes_on
other_group d x y e = rw e

-- .. and in its own group by the offsets.
same_group : (d x y : ℕ) → group_of y ≡ group_of x → goes_on (some d) x y ≡ eqb (offset_of y) (offset_of x + d)
unfolding goes_on
same_group d x y e =
    rw (eq-eqb (group_of y) (group_of x) e) (iff_bool (eqb y (x + d)) (eqb (offset_of y) (offset_of x + d))
    (λ h. eq-eqb (offset_of y) (offset_of x + d) (omega (arith, e, eqb-true y (x + d) h)))
    (λ h. eq-eqb y (x + d) (omega (arith, e, eqb-true (offset_of y) (offset_of x + d) h))))

-- Behind a run of stride d that has come to page x, the pass goes on where the learned run ends.
behind-stride : (d x : ℕ) (l : List ℕ) → runs_behind (some d) x l ≡ stride_runs (drop (stride_length d (offset_of x) (ahead (group_of x) l)) l)
unfolding runs_behind stride_runs stride_length ahead
behind-stride d x [] = refl
behind-stride d x (y ∷ l) = go (eqb (group_of y) (group_of x)) refl (behind-stride d y l)
  where
    go : (t : Bool) → eqb (group_of y) (group_of x) ≡ t → runs_behind (some d) y l ≡ stride_runs (drop (stride_length d (offset_of y) (ahead (group_of y) l)) l)
        → runs_behind (some d) x (y ∷ l) ≡ stride_runs (drop (stride_length d (offset_of x) (ahead (group_of x) (y ∷ l))) (y ∷ l))
    go false e ih = rw (runs_behind, other_group d x y e, ahead, e)
    go true e ih = on (eqb (offset_of y) (offset_of x + d)) refl
      where
        k : group_of y ≡ group_of x
        k = eqb-true (group_of y) (group_of x) e

        on : (u : Bool) → eqb (offset_of y) (offset_of x + d) ≡ u
            → runs_behind (some d) x (y ∷ l) ≡ stride_runs (drop (stride_length d (offset_of x) (ahead (group_of x) (y ∷ l))) (y ∷ l))
        on false f = rw (runs_behind, same_group d x y k, ahead, stride_length, e, f)
        on true f =
            let w : y - x ≡ d = omega (arith, k, eqb-true (offset_of y) (offset_of x + d) f) in
            rw (runs_behind, same_group d x y k, ahead, stride_length, e, f, w) (rw k at ih)

-- so behind its first page
behind_first_lem : (p x : ℕ) (l : List ℕ) → runs_behind none x l ≡ stride_runs (drop (accurate_run (group_of x) p (offset_of x) (ahead (group_of x) l)).taken (x ∷ l))
unfolding runs_behind goes_on stride_runs accurate_run ahead
behind_first_lem p x [] = refl
behind_first_lem p x (y ∷ l) = go (eqb (group_of y) (group_of x)) refl (behind-stride (y - x) y l)
  where
    go : (t : Bool) → eqb (group_of y) (group_of x) ≡ t
        → runs_behind (some (y - x)) y l ≡ stride_runs (drop (stride_length (y - x) (offset_of y) (ahead (group_of y) l)) l)
        → runs_behind none x (y ∷ l)
        ≡ stride_runs (drop (accurate_run (group_of x) p (offset_of x) (ahead (group_of x) (y ∷ l))).taken (x ∷ y ∷ l))
    go false e h = rw (runs_behind, goes_on, ahead, e)
    go true e h =
        let k : group_of y ≡ group_of x = eqb-true (group_of y) (group_of x) e in
        let w : y - x ≡ offset_of y - offset_of x = omega (arith, k) in
        rw (runs_behind, goes_on, ahead, accurate_run, e, w) (rw (w, k) at h)

-- the first run starts at the first page
accurate-start : (p x : ℕ) (l : List ℕ) → run_start (accurate_run (group_of x) p (offset_of x) l) ≡ x
unfolding accurate_run run_start
accurate-start p x [] = omega arith
accurate-start p x (y ∷ l) = omega arith

-- The runs learned at bound 0 start where the stride runs do.
pub learned-strides : (p : ℕ) (written : List ℕ) → Asc 0 written → map run_start (learn 0 p written) ≡ stride_runs written
unfolding learn stride_runs next_run
learned-strides p written a =
    runs_all b (λ p l rs. map run_start rs ≡ stride_runs l) (λ p. refl) more (length written) p written (le_refl _)
    (record { ascends = a; from = omega arith; to = omega arith })
  where
    b : Bounds
    b = bounds_of 0 p written

    more : (p x : ℕ) (l : List ℕ) (rs : List Run) → Room b p (x ∷ l)
        → map run_start rs ≡ stride_runs (drop (first_run b p x l).taken (x ∷ l)) → map run_start (first_run b p x l ∷ rs) ≡ stride_runs (x ∷ l)
    more p x l rs q t = ap₂ (λ (y : ℕ) (m : List ℕ). y ∷ m) (accurate-start p x (ahead (group_of x) l)) (t ∙ sym (behind_first_lem p x l))
