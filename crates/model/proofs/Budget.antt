-- What a memory budget can count on, said in specs/Budget.antt: each part is another cutting, and none is shorter than what is learned.
-- Assumes nothing.
use mathlib.Core.Path.{◌≡◌, refl, sym, ◌∙◌, ap}
use mathlib.Core.List.{List, [], ◌∷◌, map}
use Prim.Native.Nat.{ℕ, ◌+◌, ◌≤◌}
use native.Mathlib.Omega.{arith}
use lib.IntN.{ℤ}
use lib.ListN.{length, length-map}
use Rattle.model.specs.Learning.{Bounds, learn, records_for}
use Rattle.model.specs.Demand2.{AccurateRun, Near, bounds_of}
use Rattle.model.specs.NoShorter.{AnyRun, Cutting, pages_in, run_start, Shortest}
use Rattle.model.specs.Budget.{stride_runs, Budgeted, Budget, Held}
use Rattle.model.proofs.Lists.{Asc}
use Rattle.model.proofs.RecordCount.{take_in-count}
use Rattle.model.proofs.Sorting.{sort_asc}
use Rattle.model.proofs.NoShorter.{learned-records, learned_shortest}
use Rattle.model.proofs.StrideRuns.{learned-strides}
use Rattle.model.proofs.GroupShare.{learned_share}

-- One page alone is a run, so each page on its own is a cutting.
singles_cut : (b : Bounds) (p : ℕ) (l : List ℕ) → Cutting b p l l
singles_cut b p [] = Cutting.end p
singles_cut b p (x ∷ l) = Cutting.run p 1 x l l (AnyRun.accurate one) (singles_cut b (p + 1) l)
  where
    one : AccurateRun (x ∷ l) 1
    one = record {
      one_group = record { filled = omega arith; inside = omega arith; grouped = λ i h. let e : i ≡ 0 = omega arith in rw e };
      strided = λ i h. absurd (omega arith);
    }

-- Within a bound is within a larger one.
module _ (b c : Bounds) (more : b.g ≤ c.g) (first : b.first ≡ c.first) (last : b.last ≡ c.last) where
  larger-near : (p : ℕ) (z : ℤ) → Near b p z → Near c p z
  larger-near p z n = record {
    page = n.page;
    is = n.is;
    below = omega (arith, n.below);
    above = omega (arith, n.above);
    from = omega (arith, n.from);
    to = omega (arith, n.to);
  }

  larger-run : {p n : ℕ} {l : List ℕ} → AnyRun b p l n → AnyRun c p l n
  larger-run (AnyRun.accurate r) = AnyRun.accurate r
  larger-run (AnyRun.approximate a I r) = AnyRun.approximate a I (record {
    bound = omega (arith, r.bound);
    slope = r.slope;
    one_group = r.one_group;
    near = λ i h. larger-near _ _ (r.near i h);
  })

  larger-cuts : {p : ℕ} {l starts : List ℕ} → Cutting b p l starts → Cutting c p l starts
  larger-cuts (Cutting.end p) = Cutting.end p
  larger-cuts (Cutting.run p n x l starts r t) = Cutting.run p n x l starts (larger-run r) (larger-cuts t)

learned_budgeted : (p : ℕ) (written : List ℕ) → Asc 0 written → Budgeted p written learn
learned_budgeted p written a = record {
  pages = λ g k. (shortest g).least_in k written (singles_cut _ p written);
  shared = λ g k. learned_share g p k written a;
  strides = strides;
  exact = sym (size 0) ∙ ap length strides;
  exact_in = λ k. records 0 k ∙ ap (pages_in k) strides;
  larger = λ g h m. omega (arith, (shortest h).least _ (at_larger g h m), size g);
  larger_in = λ g h m k. omega (arith, (shortest h).least_in k _ (at_larger g h m), records g k);
}
  where
    shortest : (g : ℕ) → Shortest (bounds_of g p written) p written (learn g p written)
    shortest g = learned_shortest g p written a

    starts : ℕ → List ℕ
    starts g = map run_start (learn g p written)

    strides : starts 0 ≡ stride_runs written
    strides = learned-strides p written a

    size : (g : ℕ) → length (starts g) ≡ length (learn g p written)
    size g = length-map (learn g p written) run_start

    records : (g k : ℕ) → length (records_for k (learn g p written)) ≡ pages_in k (starts g)
    records g k = learned-records g p k written a

    at_larger : (g h : ℕ) → g ≤ h → Cutting (bounds_of h p written) p written (starts g)
    at_larger g h m = larger-cuts (bounds_of g p written) (bounds_of h p written) m refl refl (shortest g).cuts

-- The budget: what is sorted ascends.
pub within_budget : Budget learn
within_budget p ws = learned_budgeted p _ (sort_asc ws)

-- What a group holds.
pub held-within : Held
held-within = take_in-count
