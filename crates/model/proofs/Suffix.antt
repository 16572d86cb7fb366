-- What is left of a run behind its first pages is a run of the same kind. Assumes nothing.
use mathlib.Core.Path.{◌≡◌, refl, ◌∙◌, ap}
use mathlib.Core.List.{List}
use Prim.Native.Nat.{ℕ, suc, ◌+◌, ◌-◌, ◌<◌}
use native.Mathlib.Omega.{arith}
use lib.IntN.{ℤ}
use lib.ListN.{get_or, drop, length-drop}
use lib.Seq.{get_or-drop}
use Rattle.model.specs.Device.{group_of}
use Rattle.model.specs.Learning.{Bounds}
use Rattle.model.specs.Demand2.{OneGroup, AccurateRun, ApproximateRun}
use Rattle.model.specs.NoShorter.{AnyRun}

pub any_group : {b : Bounds} {p n : ℕ} {l : List ℕ} → AnyRun b p l n → OneGroup l n
any_group (AnyRun.accurate r) = r.one_group
any_group (AnyRun.approximate a I r) = r.one_group

-- The first n of the pages l are a run, and e of them, not all, are passed over.
module _ (l : List ℕ) (n e : ℕ) (h : e < n) where
  page : (i j : ℕ) → e + i ≡ j → get_or (drop e l) i 0 ≡ get_or l j 0
  page i j q = get_or-drop e l i 0 ∙ ap (λ (k : ℕ). get_or l k 0) q

  suffix_group : OneGroup l n → OneGroup (drop e l) (n - e)
  suffix_group r = record {
    filled = omega arith;
    inside = rw length-drop (omega (arith, r.inside));
    grouped = λ i k.
        omega (arith, page i (e + i) refl, page 0 e (omega arith), r.grouped (e + i) (omega arith), r.grouped e h);
  }

  -- an accurate run's stride holds on; one page left is a single
  suffix_accurate : AccurateRun l n → AccurateRun (drop e l) (n - e)
  suffix_accurate r = record {
    one_group = suffix_group r.one_group;
    strided = λ i k.
        omega (
          arith,
          page 0 e (omega arith),
          page 1 (suc e) (omega arith),
          page i (e + i) refl,
          page (suc i) (suc (e + i)) (omega arith),
          r.strided e (omega arith),
          r.strided (e + i) (omega arith),
        );
  }

  -- an approximate run's slope and intercept still predict
  suffix_approximate : (b : Bounds) (p a : ℕ) (I : ℤ) → ApproximateRun b p l n a I → ApproximateRun b (p + e) (drop e l) (n - e) a I
  suffix_approximate b p a I r = record {
    bound = r.bound;
    slope = r.slope;
    one_group = suffix_group r.one_group;
    near = λ i k.
        let q : p + e + i ≡ p + (e + i) = omega arith in
        rw (q, page i (e + i) refl) (r.near (e + i) (omega arith));
  }

  -- Either way it is a run, ..
  pub suffix_run : (b : Bounds) (p : ℕ) → AnyRun b p l n → AnyRun b (p + e) (drop e l) (n - e)
  suffix_run b p (AnyRun.accurate r) = AnyRun.accurate (suffix_accurate r)
  suffix_run b p (AnyRun.approximate a I r) = AnyRun.approximate a I (suffix_approximate b p a I r)

  -- .. and its first page lies in the group of the first of all.
  pub suffix_first : {b : Bounds} {p : ℕ} → AnyRun b p l n → group_of (get_or (drop e l) 0 0) ≡ group_of (get_or l 0 0)
  suffix_first c = ap (λ (x : ℕ). group_of x) (page 0 e (omega arith)) ∙ (any_group c).grouped e h
