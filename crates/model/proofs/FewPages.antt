-- Any 2g + 2 pages of a group that follow each other are a run. A line of the right slope rises by one over them: it predicts the middle page
-- for those before the rise and the next for those behind it, and each is at most g away. Assumes nothing.
use mathlib.Core.Path.{◌≡◌, refl, ◌∙◌, ap}
use mathlib.Core.List.{List}
use mathlib.Core.Logic.{◌⊎◌, inl, inr}
use mathlib.Core.Bool.{Bool, true, false}
use Prim.Native.Nat.{ℕ, zero, suc, ◌+◌, ◌*◌, ◌-◌, ◌/◌, ◌≤◌, ◌<◌}
use native.Mathlib.Omega.{arith}
use native.Mathlib.Nat.{mul-le-mul_left}
use lib.Dec.{ltb}
use lib.IntN.{pos, sub_ℕ, ◌+ℤ◌}
use lib.ListN.{get_or}
use borrow.Author.Tests.{ltb-true, ltb-false}
use Rattle.model.specs.Lists.{ascending}
use Rattle.model.specs.Device.{ceil, offset_of}
use Rattle.model.specs.Learning.{Bounds}
use Rattle.model.specs.Demand2.{OneGroup, AccurateRun, Near, ApproximateRun}
use Rattle.model.specs.NoShorter.{AnyRun}
use Rattle.model.proofs.Lists.{le_cases}
use Rattle.model.proofs.Ascent.{rises, rises_to}
use Rattle.model.proofs.Run.{sub_plus}

-- what a slope adds up to offset o
abbrev climb : ℕ → ℕ → ℕ
climb a o = ceil (a * o) 256

-- more at a later offset, ..
climb_more : (a x y : ℕ) → x ≤ y → climb a x ≤ climb a y
climb_more a x y h = omega (arith, mul-le-mul_left a h)

-- .. and with a slope one steeper as much, or one more
climb_steeper : (a o : ℕ) → o < 256 → (climb a o ≤ climb (suc a) o) × (climb (suc a) o ≤ suc (climb a o))
climb_steeper a o h =
    let e : suc a * o ≡ a * o + o = omega arith in
    rw e (omega arith, omega arith)

-- A slope at most s that climbs by one from offset x to offset y; there is one where s climbs at all.
record ByOne (s x y : ℕ) : Type 0 where
  slope : ℕ
  most : slope ≤ s
  one : climb slope y ≡ suc (climb slope x)

by_one : (s x y : ℕ) → x < 256 → y < 256 → climb s x < climb s y → ByOne s x y
by_one zero x y u v h = absurd (omega arith)
by_one (suc s) x y u v h = go (ltb (climb s x) (climb s y)) refl (λ m. by_one s x y u v m)
  where
    go : (t : Bool) → ltb (climb s x) (climb s y) ≡ t → (climb s x < climb s y → ByOne s x y) → ByOne (suc s) x y
    go true e ih =
        let b : ByOne s x y = ih (ltb-true (climb s x) (climb s y) e) in
        record { slope = b.slope; most = omega (arith, b.most); one = b.one }
    go false e ih =
        let (m, n) = climb_steeper s x u in
        let (m', n') = climb_steeper s y v in
        record { slope = suc s; most = omega arith; one = omega (arith, ltb-false (climb s x) (climb s y) e) }

-- The first n of the ascending pages l lie in one group, and are three at least; q is the place in their middle.
module _ (b : Bounds) (p : ℕ) (l : List ℕ) (n q : ℕ) (asc : ascending l ≡ true) (c : OneGroup l n) (some : 3 ≤ n) (low : 2 * q < n) (high : n ≤ 2 * q + 2) where
  offset : ℕ → ℕ
  offset i = offset_of (get_or l i 0)

  -- their offsets lie between the first and the last
  between : (i : ℕ) → i < n → (offset 0 ≤ offset i) × (offset i ≤ offset (n - 1))
  unfolding offset
  between i h =
      let u : get_or l 0 0 ≤ get_or l i 0 = rises_to l 0 i asc (omega arith) (omega (arith, c.inside)) in
      let v : get_or l i 0 ≤ get_or l (n - 1) 0 = rises_to l i (n - 1) asc (omega arith) (omega (arith, c.inside)) in
      (omega (arith, c.grouped i h), omega (arith, c.grouped i h, c.grouped (n - 1) (omega arith)))

  -- slope 256 adds the offset itself, so it climbs
  line : ByOne 256 (offset 0) (offset (n - 1))
  unfolding offset
  line =
      let u : get_or l 0 0 < get_or l (n - 1) 0 = rises l 0 (n - 1) asc (omega arith) (omega (arith, c.inside)) in
      by_one 256 (offset 0) (offset (n - 1)) (omega arith) (omega arith) (omega (arith, c.grouped (n - 1) (omega arith)))

  -- what the line adds to its intercept at place i
  up : ℕ → ℕ
  up i = climb line.slope (offset i)

  -- It climbs once, somewhere from the first place to the last.
  side : (i : ℕ) → i < n → ((up i ≡ up 0) × (suc i < n)) ⊎ ((up i ≡ suc (up 0)) × (1 ≤ i))
  unfolding up
  side i h = go i (ltb (up 0) (up i)) refl (le_cases (suc i) n h) (climb_more line.slope _ _ (between i h).0)
      (climb_more line.slope _ _ (between i h).1)
    where
      go : (i : ℕ) (t : Bool) → ltb (up 0) (up i) ≡ t → (n ≡ suc i) ⊎ (suc (suc i) ≤ n) → up 0 ≤ up i → up i ≤ up (n - 1)
          → ((up i ≡ up 0) × (suc i < n)) ⊎ ((up i ≡ suc (up 0)) × (1 ≤ i))
      go zero true e k u v = absurd (omega (arith, ltb-true (up 0) (up 0) e))
      go (suc i) true e k u v = inr (omega (arith, ltb-true (up 0) (up (suc i)) e, line.one), omega arith)
      go i false e (inl k) u v =
          let z : n - 1 ≡ i = omega arith in
          absurd (omega (arith, ltb-false (up 0) (up i) e, line.one, ap up z))
      go i false e (inr k) u v = inl (omega (arith, ltb-false (up 0) (up i) e), k)

  -- So each page is predicted on the middle page or the next, at most q away.
  near-middle : q ≤ b.g → b.first ≤ p → p + n ≤ suc b.last → (i : ℕ) → i < n → Near b (p + i) (sub_ℕ (p + q) (up 0) +ℤ pos (up i))
  near-middle m f t i h = go (side i h)
    where
      go : ((up i ≡ up 0) × (suc i < n)) ⊎ ((up i ≡ suc (up 0)) × (1 ≤ i)) → Near b (p + i) (sub_ℕ (p + q) (up 0) +ℤ pos (up i))
      go (inl (e, k)) = record {
        page = p + q;
        is = sub_plus (p + q) (up 0) (up i) (omega arith) ∙ ap pos (omega arith);
        below = omega arith;
        above = omega arith;
        from = omega arith;
        to = omega arith;
      }
      go (inr (e, k)) = record {
        page = p + q + 1;
        is = sub_plus (p + q) (up 0) (up i) (omega arith) ∙ ap pos (omega arith);
        below = omega arith;
        above = omega arith;
        from = omega arith;
        to = omega arith;
      }

  few-approximate : q ≤ b.g → b.first ≤ p → p + n ≤ suc b.last → ApproximateRun b p l n line.slope (sub_ℕ (p + q) (up 0))
  unfolding up offset
  few-approximate m f t = record { bound = omega arith; slope = line.most; one_group = c; near = near-middle m f t }

-- One page and two are accurate runs.
few-accurate : (l : List ℕ) (n : ℕ) → OneGroup l n → n ≤ 2 → ascending l ≡ true → AccurateRun l n
few-accurate l n c h asc = record {
  one_group = c;
  strided = λ i k.
      let e : i ≡ 0 = omega arith in
      rw e (omega (arith, rises l 0 1 asc (omega arith) (omega (arith, c.inside))));
}

-- Any 2g + 2 pages of a group that follow each other are a run, and any fewer.
pub few-run : (b : Bounds) (p : ℕ) (l : List ℕ) (n : ℕ) → ascending l ≡ true → OneGroup l n → n ≤ 2 * b.g + 2 → b.first ≤ p
    → p + n ≤ suc b.last → AnyRun b p l n
few-run b p l n asc c h f t = go (ltb 2 n) refl
  where
    go : (u : Bool) → ltb 2 n ≡ u → AnyRun b p l n
    go false e = AnyRun.accurate (few-accurate l n c (ltb-false 2 n e) asc)
    go true e =
        let s : 3 ≤ n = ltb-true 2 n e in
        let q : ℕ = (n - 1) / 2 in
        AnyRun.approximate _ _ (few-approximate b p l n q asc c s (omega arith) (omega arith) (omega arith) f t)
