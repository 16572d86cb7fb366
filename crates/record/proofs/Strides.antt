-- Numbers that lie whole strides d apart: the test for them, sums, differences, and that none lies between two neighbours. Assumes nothing.
use mathlib.Core.Path.{◌≡◌}
use mathlib.Core.Bool.{true, ◌&&◌}
use Prim.Native.Nat.{ℕ, ◌+◌, ◌-◌, ◌%◌, ◌≤◌, ◌<◌}
use native.Mathlib.Omega.{arith}
use native.Mathlib.Nat.{mod-eq-zero_of_dvd, dvd_of_mod-eq-zero, dvd-add, dvd-sub, dvd_refl, le_of_dvd, mod-eq_of_lt}
use lib.Dec.{leb}
use borrow.Author.Tests.{leb-true, eqb-true, le-leb, eq-eqb}
use Rattle.model.proofs.Bools.{and_l, and_r, and_i}
use Rattle.model.proofs.Shrink.{step-sub}
use Rattle.record.specs.Scan.{on_stride}

-- o is one of s, s + d, .. to e
pub record Stands (s d e o : ℕ) : Type 0 where
  pub low : s ≤ o
  pub high : o ≤ e
  pub step : (o - s) % d ≡ 0

pub on_stride_lem : {s d e o : ℕ} → Stands s d e o → on_stride s d e o ≡ true
unfolding on_stride
on_stride_lem a = and_i _ _ (and_i _ _ (le-leb _ _ a.low) (le-leb _ _ a.high)) (eq-eqb _ _ a.step)

pub stride_on : (s d e o : ℕ) → on_stride s d e o ≡ true → Stands s d e o
unfolding on_stride
stride_on s d e o h =
    let c = and_l (leb s o && leb o e) _ h in
    record {
      low = leb-true _ _ (and_l (leb s o) _ c);
      high = leb-true _ _ (and_r (leb s o) _ c);
      step = eqb-true _ _ (and_r (leb s o && leb o e) _ h);
    }

pub step_sum : (a b c d : ℕ) → a ≤ b → b ≤ c → (b - a) % d ≡ 0 → (c - b) % d ≡ 0 → (c - a) % d ≡ 0
step_sum a b c d h k p q =
    let e : c - a ≡ (b - a) + (c - b) = omega arith in
    rw e (mod-eq-zero_of_dvd d (dvd-add d (dvd_of_mod-eq-zero d p) (dvd_of_mod-eq-zero d q)))

-- the next one up, and the next one down
pub step_up : (s d o : ℕ) → s ≤ o → (o - s) % d ≡ 0 → (o + d - s) % d ≡ 0
step_up s d o h p =
    let e : o + d - s ≡ (o - s) + d = omega arith in
    rw e (mod-eq-zero_of_dvd d (dvd-add d (dvd_of_mod-eq-zero d p) (dvd_refl d)))

pub room_down : (s d o : ℕ) → s < o → (o - s) % d ≡ 0 → s + d ≤ o
room_down s d o h p =
    let k : 0 < o - s = omega arith in
    omega (arith, le_of_dvd k (dvd_of_mod-eq-zero d p))

pub step_down : (s d o : ℕ) → s < o → (o - s) % d ≡ 0 → (o - d - s) % d ≡ 0
step_down s d o h p =
    let e : o - d - s ≡ (o - s) - d = omega arith in
    rw e (mod-eq-zero_of_dvd d (dvd-sub d (dvd_of_mod-eq-zero d p) (dvd_refl d)))

-- less than a stride above o there is only o
pub gap : (s d o x : ℕ) → s ≤ o → o ≤ x → x < o + d → (o - s) % d ≡ 0 → (x - s) % d ≡ 0 → x ≡ o
gap s d o x h k l p q =
    let z : (x - o) % d ≡ 0 = step-sub s o x d h k p q in
    let small : x - o < d = omega arith in
    let n : (x - o) % d ≡ x - o = mod-eq_of_lt small in
    omega arith
