-- A scan along a stride: its start, and a step past a number that fails the test, up and down. Assumes nothing.
use mathlib.Core.Path.{◌≡◌, refl, sym, ◌∙◌, ap}
use mathlib.Core.Option.{Option, some, none, some-injective, none-ne-some}
use mathlib.Core.Bool.{Bool, true, false}
use Prim.Native.Nat.{ℕ, ◌+◌, ◌-◌, ◌%◌, ◌≤◌, ◌<◌}
use native.Mathlib.Omega.{arith}
use native.Mathlib.Nat.{mod-eq-zero_of_dvd, dvd-zero}
use lib.Dec.{ltb, leb}
use borrow.Author.Tests.{ltb-true, ltb-false, le-leb, lt-leb, leb-true, leb-false}
use Rattle.record.specs.Scan.{Failed, FailedAfter, First, FirstFound}
use Rattle.record.proofs.Strides.{step_up, step_down, room_down, gap}

module _ (t : ℕ → Bool) (d : ℕ) where
  pub up_start : (s : ℕ) → Failed t s d s
  up_start s =
      let e : s - s ≡ 0 = omega arith in
      record {
        low = omega arith;
        step = rw e (mod-eq-zero_of_dvd d (dvd-zero d));
        before = λ x h k p. absurd (let z : ⊥ = omega arith in z);
      }

  pub up_step : (s o : ℕ) → Failed t s d o → t o ≡ false → Failed t s d (o + d)
  up_step s o f n = record {
    low = omega (arith, f.low);
    step = step_up s d o f.low f.step;
    before = λ x h k p. go x h k p (ltb x o) refl;
  }
    where
      go : (x : ℕ) → s ≤ x → x < o + d → (x - s) % d ≡ 0 → (b : Bool) → ltb x o ≡ b → t x ≡ false
      go x h k p true e = f.before x h (ltb-true x o e) p
      go x h k p false e = ap t (gap s d o x f.low (ltb-false x o e) k f.step p) ∙ n

  pub down_start : (f e : ℕ) → f ≤ e → (e - f) % d ≡ 0 → FailedAfter t f d e e
  down_start f e h p = record { low = h; high = omega arith; step = p; after = λ x k l q. absurd (let z : ⊥ = omega arith in z) }

  module _ (f e o : ℕ) (some : 0 < d) (more : f < o) (w : FailedAfter t f d e o) where
    pub down_room : f + d ≤ o
    down_room = room_down f d o more w.step

    pub down_step : t o ≡ false → FailedAfter t f d e (o - d)
    down_step n = record {
      low = omega (arith, down_room);
      high = omega (arith, w.high);
      step = below;
      after = λ x h k p. go x h k p (ltb o x) (ltb x o) refl refl;
    }
      where
        below : (o - d - f) % d ≡ 0
        below = step_down f d o more w.step

        go : (x : ℕ) → o - d < x → x ≤ e → (x - f) % d ≡ 0 → (a b : Bool) → ltb o x ≡ a → ltb x o ≡ b → t x ≡ false
        go x h k p true b i j = w.after x (ltb-true o x i) k p
        go x h k p false true i j =
            let l : f ≤ o - d = omega (arith, down_room) in
            let m : o - d ≤ x = omega arith in
            let u : x < o - d + d = omega (arith, ltb-true x o j, down_room) in
            let e : x ≡ o - d = gap f d (o - d) x l m u below p in
            absurd (let z : ⊥ = omega arith in z)
        go x h k p false false i j =
            let e : x ≡ o = omega (arith, ltb-false o x i, ltb-false x o j) in
            ap t e ∙ n

-- what a search for the first answers, by what it went past, and what is known of it then
module _ (t : ℕ → Bool) (s d e : ℕ) where
  pub found_here : (f : ℕ) → Failed t s d f → f ≤ e → t f ≡ true → FirstFound t s d e (some f)
  found_here f w h q = (f, (w, λ k. q), rw (le-leb f e h))

  pub found_nowhere : (f : ℕ) → Failed t s d f → e < f → FirstFound t s d e none
  found_nowhere f w h = (f, (w, λ k. absurd (let z : ⊥ = omega arith in z)), rw (lt-leb f e h))

  pub found_some : (f : ℕ) → FirstFound t s d e (some f) → First t s d e f × (f ≤ e)
  found_some f (g, w, is) = go (leb g e) refl is
    where
      go : (b : Bool) → leb g e ≡ b → some f ≡ elim b [ true ↦ some g | false ↦ none ] → First t s d e f × (f ≤ e)
      go true k q = let same : f ≡ g = some-injective f g q in rw same (w, leb-true g e k)
      go false k q = absurd (none-ne-some f (sym q))

  pub found_none : FirstFound t s d e none → (f : ℕ) × First t s d e f × (e < f)
  found_none (g, w, is) = go (leb g e) refl is
    where
      go : (b : Bool) → leb g e ≡ b → ◌≡◌ {A = Option ℕ} none (elim b [ true ↦ some g | false ↦ none ]) → (f : ℕ) × First t s d e f × (e < f)
      go true k q = absurd (none-ne-some g q)
      go false k q = (g, w, leb-false g e k)
