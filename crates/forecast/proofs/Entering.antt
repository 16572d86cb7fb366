-- A table that gets the forecasts of some offsets one by one: those of a stride, those that an approximate record owns, all. Assumes nothing.
use mathlib.Core.Path.{◌≡◌, refl, sym, ◌∙◌, ap}
use mathlib.Core.List.{List}
use mathlib.Core.Bool.{Bool, true, false, true≢false}
use Prim.Native.Nat.{ℕ, suc, ◌+◌, ◌-◌, ◌*◌, ◌/◌, ◌%◌, ◌≤◌, ◌<◌}
use native.Mathlib.Omega.{arith}
use native.Mathlib.Nat.{mod-eq-zero_of_dvd, dvd-zero, zero-div, add-mul-div_right}
use lib.Dec.{eqb}
use lib.ListN.{length, get_or, set}
use borrow.Author.Tests.{eqb-true}
use Rattle.record.specs.Scan.{on_stride}
use Rattle.record.proofs.Strides.{on_stride_lem, stride_on, step_up, gap}
use Rattle.record.proofs.Renewing.{Renewed, renewed_start, renewed_turn, renewed_end}
use Rattle.forecast.specs.Forecast.{Entered, chosen}

-- a number of a table that has f at the offsets that pass the test, and m's elsewhere
abbrev pub Entering : (ℕ → Bool) → (ℕ → ℕ) → List ℕ → ℕ → ℕ → Type 0
Entering has f m i x = i < 256 → (has i ≡ true → x ≡ f i) × (has i ≡ false → x ≡ get_or m i 0)

module _ (has : ℕ → Bool) (f : ℕ → ℕ) (m : List ℕ) where
  abbrev pub EnteringSo : List ℕ → ℕ → Type 0
  EnteringSo n o = Renewed (Entering has f m) m n o

  untouched : (i : ℕ) → (i < 256 → has i ≡ true → ⊥) → Entering has f m i (get_or m i 0)
  untouched i none h = (λ e. absurd (none h e), λ e. refl)

  pub entering_start : (s : ℕ) → ((i : ℕ) → i < 256 → has i ≡ true → s ≤ i) → EnteringSo m s
  entering_start s low = renewed_start (Entering has f m) m s (λ i a. untouched i (λ h e. omega (arith, low i h e)))

  pub entering_turn : (n : List ℕ) (o x d : ℕ) → EnteringSo n o → length m ≡ 256 → o < 256 → (has o ≡ true → x ≡ f o) → (has o ≡ false → x ≡ get_or n o 0)
      → ((i : ℕ) → o < i → i < o + d → has i ≡ true → ⊥) → 0 < d → EnteringSo (set n o x) (o + d)
  entering_turn n o x d so long inside entered left none some =
      renewed_turn (Entering has f m) m n o x d so (omega arith) (λ h. (entered, λ e. left e ∙ so.left o (omega arith))) (λ i a b. untouched i (λ h. none i a b)) some

  pub entering_end : (n : List ℕ) (o : ℕ) → EnteringSo n o → length m ≡ 256 → ((i : ℕ) → i < 256 → has i ≡ true → i < o) → Entered has f m n
  entering_end n o so long high =
      let all = renewed_end (Entering has f m) m n o so (λ i a. untouched i (λ h e. omega (arith, high i h e))) in
      record { long = so.long ∙ long; into = λ i h. (all i h).0; kept = λ i h. (all i h).1 }

-- the offsets of a stride, with o the next of s, s + d, .., and v its number
module _ (s d e first : ℕ) (m : List ℕ) where
  abbrev pub stride_number : ℕ → ℕ
  stride_number o = first + (o - s) / d

  abbrev pub StridedSo : List ℕ → ℕ → ℕ → Type 0
  StridedSo n v o = EnteringSo (on_stride s d e) stride_number m n o × (s ≤ o) × ((o - s) % d ≡ 0) × (v ≡ stride_number o)

  module _ (long : length m ≡ 256) (byte : e ≤ 255) (some : 0 < d) where
    pub strided-start : StridedSo m first s
    strided-start =
        let z : s - s ≡ 0 = omega arith in
        (entering_start (on_stride s d e) stride_number m s (λ i h on. (stride_on s d e i on).low), omega arith, rw z (mod-eq-zero_of_dvd d (dvd-zero d)), rw z (omega (arith, zero-div d)))

    pub strided-turn : (n : List ℕ) (v o : ℕ) → StridedSo n v o → o ≤ e → StridedSo (set n o v) (v + 1) (o + d)
    strided-turn n v o so inside =
        let on : on_stride s d e o ≡ true = on_stride_lem (record { low = so.1; high = inside; step = so.2 }) in
        let next : o + d - s ≡ (o - s) + 1 * d = omega (arith, so.1) in (
          entering_turn (on_stride s d e) stride_number m n o v d so.0 long (omega arith) (λ i. so.3) (λ i. absurd (true≢false (sym on ∙ i)))
              (λ i a b on. let same = gap s d o i so.1 (omega arith) b so.2 (stride_on s d e i on).step in omega arith) some,
          omega (arith, so.1),
          step_up s d o so.1 so.2,
          rw next (omega (arith, so.3, add-mul-div_right (o - s) 1 some)),
        )

    pub strided-end : (n : List ℕ) (v o : ℕ) → StridedSo n v o → e < o → Entered (on_stride s d e) stride_number m n
    strided-end n v o so past = entering_end (on_stride s d e) stride_number m n o so.0 long (λ i h on. omega (arith, (stride_on s d e i on).high))

-- the offsets whose owner, by w, is the record that starts at s, which lie between s and e; k is its slope
abbrev pub names : (ℕ → ℕ) → ℕ → ℕ → Bool
names w s o = eqb (w o) (suc s)

module _ (w : ℕ → ℕ) (s e k first : ℕ) (m : List ℕ) where
  abbrev pub slope_number : ℕ → ℕ
  slope_number o = first + (k * o + 255) / 256

  abbrev pub OwnedSo : List ℕ → ℕ → ℕ → Type 0
  OwnedSo n up o = EnteringSo (names w s) slope_number m n o × (s ≤ o) × (up ≡ k * o + 255)

  module _ (range : (o : ℕ) → o < 256 → w o ≡ suc s → (s ≤ o) × (o ≤ e)) (long : length m ≡ 256) where
    pub owned-start : (up : ℕ) → up ≡ k * s + 255 → OwnedSo m up s
    owned-start up e = (entering_start (names w s) slope_number m s (λ i h on. (range i h (eqb-true _ _ on)).0), omega arith, e)

    pub owned-turn : (n : List ℕ) (up o v x : ℕ) → OwnedSo n up o → o < 256 → v ≡ w o → x ≡ chosen (eqb v (suc s)) (first + up / 256) (get_or n o 0)
        → OwnedSo (set n o x) (up + k) (o + 1)
    unfolding chosen
    owned-turn n up o v x so inside is here = (
      entering_turn (names w s) slope_number m n o x 1 so.0 long inside
          (λ on. here ∙ ap (λ (y : ℕ). chosen (eqb y (suc s)) (first + up / 256) (get_or n o 0)) is ∙ ap (λ (t : Bool). chosen t (first + up / 256) (get_or n o 0)) on ∙ ap (λ (y : ℕ). first + y / 256) so.2)
          (λ off. here ∙ ap (λ (y : ℕ). chosen (eqb y (suc s)) (first + up / 256) (get_or n o 0)) is ∙ ap (λ (t : Bool). chosen t (first + up / 256) (get_or n o 0)) off)
          (λ i a b on. omega arith) (omega arith),
      omega (arith, so.1),
      omega (arith, so.2),
    )

    pub owned-end : (n : List ℕ) (up o : ℕ) → OwnedSo n up o → e < o → Entered (names w s) slope_number m n
    owned-end n up o so past = entering_end (names w s) slope_number m n o so.0 long (λ i h on. omega (arith, (range i h (eqb-true _ _ on)).1))
