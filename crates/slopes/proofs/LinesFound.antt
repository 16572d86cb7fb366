-- The ends of lines, found from the last of some places back to the first. Assumes nothing.
use mathlib.Core.Path.{◌≡◌, refl, sym, ap, ◌∙◌}
use mathlib.Core.List.{List}
use mathlib.Core.Bool.{Bool, true, false}
use Prim.Native.Nat.{ℕ, suc, ◌+◌, ◌-◌, ◌≤◌, ◌<◌}
use native.Mathlib.Omega.{arith}
use lib.Dec.{ltb, eqb}
use lib.ListN.{length, get_or, set, length-set}
use lib.Seq.{get_or-set_same, get_or-set_other}
use borrow.Author.Tests.{ltb-true, ltb-false, eqb-true, eqb-false}
use Rattle.model.specs.Lists.{ascending}
use Rattle.slopes.specs.Places.{page_at}
use Rattle.slopes.specs.Slopes.{Line}
use Rattle.model.proofs.Ascent.{rises}

-- a line of one step
one_step : (w : List ℕ) (q : ℕ) → Line w q q
one_step w q = record {
  low = omega arith;
  steps = λ j h k. let e : j ≡ q = omega arith in rw e;
}

-- a step before a line at its stride
step-before : (w : List ℕ) (q e : ℕ) → Line w (suc q) e → page_at w (suc q) - page_at w q ≡ page_at w q - page_at w (q - 1) → Line w q e
step-before w q e l f = record {
  low = omega (arith, l.low);
  steps = λ j h k. go j h k (eqb j q) refl;
}
  where
    go : (j : ℕ) → q ≤ j → j ≤ e → (t : Bool) → eqb j q ≡ t → page_at w j - page_at w (j - 1) ≡ page_at w q - page_at w (q - 1)
    go j h k true x = let y : j ≡ q = eqb-true j q x in rw y
    go j h k false x =
        let n : j ≡ q → ⊥ = eqb-false j q x in
        let y : suc q - 1 ≡ q = omega arith in
        (rw y at (l.steps j (omega arith) k)) ∙ f

-- the places behind i and before e have the ends of their lines from place j on; end and stride are those of the line at place j, where
-- there is one
pub record Found (w ends : List ℕ) (i e end stride j : ℕ) : Type 0 where
  pub small : j ≤ e
  pub room : 256 ≤ length ends
  pub fits : end ≤ 255
  pub known : (q : ℕ) → i < q → j ≤ q → q < e → (get_or ends q 0 < e) × Line w q (get_or ends q 0)
  pub here : j < e → (end < e) × Line w j end × (stride ≡ page_at w j - page_at w (j - 1))
  pub fresh : e ≤ j → stride ≡ 0

module _ (w ends : List ℕ) (i e end stride j : ℕ) (f : Found w ends i e end stride j)
    (asc : ascending w ≡ true) (whole : e ≤ length w) (few : length w ≤ 256) (low : i + 1 < j) where
  -- the place before
  abbrev p : ℕ
  p = j - 1

  abbrev step : ℕ
  step = page_at w p - page_at w (p - 1)

  -- the end there
  next_found : (n : ℕ) → n < e → Line w p n → Found w (set ends p n) i e n step p
  next_found n h l = record {
    small = omega (arith, f.small);
    room = omega (arith, length-set ends p n, f.room);
    fits = omega arith;
    known = λ q k m r. go q k m r (eqb q p) refl;
    here = λ k. (h, l, refl);
    fresh = λ k. absurd (let z : ⊥ = omega (arith, f.small) in z);
  }
    where
      go : (q : ℕ) → i < q → p ≤ q → q < e → (t : Bool) → eqb q p ≡ t → (get_or (set ends p n) q 0 < e) × Line w q (get_or (set ends p n) q 0)
      go q k m r true x =
          let y : q ≡ p = eqb-true q p x in
          let b : p < length ends = omega (arith, f.room, f.small) in
          rw (y, get_or-set_same ends p n 0 b) (h, l)
      go q k m r false x =
          let y : q ≡ p → ⊥ = eqb-false q p x in
          let b : j ≤ q = omega arith in
          rw (get_or-set_other ends p q n 0 y) (f.known q k b r)

  -- where the stride is that of the line behind it, that line is there
  behind : step ≡ stride → j < e
  behind x = go (ltb j e) refl
    where
      go : (t : Bool) → ltb j e ≡ t → j < e
      go true y = ltb-true _ _ y
      go false y =
          let r : page_at w (p - 1) < page_at w p = rises w (p - 1) p asc (omega arith) (omega (arith, f.small)) in
          absurd (let z : ⊥ = omega (arith, f.fresh (ltb-false j e y)) in z)

  -- a line of its own
  pub found-own : (n : ℕ) → n ≡ p → Found w (set ends p n) i e n step p
  found-own n x = next_found n (omega (arith, f.small)) (rw x (one_step w p))

  -- the line behind it goes on
  pub found_more : (n : ℕ) → step ≡ stride → n ≡ end → Found w (set ends p n) i e n step p
  found_more n x y =
      let b = f.here (behind x) in
      let z : j ≡ suc p = omega arith in
      let l : Line w (suc p) end = rw z at b.1 in
      let s : stride ≡ page_at w (suc p) - page_at w p = b.2 ∙ ap (λ (k : ℕ). page_at w k - page_at w p) z in
      next_found n (omega (arith, b.0)) (rw y (step-before w p end l (sym s ∙ sym x)))
