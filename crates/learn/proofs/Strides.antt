-- Pages that go on at one stride, and how many they are: the count goes on where the next page of the group is one stride on. Assumes
-- nothing.
use mathlib.Core.Path.{◌≡◌, refl, sym, ap, ◌∙◌}
use mathlib.Core.Logic.{◌⊎◌, inl, inr}
use mathlib.Core.List.{List, []}
use mathlib.Core.Bool.{Bool, true, false, ◌&&◌}
use Prim.Native.Nat.{ℕ, zero, suc, ◌+◌, ◌*◌, ◌-◌, ◌/◌, ◌%◌, ◌≤◌, ◌<◌}
use native.Mathlib.Omega.{arith}
use native.Mathlib.Nat.{suc-mul}
use lib.Dec.{ltb, eqb}
use lib.ListN.{length, get_or}
use borrow.Author.Tests.{eqb-true, eqb-false, ltb-true, ltb-false, eq-eqb, ne_eqb}
use Rattle.model.specs.Lists.{ascending}
use Rattle.model.specs.Learning.{stride_length}
use Rattle.model.specs.Sound.{is_empty}
use Rattle.model.proofs.Bools.{and_l, and_r}
use Rattle.model.proofs.Lists.{le_cases}
use Rattle.slopes.specs.Places.{ahead_of}
use Rattle.learn.specs.Runs.{Strides}
use Rattle.slopes.proofs.AheadOf.{Goes, ahead-goes, ahead_some, ahead_none}
use Rattle.model.proofs.Ascent.{rises}
use Rattle.learn.proofs.Grouping.{between}

-- one stride more
stride_more : (w : List ℕ) (d i j : ℕ) → i ≤ j → Strides w d i j → get_or w (j + 1) 0 - get_or w j 0 ≡ d → Strides w d i (j + 1)
stride_more w d i j h s e = record { step = λ q k m. go q k (le_cases q j (omega arith)) }
  where
    go : (q : ℕ) → i ≤ q → (j ≡ q) ⊎ (suc q ≤ j) → get_or w (q + 1) 0 - get_or w q 0 ≡ d
    go q k (inl n) = rw n at e
    go q k (inr n) = s.step q k n

-- as a test joined to those before it
pub stride_joins : (w : List ℕ) (d i l : ℕ) (so : Bool) → (so ≡ true → Strides w d i (i + l))
    → (so && eqb (get_or w (i + l + 1) 0 - get_or w (i + l) 0) d) ≡ true → Strides w d i (i + (l + 1))
stride_joins w d i l so s e =
    let n : i + (l + 1) ≡ i + l + 1 = omega arith in
    rw n (stride_more w d i (i + l) (omega arith) (s (and_l so _ e)) (eqb-true _ _ (and_r so _ e)))

-- strides from i to j and on to m
pub strides_on : (w : List ℕ) (d i j m : ℕ) → Strides w d i j → Strides w d j m → Strides w d i m
strides_on w d i j m s t = record { step = λ q k n. go q k n (ltb q j) refl }
  where
    go : (q : ℕ) → i ≤ q → q < m → (u : Bool) → ltb q j ≡ u → get_or w (q + 1) 0 - get_or w q 0 ≡ d
    go q k n true e = s.step q k (ltb-true _ _ e)
    go q k n false e = t.step q (ltb-false _ _ e) n

-- how many pages go on at stride d from place j
abbrev pub onward : List ℕ → ℕ → ℕ → ℕ → ℕ
onward w k d j = stride_length d (get_or w j 0 % 256) (ahead_of w k (j + 1))

module _ (w : List ℕ) (k d j : ℕ) where
  pub stride-ends : ahead_of w k (j + 1) ≡ [] → onward w k d j ≡ 0
  unfolding stride_length
  stride-ends e = ap (stride_length d (get_or w j 0 % 256)) e

  module _ (asc : ascending w ≡ true) (here : get_or w j 0 / 256 ≡ k) (g : Goes w k (j + 1)) where
    up : get_or w j 0 < get_or w (j + 1) 0
    up = rises w j (j + 1) asc (omega arith) g.inside

    pub stride-goes : get_or w (j + 1) 0 - get_or w j 0 ≡ d → onward w k d j ≡ suc (onward w k d (j + 1))
    unfolding stride_length
    stride-goes h =
        let t : get_or w (j + 1) 0 % 256 ≡ get_or w j 0 % 256 + d = omega (arith, up, g.group) in
        ap (stride_length d (get_or w j 0 % 256)) g.is ∙ rw (eq-eqb _ _ t, stride_length)

    pub stride_breaks : (get_or w (j + 1) 0 - get_or w j 0 ≡ d → ⊥) → onward w k d j ≡ 0
    unfolding stride_length
    stride_breaks h =
        let t : get_or w (j + 1) 0 % 256 ≡ get_or w j 0 % 256 + d → ⊥ = λ e. h (omega (arith, up, g.group, e)) in
        ap (stride_length d (get_or w j 0 % 256)) g.is ∙ rw (ne_eqb _ _ t, stride_length)

-- Pages of group k at stride d.
module _ (w : List ℕ) (k d : ℕ) (asc : ascending w ≡ true) where
  -- m pages that go on are counted, ..
  onward_by : (m j : ℕ) → get_or w j 0 / 256 ≡ k → j + m < length w → get_or w (j + m) 0 / 256 ≡ k → Strides w d j (j + m)
      → onward w k d j ≡ m + onward w k d (j + m)
  onward_by zero j h n f s = let z : j + 0 ≡ j = omega arith in rw z (omega arith)
  onward_by (suc m) j h n f s =
      let z : j + suc m ≡ j + 1 + m = omega arith in
      let t = ahead-goes w k (j + 1) (omega arith) (between w j asc (j + suc m) (j + 1) (omega arith) (omega arith) n (f ∙ sym h) ∙ h) in
      let u = stride-goes w k d j asc h t (s.step j (omega arith) (omega arith)) in
      let v = onward_by m (j + 1) t.group (omega arith) (rw z at f) (record { step = λ q a b. s.step q (omega arith) (omega arith) }) in
      rw z (u ∙ omega (arith, v))

  -- .. those from place j to place r, ..
  pub onward_to : (j r : ℕ) → get_or w j 0 / 256 ≡ k → j ≤ r → r < length w → get_or w r 0 / 256 ≡ k → Strides w d j r → onward w k d j ≡ r - j + onward w k d r
  onward_to j r h m n f s = let z : j + (r - j) ≡ r = omega arith in rw z at (onward_by (r - j) j h (omega arith) (rw z f) (rw z s))

  -- .. and n that are counted are n strides long.
  pub onward-long : (n j : ℕ) → get_or w j 0 / 256 ≡ k → onward w k d j ≡ n → get_or w (j + n) 0 ≡ get_or w j 0 + n * d
  onward-long zero j h e = let z : j + 0 ≡ j = omega arith in rw z (omega arith)
  onward-long (suc n) j h e = go (is_empty (ahead_of w k (j + 1))) refl (eqb (get_or w (j + 1) 0 - get_or w j 0) d) refl (onward-long n (j + 1))
    where
      go : (s : Bool) → is_empty (ahead_of w k (j + 1)) ≡ s → (t : Bool) → eqb (get_or w (j + 1) 0 - get_or w j 0) d ≡ t
          → (get_or w (j + 1) 0 / 256 ≡ k → onward w k d (j + 1) ≡ n → get_or w (j + 1 + n) 0 ≡ get_or w (j + 1) 0 + n * d)
          → get_or w (j + suc n) 0 ≡ get_or w j 0 + suc n * d
      go true f t q ih = absurd (omega (arith, e, stride-ends w k d j (ahead_none w k (j + 1) f)))
      go false f false q ih = absurd (omega (arith, e, stride_breaks w k d j asc h (ahead_some w k (j + 1) f) (eqb-false _ _ q)))
      go false f true q ih =
          let g = ahead_some w k (j + 1) f in
          let z : j + suc n ≡ j + 1 + n = omega arith in
          let u = eqb-true _ _ q in
          let v = ih g.group (omega (arith, e, stride-goes w k d j asc h g u)) in
          rw z (omega (arith, suc-mul n d, u, v, rises w j (j + 1) asc (omega arith) g.inside))
