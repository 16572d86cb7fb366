-- The accurate run and the single: their members are the offsets taken, their predictions exact. Assumes nothing.
use mathlib.Core.Path.{◌≡◌, refl, sym, ◌∙◌, ap, subst}
use mathlib.Core.List.{List, [], ◌∷◌}
use mathlib.Core.Bool.{Bool, true, false, ◌&&◌}
use Prim.Native.Nat.{ℕ, zero, suc, ◌+◌, ◌*◌, ◌-◌, ◌/◌, ◌%◌, ◌≤◌, ◌<◌}
use native.Mathlib.Omega.{arith}
use native.Mathlib.Nat.{add-mul-div_right, mul-le-mul_right, le_of_mul-le-mul_right, div-mul_cancel, dvd_of_mod-eq-zero, mul-mod_left}
use lib.Dec.{leb, eqb}
use lib.ListN.{length, get_or, take}
use lib.Seq.{get_or-take, length-take-le}
use lib.IntN.{ℤ, pos, sub_ℕ}
use borrow.Author.Tests.{leb-true, eqb-true, le-leb, eq-eqb}
use Rattle.model.specs.Lists.{elem}
use Rattle.model.specs.Device.{ceil}
use Rattle.model.specs.Record.{Record, Kind, accurate, kind_of, covers, member_as, member, rise, predict}
use Rattle.model.specs.Learning.{Bounds, stride_length, accurate_run}
use Rattle.model.specs.Sound.{is_empty, sound_as}
use Rattle.model.specs.Demand2.{Near}
use Rattle.model.proofs.Bools.{and_l, and_r, and_i, iff_bool}
use Rattle.model.proofs.Lists.{Asc, next, At, elem_at, elem_here, elem_there}
use Rattle.model.proofs.Parts.{Below, elem-take}
use Rattle.model.proofs.Run.{RunOf, kind_even, sub_plus}

-- k strides more are k pages more
ceil-step : (x k d : ℕ) → 0 < d → ceil (x + k * d) d ≡ ceil x d + k
ceil-step x k d h =
    let e : x + k * d + (d - 1) ≡ x + (d - 1) + k * d = omega arith in
    rw e (add-mul-div_right (x + (d - 1)) k h)

-- A record of stride d over the offsets xs, n strides from x on.
module _ (p x d n : ℕ) (xs : List ℕ) (some : 0 < d) (inside : n < length xs) (at : (j : ℕ) → j < suc n → get_or xs j 0 ≡ x + j * d) where
  strided : Record
  strided = record { start = x; span = n * d; word = 2 * d; intercept = sub_ℕ p (ceil x d); owned = [] }

  on_stride_lem : (o : ℕ) → member_as (accurate d) strided o ≡ true → elem o (take (suc n) xs) ≡ true
  unfolding member_as covers strided
  on_stride_lem o h =
      let c = and_l (leb x o && leb o (x + n * d)) _ h in
      let low : x ≤ o = leb-true x o (and_l (leb x o) _ c) in
      let high : o ≤ x + n * d = leb-true o (x + n * d) (and_r (leb x o) _ c) in
      let z : (o - x) % d ≡ 0 = eqb-true ((o - x) % d) 0 (and_r (leb x o && leb o (x + n * d)) _ h) in
      let j : ℕ = (o - x) / d in
      let m : j * d ≡ o - x = div-mul_cancel d (dvd_of_mod-eq-zero d z) in
      let b : j ≤ n = le_of_mul-le-mul_right {k = d} (omega (arith, m, low, high)) some in
      let e : get_or xs j 0 ≡ o = at j (omega (arith, b)) ∙ omega (arith, low, m) in
      subst (λ (w : ℕ). elem w (take (suc n) xs) ≡ true) e (elem-take xs (suc n) j (omega (arith, b)) inside)

  of_stride : (o : ℕ) → elem o (take (suc n) xs) ≡ true → member_as (accurate d) strided o ≡ true
  unfolding member_as covers strided
  of_stride o h =
      let a : At o (take (suc n) xs) = elem_at o (take (suc n) xs) h in
      let j : ℕ = a.index in
      let b : j < suc n = omega (arith, a.inside, length-take-le (suc n) xs inside) in
      let e : o ≡ x + j * d = sym a.here ∙ get_or-take (suc n) xs j 0 b ∙ at j b in
      let w : o - x ≡ j * d = omega (arith, e) in
      let z : (o - x) % d ≡ 0 = ap (λ (q : ℕ). q % d) w ∙ mul-mod_left j d in
      let low : x ≤ o = omega (arith, e) in
      let high : o ≤ x + n * d = omega (arith, e, mul-le-mul_right {m = j} {n = n} d (omega (arith, b))) in
      and_i (leb x o && leb o (x + n * d)) _ (and_i (leb x o) _ (le-leb x o low) (le-leb o (x + n * d) high)) (eq-eqb ((o - x) % d) 0 z)

  stride-members : (o : ℕ) → member strided o ≡ elem o (take (suc n) xs)
  unfolding member strided
  stride-members o =
      ap (λ (k : Kind). member_as k strided o) (kind_even d some) ∙ iff_bool _ _ (on_stride_lem o) (of_stride o)

  stride-exact : (i : ℕ) → i < suc n → predict strided (get_or xs i 0) ≡ pos (p + i)
  unfolding predict strided rise
  stride-exact i h = rw (kind_even d some, at i h, ceil-step x i d some) (sub_plus p (ceil x d) (ceil x d + i) (omega arith) ∙ ap pos (omega arith))

  stride-sound : d ≤ 255 → sound_as (kind_of (2 * d)) strided ≡ true
  unfolding sound_as is_empty strided
  stride-sound h =
      rw (kind_even d some) (and_i (leb d 255 && eqb (n * d % d) 0) _
      (and_i (leb d 255) _ (le-leb d 255 h) (eq-eqb (n * d % d) 0 (mul-mod_left n d))) refl)

-- what the stride's count passes over stands on the stride
stride_at : (d x : ℕ) (l : List ℕ) (i : ℕ) → i ≤ stride_length d x l → get_or (x ∷ l) i 0 ≡ x + i * d
unfolding stride_length
stride_at d x l zero h = omega arith
stride_at d x [] (suc i) h = absurd (omega arith)
stride_at d x (y ∷ l) (suc i) h = go (eqb y (x + d)) refl (stride_at d y l i)
  where
    go : (t : Bool) → eqb y (x + d) ≡ t → (i ≤ stride_length d y l → get_or (y ∷ l) i 0 ≡ y + i * d) → get_or (y ∷ l) i 0 ≡ x + suc i * d
    go true e ih =
        let k : i ≤ stride_length d y l = omega (arith, rw (e, stride_length) at h) in
        let q : y ≡ x + d = eqb-true y (x + d) e in
        omega (arith, ih k)
    go false e ih = absurd (omega (arith, rw (e, stride_length) at h))

-- the stride's count is at most what is there
pub stride-inside : (d x : ℕ) (l : List ℕ) → stride_length d x l ≤ length l
unfolding stride_length
stride-inside d x [] = omega arith
stride-inside d x (y ∷ l) = go (eqb y (x + d)) refl (stride-inside d y l)
  where
    go : (t : Bool) → eqb y (x + d) ≡ t → stride_length d y l ≤ length l → stride_length d x (y ∷ l) ≤ length (y ∷ l)
    go true e h = rw (e, stride_length) (omega arith)
    go false e h = rw (e, stride_length) (omega arith)

-- the offsets from x and y on, at the stride of those two
pub from_two : (x y : ℕ) (l : List ℕ) → x < y → (j : ℕ) → j < suc (suc (stride_length (y - x) y l)) → get_or (x ∷ y ∷ l) j 0 ≡ x + j * (y - x)
from_two x y l h zero k = omega arith
from_two x y l h (suc j) k = omega (arith, stride_at (y - x) y l j (omega arith))

-- an exact prediction of one of the batch's pages is within the bounds
exact-near : (b : Bounds) (p : ℕ) {z : ℤ} → b.first ≤ p → p ≤ b.last → z ≡ pos p → Near b p z
exact-near b p h k e = record { page = p; is = e; below = omega arith; above = omega arith; from = h; to = k }

elem_one : (o x : ℕ) → eqb o x ≡ elem o (x ∷ [])
unfolding elem
elem_one o x = go (eqb o x) refl
  where
    go : (t : Bool) → eqb o x ≡ t → eqb o x ≡ elem o (x ∷ [])
    go true e = rw (e, elem)
    go false e = rw (e, elem)

single-run : (b : Bounds) (k p x : ℕ) → b.first ≤ p → p ≤ b.last → RunOf b k p (x ∷ []) (accurate_run k p x [])
unfolding accurate_run member member_as kind_of predict rise sound_as is_empty
single-run b k p x h m = record {
  group = refl;
  filled = omega arith;
  inside = omega arith;
  members = λ o. elem_one o x;
  ends = omega arith;
  sound = refl;
  exact = λ q. at_page;
  near = λ i q. exact-near b (p + i) (omega arith) (omega arith) (at_page i q);
}
  where
    at_page : (i : ℕ) → i < 1 → pos (p + 0) ≡ pos (p + i)
    at_page i q = ap pos (omega arith)

stride-run : (b : Bounds) (k p x y : ℕ) (l : List ℕ) → x < y → y < 256 → b.first ≤ p → p + length (x ∷ y ∷ l) ≤ suc b.last
    → RunOf b k p (x ∷ y ∷ l) (accurate_run k p x (y ∷ l))
unfolding accurate_run strided
stride-run b k p x y l h c f m =
    let n : ℕ = suc (stride_length (y - x) y l) in
    let s : 0 < y - x = omega arith in
    let inside : n < length (x ∷ y ∷ l) = omega (arith, stride-inside (y - x) y l) in
    let at = from_two x y l h in
    let e : suc n - 1 ≡ n = omega arith in
    let exact = stride-exact p x (y - x) n (x ∷ y ∷ l) s inside at in
    record {
      group = refl;
      filled = omega arith;
      inside = inside;
      members = stride-members p x (y - x) n (x ∷ y ∷ l) s inside at;
      ends = sym (ap (λ (w : ℕ). get_or (x ∷ y ∷ l) w 0) e ∙ at n (omega arith));
      sound = stride-sound p x (y - x) n (x ∷ y ∷ l) s inside at (omega arith);
      exact = λ q. exact;
      near = λ i q. exact-near b (p + i) (omega arith) (omega (arith, q, inside)) (exact i q);
    }

-- The accurate run, a single where one page is left: it takes the first offsets, and predicts each page.
pub accurate_run_lem : (b : Bounds) (k p x : ℕ) (l : List ℕ) {z : ℕ} → Asc z (x ∷ l) → Below 256 (x ∷ l) → b.first ≤ p
    → p + length (x ∷ l) ≤ suc b.last
    → RunOf b k p (x ∷ l) (accurate_run k p x l)
accurate_run_lem b k p x [] a s h m = single-run b k p x h (omega arith)
accurate_run_lem b k p x (y ∷ l) (next q (next r a)) s h m = stride-run b k p x y l r (s y (elem_there y x (y ∷ l) (elem_here y l))) h m
