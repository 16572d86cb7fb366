-- Places and pages: what suits, how far slopes go and what is best is on pages from page p on as it is in places, with p added to
-- intercepts. Assumes nothing.
use mathlib.Core.Path.{◌≡◌, refl, sym, ap, ◌∙◌}
use mathlib.Core.List.{List, [], ◌∷◌}
use mathlib.Core.Bool.{Bool, true, false}
use Prim.Native.Nat.{ℕ, zero, suc, ◌+◌, ◌*◌, ◌-◌, ◌≤◌, ◌<◌, min, max}
use native.Mathlib.Omega.{arith}
use lib.Dec.{leb, eqb}
use lib.ListN.{length, get_or, take}
use borrow.Author.Tests.{leb-true, le-leb, leb-false, lt-leb, eqb-true, eqb-false, eq-eqb, ne_eqb}
use Rattle.model.specs.Device.{ceil}
use Rattle.model.specs.Learning.{Bounds, Intercepts, Reach, Fit, suiting, common, longer, extend, reach, wrong_at, wrongs, fit_of, beats, better, best_of, fit, best_fit}
use Rattle.model.specs.Demand2.{bounds_of}
use Rattle.model.proofs.Approximation.{rise-small}
use Rattle.learn.specs.Runs.{on_pages}
use Rattle.slopes.specs.Slopes.{place_bounds}

-- each is an offset
abbrev pub Offsets : List ℕ → Type 0
Offsets l = (j : ℕ) → j < length l → get_or l j 0 < 256

least_on : (p q g c : ℕ) → c ≤ 255 → (max (p + q - g) p + 256) - c ≡ p + ((max (q - g) 0 + 256) - c)
least_on p q g c h = omega arith

most_on : (p q g n c : ℕ) → c ≤ 255 → 1 ≤ n → (min (p + q + g) (p + n - 1) + 256) - c ≡ p + ((min (q + g) (n - 1) + 256) - c)
most_on p q g n c h k = omega arith

max_more : (p n m : ℕ) → max (p + n) (p + m) ≡ p + max n m
max_more p n m = omega arith

min_more : (p n m : ℕ) → min (p + n) (p + m) ≡ p + min n m
min_more p n m = omega arith

-- intercepts and reaches in places, on the pages from page p on
abbrev intercepts_on : ℕ → Intercepts → Intercepts
intercepts_on p i = record { least = p + i.least; most = p + i.most }

abbrev reach_on : ℕ → Reach → Reach
reach_on p r = record { size = r.size; suit = intercepts_on p r.suit }

common_on : (p : ℕ) (i j : Intercepts) → common (intercepts_on p i) (intercepts_on p j) ≡ intercepts_on p (common i j)
unfolding common
common_on p i j = rw (max_more p i.least j.least, min_more p i.most j.most)

-- a page is taken, or not
module _ (b : Bounds) (a p o : ℕ) (l : List ℕ) (m t : Intercepts) (e : common m (suiting b a o p) ≡ t) where
  extend-goes : t.least ≤ t.most → extend b a m p (o ∷ l) ≡ longer (extend b a t (suc p) l)
  unfolding extend
  extend-goes h =
      let c : Intercepts = common m (suiting b a o p) in
      let q : leb c.least c.most ≡ true = rw e (le-leb _ _ h) in
      rw (q, extend) (ap (λ (i : Intercepts). longer (extend b a i (suc p) l)) e)

  extend_breaks : t.most < t.least → extend b a m p (o ∷ l) ≡ record { size = 0; suit = m }
  unfolding extend
  extend_breaks h =
      let c : Intercepts = common m (suiting b a o p) in
      let q : leb c.least c.most ≡ false = rw e (lt-leb _ _ h) in
      rw (q, extend)

module _ (p g : ℕ) (w : List ℕ) (some : 1 ≤ length w) (a : ℕ) (flat : a ≤ 256) where
  abbrev b : Bounds
  b = bounds_of g p w

  abbrev c : Bounds
  c = place_bounds g w

  suiting_on : (o q : ℕ) → o < 256 → suiting b a o (p + q) ≡ intercepts_on p (suiting c a o q)
  unfolding suiting
  suiting_on o q h =
      let k : ceil (a * o) 256 ≤ 255 = rise-small a o flat h in
      rw (least_on p q g (ceil (a * o) 256) k, most_on p q g (length w) (ceil (a * o) 256) k some)

  extend_on : (i : Intercepts) (q : ℕ) (l : List ℕ) → Offsets l → extend b a (intercepts_on p i) (p + q) l ≡ reach_on p (extend c a i q l)
  unfolding extend longer
  extend_on i q [] h = refl
  extend_on i q (o ∷ l) h = go (leb j.least j.most) refl (extend_on j (suc q) l (λ n k. h (suc n) (omega arith)))
    where
      j : Intercepts
      j = common i (suiting c a o q)

      e : common (intercepts_on p i) (suiting b a o (p + q)) ≡ intercepts_on p j
      e = ap (common (intercepts_on p i)) (suiting_on o q (h 0 (omega arith))) ∙ common_on p i (suiting c a o q)

      go : (t : Bool) → leb j.least j.most ≡ t → extend b a (intercepts_on p j) (p + suc q) l ≡ reach_on p (extend c a j (suc q) l)
          → extend b a (intercepts_on p i) (p + q) (o ∷ l) ≡ reach_on p (extend c a i q (o ∷ l))
      go true f ih =
          let n : suc (p + q) ≡ p + suc q = omega arith in
          let k : j.least ≤ j.most = leb-true _ _ f in
          extend-goes b a (p + q) o l (intercepts_on p i) (intercepts_on p j) e (omega arith)
          ∙ ap longer (ap (λ (r : ℕ). extend b a (intercepts_on p j) r l) n ∙ ih)
          ∙ ap (reach_on p) (sym (extend-goes c a q o l i j refl k))
      go false f ih =
          let k : j.most < j.least = leb-false _ _ f in
          extend_breaks b a (p + q) o l (intercepts_on p i) (intercepts_on p j) e (omega arith) ∙ ap (reach_on p) (sym (extend_breaks c a q o l i j refl k))

  reach_on_lem : (q o : ℕ) (l : List ℕ) → Offsets (o ∷ l) → reach b a (p + q) o l ≡ reach_on p (reach c a q o l)
  unfolding reach longer
  reach_on_lem q o l h =
      let n : suc (p + q) ≡ p + suc q = omega arith in
      ap longer (ap (λ (i : Intercepts). extend b a i (suc (p + q)) l) (suiting_on o q (h 0 (omega arith)))
      ∙ ap (λ (r : ℕ). extend b a (intercepts_on p (suiting c a o q)) r l) n
      ∙ extend_on (suiting c a o q) (suc q) l (λ m k. h (suc m) (omega arith)))

-- The wrong predictions are as many.
wrong_on : (p a u o q : ℕ) → wrong_at a (p + u) o (p + q) ≡ wrong_at a u o q
unfolding wrong_at
wrong_on p a u o q = go (eqb (u + ceil (a * o) 256) (q + 256)) refl
  where
    go : (t : Bool) → eqb (u + ceil (a * o) 256) (q + 256) ≡ t → wrong_at a (p + u) o (p + q) ≡ wrong_at a u o q
    go true e =
        let h : p + u + ceil (a * o) 256 ≡ p + q + 256 = omega (arith, eqb-true (u + ceil (a * o) 256) (q + 256) e) in
        rw (e, eq-eqb _ _ h, wrong_at)
    go false e =
        let h : p + u + ceil (a * o) 256 ≡ p + q + 256 → ⊥ = λ k. eqb-false (u + ceil (a * o) 256) (q + 256) e (omega (arith, k)) in
        rw (e, ne_eqb _ _ h, wrong_at)

wrongs_on : (p a u q : ℕ) (l : List ℕ) → wrongs a (p + u) (p + q) l ≡ wrongs a u q l
unfolding wrongs
wrongs_on p a u q [] = refl
wrongs_on p a u q (o ∷ l) =
    let n : suc (p + q) ≡ p + suc q = omega arith in
    let k : wrongs a (p + u) (suc (p + q)) l ≡ wrongs a u (suc q) l = rw n (wrongs_on p a u (suc q) l) in
    rw (wrong_on p a u o q, k)

fit_of_on : (p q : ℕ) (xs : List ℕ) (n a u : ℕ) → fit_of (p + q) xs n a (p + u) ≡ on_pages p (fit_of q xs n a u)
unfolding fit_of
fit_of_on p q xs n a u = rw (wrongs_on p a u q (take n xs))

-- The better one is the same, ..
better_on : (p : ℕ) (f h : Fit) → better (on_pages p f) (on_pages p h) ≡ on_pages p (better f h)
unfolding better beats
better_on p f h = go (beats h f) refl
  where
    go : (t : Bool) → beats h f ≡ t → better (on_pages p f) (on_pages p h) ≡ on_pages p (better f h)
    go true e = rw (e, better)
    go false e = rw (e, better)

best_of_on : (p q : ℕ) (xs : List ℕ) (n a u m : ℕ) → best_of (p + q) xs n a (p + u) m ≡ on_pages p (best_of q xs n a u m)
unfolding best_of
best_of_on p q xs n a u zero = fit_of_on p q xs n a u
best_of_on p q xs n a u (suc m) =
    let k : suc (p + u) ≡ p + suc u = omega arith in
    let e : best_of (p + q) xs n a (suc (p + u)) m ≡ on_pages p (best_of q xs n a (suc u) m) = rw k (best_of_on p q xs n a (suc u) m) in
    rw (fit_of_on p q xs n a u, e) (better_on p (fit_of q xs n a u) (best_of q xs n a (suc u) m))

module _ (p g : ℕ) (w : List ℕ) (some : 1 ≤ length w) (q x : ℕ) (l : List ℕ) (h : Offsets (x ∷ l)) where
  -- .. so that of a slope, ..
  fit_on : (a : ℕ) → a ≤ 256 → fit (bounds_of g p w) a (p + q) x l ≡ on_pages p (fit (place_bounds g w) a q x l)
  unfolding fit
  fit_on a k = ap within (reach_on_lem p g w some a k q x l h) ∙ go (reach (place_bounds g w) a q x l)
    where
      within : Reach → Fit
      within r = best_of (p + q) (x ∷ l) r.size a r.suit.least (r.suit.most - r.suit.least)

      go : (r : Reach) → within (reach_on p r) ≡ on_pages p (best_of q (x ∷ l) r.size a r.suit.least (r.suit.most - r.suit.least))
      go r =
          let n : p + r.suit.most - (p + r.suit.least) ≡ r.suit.most - r.suit.least = omega arith in
          rw n (best_of_on p q (x ∷ l) r.size a r.suit.least (r.suit.most - r.suit.least))

  -- .. and that of several.
  pub best_on : (a n : ℕ) → a + n ≤ 256 → best_fit (bounds_of g p w) (p + q) (x ∷ l) a n ≡ on_pages p (best_fit (place_bounds g w) q (x ∷ l) a n)
  unfolding best_fit
  best_on a zero k = fit_on a (omega arith)
  best_on a (suc n) k =
      rw (fit_on a (omega arith), best_on (suc a) n (omega arith))
      (better_on p (fit (place_bounds g w) a q x l) (best_fit (place_bounds g w) q (x ∷ l) (suc a) n))
