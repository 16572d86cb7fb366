-- The approximate run: its record owns the offsets taken and predicts each within the bounds. Assumes nothing.
use mathlib.Core.Path.{◌≡◌, refl, sym, ◌∙◌, ap}
use mathlib.Core.List.{List, [], ◌∷◌}
use mathlib.Core.Bool.{true≢false, Bool, true, false, ◌&&◌}
use Prim.Native.Nat.{ℕ, zero, suc, ◌+◌, ◌*◌, ◌-◌, ◌≤◌, ◌<◌, min, max}
use native.Mathlib.Omega.{arith}
use native.Mathlib.Nat.{mul-le-mul}
use lib.Dec.{leb, eqb}
use lib.ListN.{length, get_or, take}
use lib.IntN.{pos, sub_ℕ, ◌+ℤ◌}
use borrow.Author.Tests.{leb-true, le-leb, eq-eqb}
use Rattle.model.specs.Lists.{ascending, last_of}
use Rattle.model.specs.Device.{ceil}
use Rattle.model.specs.Record.{approximate, kind_of, member_as, member, rise, predict, is_approximate}
use Rattle.model.specs.Learning.{Bounds, Intercepts, suiting, common, Reach, longer, extend, reach, wrongs, Fit, fit_of, better, best_of, fit, best_fit, approximate_record, approximate_run}
use Rattle.model.specs.Sound.{sound_as, owns_its_ends}
use Rattle.model.specs.Demand2.{Near}
use Rattle.model.proofs.Bools.{and_i}
use Rattle.model.proofs.Lists.{Asc, elem_here, elem-get_or, of_asc, asc_top}
use Rattle.model.proofs.Parts.{Below, take_pred, last_take, asc_take}
use Rattle.model.proofs.Fewest.{Bettered, kept, replaced, bettered, best_one}
use Rattle.model.proofs.Run.{RunOf, kind_odd, sub_plus}

-- u lies from the least to the most of the intercepts
abbrev pub Among : Intercepts → ℕ → Type 0
Among i u = (i.least ≤ u) × (u ≤ i.most)

-- intercept u, plus 256, suits the first n offsets of l at slope a, the first of them on page p
abbrev pub SuitsFirst : Bounds → ℕ → ℕ → ℕ → List ℕ → ℕ → Type 0
SuitsFirst b a u p l n = (j : ℕ) → j < n → Among (suiting b a (get_or l j 0) (p + j)) u

-- r goes on with intercepts i over the offsets l, the first of them on page p
record Extension (b : Bounds) (a : ℕ) (i : Intercepts) (p : ℕ) (l : List ℕ) (r : Reach) : Type 0 where
  inside : r.size ≤ length l
  filled : r.suit.least ≤ r.suit.most
  among : (u : ℕ) → Among r.suit u → Among i u
  suits : (u : ℕ) → Among r.suit u → SuitsFirst b a u p l r.size

among-common : (i j : Intercepts) (u : ℕ) → Among (common i j) u → Among i u × Among j u
unfolding common
among-common i j u h = (omega arith, omega arith)

extension : (b : Bounds) (a : ℕ) (i : Intercepts) (p : ℕ) (l : List ℕ) → i.least ≤ i.most → Extension b a i p l (extend b a i p l)
unfolding extend longer
extension b a i p [] h = record { inside = omega arith; filled = h; among = λ u k. k; suits = λ u k j q. absurd (omega arith) }
extension b a i p (o ∷ l) h = go (leb c.least c.most) refl (λ k. extension b a c (suc p) l k)
  where
    c : Intercepts
    c = common i (suiting b a o p)

    suits' : (r : Reach) → Extension b a c (suc p) l r → (u : ℕ) → Among r.suit u → SuitsFirst b a u p (o ∷ l) (suc r.size)
    suits' r e u m zero k = let q : p + 0 ≡ p = omega arith in rw q (among-common i (suiting b a o p) u (e.among u m)).1
    suits' r e u m (suc j) k = let q : p + suc j ≡ suc p + j = omega arith in rw q (e.suits u m j (omega arith))

    step : (r : Reach) → Extension b a c (suc p) l r → Extension b a i p (o ∷ l) (longer r)
    step r e = record {
      inside = omega (arith, e.inside);
      filled = e.filled;
      among = λ u m. (among-common i (suiting b a o p) u (e.among u m)).0;
      suits = suits' r e;
    }

    go : (t : Bool) → leb c.least c.most ≡ t → (c.least ≤ c.most → Extension b a c (suc p) l (extend b a c (suc p) l))
        → Extension b a i p (o ∷ l) (extend b a i p (o ∷ l))
    go true e ih = rw (e, extend) (step (extend b a c (suc p) l) (ih (leb-true c.least c.most e)))
    go false e ih = rw (e, extend) (record {
      inside = omega arith;
      filled = h;
      among = λ u k. k;
      suits = λ u k j q. absurd (omega arith);
    })

-- f fits the first of the offsets xs, on the pages from p on, and counts its wrong predictions
pub record Fitting (b : Bounds) (p : ℕ) (xs : List ℕ) (f : Fit) : Type 0 where
  pub slope : f.slope ≤ 256
  pub filled : 1 ≤ f.size
  pub inside : f.size ≤ length xs
  pub suits : SuitsFirst b f.slope f.intercept p xs f.size
  pub counted : f.wrong ≡ wrongs f.slope f.intercept p (take f.size xs)

-- some intercept suits one offset, on one of the batch's pages
suiting-filled : (b : Bounds) (a o p : ℕ) → b.first ≤ p → p ≤ b.last → (suiting b a o p).least ≤ (suiting b a o p).most
unfolding suiting
suiting-filled b a o p h k = go (p - b.g) (p + b.g) (ceil (a * o) 256) (omega arith) (omega arith)
  where
    go : (u v c : ℕ) → u ≤ p → p ≤ v → (max u b.first + 256) - c ≤ (min v b.last + 256) - c
    go u v c q r = omega arith

-- what slope a reaches from offset x on
pub record Reaching (b : Bounds) (a p : ℕ) (xs : List ℕ) (r : Reach) : Type 0 where
  pub filled : 1 ≤ r.size
  pub inside : r.size ≤ length xs
  pub some : r.suit.least ≤ r.suit.most
  pub suits : (u : ℕ) → Among r.suit u → SuitsFirst b a u p xs r.size

pub reaching : (b : Bounds) (a p x : ℕ) (l : List ℕ) → b.first ≤ p → p ≤ b.last → Reaching b a p (x ∷ l) (reach b a p x l)
unfolding reach longer
reaching b a p x l k m = go (extend b a (suiting b a x p) (suc p) l)
    (extension b a (suiting b a x p) (suc p) l (suiting-filled b a x p k m))
  where
    suits' : (r : Reach) → Extension b a (suiting b a x p) (suc p) l r → (u : ℕ) → Among r.suit u
        → SuitsFirst b a u p (x ∷ l) (suc r.size)
    suits' r e u m zero k = let q : p + 0 ≡ p = omega arith in rw q (e.among u m)
    suits' r e u m (suc j) k = let q : p + suc j ≡ suc p + j = omega arith in rw q (e.suits u m j (omega arith))

    go : (r : Reach) → Extension b a (suiting b a x p) (suc p) l r → Reaching b a p (x ∷ l) (longer r)
    go r e = record { filled = omega arith; inside = omega (arith, e.inside); some = e.filled; suits = suits' r e }

fitting : (b : Bounds) (a p x : ℕ) (l : List ℕ) → a ≤ 256 → b.first ≤ p → p ≤ b.last → Fitting b p (x ∷ l) (fit b a p x l)
unfolding fit fit_of
fitting b a p x l h k m = go (reach b a p x l) (reaching b a p x l k m)
  where
    go : (r : Reach) → Reaching b a p (x ∷ l) r
        → Fitting b p (x ∷ l) (best_of p (x ∷ l) r.size a r.suit.least (r.suit.most - r.suit.least))
    go r t =
        let o = best_one p (x ∷ l) r.size a r.suit.least (r.suit.most - r.suit.least) in
        rw o.is (record {
          slope = h;
          filled = t.filled;
          inside = t.inside;
          suits = t.suits o.at (o.from, omega (arith, o.to, t.some));
          counted = refl;
        })

better-fitting : (b : Bounds) (p : ℕ) (xs : List ℕ) (f f' : Fit) → Fitting b p xs f → Fitting b p xs f' → Fitting b p xs (better f f')
better-fitting b p xs f f' h k = go (bettered f f')
  where
    go : {r : Fit} → Bettered f f' r → Fitting b p xs r
    go (kept s w) = h
    go (replaced s w) = k

-- The best of slopes a to a + n fits.
pub best-fitting : (b : Bounds) (p x : ℕ) (l : List ℕ) (a n : ℕ) → a + n ≤ 256 → b.first ≤ p → p ≤ b.last
    → Fitting b p (x ∷ l) (best_fit b p (x ∷ l) a n)
unfolding best_fit
best-fitting b p x l a zero h k m = fitting b a p x l (omega arith) k m
best-fitting b p x l a (suc n) h k m = better-fitting b p (x ∷ l) _ _ (fitting b a p x l (omega arith) k m)
    (best-fitting b p x l (suc a) n (omega arith) k m)

-- a slope of at most 1 rises by at most 255 in a group
pub rise-small : (a o : ℕ) → a ≤ 256 → o < 256 → ceil (a * o) 256 ≤ 255
rise-small a o h k =
    let m : o ≤ 255 = omega arith in
    let q : a * o ≤ 256 * 255 = mul-le-mul h m in
    omega arith

near-arith : (p g first last c u : ℕ) → c ≤ 255 → (max (p - g) first + 256) - c ≤ u → u ≤ (min (p + g) last + 256) - c
    → (256 ≤ u + c) × (u + c - 256 ≤ p + g) × (p ≤ u + c - 256 + g) × (first ≤ u + c - 256) × (u + c - 256 ≤ last)
near-arith p g first last c u h k m = omega arith

-- An intercept that suits the offset predicts within the bounds.
pub suits_near : (b : Bounds) (a o p u : ℕ) → a ≤ 256 → o < 256 → Among (suiting b a o p) u
    → Near b p (sub_ℕ u 256 +ℤ pos (ceil (a * o) 256))
unfolding suiting
suits_near b a o p u h k (l, m) =
    let c : ℕ = ceil (a * o) 256 in
    let q = near-arith p b.g b.first b.last c u (rise-small a o h k) l m in
    record { page = u + c - 256; is = sub_plus u 256 c q.0; below = q.1; above = q.2; from = q.3; to = q.4 }

-- The approximate run of a fit: it owns the offsets that it takes, and predicts each within the bounds.
fit-run : (b : Bounds) (k p x : ℕ) (l : List ℕ) (f : Fit) {z : ℕ} → Asc z (x ∷ l) → Below 256 (x ∷ l) → Fitting b p (x ∷ l) f
    → RunOf b k p (x ∷ l) (record { group = k; learned = approximate_record f x (take (f.size - 1) l); taken = f.size })
unfolding approximate_record member member_as predict rise sound_as owns_its_ends is_approximate
fit-run b k p x l f {z} a s t =
    let n : ℕ = f.size - 1 in
    let w : kind_of (2 * f.slope + 1) ≡ approximate f.slope = kind_odd f.slope in
    let e : take f.size (x ∷ l) ≡ x ∷ take n l = take_pred f.size x l t.filled in
    let asc : Asc z (x ∷ take n l) = rw e at (asc_take f.size (x ∷ l) a) in
    let top : x ≤ last_of x (take n l) = asc_top asc x (elem_here x (take n l)) in
    let last : x + (last_of x (take n l) - x) ≡ last_of x (take n l) = omega arith in
    record {
      group = refl;
      filled = t.filled;
      inside = t.inside;
      members = λ o. rw (w, e);
      ends = last ∙ last_take n x l (omega (arith, t.filled, t.inside));
      sound = rw w (and_i (leb f.slope 256) _ (le-leb f.slope 256 t.slope)
          (and_i (ascending (x ∷ take n l) && eqb x x) _ (and_i (ascending (x ∷ take n l)) _ (of_asc (x ∷ take n l) asc) (eq-eqb x x refl))
          (eq-eqb _ _ (sym last))));
      exact = λ q i m. absurd (true≢false (ap is_approximate (sym w) ∙ q));
      near = λ i q. rw w (suits_near b f.slope (get_or (x ∷ l) i 0) (p + i) f.intercept t.slope
          (s _ (elem-get_or (x ∷ l) i (omega (arith, q, t.inside)))) (t.suits i q));
    }

-- The approximate run owns the offsets that it takes, and predicts each within the bounds.
pub approximate_run_lem : (b : Bounds) (k p x : ℕ) (l : List ℕ) {z : ℕ} → Asc z (x ∷ l) → Below 256 (x ∷ l) → b.first ≤ p → p ≤ b.last
    → RunOf b k p (x ∷ l) (approximate_run b k p x l)
unfolding approximate_run
approximate_run_lem b k p x l a s h m = fit-run b k p x l (best_fit b p (x ∷ l) 0 256) a s (best-fitting b p x l 0 256 (omega arith) h m)
