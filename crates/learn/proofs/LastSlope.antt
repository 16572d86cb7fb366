-- Slope 256 predicts as slope 255 does, at every offset: the best of all slopes is that of the slopes up to 255. Assumes nothing.
use mathlib.Core.Path.{◌≡◌, refl, sym, ap, ◌∙◌}
use mathlib.Core.List.{List, [], ◌∷◌}
use Prim.Native.Nat.{ℕ, zero, suc, ◌+◌, ◌*◌, ◌-◌, ◌≤◌, ◌<◌}
use native.Mathlib.Omega.{arith}
use lib.ListN.{get_or, take}
use Rattle.model.specs.Device.{ceil}
use Rattle.model.specs.Learning.{Bounds, Reach, suiting, reach, wrong_at, wrongs, fit_of, better, best_of, fit, best_fit}
use Rattle.model.proofs.Fewest.{no_fewer, best_one}
use Rattle.model.proofs.Approximation.{SuitsFirst, Reaching, reaching}
use Rattle.model.proofs.Greedy.{best-greatest}
use Rattle.slopes.proofs.Fits.{better_first}
use Rattle.learn.proofs.Shifting.{Offsets}

-- each is the offset itself
same_rise : (o : ℕ) → o < 256 → ceil (256 * o) 256 ≡ ceil (255 * o) 256
same_rise o h = omega arith

same_suiting : (b : Bounds) (o q : ℕ) → o < 256 → suiting b 256 o q ≡ suiting b 255 o q
unfolding suiting
same_suiting b o q h = rw (same_rise o h)

same_wrong : (u o q : ℕ) → o < 256 → wrong_at 256 u o q ≡ wrong_at 255 u o q
unfolding wrong_at
same_wrong u o q h = rw (same_rise o h, wrong_at)

same_wrongs : (u q n : ℕ) (l : List ℕ) → Offsets l → wrongs 256 u q (take n l) ≡ wrongs 255 u q (take n l)
unfolding wrongs
same_wrongs u q zero l h = refl
same_wrongs u q (suc n) [] h = refl
same_wrongs u q (suc n) (o ∷ l) h =
    rw (same_wrong u o q (h 0 (omega arith)), same_wrongs u (suc q) n l (λ j k. h (suc j) (omega arith)))

module _ (b : Bounds) (q x : ℕ) (l : List ℕ) (offsets : Offsets (x ∷ l)) (low : b.first ≤ q) (high : q ≤ b.last) where
  -- what suits slope 256 suits slope 255, with as many wrong
  not_better : better (fit b 255 q x l) (fit b 256 q x l) ≡ fit b 255 q x l
  unfolding fit fit_of best_fit
  not_better = go (reach b 256 q x l) (reaching b 256 q x l low high)
    where
      go : (r : Reach) → Reaching b 256 q (x ∷ l) r
          → better (fit b 255 q x l) (best_of q (x ∷ l) r.size 256 r.suit.least (r.suit.most - r.suit.least)) ≡ fit b 255 q x l
      go r t =
          let o = best_one q (x ∷ l) r.size 256 r.suit.least (r.suit.most - r.suit.least) in
          let u = o.at in
          let s : SuitsFirst b 255 u q (x ∷ l) r.size =
          λ j k. rw (sym (same_suiting b (get_or (x ∷ l) j 0) (q + j) (offsets j (omega (arith, t.inside)))))
          (t.suits u (o.from, omega (arith, o.to, t.some)) j k) in
          let e = best-greatest b q x l 255 0 255 u r.size (omega arith) (omega arith) t.inside s in
          let m = same_wrongs u q r.size (x ∷ l) offsets in
          ap (better (fit b 255 q x l)) o.is
          ∙ sym (better_first (fit b 255 q x l) (fit_of q (x ∷ l) r.size 256 u) e.0 (λ z. omega (arith, no_fewer (e.1 z), m)))

  pub best-short : (a n : ℕ) → a + n ≡ 255 → best_fit b q (x ∷ l) a (suc n) ≡ best_fit b q (x ∷ l) a n
  unfolding best_fit
  best-short a zero h = let e : a ≡ 255 = omega arith in rw e not_better
  best-short a (suc n) h = ap (better (fit b a q x l)) (best-short (suc a) n (omega arith))
