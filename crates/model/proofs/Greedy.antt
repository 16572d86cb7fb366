-- The greedy rule over the offsets that a run can take: no run is longer than the one that is computed; of approximate ones as long
-- none has fewer wrong predictions, of those with as many none a smaller slope, none of its slope a smaller intercept; and which of the
-- two is taken. Assumes nothing.
use mathlib.Core.Path.{◌≡◌, refl, sym, ap}
use mathlib.Core.List.{List, [], ◌∷◌}
use mathlib.Core.Logic.{◌⊎◌, inl, inr}
use mathlib.Core.Bool.{Bool, true, false}
use Prim.Native.Nat.{ℕ, zero, suc, ◌+◌, ◌-◌, ◌≤◌, ◌<◌}
use native.Mathlib.Omega.{arith}
use lib.Dec.{ltb, leb, eqb}
use lib.ListN.{length, get_or}
use borrow.Author.Tests.{ltb-true, ltb-false, leb-false, eqb-true, eqb-false, eq-eqb}
use Rattle.model.specs.Learning.{Bounds, Intercepts, Fit, Run, stride_length, accurate_run, suiting, common, Reach, longer, extend, reach, fit_of, better, best_of, fit, best_fit, approximate_run, longer_run, next_run}
use Rattle.model.proofs.Lists.{le_cases}
use Rattle.model.proofs.Fewest.{AsGood, as_first, as_second, best_one, best_each}
use Rattle.model.proofs.Approximation.{Among, SuitsFirst}

-- The count of the stride stops no earlier than the stride: it has all m offsets behind x of which each is d above the one before.
pub stride_most : (d x : ℕ) (l : List ℕ) (m : ℕ) → m ≤ length l → ((i : ℕ) → i < m → get_or l i 0 ≡ get_or (x ∷ l) i 0 + d)
    → m ≤ stride_length d x l
unfolding stride_length
stride_most d x l zero h f = omega arith
stride_most d x [] (suc m) h f = absurd (omega arith)
stride_most d x (y ∷ l) (suc m) h f =
    rw (eq-eqb y (x + d) (f 0 (omega arith)), stride_length)
    (omega (arith, stride_most d y l m (omega arith) (λ i k. f (suc i) (omega arith))))

-- f is as good as each run of a slope from s to t and an intercept that suits its offsets
abbrev pub Greatest : Bounds → ℕ → List ℕ → ℕ → ℕ → Fit → Type 0
Greatest b p xs s t f = (a u n : ℕ) → s ≤ a → a ≤ t → n ≤ length xs → SuitsFirst b a u p xs n → AsGood f (fit_of p xs n a u)

-- an intercept suits no more of the offsets than are reached; one that suits as many is among those found
abbrev Farthest : ℕ → ℕ → Reach → Type 0
Farthest u n r = (n ≤ r.size) × (n ≡ r.size → Among r.suit u)

extend-farthest : (b : Bounds) (a : ℕ) (i : Intercepts) (p : ℕ) (l : List ℕ) (u n : ℕ) → Among i u → n ≤ length l → SuitsFirst b a u p l n
    → Farthest u n (extend b a i p l)
unfolding extend longer common
extend-farthest b a i p [] u n h k s = (k, λ e. h)
extend-farthest b a i p (o ∷ l) u n h k s = go n (leb c.least c.most) refl k s (λ m. extend-farthest b a c (suc p) l u m)
  where
    c : Intercepts
    c = common i (suiting b a o p)

    later : {m : ℕ} → SuitsFirst b a u p (o ∷ l) (suc m) → SuitsFirst b a u (suc p) l m
    later s j q = let e : p + suc j ≡ suc p + j = omega arith in rw e at (s (suc j) (omega arith))

    here : {m : ℕ} → SuitsFirst b a u p (o ∷ l) (suc m) → Among c u
    here s = let e : p + 0 ≡ p = omega arith in let q : Among (suiting b a o p) u = rw e at (s 0 (omega arith)) in omega arith

    go : (n : ℕ) (t : Bool) → leb c.least c.most ≡ t → n ≤ length (o ∷ l) → SuitsFirst b a u p (o ∷ l) n
        → ((m : ℕ) → Among c u → m ≤ length l → SuitsFirst b a u (suc p) l m → Farthest u m (extend b a c (suc p) l))
        → Farthest u n (extend b a i p (o ∷ l))
    go zero true e k s ih = rw (e, extend) (omega arith, λ q. absurd (omega arith))
    go zero false e k s ih = rw (e, extend) (omega arith, λ q. h)
    go (suc m) true e k s ih =
        let r = ih m (here s) (omega arith) (later s) in
        rw (e, extend) (omega (arith, r.0), λ q. r.1 (omega arith))
    go (suc m) false e k s ih = let q : Among c u = here s in absurd (omega (arith, leb-false c.least c.most e))

reach-farthest : (b : Bounds) (a p x : ℕ) (l : List ℕ) (u n : ℕ) → n ≤ length (x ∷ l) → SuitsFirst b a u p (x ∷ l) n
    → Farthest u n (reach b a p x l)
unfolding reach longer
reach-farthest b a p x l u zero m q = (omega arith, λ r. absurd (omega arith))
reach-farthest b a p x l u (suc n) m q =
    let r = extend-farthest b a (suiting b a x p) (suc p) l u n here (omega arith) later in
    (omega (arith, r.0), λ w. r.1 (omega arith))
  where
    later : SuitsFirst b a u (suc p) l n
    later j r = let w : p + suc j ≡ suc p + j = omega arith in rw w at (q (suc j) (omega arith))

    here : Among (suiting b a x p) u
    here = let w : p + 0 ≡ p = omega arith in rw w at (q 0 (omega arith))

-- the slope and the length of a slope's best intercept
best-slope : (p : ℕ) (xs : List ℕ) (n a i m : ℕ) → (best_of p xs n a i m).slope ≡ a
unfolding fit_of
best-slope p xs n a i m = ap (λ (f : Fit). f.slope) (best_one p xs n a i m).is

pub best-size : (p : ℕ) (xs : List ℕ) (n a i m : ℕ) → (best_of p xs n a i m).size ≡ n
unfolding fit_of
best-size p xs n a i m = ap (λ (f : Fit). f.size) (best_one p xs n a i m).is

fit-greatest : (b : Bounds) (p x : ℕ) (l : List ℕ) (a : ℕ) → Greatest b p (x ∷ l) a a (fit b a p x l)
unfolding fit fit_of
fit-greatest b p x l a s u n h k m q = rw e (go (reach b a p x l) (reach-farthest b a p x l u n m (rw e at q)))
  where
    e : s ≡ a
    e = omega arith

    go : (r : Reach) → Farthest u n r
        → AsGood (best_of p (x ∷ l) r.size a r.suit.least (r.suit.most - r.suit.least)) (fit_of p (x ∷ l) n a u)
    go r t =
        let z = best-size p (x ∷ l) r.size a r.suit.least (r.suit.most - r.suit.least) in (
          omega (arith, z, t.0),
          λ d.
              let w : n ≡ r.size = omega (arith, d, z) in
              let v : Among r.suit u = t.1 w in
              rw w ((best_each p (x ∷ l) r.size a r.suit.least (r.suit.most - r.suit.least) u v.0 (omega arith)).1 (sym z)),
        )

-- the better of a slope's fit and a fit of slopes above it
better-greatest : (b : Bounds) (p : ℕ) (xs : List ℕ) (a t : ℕ) (f f' : Fit) → f.slope ≡ a → Greatest b p xs a a f
    → Greatest b p xs (suc a) t f' → Greatest b p xs a t (better f f')
unfolding fit_of
better-greatest b p xs a t f f' e h k s u n lo hi m q = go (le_cases a s lo)
  where
    go : (s ≡ a) ⊎ (suc a ≤ s) → AsGood (better f f') (fit_of p xs n s u)
    go (inl c) = as_first f f' (fit_of p xs n s u) (h s u n lo (omega arith) m q)
    go (inr c) = as_second f f' (fit_of p xs n s u) (k s u n c hi m q) (inl (omega arith))

fit-slope : (b : Bounds) (a p x : ℕ) (l : List ℕ) → (fit b a p x l).slope ≡ a
unfolding fit
fit-slope b a p x l = best-slope p (x ∷ l) _ a _ _

-- The best fit of slopes a to a + n is the greatest.
pub best-greatest : (b : Bounds) (p x : ℕ) (l : List ℕ) (a n : ℕ) → Greatest b p (x ∷ l) a (a + n) (best_fit b p (x ∷ l) a n)
unfolding best_fit
best-greatest b p x l a zero = let e : a + 0 ≡ a = omega arith in rw e (fit-greatest b p x l a)
best-greatest b p x l a (suc n) =
    let e : a + suc n ≡ suc a + n = omega arith in
    rw e (better-greatest b p (x ∷ l) a (suc a + n) (fit b a p x l) (best_fit b p (x ∷ l) (suc a) n) (fit-slope b a p x l)
    (fit-greatest b p x l a) (best-greatest b p x l (suc a) n))

-- "The longest approximate run is taken if it is longer than the accurate one, otherwise the accurate one", and that one wherever g
-- is 0.
pub data Chosen (b : Bounds) (acc app : Run) : Run → Type 0 where
  accurately : (b.g ≡ 0) ⊎ (app.taken ≤ acc.taken) → Chosen b acc app acc
  approximately : 1 ≤ b.g → acc.taken < app.taken → Chosen b acc app app

longer-chosen : (b : Bounds) (acc app : Run) → 1 ≤ b.g → Chosen b acc app (longer_run acc app)
unfolding longer_run
longer-chosen b acc app h = go (ltb acc.taken app.taken) refl
  where
    go : (t : Bool) → ltb acc.taken app.taken ≡ t → Chosen b acc app (longer_run acc app)
    go true e = rw (e, longer_run) (approximately h (ltb-true acc.taken app.taken e))
    go false e = rw (e, longer_run) (accurately (inr (ltb-false acc.taken app.taken e)))

-- The run at a place is so chosen.
pub next_chosen : (b : Bounds) (k p x : ℕ) (l : List ℕ) → Chosen b (accurate_run k p x l) (approximate_run b k p x l) (next_run b k p x l)
unfolding next_run
next_chosen b k p x l = go (eqb b.g 0) refl
  where
    go : (t : Bool) → eqb b.g 0 ≡ t → Chosen b (accurate_run k p x l) (approximate_run b k p x l) (next_run b k p x l)
    go true e = rw (e, next_run) (accurately (inl (eqb-true b.g 0 e)))
    go false e =
        let h : 1 ≤ b.g = omega (arith, eqb-false b.g 0 e) in
        rw (e, next_run) (longer-chosen b (accurate_run k p x l) (approximate_run b k p x l) h)
