-- How many pages an intercept predicts rightly and how many wrongly. Assumes nothing.
use mathlib.Core.Path.{◌≡◌, refl, sym, ◌∙◌}
use mathlib.Core.Bool.{Bool, true, false}
use mathlib.Core.List.{List, [], ◌∷◌}
use Prim.Native.Nat.{ℕ, zero, suc, ◌+◌, ◌*◌, ◌-◌, ◌%◌, ◌≤◌, ◌<◌, min, max}
use native.Mathlib.Omega.{arith}
use lib.Dec.{eqb}
use lib.ListN.{length, get_or, take}
use borrow.Author.Tests.{eqb-true, eq-eqb, ne_eqb}
use Rattle.model.specs.Device.{ceil}
use Rattle.model.specs.Learning.{suiting, wrong_at, wrongs}
use Rattle.model.proofs.Approximation.{Among, rise-small}
use Rattle.model.proofs.Bools.{iff_bool}
use Rattle.slopes.specs.Counting.{pick_of, how_many, above}
use Rattle.slopes.proofs.HowMany.{how_many_first}

-- a test that holds just where a prediction isn't wrong counts the others
pub wrongs-others : (a u p n : ℕ) (xs : List ℕ) (t : ℕ → Bool) → n ≤ length xs
    → ((j : ℕ) → j < n → wrong_at a u (get_or xs j 0) (p + j) + pick_of (t j) 1 0 ≡ 1) → wrongs a u p (take n xs) + how_many t n ≡ n
unfolding wrongs how_many
wrongs-others a u p zero xs t h f = refl
wrongs-others a u p (suc n) [] t h f = absurd (omega arith)
wrongs-others a u p (suc n) (x ∷ l) t h f =
    let z : p + 0 ≡ p = omega arith in
    let first : wrong_at a u x p + pick_of (t 0) 1 0 ≡ 1 = rw z at (f 0 (omega arith)) in
    let rest : wrongs a u (suc p) (take n l) + how_many (λ j. t (suc j)) n ≡ n =
    wrongs-others a u (suc p) n l (λ j. t (suc j)) (omega arith)
    (λ j k. let y : p + suc j ≡ suc p + j = omega arith in rw y at (f (suc j) (omega arith))) in
    omega (arith, first, rest, how_many_first t n)

module _ (a u o q : ℕ) where
  -- right or wrong
  pub right_or_wrong : (t : Bool) → t ≡ eqb (u + ceil (a * o) 256) (q + 256) → wrong_at a u o q + pick_of t 1 0 ≡ 1
  unfolding wrong_at pick_of
  right_or_wrong t e = go (eqb (u + ceil (a * o) 256) (q + 256)) refl
    where
      go : (b : Bool) → eqb (u + ceil (a * o) 256) (q + 256) ≡ b → wrong_at a u o q + pick_of t 1 0 ≡ 1
      go true r = rw (e ∙ r, r, wrong_at)
      go false r = rw (e ∙ r, r, wrong_at)

-- where intercept l suits a page of the batch, in places
module _ (g last a o q l : ℕ) (bound : g ≤ 15) (slope : a ≤ 256) (offset : o < 256)
    (suits : Among (suiting (record { g = g; first = 0; last = last }) a o q) l) where
  -- the one that is right lies at most g from it
  near : (q + 256 ≤ l + g + ceil (a * o) 256) × (l + ceil (a * o) 256 ≤ q + g + 256)
  unfolding suiting
  near = go (ceil (a * o) 256) (rise-small a o slope offset) suits.0 suits.1
    where
      go : (up : ℕ) → up ≤ 255 → (max (q - g) 0 + 256) - up ≤ l → l ≤ (min (q + g) last + 256) - up
          → (q + 256 ≤ l + g + up) × (l + up ≤ q + g + 256)
      go up h k m = (omega arith, omega arith)

  -- its byte says which of the first sixteen is right
  pub above-right : (c : ℕ) → c ≤ 15 → eqb (above a o q l) c ≡ eqb (l + c + ceil (a * o) 256) (q + 256)
  unfolding above
  above-right c h = go (ceil (a * o) 256) near.0 near.1
    where
      go : (up : ℕ) → q + 256 ≤ l + g + up → l + up ≤ q + g + 256 → eqb ((q + 768 - up - l) % 256) c ≡ eqb (l + c + up) (q + 256)
      go up k m = iff_bool _ _
          (λ e. eq-eqb (l + c + up) (q + 256) (let z : (q + 768 - up - l) % 256 ≡ c = eqb-true _ _ e in omega arith))
          (λ e. eq-eqb ((q + 768 - up - l) % 256) c (let z : l + c + up ≡ q + 256 = eqb-true _ _ e in omega arith))

  -- none beyond g above it is
  pub beyond-wrong : (c : ℕ) → g < c → false ≡ eqb (l + c + ceil (a * o) 256) (q + 256)
  beyond-wrong c h = sym (ne_eqb (l + c + ceil (a * o) 256) (q + 256) (λ e. omega (arith, near.0, near.1)))
