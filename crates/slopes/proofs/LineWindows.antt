-- Over a line of pages at one stride, the intercepts that suit its two ends suit all of it. Assumes nothing.
use mathlib.Core.Path.{◌≡◌, sym, ap, ◌∙◌}
use mathlib.Core.List.{List}
use Prim.Native.Nat.{ℕ, zero, suc, ◌+◌, ◌*◌, ◌-◌, ◌/◌, ◌%◌, ◌≤◌, ◌<◌, min, max}
use native.Mathlib.Omega.{arith}
use lib.ListN.{length}
use Rattle.model.specs.Device.{ceil}
use Rattle.model.specs.Learning.{Intercepts, suiting, common}
use Rattle.slopes.specs.Places.{page_at}
use Rattle.slopes.specs.Slopes.{Line, window, suit_at}
use Rattle.slopes.specs.declared.windows.Sought.{Sought}
use Rattle.model.proofs.Ascent.{rises}
use Rattle.slopes.proofs.Within.{window-within, common-skip}
use Rattle.slopes.proofs.Steady.{Steady, steady, least_between, most_between}

onward : (x y z d m : ℕ) → 0 < d → y ≡ x + m * d → z - y ≡ d → z ≡ x + suc m * d
onward x y z d m h e f = omega arith

within-group : (x y c : ℕ) → y ≡ x + c → y / 256 ≡ x / 256 → y % 256 ≡ x % 256 + c
within-group x y c e f = omega arith

spread : (a o m d : ℕ) → a * (o + m * d) ≡ a * o + m * (a * d)
spread a o m d = omega arith

module _ (s : Sought) where
  abbrev w : List ℕ
  w = s.written.now

  -- a line from place p to place e
  module _ (p e : ℕ) (low : s.place ≤ p) (high : e < s.end) (l : Line w (suc p) e) where
    abbrev d : ℕ
    d = page_at w (suc p) - page_at w p

    -- its pages go on at one stride
    page_at_lem : (m : ℕ) → p + m ≤ e → page_at w (p + m) ≡ page_at w p + m * d
    page_at_lem zero k = let z : p + 0 ≡ p = omega arith in rw z (omega arith)
    page_at_lem (suc m) k =
        let z : p + suc m ≡ suc (p + m) = omega arith in
        let x : suc p - 1 ≡ p = omega arith in
        let y : suc (p + m) - 1 ≡ p + m = omega arith in
        let up : page_at w p < page_at w (suc p) = rises w p (suc p) s.seeking.ascends (omega arith) (omega (arith, s.seeking.end, l.low)) in
        let f : page_at w (suc (p + m)) - page_at w (p + m) ≡ d = rw (x, y) at (l.steps (suc (p + m)) (omega arith) (omega arith)) in
        rw z (onward _ _ _ d m (omega arith) (page_at_lem m (omega arith)) f)

    -- and so do their offsets
    offset_at : (m : ℕ) → p + m ≤ e → page_at w (p + m) % 256 ≡ page_at w p % 256 + m * d
    offset_at m k =
        let x : page_at w p / 256 ≡ page_at w s.place / 256 = s.seeking.group p low (omega (arith, l.low)) in
        let y : page_at w (p + m) / 256 ≡ page_at w s.place / 256 = s.seeking.group (p + m) (omega arith) (omega arith) in
        within-group _ _ _ (page_at_lem m k) (y ∙ sym x)

    -- a slope a between its ends
    module _ (a m k : ℕ) (end : p + (m + k) ≡ e) where
      -- by how much it rises up to n places on
      abbrev up : ℕ → ℕ
      up n = ceil (a * (page_at w (p + n) % 256)) 256

      abbrev x : ℕ
      x = a * (page_at w p % 256)

      up_at : (n : ℕ) → p + n ≤ e → ceil (x + n * (a * d)) 256 ≡ up n
      up_at n h = ap (λ (o : ℕ). ceil o 256) (sym (ap (λ (o : ℕ). a * o) (offset_at n h) ∙ spread a (page_at w p % 256) n d))

      goes_up : Steady (ceil x 256) (up m) (up (m + k)) m k
      goes_up = rw (up_at m (omega arith), up_at (m + k) (omega arith)) at (steady x (a * d) m k)

      abbrev at : ℕ → Intercepts
      at q = suit_at s.g w a q

      between : ((at (p + m)).least ≤ max (at p).least (at (p + (m + k))).least) × (min (at p).most (at (p + (m + k))).most ≤ (at (p + m)).most)
      unfolding suit_at suiting
      between = (least_between s.g p m k _ _ _ goes_up, most_between s.g (length w - 1) p m k _ _ _ goes_up)

  -- slope a, over a line from b places behind the first on
  module _ (a b : ℕ) where
    abbrev all : ℕ → Intercepts
    all n = window s.g w a s.place n

    abbrev here : ℕ → Intercepts
    here q = suit_at s.g w a q

    -- n places before its end may be left out
    skips : (n k e : ℕ) → s.place + (b + (n + k)) ≡ e → e < s.end → Line w (suc (s.place + b)) e
        → common (all (b + n)) (here e) ≡ common (all b) (here e)
    unfolding window
    skips zero k e u h l = let z : b + 0 ≡ b = omega arith in rw z
    skips (suc n) k e u h l =
        let z : b + suc n ≡ suc (b + n) = omega arith in
        let y : s.place + b + suc n ≡ s.place + suc (b + n) = omega arith in
        let v : s.place + b + (suc n + k) ≡ e = omega arith in
        let q : ℕ = s.place + suc (b + n) in
        let f : ((here q).least ≤ max (here (s.place + b)).least (here e).least) × (min (here (s.place + b)).most (here e).most ≤ (here q).most) =
        rw (y, v) at (between (s.place + b) e (omega arith) h l a (suc n) k v) in
        let c = window-within s.g w a s.place b n in
        rw z (common-skip _ _ _ (omega (arith, f.0, c.low)) (omega (arith, f.1, c.high)) ∙ skips n (suc k) e (omega arith) h l)

  -- from the place before q to place e
  pub window-line : (a q e : ℕ) → a ≤ 256 → s.place < q → e < s.end → Line w q e
      → common (window s.g w a s.place (q - 1 - s.place)) (suit_at s.g w a e) ≡ window s.g w a s.place (e - s.place)
  unfolding window
  window-line a q e h k m l =
      let b : ℕ = q - 1 - s.place in
      let n : ℕ = e - q in
      let x : q ≡ suc (s.place + b) = omega arith in
      let y : e - s.place ≡ suc (b + n) = omega (arith, l.low) in
      let z : s.place + suc (b + n) ≡ e = omega (arith, l.low) in
      rw (y, z) (sym (skips a b n 1 e (omega (arith, l.low)) m (rw x at l)))
