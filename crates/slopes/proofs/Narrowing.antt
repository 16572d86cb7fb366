-- Windows of 32 slopes: the first, and one place or one line on. Assumes nothing.
use mathlib.Core.Path.{◌≡◌, refl, ◌∙◌, ap}
use mathlib.Core.List.{List}
use mathlib.Core.Bool.{Bool, true, false}
use Prim.Native.Nat.{ℕ, zero, suc, ◌+◌, ◌*◌, ◌-◌, ◌%◌, ◌≤◌, ◌<◌, min, max}
use native.Mathlib.Omega.{arith}
use lib.Dec.{ltb}
use lib.ListN.{length, get_or, replicate, length-replicate, get_or-replicate, get_or-eq_default}
use borrow.Author.Tests.{ltb-true, ltb-false}
use Rattle.model.specs.Device.{ceil}
use Rattle.model.specs.Learning.{Intercepts, suiting, common}
use Rattle.model.proofs.Approximation.{rise-small}
use Rattle.slopes.specs.Places.{page_at}
use Rattle.slopes.specs.Slopes.{suit_at, window, Small, NarrowedBy, Windows}

-- the least and the most that suit one place
module _ (g : ℕ) (w : List ℕ) (a q : ℕ) where
  pub suit_least : (l : ℕ) → l ≡ q - g → (l + 256) - ceil (a * (page_at w q % 256)) 256 ≡ (suit_at g w a q).least
  unfolding suit_at suiting
  suit_least l e = let z : l ≡ max (q - g) 0 = omega arith in rw z

  pub suit_most : (h last : ℕ) → h ≡ min (q + g) last → last + 1 ≡ length w → (h + 256) - ceil (a * (page_at w q % 256)) 256 ≡ (suit_at g w a q).most
  unfolding suit_at suiting
  suit_most h last e f = let z : h ≡ min (q + g) (length w - 1) = omega arith in rw z

  suit_some : a ≤ 256 → (1 ≤ (suit_at g w a q).least) × (1 ≤ (suit_at g w a q).most)
  unfolding suit_at suiting
  suit_some h =
      let c : ceil (a * (page_at w q % 256)) 256 ≤ 255 = rise-small a (page_at w q % 256) h (omega arith) in
      (omega arith, omega arith)

  suit-small : length w ≤ 256 → q ≤ 255 → ((suit_at g w a q).least ≤ 511) × ((suit_at g w a q).most ≤ 511)
  unfolding suit_at suiting
  suit-small h k = go (q + g) (ceil (a * (page_at w q % 256)) 256)
    where
      go : (v c : ℕ) → ((max (q - g) 0 + 256) - c ≤ 511) × ((min v (length w - 1) + 256) - c ≤ 511)
      go v c = (omega arith, omega arith)

-- no intercept of a window is 0
window_some : (g : ℕ) (w : List ℕ) (a i m : ℕ) → a ≤ 256 → (1 ≤ (window g w a i m).least) × (1 ≤ (window g w a i m).most)
unfolding window common
window_some g w a i zero h = suit_some g w a i h
window_some g w a i (suc m) h =
    let p = window_some g w a i m h in
    let q = suit_some g w a (i + suc m) h in
    (omega (arith, p.0), omega (arith, p.1, q.1))

-- nor is one large
pub window-small : (g : ℕ) (w : List ℕ) (a i m : ℕ) → length w ≤ 256 → i + m ≤ 255 → ((window g w a i m).least ≤ 511) × ((window g w a i m).most ≤ 511)
unfolding window common
window-small g w a i zero h k = suit-small g w a i h (omega arith)
window-small g w a i (suc m) h k =
    let p = window-small g w a i m h (omega arith) in
    let q = suit-small g w a (i + suc m) h k in
    (omega (arith, p.0, q.0), omega (arith, p.1))

-- where a number stands, the list goes on
inside : (l : List ℕ) (i : ℕ) → 1 ≤ get_or l i 0 → i < length l
inside l i h = go (ltb i (length l)) refl
  where
    go : (t : Bool) → ltb i (length l) ≡ t → i < length l
    go true e = ltb-true i (length l) e
    go false e =
        let past : length l ≤ i = ltb-false i (length l) e in
        absurd (omega (arith, get_or-eq_default l 0 past))

pub begins_small : (l h : List ℕ) → l ≡ replicate 32 0 → h ≡ replicate 32 32767 → Small l × Small h
begins_small l h p q = (small l 0 p (omega arith), small h 32767 q (omega arith))
  where
    small : (l : List ℕ) (n : ℕ) → l ≡ replicate 32 n → n ≤ 32767 → Small l
    small l n e s =
        (omega (arith, ap length e, length-replicate {A = ℕ} 32 n), λ k b. omega (arith, ap (λ (m : List ℕ). get_or m k 0) e, get_or-replicate 32 k n 0 b))

module _ (g : ℕ) (w : List ℕ) (a i : ℕ) (low : a ≤ 224) where
  -- so 32 of them say how long the lists are
  pub windows_small : (m : ℕ) (l h : List ℕ) → length w ≤ 256 → i + m ≤ 255 → Windows g w a i m l h → Small l × Small h
  windows_small m l h few last so =
      let p = window_some g w (a + 31) i m (omega arith) in
      let t = so 31 (omega arith) in (
        (inside l 31 (omega (arith, p.0, t.0)), λ k b. omega (arith, (so k b).0, (window-small g w (a + k) i m few last).0)),
        (inside h 31 (omega (arith, p.1, t.1)), λ k b. omega (arith, (so k b).1, (window-small g w (a + k) i m few last).1)),
      )

  pub windows_first : (l h l' h' : List ℕ) → l ≡ replicate 32 0 → h ≡ replicate 32 32767 → length w ≤ 256 → i ≤ 255 → NarrowedBy g w a i l h l' h' → Windows g w a i 0 l' h'
  unfolding window
  windows_first l h l' h' p q few first by k b =
      let u : get_or l k 0 ≡ 0 = ap (λ (m : List ℕ). get_or m k 0) p ∙ get_or-replicate 32 k 0 0 b in
      let v : get_or h k 0 ≡ 32767 = ap (λ (m : List ℕ). get_or m k 0) q ∙ get_or-replicate 32 k 32767 0 b in
      (omega (arith, (by k b).0), omega (arith, (by k b).1, (suit-small g w (a + k) i few first).1))

  -- place q narrows the windows over m + 1 places to those over n + 1
  pub windows_by : (m n q : ℕ) (l h l' h' : List ℕ) → ((b : ℕ) → b ≤ 256 → common (window g w b i m) (suit_at g w b q) ≡ window g w b i n)
      → Windows g w a i m l h → NarrowedBy g w a q l h l' h' → Windows g w a i n l' h'
  unfolding common
  windows_by m n q l h l' h' is so by k b =
      let e = is (a + k) (omega arith) in
      let t = so k b in (
        (by k b).0 ∙ ap (λ (x : ℕ). max x (suit_at g w (a + k) q).least) t.0 ∙ ap (λ (j : Intercepts). j.least) e,
        (by k b).1 ∙ ap (λ (x : ℕ). min x (suit_at g w (a + k) q).most) t.1 ∙ ap (λ (j : Intercepts). j.most) e,
      )
