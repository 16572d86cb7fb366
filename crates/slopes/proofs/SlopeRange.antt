-- The slopes that take two pages: from one to the other a prediction rises by as much as the slope does, rounded up or down. Assumes
-- nothing.
use mathlib.Core.Path.{◌≡◌}
use mathlib.Core.List.{List}
use mathlib.Core.Bool.{true}
use Prim.Native.Nat.{ℕ, ◌+◌, ◌*◌, ◌-◌, ◌/◌, ◌%◌, ◌≤◌, ◌<◌, min}
use native.Mathlib.Omega.{arith}
use native.Mathlib.Nat.{max-zero, le-div_iff_mul-le, div-lt_iff_lt-mul, div-le_self}
use lib.ListN.{length}
use borrow.Author.Tests.{leb-true}
use Rattle.model.specs.Device.{ceil}
use Rattle.model.specs.Learning.{Intercepts, suiting}
use Rattle.model.proofs.Approximation.{rise-small}
use Rattle.slopes.specs.Places.{page_at}
use Rattle.slopes.specs.Slopes.{suit_at, window, takes}
use Rattle.slopes.specs.declared.windows.Sought.{Sought}
use Rattle.model.proofs.Ascent.{rises}
use Rattle.slopes.proofs.Within.{Within, window-within}

-- where intercepts suit two places: l and h are the lowest and the highest prediction at each, u is by how much the slope rises to it
meeting : (l h u l' h' u' : ℕ) → u ≤ 255 → u' ≤ 255 → (l + 256) - u ≤ (h' + 256) - u' → (l' + 256) - u' ≤ (h + 256) - u
    → (l + u' ≤ h' + u) × (l' + u ≤ h + u')
meeting l h u l' h' u' a b c d = (omega arith, omega arith)

-- divided by 256 and rounded up, numbers that are t apart differ by less than one from t / 256
rise_most : (x t h l : ℕ) → l + ceil (x + t) 256 ≤ h + ceil x 256 → t ≤ (h - l + 1) * 256 - 1
rise_most x t h l e = omega arith

rise_least : (x t h l : ℕ) → l + ceil x 256 ≤ h + ceil (x + t) 256 → h < l → (l - h - 1) * 256 < t
rise_least x t h l e k = omega arith

-- the first slope fits the code's numbers
pub first_small : (l h d : ℕ) → l ≤ 255 → (l - h - 1) * 256 / d + 1 < 4294967296
first_small l h d k = omega (arith, div-le_self ((l - h - 1) * 256) d)

module _ (s : Sought) (q : ℕ) (low : s.place < q) (high : q < s.end) where
  abbrev w : List ℕ
  w = s.written.now

  abbrev x : ℕ
  x = page_at w s.place

  abbrev y : ℕ
  y = page_at w q

  pub apart : x < y
  apart = rises w s.place q s.seeking.ascends low (omega (arith, s.seeking.end))

  -- the lowest and the highest prediction at a place
  abbrev least : ℕ → ℕ
  least p = p - s.g

  abbrev most : ℕ → ℕ
  most p = min (p + s.g) s.last

  -- slope a takes the pages from the first to place q
  module _ (a : ℕ) (small : a ≤ 255) (took : takes s.g w a s.place (q - s.place) ≡ true) where
    abbrev at : ℕ → Intercepts
    at p = suit_at s.g w a p

    -- an intercept suits both
    ends_meet : ((at s.place).least ≤ (at q).most) × ((at q).least ≤ (at s.place).most)
    unfolding takes
    ends_meet =
        let m : ℕ = q - s.place in
        let all : Intercepts = window s.g w a s.place m in
        let c : all.least ≤ all.most = leb-true _ _ took in
        let e : 0 + m ≡ m = omega arith in
        let f : s.place + 0 ≡ s.place = omega arith in
        let g : m + 0 ≡ m = omega arith in
        let h : s.place + m ≡ q = omega arith in
        let u : Within all (at s.place) = rw (e, f) at (window-within s.g w a s.place 0 m) in
        let v : Within all (at q) = rw (g, h) at (window-within s.g w a s.place m 0) in
        (omega (arith, u.low, v.high), omega (arith, v.low, u.high))

    rises_by : a * (y % 256) ≡ a * (x % 256) + a * (y - x)
    rises_by =
        let e : y % 256 ≡ x % 256 + (y - x) = omega (arith, apart, s.seeking.group q (omega arith) high) in
        rw e (omega arith)

    -- from the one to the other it rises by no more and no less than the predictions may
    meets : (least s.place + ceil (a * (x % 256) + a * (y - x)) 256 ≤ most q + ceil (a * (x % 256)) 256)
        × (least q + ceil (a * (x % 256)) 256 ≤ most s.place + ceil (a * (x % 256) + a * (y - x)) 256)
    unfolding suit_at suiting
    meets =
        let z : length w - 1 ≡ s.last = omega (arith, s.seeking.last) in
        rw (max-zero (least s.place), max-zero (least q), z, rises_by) at (meeting _ _ _ _ _ _
        (rise-small a (x % 256) (omega arith) (omega arith)) (rise-small a (y % 256) (omega arith) (omega arith)) ends_meet.0 ends_meet.1)

    -- at most as steep as from the lowest prediction of the first to the highest of the second
    pub slope_last : (h l r : ℕ) → h ≡ most q → l ≡ least s.place → r ≡ min (((h - l + 1) * 256 - 1) / (y - x)) 255 → a ≤ r
    slope_last h l r e f i =
        let d : 0 < y - x = omega (arith, apart) in
        let b : a * (y - x) ≤ (h - l + 1) * 256 - 1 = rw (e, f) (rise_most (a * (x % 256)) (a * (y - x)) _ _ meets.0) in
        omega (arith, (le-div_iff_mul-le d).1 b)

    -- and at least as from the highest to the lowest
    pub slope_first : (l h : ℕ) → l ≡ least q → h ≡ most s.place → h < l → (l - h - 1) * 256 / (y - x) + 1 ≤ a
    slope_first l h e f i =
        let d : 0 < y - x = omega (arith, apart) in
        let b : l + ceil (a * (x % 256)) 256 ≤ h + ceil (a * (x % 256) + a * (y - x)) 256 = rw (e, f) meets.1 in
        omega (arith, (div-lt_iff_lt-mul d).1 (rise_least (a * (x % 256)) (a * (y - x)) h l b i))
