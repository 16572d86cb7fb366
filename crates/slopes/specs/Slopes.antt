-- How far slopes go from a place of the sorted batch, in places instead of pages, as the code finds it out for several slopes at once.
-- Assumes nothing.
use Rattle.std.specs.Prelude.{◌≡◌, Bool, true, false, ◌||◌, List, [], ℕ, zero, suc, ◌+◌, ◌*◌, ◌-◌, ◌/◌, ◌%◌, ◌≤◌, ◌<◌, min, max, leb, length, get_or}
use Rattle.model.specs.Lists.{ascending}
use Rattle.model.specs.Device.{ceil}
use Rattle.model.specs.Learning as model
use Rattle.model.specs.Learning.{suiting, common, reach, fit, better}
use Rattle.slopes.specs.Places.{page_at, ahead_of, offsets_behind}

-- what predictions keep to, in places: within g, from the batch's first place to its last
abbrev pub place_bounds : ℕ → List ℕ → model.Bounds
place_bounds g w = record { g = g; first = 0; last = length w - 1 }

-- the intercepts that suit slope a at place q
unfoldable pub suit_at : ℕ → List ℕ → ℕ → ℕ → model.Intercepts
suit_at g w a q = suiting (place_bounds g w) a (page_at w q % 256) q

-- those that suit it at all m + 1 places from i on
unfoldable pub window : ℕ → List ℕ → ℕ → ℕ → ℕ → model.Intercepts
window g w a i zero = suit_at g w a i
window g w a i (suc m) = common (window g w a i m) (suit_at g w a (i + suc m))

-- there is one: slope a takes the pages from place i to place i + m
unfoldable pub takes : ℕ → List ℕ → ℕ → ℕ → ℕ → Bool
takes g w a i m = leb (window g w a i m).least (window g w a i m).most

-- how far slope a goes from place i on
unfoldable pub reach_of : ℕ → List ℕ → ℕ → ℕ → model.Reach
reach_of g w i a = reach (place_bounds g w) a i (page_at w i % 256) (offsets_behind w i)

-- its best run from there
unfoldable pub fit_of : ℕ → List ℕ → ℕ → ℕ → model.Fit
fit_of g w i a = fit (place_bounds g w) a i (page_at w i % 256) (offsets_behind w i)

-- how many pages the longest of the slopes a to a + n takes
unfoldable pub longest_of : ℕ → List ℕ → ℕ → ℕ → ℕ → ℕ
longest_of g w i a zero = (reach_of g w i a).size
longest_of g w i a (suc n) = max (reach_of g w i a).size (longest_of g w i (suc a) n)

-- the best of a fit and the n slopes from a on
unfoldable pub bettered : ℕ → List ℕ → ℕ → model.Fit → ℕ → ℕ → model.Fit
bettered g w i f a zero = f
bettered g w i f a (suc n) = bettered g w i (better f (fit_of g w i a)) (suc a) n

-- one of the first n numbers passes the test
unfoldable pub some_of : (ℕ → Bool) → ℕ → Bool
some_of t zero = false
some_of t (suc n) = some_of t n || t n

-- the run at a place of the batch w is sought, among the pages before place e, with the error bound g, and l is the last place
pub record Seeking (i e g l : ℕ) (w : List ℕ) : Type 0 where
  pub ascends : ascending w ≡ true
  pub size : length w ≤ 256
  pub bound : g ≤ 15
  pub last : l + 1 ≡ length w
  pub inside : i < e
  pub end : e ≤ length w
  pub group : (q : ℕ) → i ≤ q → q < e → page_at w q / 256 ≡ page_at w i / 256
  pub ended : ahead_of w (page_at w i / 256) e ≡ []

-- the list has 32 numbers, and they are the same with a sign
abbrev pub Small : List ℕ → Type 0
Small l = (32 ≤ length l) × ((k : ℕ) → k < 32 → get_or l k 0 ≤ 32767)

-- of each of 32 slopes from a on, only intercepts that give offset o a place from l to h, plus 256, stayed
abbrev pub Narrowed : (a o l h : ℕ) (low high low' high' : List ℕ) → Type 0
Narrowed a o l h low high low' high' = (k : ℕ) → k < 32
    → (get_or low' k 0 ≡ max (get_or low k 0) (l - ceil ((a + k) * o) 256)) × (get_or high' k 0 ≡ min (get_or high k 0) (h - ceil ((a + k) * o) 256))

-- only those that suit place q did
abbrev pub NarrowedBy : (g : ℕ) (w : List ℕ) (a q : ℕ) (low high low' high' : List ℕ) → Type 0
NarrowedBy g w a q low high low' high' = (k : ℕ) → k < 32
    → (get_or low' k 0 ≡ max (get_or low k 0) (suit_at g w (a + k) q).least) × (get_or high' k 0 ≡ min (get_or high k 0) (suit_at g w (a + k) q).most)

-- they are those that suit all m + 1 places from i on
abbrev pub Windows : (g : ℕ) (w : List ℕ) (a i m : ℕ) (low high : List ℕ) → Type 0
Windows g w a i m low high = (k : ℕ) → k < 32 → (get_or low k 0 ≡ (window g w (a + k) i m).least) × (get_or high k 0 ≡ (window g w (a + k) i m).most)

-- from the place before q to place e the pages go on at one stride
pub record Line (w : List ℕ) (q e : ℕ) : Type 0 where
  pub low : q ≤ e
  pub steps : (j : ℕ) → q ≤ j → j ≤ e → page_at w j - page_at w (j - 1) ≡ page_at w q - page_at w (q - 1)

-- each place behind i and before e has the end of its line
pub record Lines (w ends : List ℕ) (i e : ℕ) : Type 0 where
  pub inside : (q : ℕ) → i < q → q < e → get_or ends q 0 < e
  pub line : (q : ℕ) → i < q → q < e → Line w q (get_or ends q 0)
