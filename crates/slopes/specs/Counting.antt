-- What is counted of the pages that slopes predict rightly, and the fits that are chosen by it. Assumes nothing.
use Rattle.std.specs.Prelude.{◌≡◌, Bool, true, false, ◌&&◌, List, ℕ, zero, suc, ◌+◌, ◌*◌, ◌-◌, ◌%◌, ◌≤◌, ◌<◌, min, max, ltb, eqb, length, get_or}
use Rattle.model.specs.Device.{ceil}
use Rattle.model.specs.Learning as model
use Rattle.slopes.specs.Places.{page_at}
use Rattle.slopes.specs.Slopes.{fit_of}
use Rattle.slopes.specs.declared.counting.Fit.{Fit}

-- the code's fit, in places
abbrev pub as_fit : Fit → model.Fit
as_fit f = record { slope = f.slope; intercept = f.intercept; size = f.size; wrong = f.wrong }

-- worse than every run of so many pages
abbrev pub no_fit : ℕ → model.Fit
no_fit n = record { slope = 0; intercept = 0; size = n; wrong = n + 1 }

-- the first where the test holds, otherwise the second
unfoldable pub pick_of : Bool → ℕ → ℕ → ℕ
pick_of true n m = n
pick_of false n m = m

-- how many of the first n numbers pass the test
unfoldable pub how_many : (ℕ → Bool) → ℕ → ℕ
how_many t zero = 0
how_many t (suc n) = how_many t n + pick_of (t n) 1 0

-- the 32 numbers from `at` on are f's, the others stayed
pub record Stored (at : ℕ) (f : ℕ → ℕ) (l l' : List ℕ) : Type 0 where
  pub long : length l' ≡ length l
  pub here : (k : ℕ) → k < 32 → get_or l' (at + k) 0 ≡ f k
  pub below : (j : ℕ) → j < at → get_or l' j 0 ≡ get_or l j 0
  pub behind : (j : ℕ) → at + 32 ≤ j → get_or l' j 0 ≡ get_or l j 0

-- of the intercepts from low to high, how many from the least on may be right for a page: none more than g above it
unfoldable pub width_of : (g low high : ℕ) → ℕ
width_of g low high = elim (ltb high low) [ true ↦ 0 | false ↦ min (high - low) g + 1 ]

-- so many for each of 32 slopes, none more than `top`
abbrev pub Widths : (g : ℕ) (low high widths : List ℕ) (top : ℕ) → Type 0
Widths g low high widths top = (k : ℕ) → k < 32 → (get_or widths k 0 ≡ width_of g (get_or low k 0) (get_or high k 0)) × (get_or widths k 0 ≤ top)

-- the least intercepts of 32 slopes are small enough for the code's numbers
abbrev pub SmallLow : List ℕ → Type 0
SmallLow low = (k : ℕ) → k < 32 → get_or low k 0 ≤ 511

-- by how much the intercept that is right for slope a and offset o at place q lies above l, as a byte
unfoldable pub above : (a o q l : ℕ) → ℕ
above a o q l = (q + 768 - ceil (a * o) 256 - l) % 256

-- so for the page at place q
unfoldable pub above_at : List ℕ → (a q l : ℕ) → ℕ
above_at w a q l = above a (page_at w q % 256) q l

-- eight rows for 32 slopes from a on, of the pages m places behind place i and on; those behind the n pages stayed
abbrev pub Rows : (w : List ℕ) (a i n : ℕ) (low : List ℕ) (m : ℕ) (rows rows' : List ℕ) → Type 0
Rows w a i n low m rows rows' = (j k : ℕ) → j < 8 → k < 32
    → (m + j < n → get_or rows' (32 * j + k) 0 ≡ above_at w (a + k) (i + (m + j)) (get_or low k 0))
    × (n ≤ m + j → get_or rows' (32 * j + k) 0 ≡ get_or rows (32 * j + k) 0)

-- in how many of eight rows c stands for slope k
unfoldable pub hits : List ℕ → (c k : ℕ) → ℕ
hits rows c k = how_many (λ j. eqb (get_or rows (32 * j + k) 0) c) 8

-- for how many of the n pages from place i on the right intercept of slope a lies c above l
unfoldable pub tally_of : List ℕ → (a i l n c : ℕ) → ℕ
tally_of w a i l n c = how_many (λ j. eqb (above_at w a (i + j) l) c) n

-- so for 32 slopes from a on and each c below `top`
abbrev pub Tallies : (w : List ℕ) (a i n : ℕ) (low : List ℕ) (top : ℕ) (tally : List ℕ) → Type 0
Tallies w a i n low top tally = (c k : ℕ) → c < top → k < 32 → get_or tally (32 * c + k) 0 ≡ tally_of w (a + k) i (get_or low k 0) n c

-- the greatest of the first n counts, 0 where there is none
unfoldable pub most_of : (ℕ → ℕ) → ℕ → ℕ
most_of t zero = 0
most_of t (suc n) = max (most_of t n) (t n)

-- the first that is so great, 0 where none is above 0
unfoldable pub choice_of : (ℕ → ℕ) → ℕ → ℕ
choice_of t zero = 0
choice_of t (suc n) = pick_of (ltb (most_of t n) (t n)) n (choice_of t n)

-- the counts of slope k
abbrev pub counts_of : List ℕ → ℕ → ℕ → ℕ
counts_of tally k c = get_or tally (32 * c + k) 0

-- so the most right predictions of each of 32 slopes and the intercept with as many, among its width
abbrev pub Choices : (tally widths most choice : List ℕ) → Type 0
Choices tally widths most choice = (k : ℕ) → k < 32
    → (get_or most k 0 ≡ most_of (counts_of tally k) (get_or widths k 0)) × (get_or choice k 0 ≡ choice_of (counts_of tally k) (get_or widths k 0))

-- c is among the width of slope k, and its count, from `to` on, is more than the most so far
abbrev pub raises : (to c : ℕ) (tally widths most : List ℕ) (k : ℕ) → Bool
raises to c tally widths most k = ltb c (get_or widths k 0) && ltb (get_or most k 0) (get_or tally (to + k) 0)

-- the most right predictions of slope k then, ..
abbrev pub raised_most : (to c : ℕ) (tally widths most : List ℕ) (k : ℕ) → ℕ
raised_most to c tally widths most k = pick_of (raises to c tally widths most k) (get_or tally (to + k) 0) (get_or most k 0)

-- .. and the intercept
abbrev pub raised_choice : (to c : ℕ) (tally widths most choice : List ℕ) (k : ℕ) → ℕ
raised_choice to c tally widths most choice k = pick_of (raises to c tally widths most k) c (get_or choice k 0)

-- slope a + k has its best run from place i on by what was chosen for it, over n pages, or a shorter one where its width is 0
pub record Chosen (g : ℕ) (w : List ℕ) (i n a : ℕ) (low widths most choice : List ℕ) (k : ℕ) : Type 0 where
  pub short : get_or widths k 0 ≡ 0 → (fit_of g w i (a + k)).size < n
  pub best : (get_or widths k 0 ≡ 0 → ⊥)
      → fit_of g w i (a + k) ≡ record { slope = a + k; intercept = get_or low k 0 + get_or choice k 0; size = n; wrong = n - get_or most k 0 }
