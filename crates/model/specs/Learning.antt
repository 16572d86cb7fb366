-- Document 01, 'Learning a batch': last arrivals, sorting, runs and their records; document 02, b: fewest wrong predictions. Assumes
-- nothing.
use Rattle.std.specs.Prelude.{List, [], ◌∷◌, Bool, true, false, ◌&&◌, ◌||◌, ℕ, zero, suc, ◌+◌, ◌*◌, ◌-◌, min, max, ltb, leb, eqb, pos, length, take, drop}
use Rattle.std.proofs.Math.Option.{Option, none, some}
use Rattle.std.proofs.Math.IntN.{sub_ℕ}
use Rattle.model.specs.Lists.{last_of}
use Rattle.model.specs.Device.{ceil, group_of, offset_of}
use Rattle.model.specs.Record.{Record}

-- A logical page to be written, with what the plan says of it: a flush's arrival index, a collection's source page.
pub record Write : Type 0 where
  pub logical : ℕ
  pub source : ℕ

-- w into a list that ascends by logical page; one that is there already, a later arrival, stays
unfoldable pub place : Write → List Write → List Write
place w [] = w ∷ []
place w (v ∷ l) = elim (ltb w.logical v.logical) [
  | true ↦ w ∷ v ∷ l
  | false ↦ elim (eqb w.logical v.logical) [ true ↦ v ∷ l | false ↦ v ∷ place w l ]
]

-- each write in its place, from the last back to the first
unfoldable pub sort : List Write → List Write
sort [] = []
sort (w ∷ ws) = place w (sort ws)

-- the batch's arrivals with their indexes, from i on
unfoldable pub arrivals : ℕ → List ℕ → List Write
arrivals i [] = []
arrivals i (x ∷ xs) = record { logical = x; source = i } ∷ arrivals (suc i) xs

-- "Repeated logical pages keep their last arrival. The rest are sorted"
unfoldable pub sorted : List ℕ → List Write
sorted batch = sort (arrivals 0 batch)

-- of an arrival at index i and later ones, the latest
unfoldable pub later : Bool → ℕ → Option ℕ → Option ℕ
later t i (some j) = some j
later true i none = some i
later false i none = none

-- the index of the latest arrival of x in a batch, whose first index is i
unfoldable pub latest : ℕ → ℕ → List ℕ → Option ℕ
latest x i [] = none
latest x i (y ∷ l) = later (eqb x y) i (latest x (suc i) l)

-- the logical pages and the sources of writes, in their order
unfoldable pub logicals : List Write → List ℕ
logicals [] = []
logicals (w ∷ ws) = w.logical ∷ logicals ws

unfoldable pub sources : List Write → List ℕ
sources [] = []
sources (w ∷ ws) = w.source ∷ sources ws

-- A run: the group it lies in, its record, and how many pages it takes.
pub record Run : Type 0 where
  pub group : ℕ
  pub learned : Record
  pub taken : ℕ

-- how many of the offsets go on at stride d from x
unfoldable pub stride_length : ℕ → ℕ → List ℕ → ℕ
stride_length d x [] = 0
stride_length d x (y ∷ l) = elim (eqb y (x + d)) [ true ↦ suc (stride_length d y l) | false ↦ 0 ]

-- "The accurate run goes on while the stride of its first two holds; one page alone is a single. I is the first page less
-- (S / d rounded up)." The first offset x lies on page p, the offsets behind it on the pages that follow.
unfoldable pub accurate_run : ℕ → ℕ → ℕ → List ℕ → Run
accurate_run k p x [] =
    record { group = k; learned = record { start = x; span = 0; word = 0; intercept = pos p; owned = [] }; taken = 1 }
accurate_run k p x (y ∷ l) =
    let d : ℕ = y - x in
    let n : ℕ = suc (stride_length d y l) in
    record { group = k; learned = record { start = x; span = n * d; word = 2 * d; intercept = sub_ℕ p (ceil x d); owned = [] }; taken = suc n }

-- What an approximate run's predictions keep to: "within g of its page and on a page that this flush wrote".
pub record Bounds : Type 0 where
  pub g : ℕ
  pub first : ℕ
  pub last : ℕ

-- Intercepts from least to most, each plus 256 so that none is negative.
pub record Intercepts : Type 0 where
  pub least : ℕ
  pub most : ℕ

-- those whose prediction, I + (a × o / 256 rounded up), suits offset o on page p
unfoldable pub suiting : Bounds → ℕ → ℕ → ℕ → Intercepts
suiting b a o p = record {
  least = (max (p - b.g) b.first + 256) - ceil (a * o) 256;
  most = (min (p + b.g) b.last + 256) - ceil (a * o) 256;
}

unfoldable pub common : Intercepts → Intercepts → Intercepts
common i j = record { least = max i.least j.least; most = min i.most j.most }

-- How far a slope goes from a place on: how many pages its longest run takes, and the intercepts that suit them all.
pub record Reach : Type 0 where
  pub size : ℕ
  pub suit : Intercepts

-- one page before a reach
unfoldable pub longer : Reach → Reach
longer r = record { size = suc r.size; suit = r.suit }

-- how far slope a goes on with intercepts i over the offsets, the first of them on page p
unfoldable pub extend : Bounds → ℕ → Intercepts → ℕ → List ℕ → Reach
extend b a i p [] = record { size = 0; suit = i }
extend b a i p (o ∷ l) =
    let j : Intercepts = common i (suiting b a o p) in
    elim (leb j.least j.most) [
      | true ↦ longer (extend b a j (suc p) l)
      | false ↦ record { size = 0; suit = i }
    ]

-- the longest run of slope a from offset x on page p
unfoldable pub reach : Bounds → ℕ → ℕ → ℕ → List ℕ → Reach
reach b a p x l = longer (extend b a (suiting b a x p) (suc p) l)

-- Wrong: the predicted page is not the member's page. 1 where slope a with an intercept, plus 256, is wrong at offset o on page p
unfoldable pub wrong_at : ℕ → ℕ → ℕ → ℕ → ℕ
wrong_at a i o p = elim (eqb (i + ceil (a * o) 256) (p + 256)) [ true ↦ 0 | false ↦ 1 ]

-- how many "wrong predictions" they make of the offsets, the first of them on page p
unfoldable pub wrongs : ℕ → ℕ → ℕ → List ℕ → ℕ
wrongs a i p [] = 0
wrongs a i p (o ∷ l) = wrong_at a i o p + wrongs a i (suc p) l

-- An approximate run from a place on: its slope and intercept, plus 256, how many pages it takes, and how many of them it predicts
-- wrongly.
pub record Fit : Type 0 where
  pub slope : ℕ
  pub intercept : ℕ
  pub size : ℕ
  pub wrong : ℕ

-- the run of slope a and an intercept over the first n of the offsets, the first of them on page p
unfoldable pub fit_of : ℕ → List ℕ → ℕ → ℕ → ℕ → Fit
fit_of p xs n a i = record { slope = a; intercept = i; size = n; wrong = wrongs a i p (take n xs) }

-- whether a fit is longer than another, or as long with fewer wrong predictions
unfoldable pub beats : Fit → Fit → Bool
beats f f' = ltb f'.size f.size || (eqb f.size f'.size && ltb f.wrong f'.wrong)

-- "Among the longest approximate runs the one with fewest wrong predictions is now taken", the first where they are alike
unfoldable pub better : Fit → Fit → Fit
better f f' = elim (beats f' f) [ true ↦ f' | false ↦ f ]

-- the best of the intercepts i to i + m for slope a and n pages; "ties as before": "smallest I"
unfoldable pub best_of : ℕ → List ℕ → ℕ → ℕ → ℕ → ℕ → Fit
best_of p xs n a i zero = fit_of p xs n a i
best_of p xs n a i (suc m) = better (fit_of p xs n a i) (best_of p xs n a (suc i) m)

-- the best of slope a from offset x on page p: as far as it goes, the best of the intercepts that suit
unfoldable pub fit : Bounds → ℕ → ℕ → ℕ → List ℕ → Fit
fit b a p x l =
    let r : Reach = reach b a p x l in
    best_of p (x ∷ l) r.size a r.suit.least (r.suit.most - r.suit.least)

-- The best of slopes a to a + n; "ties as before": "smallest a, then smallest I."
unfoldable pub best_fit : Bounds → ℕ → List ℕ → ℕ → ℕ → Fit
best_fit b p [] a n = record { slope = a; intercept = 0; size = 0; wrong = 0 }
best_fit b p (x ∷ l) a zero = fit b a p x l
best_fit b p (x ∷ l) a (suc n) = better (fit b a p x l) (best_fit b p (x ∷ l) (suc a) n)

-- the approximate record of a fit over the offsets that it takes, x first; it "owns the offsets of its run"
unfoldable pub approximate_record : Fit → ℕ → List ℕ → Record
approximate_record f x l = record {
  start = x;
  span = last_of x l - x;
  word = 2 * f.slope + 1;
  intercept = sub_ℕ f.intercept 256;
  owned = x ∷ l;
}

unfoldable pub approximate_run : Bounds → ℕ → ℕ → ℕ → List ℕ → Run
approximate_run b k p x l =
    let f : Fit = best_fit b p (x ∷ l) 0 256 in
    record { group = k; learned = approximate_record f x (take (f.size - 1) l); taken = f.size }

-- "The longest approximate run is taken if it is longer than the accurate one, otherwise the accurate one."
unfoldable pub longer_run : Run → Run → Run
longer_run acc app = elim (ltb acc.taken app.taken) [ true ↦ app | false ↦ acc ]

-- the run at a place; an approximate one only "If g is at least 1"
unfoldable pub next_run : Bounds → ℕ → ℕ → ℕ → List ℕ → Run
next_run b k p x l =
    elim (eqb b.g 0) [ true ↦ accurate_run k p x l | false ↦ longer_run (accurate_run k p x l) (approximate_run b k p x l) ]

-- Runs "stay inside one group": the offsets of the pages, from the first on, that lie in group k
unfoldable pub ahead : ℕ → List ℕ → List ℕ
ahead k [] = []
ahead k (x ∷ l) = elim (eqb (group_of x) k) [ true ↦ offset_of x ∷ ahead k l | false ↦ [] ]

-- "Runs are taken from the left": at most n runs of the sorted logical pages, the first of them on page p
unfoldable pub runs : Bounds → ℕ → ℕ → List ℕ → List Run
runs b zero p l = []
runs b (suc n) p [] = []
runs b (suc n) p (x ∷ l) =
    let r : Run = next_run b (group_of x) p (offset_of x) (ahead (group_of x) l) in
    r ∷ runs b n (p + r.taken) (drop (r.taken - 1) l)

-- The runs of a sorted batch "on consecutive pages from the start of" a block, its first page p. Each page may be a run.
unfoldable pub learn : ℕ → ℕ → List ℕ → List Run
learn g p written =
    runs (record { g = g; first = p; last = p + length written - 1 }) (length written) p written

-- The learned records of a group, in ascending order.
unfoldable pub records_for : ℕ → List Run → List Record
records_for k [] = []
records_for k (r ∷ rs) = elim (eqb r.group k) [ true ↦ r.learned ∷ records_for k rs | false ↦ records_for k rs ]
