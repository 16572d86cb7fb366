-- What the code's values stand for, the parts of learning at a place of the sorted batch, and what is handed over of the runs. Assumes nothing.
use Rattle.std.specs.Prelude.{◌≡◌, true, List, [], ◌∷◌, ℕ, ◌+◌, ◌*◌, ◌-◌, ◌/◌, ◌%◌, ◌≤◌, ◌<◌, length}
use Rattle.std.proofs.Math.IntN.{sub_ℕ}
use Rattle.model.specs.Lists.{ascending}
use Rattle.model.specs.Learning as model
use Rattle.model.specs.Learning.{best_fit, accurate_run, next_run}
use Rattle.slopes.specs.Places.{page_at, ahead_of, offsets_behind}
use Rattle.record.specs.Read.{bare}
use Rattle.record.specs.declared.Record.{Record}
use Rattle.learn.specs.declared.runs.Run.{Run}

-- the code's run is the model's: its record's four numbers, and how many pages it takes
abbrev pub IsRun : Run → model.Run → Type 0
IsRun r m = (r.learned ≡ bare m.learned) × (r.taken ≡ m.taken)

-- from place i to place j the pages go on at stride d
pub record Strides (w : List ℕ) (d i j : ℕ) : Type 0 where
  pub step : (q : ℕ) → i ≤ q → q < j → page_at w (q + 1) - page_at w q ≡ d

-- the pages of the group of place i end before place r
pub record GroupEnd (w : List ℕ) (i r : ℕ) : Type 0 where
  pub inside : i < r
  pub end : r ≤ length w
  pub group : (q : ℕ) → i ≤ q → q < r → page_at w q / 256 ≡ page_at w i / 256
  pub ended : ahead_of w (page_at w i / 256) r ≡ []

-- the best of all slopes from place i on
unfoldable pub best_at : model.Bounds → List ℕ → ℕ → model.Fit
unfolding offsets_behind
best_at b w i = best_fit b (b.first + i) (page_at w i % 256 ∷ offsets_behind w i) 0 256

-- the accurate run from place i on
unfoldable pub accurate_at : model.Bounds → List ℕ → ℕ → model.Run
unfolding offsets_behind
accurate_at b w i = accurate_run (page_at w i / 256) (b.first + i) (page_at w i % 256) (offsets_behind w i)

-- a fit in places is one on the pages from page p on
abbrev pub on_pages : ℕ → model.Fit → model.Fit
on_pages p f = record { slope = f.slope; intercept = p + f.intercept; size = f.size; wrong = f.wrong }

-- the record of a fit from place i on
unfoldable pub fit_record : List ℕ → ℕ → model.Fit → Record
fit_record w i f = record {
  start = page_at w i % 256;
  span = page_at w (i + f.size - 1) % 256 - page_at w i % 256;
  word = 2 * f.slope + 1;
  intercept = sub_ℕ f.intercept 256;
}

-- the run at place i
unfoldable pub run_at : model.Bounds → List ℕ → ℕ → model.Run
unfolding offsets_behind
run_at b w i = next_run b (page_at w i / 256) (b.first + i) (page_at w i % 256) (offsets_behind w i)

-- a batch that ascends, on pages from page p on, and the error bound
pub record Batch (w : List ℕ) (p g : ℕ) : Type 0 where
  pub ascends : ascending w ≡ true
  pub size : length w ≤ 256
  pub pages : p + length w ≤ 2097152
  pub bound : g ≤ 15

-- "The learned records are handed to the table as one list": each run's record
unfoldable pub records : List model.Run → List Record
records [] = []
records (r ∷ rs) = bare r.learned ∷ records rs

-- how many pages each run takes
unfoldable pub counts : List model.Run → List ℕ
counts [] = []
counts (r ∷ rs) = r.taken ∷ counts rs
