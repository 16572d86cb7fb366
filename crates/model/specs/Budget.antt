-- Document 02, i: "The memory budget of the new line is drawn up from record counts." What it can count on of one flush or collection,
-- without learning anything. The theorems are `within_budget` and `held-within` (proofs/Budget.antt), of the types `Budget` and `Held` at
-- the end of this file. Assumes nothing.
use Rattle.std.specs.Prelude.{◌≡◌, List, [], ◌∷◌, map, Bool, true, false, ◌&&◌, ℕ, ◌+◌, ◌*◌, ◌-◌, ◌≤◌, eqb, length}
use Rattle.std.proofs.Math.Option.{Option, none, some}
use Rattle.model.specs.Device.{ceil, group_of}
use Rattle.model.specs.Record.{Record}
use Rattle.model.specs.Learning.{Write, sort, logicals, records_for}
use Rattle.model.specs.Levels.{Group, record_count, take_in}
use Rattle.model.specs.NoShorter.{pages_in, run_start, Learner}

-- "The accurate run goes on while the stride of its first two holds": whether it goes on from page x to page y. Its stride is none
-- while x is its only page.
unfoldable pub goes_on : Option ℕ → ℕ → ℕ → Bool
goes_on none x y = eqb (group_of y) (group_of x)
goes_on (some d) x y = eqb (group_of y) (group_of x) && eqb y (x + d)

-- the pages that runs start at behind one that has come to page x
unfoldable pub runs_behind : Option ℕ → ℕ → List ℕ → List ℕ
runs_behind stride x [] = []
runs_behind stride x (y ∷ l) = elim (goes_on stride x y) [ true ↦ runs_behind (some (y - x)) y l | false ↦ y ∷ runs_behind none y l ]

-- The maximal stride runs of ascending pages, taken from the left: the pages that they start at, by a single pass.
unfoldable pub stride_runs : List ℕ → List ℕ
stride_runs [] = []
stride_runs (x ∷ l) = x ∷ runs_behind none x l

-- THE BUDGET, for pages that are written from page p on.
pub record Budgeted (p : ℕ) (written : List ℕ) (learning : Learner) : Type 0 where
  -- a group gets at most one record for each page written there
  pub pages : (g k : ℕ) → length (records_for k (learning g p written)) ≤ pages_in k written
  -- any 2g + 2 pages of a group that follow each other are a run, so it gets at most its pages divided by that, rounded up
  pub shared : (g k : ℕ) → length (records_for k (learning g p written)) ≤ ceil (pages_in k written) (2 * g + 2)
  -- at bound 0 the runs learned are the stride runs: exactly so many records, in all and in each group
  pub strides : map run_start (learning 0 p written) ≡ stride_runs written
  pub exact : length (learning 0 p written) ≡ length (stride_runs written)
  pub exact_in : (k : ℕ) → length (records_for k (learning 0 p written)) ≡ pages_in k (stride_runs written)
  -- a larger bound never takes more, so at every bound there are at most as many as stride runs
  pub larger : (g h : ℕ) → g ≤ h → length (learning h p written) ≤ length (learning g p written)
  pub larger_in : (g h : ℕ) → g ≤ h → (k : ℕ) → length (records_for k (learning h p written)) ≤ length (records_for k (learning g p written))

-- The budget of a way of learning: on every block, of whatever is written once it is sorted.
abbrev pub Budget : Learner → Type 0
Budget learning = (p : ℕ) (ws : List Write) → Budgeted p (logicals (sort ws)) learning

-- What is learned is not what is held: a group that takes records in holds at most so many more than before, compacted first or not.
abbrev pub Held : Type 0
Held = (rs : List Record) (g : Group) → record_count (take_in rs g) ≤ record_count g + length rs
