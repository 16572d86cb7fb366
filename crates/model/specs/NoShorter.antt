-- Document 02, i: no cutting of a sorted batch into runs has fewer records than the one learned. The theorem is `no_shorter`
-- (proofs/NoShorter.antt), of the type `NoShorter` at the end of this file. Assumes nothing.
use Rattle.std.specs.Prelude.{List, [], ◌∷◌, map, ℕ, ◌+◌, ◌*◌, ◌≤◌, eqb, ℤ, length, drop}
use Rattle.model.specs.Device.{group_of}
use Rattle.model.specs.Learning.{Write, Run, Bounds, sort, logicals, records_for}
use Rattle.model.specs.Totals.{indicator}
use Rattle.model.specs.Demand2.{AccurateRun, ApproximateRun, bounds_of}

-- As in specs/Demand2.antt, l lists the sorted logical pages that are left, the first of them goes to page p, and a run is a number
-- n: the first n pages of l. Here it may be any run, not only a longest: "each within one group and each accurate or (with a bound of
-- at least 1) approximate by document 01's rule".
pub data AnyRun (b : Bounds) (p : ℕ) (l : List ℕ) (n : ℕ) : Type 0 where
  accurate : AccurateRun l n → AnyRun b p l n
  approximate : (a : ℕ) (I : ℤ) → ApproximateRun b p l n a I → AnyRun b p l n

-- a "cutting of a sorted batch into runs": one run behind the other until no page is left. It is told by the pages that its runs start at.
pub data Cutting (b : Bounds) : ℕ → List ℕ → List ℕ → Type 0 where
  end : (p : ℕ) → Cutting b p [] []
  run : (p n x : ℕ) (l starts : List ℕ) → AnyRun b p (x ∷ l) n → Cutting b (p + n) (drop n (x ∷ l)) starts
      → Cutting b p (x ∷ l) (x ∷ starts)

-- how many of these logical pages lie in group k
unfoldable pub pages_in : ℕ → List ℕ → ℕ
pages_in k [] = 0
pages_in k (x ∷ l) = indicator (eqb (group_of x) k) + pages_in k l

-- the logical page that a learned run starts at
unfoldable pub run_start : Run → ℕ
run_start r = 256 * r.group + r.learned.start

-- THE CLAIM, for pages that are written from page p on and the runs learned from them, each with its record.
pub record Shortest (b : Bounds) (p : ℕ) (written : List ℕ) (rs : List Run) : Type 0 where
  -- "the one learned" is a cutting itself
  pub cuts : Cutting b p written (map run_start rs)
  -- "no other cutting .. has fewer records", neither in all ..
  pub least : (starts : List ℕ) → Cutting b p written starts → length rs ≤ length starts
  -- .. nor in any group
  pub least_in : (k : ℕ) (starts : List ℕ) → Cutting b p written starts → length (records_for k rs) ≤ pages_in k starts

-- a way of learning: bound, first page, sorted logical pages
abbrev pub Learner : Type 0
Learner = ℕ → ℕ → List ℕ → List Run

-- No shorter list, of a way of learning: at every bound, on every block, of whatever is written once it is sorted. A flush writes
-- `sorted batch`, which is `sort` of its arrivals; a collection, `sort` of what it moves.
abbrev pub NoShorter : Learner → Type 0
NoShorter learning = (g p : ℕ) (ws : List Write)
    → Shortest (bounds_of g p (logicals (sort ws))) p (logicals (sort ws)) (learning g p (logicals (sort ws)))
