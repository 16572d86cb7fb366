-- Document 02, i, on small batches: the records that are counted, computed, and ways of learning that are tempting and take more records
-- or leave pages out; proofs/Learners.antt refutes them. Assumes nothing.
use Rattle.std.specs.Prelude.{◌≡◌, refl, [], ◌∷◌, ◌++◌, map, ℕ, suc, ◌+◌, ◌-◌, length, take, drop}
use Rattle.model.specs.Learning.{learn}
use Rattle.model.specs.NoShorter.{pages_in, run_start, Learner}
use Rattle.model.specs.Budget.{goes_on, runs_behind, stride_runs}
use Rattle.cases.specs.Opens.{everything}

-- opens what these theorems compute with, beside `everything`
unfoldable pub counting : ℕ
unfolding everything pages_in run_start goes_on runs_behind stride_runs
counting = 0

-- one that cuts the last run a page short
unfoldable pub cuts_short : Learner
cuts_short g p written =
    let n : ℕ = length written - 1 in
    learn g p (take n written) ++ learn g (p + n) (drop n written)

-- one that leaves approximate runs out, at every bound
unfoldable pub accurate_only : Learner
accurate_only g p written = learn 0 p written

-- one that gives each page a record
unfoldable pub page_by_page : Learner
page_by_page g p [] = []
page_by_page g p (x ∷ l) = learn g p (x ∷ []) ++ page_by_page g (suc p) l

-- Where the runs start that are learned at bounds 0 and 1; at bound 0, these are the stride runs.
pub starts :
    map run_start (learn 0 0 (100 ∷ 102 ∷ 104 ∷ 106 ∷ [])) ∷ map run_start (learn 0 0 (0 ∷ 1 ∷ 4 ∷ 5 ∷ [])) ∷ map run_start (learn 0 0 (255 ∷ 256 ∷ []))
    ∷ map run_start (learn 0 0 (0 ∷ 10 ∷ 11 ∷ 12 ∷ 13 ∷ 15 ∷ 17 ∷ 19 ∷ [])) ∷ map run_start (learn 1 0 (0 ∷ 1 ∷ 4 ∷ 5 ∷ [])) ∷ []
    ≡ (100 ∷ []) ∷ (0 ∷ 4 ∷ []) ∷ (255 ∷ 256 ∷ []) ∷ (0 ∷ 11 ∷ 15 ∷ []) ∷ (0 ∷ []) ∷ []
unfolding counting
starts = refl

-- The stride runs, by their single pass.
pub strides :
    map stride_runs ((100 ∷ 102 ∷ 104 ∷ 106 ∷ []) ∷ (0 ∷ 1 ∷ 4 ∷ 5 ∷ []) ∷ (255 ∷ 256 ∷ []) ∷ (0 ∷ 10 ∷ 11 ∷ 12 ∷ 13 ∷ 15 ∷ 17 ∷ 19 ∷ []) ∷ [])
    ≡ (100 ∷ []) ∷ (0 ∷ 4 ∷ []) ∷ (255 ∷ 256 ∷ []) ∷ (0 ∷ 11 ∷ 15 ∷ []) ∷ []
unfolding counting
strides = refl
