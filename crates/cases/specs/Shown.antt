-- How document 01's cases show what the definitions give. Assumes nothing.
use Rattle.std.specs.Prelude.{List, [], ◌∷◌, ◌++◌, map, ℕ, suc, ◌*◌, ℤ, take, replicate}
use Rattle.model.specs.Record.{predict}
use Rattle.model.specs.Learning.{Run, learn, sorted, sources}
use Rattle.calls.specs.Outcome.{Answer, Outcome}
use Rattle.calls.specs.History.{Call, lookup_call, why_call, Past, run, value, step}
use Rattle.calls.specs.Demand3.{agreement_of}

-- "Records as S, L, word, I", with the group.
pub record Row : Type 0 where
  pub group : ℕ
  pub S : ℕ
  pub L : ℕ
  pub word : ℕ
  pub I : ℤ

-- What a case shows: records; predicted pages; the plan of a batch; an answer, with the plan and the erased list that the
-- call left; a telling of why, with what it wrote and the byte behind it.
pub data Shown : Type 0 where
  records : List Row → Shown
  predictions : List ℤ → Shown
  plan : List ℕ → Shown
  answer : Answer → (plan erased : List ℕ) → Shown
  telling : Answer → (written : List ℕ) → Shown

abbrev pub row : ℕ → ℕ → ℕ → ℕ → ℤ → Row
row k S L w I = record { group = k; S = S; L = L; word = w; I = I }

unfoldable pub row_of : Run → Row
row_of r = row r.group r.learned.start r.learned.span r.learned.word r.learned.intercept

-- the records learned from a sorted batch, its first on page p, at bound g
unfoldable pub learned : ℕ → ℕ → List ℕ → Shown
learned g p batch = records (map row_of (learn g p batch))

-- what the first of these records predicts for the batch, all of it in group 0
unfoldable pub predicted_by : List Run → List ℕ → List ℤ
predicted_by [] offsets = []
predicted_by (r ∷ rs) offsets = map (predict r.learned) offsets

unfoldable pub predicted : ℕ → ℕ → List ℕ → Shown
predicted g p batch = predictions (predicted_by (learn g p batch) batch)

-- the arrival index stored on each page written
unfoldable pub planned : List ℕ → Shown
planned batch = plan (sources (sorted batch))

unfoldable pub show_outcome : Outcome → Shown
show_outcome o = answer o.answer o.after.plan o.after.erased

-- the calls, one after the other
unfoldable pub called : List Call → Past → List Shown
called [] h = []
called (c ∷ cs) h = show_outcome (run c h.state h.spare) ∷ called cs (step c h)

-- lookups of these logical pages, on one state
unfoldable pub lookups : Past → List ℕ → List Shown
lookups h [] = []
lookups h (x ∷ xs) = show_outcome (run (lookup_call x) h.state h.spare) ∷ lookups h xs

-- lookups of these logical pages on one state, on another, and what the agreement of the two says
unfoldable pub compared : Past → Past → List ℕ → List Shown
compared g h xs = lookups g xs ++ lookups h xs ++ (show_outcome (run (agreement_of g h) g.state g.spare) ∷ [])

unfoldable pub show_telling : Outcome → Shown
show_telling o = telling o.answer (take (suc (12 * value o.answer 0)) o.after.out)

-- tellings of why of these logical pages, on one state
unfoldable pub tellings : Past → List ℕ → List Shown
tellings h [] = []
tellings h (x ∷ xs) = show_telling (run (why_call x (replicate 6144 99)) h.state h.spare) ∷ tellings h xs
