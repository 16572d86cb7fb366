-- Ways of making the calls and of learning: those of the definitions, and any other, of which the demands can be asked as well.
-- Assumes nothing.
use Rattle.std.specs.Prelude.{◌≡◌, List, [], ◌∷◌, true, ℕ, ◌≤◌, ◌<◌, ltb, length}
use Rattle.model.specs.Lists.{all}
use Rattle.model.specs.Device.{Device, within_limits, first_page, spare_length}
use Rattle.model.specs.Spare.{program_block}
use Rattle.model.specs.Learning.{sorted, logicals}
use Rattle.model.specs.State.{State, free_blocks}
use Rattle.model.specs.Demand2.{Demanded}
use Rattle.model.specs.NoShorter.{Learner}
use Rattle.calls.specs.Outcome.{Lent, Answer, Outcome, unless}
use Rattle.calls.specs.Flush.{flush_checks, flush_done}
use Rattle.calls.specs.Lookup.{lookup_checks, lookup_done}
use Rattle.calls.specs.Discard.{discard_checks, discard_done}
use Rattle.calls.specs.Collection.{collect_checks, collect_done}
use Rattle.calls.specs.History.{Call, format_call, flush_call, lookup_call, discard_call, collect_call, compact_call, agree_call, list_call, why_call, lent_to, run, Past, past_after}
use Rattle.calls.specs.Demand3.{Machine}
use Rattle.cases.specs.Small.{small, unformatted}

-- A way: what a flush, a lookup, a discard and a collection come to, refusals included. The other calls are made as the definitions say.
pub record Way : Type 0 where
  pub flush : (batch : List ℕ) → Lent → Outcome
  pub lookup : (page : ℕ) → Lent → Outcome
  pub discard : (page : ℕ) → Lent → Outcome
  pub collect : Lent → Outcome

-- the definitions' way
unfoldable pub defined : Way
defined = record {
  flush = λ batch x. unless (flush_checks batch x) x (flush_done batch x);
  lookup = λ y x. unless (lookup_checks y x) x (lookup_done y x);
  discard = λ y x. unless (discard_checks y x) x (discard_done y x);
  collect = λ x. unless (collect_checks x) x (collect_done x);
}

-- a way with another flush; another lookup, discard, collection
abbrev pub with_flush : (List ℕ → Lent → Outcome) → Way → Way
with_flush f w = record { flush = f; lookup = w.lookup; discard = w.discard; collect = w.collect }

abbrev pub with_lookup : (ℕ → Lent → Outcome) → Way → Way
with_lookup f w = record { flush = w.flush; lookup = f; discard = w.discard; collect = w.collect }

abbrev pub with_discard : (ℕ → Lent → Outcome) → Way → Way
with_discard f w = record { flush = w.flush; lookup = w.lookup; discard = f; collect = w.collect }

abbrev pub with_collect : (Lent → Outcome) → Way → Way
with_collect f w = record { flush = w.flush; lookup = w.lookup; discard = w.discard; collect = f }

-- a call, made so
unfoldable pub made : Way → Call → State → List ℕ → Outcome
made w (format_call d) s spare = run (format_call d) s spare
made w (flush_call batch plan) s spare = w.flush batch (lent_to (flush_call batch plan) s spare)
made w (lookup_call x) s spare = w.lookup x (lent_to (lookup_call x) s spare)
made w (discard_call x) s spare = w.discard x (lent_to (discard_call x) s spare)
made w (collect_call plan erased) s spare = w.collect (lent_to (collect_call plan erased) s spare)
made w (compact_call k) s spare = run (compact_call k) s spare
made w (agree_call a sa b sb) s spare = run (agree_call a sa b sb) s spare
made w (list_call k out) s spare = run (list_call k out) s spare
made w (why_call x out) s spare = run (why_call x out) s spare

-- Demand 1 of a way, as `Ran` (crates/state) has it of the functions: each call answers and leaves what the definitions say.
abbrev pub Demand1 : Way → Type 0
Demand1 w = (c : Call) (s : State) (spare : List ℕ) → made w c s spare ≡ run c s spare

-- Demand 2 of a way of learning, as crates/model has it of `learn`.
abbrev pub Demand2 : Learner → Type 0
Demand2 learning = (d : Device) (batch : List ℕ) (k : ℕ) (lent : List ℕ) → within_limits d ≡ true → length batch ≤ d.B
    → all (λ x. ltb x d.N) batch ≡ true → k < d.M → length lent ≡ spare_length d
    → Demanded d batch k (logicals (sorted batch)) (learning d.g (first_page d k) (logicals (sorted batch)))
    (program_block d (logicals (sorted batch)) k lent)

-- what a call of a way leaves; the book is fed its answer and its lists
unfoldable pub next : Way → Call → Past → Past
next w c h = past_after c (made w c h.state h.spare) h.book

unfoldable pub nexts : Way → List Call → Past → Past
nexts w [] h = h
nexts w (c ∷ cs) h = nexts w cs (next w c h)

pub record Makes (w : Way) (h : Past) (c : Call) (a : Answer) (h' : Past) : Type 0 where
  pub answered : a ≡ (made w c h.state h.spare).answer
  pub left : h' ≡ next w c h

-- A way as a machine: demand 3 is asked of it as of the definitions.
abbrev pub machine : Way → Machine
machine w = record { Situation = Past; book = λ h. h.book; free = λ h. length (free_blocks 0 h.state.counts); Makes = Makes w }

-- the small device after a format and these calls
unfoldable pub after : Way → List Call → Past
after w cs = nexts w cs (next w (format_call small) (unformatted small))
