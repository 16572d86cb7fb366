-- Demand 3 on the bytes: read, a run is a step of the definitions. So the functions simulate the definitions, and the theorem about
-- these is one about those. Assumes nothing.
use mathlib.Core.Path.{◌≡◌, refl, sym, ◌∙◌, ap, subst}
use lib.ListN.{length}
use Rattle.model.specs.State.{free_blocks}
use Rattle.calls.specs.Outcome.{Lent, Answer, Outcome}
use Rattle.calls.specs.Book.{enter}
use Rattle.calls.specs.History.{Call, run, entry_of, Past, past_after, step}
use Rattle.calls.specs.Demand3.{definitions, Defined, FromFormat}
use Rattle.calls.proofs.Simulation.{Simulates, from_format, carry}
use Rattle.calls.proofs.Demand3.{definitions_demand}
use Rattle.state.specs.Reading.{read_state}
use Rattle.history.specs.Demand3.{Buffers, Runs, read_past, functions, Demand3}

-- One run, read, is one step.
run_step : (h : Buffers) (c : Call) (a : Answer) (h' : Buffers) → Runs h c a h' → Defined (read_past h) c a (read_past h')
unfolding step past_after
run_step h c a h' k =
    let o : Outcome = run c (read_state h.state) h.spare in
    let r = k.ran in
    let l = k.left in
    let state : read_state h'.state ≡ o.after.state = ap read_state k.state ∙ ap (λ (x : Lent). x.state) r.leaves in
    let spare : h'.spare ≡ o.after.spare = k.spare ∙ ap (λ (x : Lent). x.spare) r.leaves in
    let b : h'.book ≡ enter (entry_of c o.answer o.after.plan o.after.erased) h.book =
    k.entered ∙ ap (λ (x : Answer). enter (entry_of c x l.plan l.erased) h.book) r.answered
    ∙ ap (λ (x : Lent). enter (entry_of c o.answer x.plan x.erased) h.book) r.leaves in
    record { answered = r.answered; left = λ i. record { state = state i; spare = spare i; book = b i } }

-- buffers are related to what they are read as
abbrev Read : Buffers → Past → Type 0
Read h k = read_past h ≡ k

-- The functions simulate the definitions.
simulates : Simulates functions definitions Read
simulates = record {
  books = λ h k r. ap (λ (p : Past). p.book) r;
  frees = λ h k r. ap (λ (p : Past). length (free_blocks 0 p.state.counts)) r;
  steps = λ h k r c a h' made. (read_past h', subst (λ (p : Past). Defined p c a (read_past h')) r (run_step h c a h' made), refl);
  starts = λ h d a h' made t. (read_past h, read_past h', run_step h _ a h' made, refl);
}

pub read-format : (h : Buffers) → FromFormat functions h → FromFormat definitions (read_past h)
read-format h f = let k = from_format functions definitions Read simulates h f in subst (FromFormat definitions) (sym k.2) k.1

-- Demand 3, of every list of runs.
pub demand_3 : Demand3
demand_3 = record {
  after = carry functions definitions Read simulates definitions_demand.after;
  agreements = λ g h f f' i a i' made.
      definitions_demand.agreements (read_past g) (read_past h) (read-format g f) (read-format h f') (read_past i) a (read_past i') (run_step i _ a i' made);
}
