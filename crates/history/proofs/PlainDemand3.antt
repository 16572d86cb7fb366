-- Demand 3 of the plain engine on the bytes: read, a run is a call of the definitions, which meet it. Assumes nothing.
use mathlib.Core.Path.{◌≡◌, refl, sym, ◌∙◌, ap, subst}
use lib.ListN.{length}
use Rattle.model.specs.State.{free_blocks}
use Rattle.calls.specs.Outcome.{Answer}
use Rattle.calls.specs.Book.{enter}
use Rattle.calls.specs.History.{Call, entry_of}
use Rattle.calls.proofs.Simulation.{Simulates, carry}
use Rattle.plain.specs.Calls.{Lent, as_call, Outcome, run}
use Rattle.plain.specs.Machine.{Past, past_after, Made, made, tables}
use Rattle.plain.proofs.Demand3.{plain_demand_3}
use Rattle.plainstate.specs.Reading.{read_table}
use Rattle.history.specs.PlainDemand3.{PlainBuffers, PlainRuns, plain_functions, read_plain, PlainDemand3}

-- One run, read, is one call.
run-made : (h : PlainBuffers) (c : Call) (a : Answer) (h' : PlainBuffers) → PlainRuns h c a h' → Made (read_plain h) c a (read_plain h')
unfolding past_after
run-made h c a h' k =
    let o : Outcome = run k.common (read_table h.state) in
    let r = k.ran in
    let l = k.left in
    let table : read_table h'.state ≡ o.after.table = ap read_table k.state ∙ ap (λ (x : Lent). x.table) r.leaves in
    let b : h'.book ≡ enter (entry_of (as_call k.common) o.answer o.after.plan o.after.erased) h.book =
    k.entered ∙ ap (λ (x : Call). enter (entry_of x a l.plan l.erased) h.book) k.called
    ∙ ap (λ (x : Answer). enter (entry_of (as_call k.common) x l.plan l.erased) h.book) r.answered
    ∙ ap (λ (x : Lent). enter (entry_of (as_call k.common) o.answer x.plan x.erased) h.book) r.leaves in
    let left : read_plain h' ≡ past_after k.common o h.book = λ i. record { table = table i; book = b i } in
    subst (λ (x : Call). Made (read_plain h) x a (read_plain h')) (sym k.called)
    (subst (λ (x : Answer). Made (read_plain h) (as_call k.common) x (read_plain h')) (sym r.answered)
    (subst (Made (read_plain h) (as_call k.common) o.answer) (sym left) (made k.common)))

-- buffers are related to what they are read as
abbrev Read : PlainBuffers → Past → Type 0
Read h k = read_plain h ≡ k

-- The plain functions simulate the definitions.
simulates : Simulates plain_functions tables Read
simulates = record {
  books = λ h k r. ap (λ (p : Past). p.book) r;
  frees = λ h k r. ap (λ (p : Past). length (free_blocks 0 p.table.counts)) r;
  steps = λ h k r c a h' runs. (read_plain h', subst (λ (p : Past). Made p c a (read_plain h')) r (run-made h c a h' runs), refl);
  starts = λ h d a h' runs t. (read_plain h, read_plain h', run-made h _ a h' runs, refl);
}

-- Demand 3 of the plain engine, of every list of runs.
pub plain_demand_3_on_bytes : PlainDemand3
plain_demand_3_on_bytes = carry plain_functions tables Read simulates plain_demand_3
