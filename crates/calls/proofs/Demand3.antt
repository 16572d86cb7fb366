-- Demand 3 on the definitions: the page map meets it, and they simulate the page map. Assumes nothing.
use mathlib.Core.Path.{◌≡◌, refl, sym, ◌∙◌, ap}
use mathlib.Core.Option.{some}
use mathlib.Core.Logic.{◌≢◌}
use Prim.Native.Nat.{ℕ}
use borrow.Author.Tests.{eq-eqb, ne_eqb}
use Rattle.calls.specs.Outcome.{found, accepted, Outcome}
use Rattle.calls.specs.Lookup.{reads}
use Rattle.calls.specs.Book.{Arrival, Book, last_write}
use Rattle.calls.specs.Agreement.{agree_done}
use Rattle.calls.specs.History.{lent_to, checks_of, effect, run}
use Rattle.calls.specs.Demand3.{page_maps, definitions, agreement_of, Right, written, Demand3}
use Rattle.calls.proofs.MapDemand.{map_demand}
use Rattle.calls.proofs.Simulation.{from_format, carry}
use Rattle.calls.proofs.Refining.{Shows, refines}
use Rattle.calls.proofs.Agreeing.{inv_comparable, agree-clear}
use Rattle.calls.proofs.Decided.{unless-accepts}

-- Demand 3, of the definitions.
pub definitions_demand : Demand3 definitions agreement_of
unfolding run lent_to checks_of effect agree_done accepted
definitions_demand = record {
  after = carry definitions page_maps Shows refines map_demand;
  agreements = λ g h f f' i a i' made.
      let k = (from_format definitions page_maps Shows refines g f).2 in
      let l = (from_format definitions page_maps Shows refines h f').2 in
      ap accepted (made.answered ∙ ap (λ (o : Outcome). o.answer) (unless-accepts _ _ _ (agree-clear g.state g.spare h.state h.spare (inv_comparable _ _ _ k.inv) (inv_comparable _ _ _ l.inv))));
}

-- "with one flash read where the prediction is right and two where it isn't": by the values of an answer that is right
pub reads-right : (b : Book) (x page predicted levels : ℕ) (w : Arrival) → Right b x (found page predicted levels) → last_write b x ≡ some w
    → (b.carried predicted ≡ some w → reads page predicted ≡ 1) × (b.carried predicted ≢ some w → reads page predicted ≡ 2)
unfolding reads
reads-right b x page predicted levels w (written _ _ _ u e c right same) l =
    let z : u ≡ w = cc in (
      λ q. rw (eq-eqb page predicted (sym (right (q ∙ ap some (sym z)))), reads) refl,
      λ n. rw (ne_eqb page predicted (λ q. n (same (sym q) ∙ ap some z)), reads) refl,
    )
