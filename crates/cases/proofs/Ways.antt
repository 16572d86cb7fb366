-- The definitions' ways of making the calls and of learning meet the demands, as asked of any way; and on the small device every list
-- of calls, made in any way, is one that demand 3 is about. Assumes nothing.
use mathlib.Core.Path.{◌≡◌, refl, ◌∙◌, ap, subst}
use mathlib.Core.List.{List, [], ◌∷◌}
use lib.ListN.{length}
use Rattle.model.specs.Learning.{learn}
use Rattle.model.specs.State.{free_blocks}
use Rattle.model.proofs.Demand2.{demand_2}
use Rattle.calls.specs.Outcome.{Answer, Outcome}
use Rattle.calls.specs.History.{Call, format_call, flush_call, lookup_call, discard_call, collect_call, compact_call, agree_call, list_call, why_call, checks_of, effect, run, Past, past_after, step}
use Rattle.calls.specs.Demand3.{Leads, nothing, then, FromFormat, AfterFormat, definitions, Defined}
use Rattle.calls.proofs.Simulation.{Simulates, carry}
use Rattle.calls.proofs.Demand3.{definitions_demand}
use Rattle.cases.specs.Small.{small, unformatted}
use Rattle.cases.specs.Opens.{everything}
use Rattle.cases.specs.Ways.{Way, defined, made, Demand1, Demand2, next, nexts, Makes, machine, after}

-- Demand 1: both are the same checks and the same effect.
pub defined-meets : Demand1 defined
unfolding defined made run checks_of effect
defined-meets (format_call d) s spare = refl
defined-meets (flush_call batch plan) s spare = refl
defined-meets (lookup_call x) s spare = refl
defined-meets (discard_call x) s spare = refl
defined-meets (collect_call plan erased) s spare = refl
defined-meets (compact_call k) s spare = refl
defined-meets (agree_call a sa b sb) s spare = refl
defined-meets (list_call k out) s spare = refl
defined-meets (why_call x out) s spare = refl

-- Demand 2: it is crates/model's.
pub learn-meets : Demand2 learn
learn-meets = demand_2

-- Demand 3: its calls are steps of the definitions.
made-step : (h : Past) (c : Call) (a : Answer) (h' : Past) → Makes defined h c a h' → Defined h c a h'
unfolding next step
made-step h c a h' m =
    let same = defined-meets c h.state h.spare in
    record { answered = m.answered ∙ ap (λ (o : Outcome). o.answer) same; left = m.left ∙ ap (λ (o : Outcome). past_after c o h.book) same }

simulates : Simulates (machine defined) definitions (λ h k. h ≡ k)
simulates = record {
  books = λ h k r. ap (λ (p : Past). p.book) r;
  frees = λ h k r. ap (λ (p : Past). length (free_blocks 0 p.state.counts)) r;
  steps = λ h k r c a h' m. (h', subst (λ (p : Past). Defined p c a h') r (made-step h c a h' m), refl);
  starts = λ h d a h' m t. (h, h', made-step h _ a h' m, refl);
}

pub defined_demand : AfterFormat (machine defined)
defined_demand = carry (machine defined) definitions (λ h k. h ≡ k) simulates definitions_demand.after

-- A list of calls on the small device, behind its format.
leads : (w : Way) (cs : List Call) (h : Past) → Leads (machine w) h (nexts w cs h)
unfolding nexts
leads w [] h = nothing h
leads w (c ∷ cs) h = then h c _ (next w c h) _ (record { answered = refl; left = refl }) (leads w cs (next w c h))

pub from_format : (w : Way) (cs : List Call) → FromFormat (machine w) (after w cs)
unfolding everything small unformatted made after
from_format w cs = record {
  start = unformatted small;
  device = small;
  answer = _;
  formatted = next w (format_call small) (unformatted small);
  makes = record { answered = refl; left = refl };
  accepts = refl;
  calls = leads w cs _;
}
