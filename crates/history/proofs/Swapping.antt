-- What the workshop may conclude, on the bytes: a run's answer is that of the definitions on the buffers as they are read. Assumes nothing.
use mathlib.Core.Path.{sym, ◌∙◌, ap}
use mathlib.Core.Bool.{true}
use Rattle.calls.specs.Outcome.{accepted, agreed}
use Rattle.calls.specs.Alike.{SaysYes}
use Rattle.calls.proofs.Alike.{agreement-says}
use Rattle.calls.proofs.Swapping.{with_itself, either_order, through_third}
use Rattle.state.specs.Reading.{read_state}
use Rattle.history.specs.Demand3.{Buffers, Runs, read_past, agreement}
use Rattle.history.specs.Swapping.{LookupsAlike, WithItself, EitherOrder, ThroughThird}
use Rattle.history.proofs.Demand3.{read-format}

-- a run that answers yes
said-yes : (g h i i' : Buffers) → Runs i (agreement g h) (agreed true) i' → SaysYes (read_past g) (read_past h) (read_past i)
said-yes g h i i' made = sym made.ran.answered

pub lookups-alike : LookupsAlike
unfolding accepted
lookups-alike g h i i' made x b a c g' h' first second =
    let yes = said-yes g h i i' made in
    let same = (agreement-says (read_state g.state) g.spare (read_state h.state) h.spare (read_state i.state) i.spare (ap accepted yes)).only yes in
    first.ran.answered ∙ same.lookups x b ∙ sym second.ran.answered

pub buffers_with_itself : WithItself
buffers_with_itself h f i i' a made = made.ran.answered ∙ with_itself (read_past h) (read-format h f) (read_past i)

pub buffers_either-order : EitherOrder
buffers_either-order g h i i' j j' a made back = back.ran.answered ∙ either_order (read_past g) (read_past h) (read_past i) (said-yes g h i i' made) (read_past j)

pub buffers_through_third : ThroughThird
buffers_through_third g h k i i' j j' l l' a made more last =
    last.ran.answered ∙ through_third (read_past g) (read_past h) (read_past k) (read_past i) (read_past j) (said-yes g h i i' made) (said-yes h k j j' more) (read_past l)
