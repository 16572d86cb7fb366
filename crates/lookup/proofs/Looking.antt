-- The ways in which a lookup ends: refused, or with its answer. Assumes nothing.
use mathlib.Core.Path.{◌≡◌, refl}
use mathlib.Core.List.{List, []}
use mathlib.Core.Option.{none, some}
use Prim.Native.Nat.{ℕ}
use Rattle.model.specs.State.{State}
use Rattle.calls.specs.Refusals.{Refusal, first_refusal}
use Rattle.calls.specs.Outcome.{Answer, refused}
use Rattle.calls.specs.Lookup.{lookup_checks, seek, answer_of, lookup_done}
use Rattle.calls.specs.History.{lookup_call, lend, lent_to, checks_of, effect}
use Rattle.state.specs.Reading.{read_state}
use Rattle.state.specs.Ran.{device_slices, Ran}
use Rattle.state.proofs.Refusing.{ran-refused, ran-accepted}

module _ (state spare : List ℕ) (x : ℕ) where
  abbrev s : State
  s = read_state state

  pub lookup-refused : (r : Refusal) → first_refusal (lookup_checks x (lend s spare [] [])) ≡ some r → Ran (lookup_call x) state spare (refused r) (device_slices state spare)
  unfolding checks_of lent_to lend
  lookup-refused r e = ran-refused (lookup_call x) state spare _ r e refl refl

  pub lookup-answers : first_refusal (lookup_checks x (lend s spare [] [])) ≡ none → (a : Answer) → a ≡ answer_of (seek s spare x) → Ran (lookup_call x) state spare a (device_slices state spare)
  unfolding checks_of lent_to lend effect lookup_done
  lookup-answers e a q = ran-accepted (lookup_call x) state spare a _ e q refl (λ _. refl)
