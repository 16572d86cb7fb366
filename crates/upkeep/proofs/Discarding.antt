-- The ways in which a discard ends: refused, or with the page marked. Assumes nothing.
use mathlib.Core.Path.{◌≡◌, refl}
use mathlib.Core.List.{List, []}
use mathlib.Core.Option.{none, some}
use mathlib.Core.Bool.{true≢false}
use Prim.Native.Nat.{ℕ}
use Rattle.model.specs.Marks.{mark}
use Rattle.model.specs.State.{State, with_marks}
use Rattle.calls.specs.Refusals.{Refusal, first_refusal}
use Rattle.calls.specs.Outcome.{accepted, refused, discarded}
use Rattle.calls.specs.Lookup.{lookup_checks}
use Rattle.calls.specs.Discard.{discard_page, discard_done}
use Rattle.calls.specs.History.{discard_call, lend, lent_to, checks_of, effect}
use Rattle.state.specs.Reading.{read_state}
use Rattle.state.specs.Ran.{device_slices, Ran}
use Rattle.state.proofs.Refusing.{ran-refused, ran-accepted}

module _ (state spare : List ℕ) (x : ℕ) where
  abbrev s : State
  s = read_state state

  pub discard-refused : (r : Refusal) → first_refusal (lookup_checks x (lend s spare [] [])) ≡ some r → Ran (discard_call x) state spare (refused r) (device_slices state spare)
  unfolding checks_of lent_to lend
  discard-refused r e = ran-refused (discard_call x) state spare _ r e refl refl

  pub discard_done_lem : first_refusal (lookup_checks x (lend s spare [] [])) ≡ none → (state' : List ℕ) → read_state state' ≡ with_marks (mark x s.marks) s
      → Ran (discard_call x) state spare discarded (device_slices state' spare)
  unfolding checks_of lent_to lend effect discard_done discard_page accepted
  discard_done_lem e state' q = ran-accepted (discard_call x) state spare discarded _ e refl (rw q) (λ z. absurd (true≢false z))
