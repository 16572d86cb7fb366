-- The frame of a call: what is known behind its first checks, and what it has run where a check refuses it or none does. Assumes nothing.
use mathlib.Core.Path.{◌≡◌, sym, ap, ◌∙◌}
use mathlib.Core.List.{List, [], ◌∷◌}
use mathlib.Core.Option.{none, some}
use mathlib.Core.Bool.{true, false}
use Prim.Native.Nat.{ℕ, ◌≤◌, ◌<◌}
use lib.Dec.{ltb}
use lib.ListN.{length}
use borrow.Author.Tests.{lt-ltb, le-ltb, eq-eqb, ne_eqb, eqb-true, not-false}
use Rattle.model.specs.Device.{Device, within_limits, head_length, spare_length, state_length}
use Rattle.model.specs.State.{State}
use Rattle.model.proofs.Bools.{or_none}
use Rattle.calls.specs.Refusals.{Refusal, bad_numbers, bad_length, ◌when◌, first_refusal, numbers_missing, wrong_state, wrong_spare, opening, opening_with}
use Rattle.calls.specs.Outcome.{Answer, refused, accepted, Outcome, outcome, unless}
use Rattle.calls.specs.History.{Call, lent_to, checks_of, effect, run}
use Rattle.calls.proofs.Decided.{unless-accepts}
use Rattle.calls.proofs.Refusing.{stops, goes_on_lem, clears, is_clear, others_decide, right-length, wrong_length_lem, length_is}
use Rattle.state.specs.Reading.{read_state}
use Rattle.state.specs.Shaped.{Shaped}
use Rattle.state.specs.Ran.{Slices, as_read, Ran}

-- A call that is refused: the answer, and nothing changed.
pub ran-refused : (c : Call) (state spare : List ℕ) (left : Slices) (r : Refusal) → first_refusal (checks_of c (lent_to c (read_state state) spare)) ≡ some r
    → as_read left ≡ lent_to c (read_state state) spare → left.state ≡ state → Ran c state spare (refused r) left
unfolding run unless outcome
ran-refused c state spare left r f same bytes =
    let q : run c (read_state state) spare ≡ record { answer = refused r; after = lent_to c (read_state state) spare } = rw f in
    record { answered = sym (ap (λ (o : Outcome). o.answer) q); leaves = same ∙ sym (ap (λ (o : Outcome). o.after) q); refused_bytes = λ _. bytes }

-- A call that is not: its effect.
pub ran-accepted : (c : Call) (state spare : List ℕ) (answer : Answer) (left : Slices) → first_refusal (checks_of c (lent_to c (read_state state) spare)) ≡ none
    → answer ≡ (effect c (lent_to c (read_state state) spare)).answer → as_read left ≡ (effect c (lent_to c (read_state state) spare)).after → (accepted answer ≡ false → left.state ≡ state) → Ran c state spare answer left
unfolding run
ran-accepted c state spare answer left f a l r =
    let q : run c (read_state state) spare ≡ effect c (lent_to c (read_state state) spare) = unless-accepts _ _ _ f in
    record {
      answered = a ∙ sym (ap (λ (o : Outcome). o.answer) q);
      leaves = l ∙ sym (ap (λ (o : Outcome). o.after) q);
      refused_bytes = r;
    }

-- A state that passes the checks on it alone has its shape ..
pub opened-shape : (s : State) (d : Device) → first_refusal (opening s) ≡ none → s.device ≡ d → Shaped d s
unfolding numbers_missing wrong_state
opened-shape s d e n =
    let p = clears (opening s) e in
    let l : within_limits s.device ≡ true = not-false _ (or_none (ltb s.bytes head_length) _ p.0).1 in
    let b : s.bytes ≡ state_length s.device = eqb-true _ _ (not-false _ p.1.0) in
    record { numbers = n; limits = rw n at l; long = rw n at b }

-- .. and with its spare area.
pub opened_with_lem : (s : State) (spare : List ℕ) (d : Device) → first_refusal (opening_with s spare) ≡ none → s.device ≡ d → Shaped d s × (length spare ≡ spare_length d)
unfolding wrong_spare
opened_with_lem s spare d e n =
    let p = clears (opening_with s spare) e in
    let l : length spare ≡ spare_length s.device = length_is spare (spare_length s.device) p.1.1.0 in
    (opened-shape s d (is_clear (opening s) (p.0, (p.1.0, tt))) n, rw n at l)

-- A spare area of another length is refused, behind a state that is not.
pub other_spare : (s : State) (spare : List ℕ) → first_refusal (opening s) ≡ none → (length spare ≡ spare_length s.device → ⊥) → first_refusal (opening_with s spare) ≡ some bad_length
unfolding wrong_spare
other_spare s spare e n = others_decide (opening s) _ e ∙ stops (bad_length when wrong_spare s spare) [] (wrong_length_lem spare (spare_length s.device) n)

-- One of the right length passes with it.
pub right-spare : (s : State) (spare : List ℕ) → first_refusal (opening s) ≡ none → length spare ≡ spare_length s.device → first_refusal (opening_with s spare) ≡ none
unfolding wrong_spare
right-spare s spare e l = others_decide (opening s) _ e ∙ is_clear (bad_length when wrong_spare s spare ∷ []) (right-length spare (spare_length s.device) l, tt)

-- The ways in which the state alone is refused ..
module _ (s : State) where
  pub too_short_lem : s.bytes < head_length → first_refusal (opening s) ≡ some bad_numbers
  unfolding numbers_missing
  too_short_lem h = stops (bad_numbers when numbers_missing s) _ (rw (lt-ltb s.bytes head_length h))

  pub not_within : head_length ≤ s.bytes → within_limits s.device ≡ false → first_refusal (opening s) ≡ some bad_numbers
  unfolding numbers_missing
  not_within l h = stops (bad_numbers when numbers_missing s) _ (rw (le-ltb s.bytes head_length l, h))

  module _ (l : head_length ≤ s.bytes) (h : within_limits s.device ≡ true) where
    numbers_there : numbers_missing s ≡ false
    unfolding numbers_missing
    numbers_there = rw (le-ltb s.bytes head_length l, h)

    pub not_long : (s.bytes ≡ state_length s.device → ⊥) → first_refusal (opening s) ≡ some bad_length
    unfolding wrong_state
    not_long n =
        goes_on_lem (bad_numbers when numbers_missing s) _ numbers_there
        ∙ stops (bad_length when wrong_state s) _ (rw (ne_eqb s.bytes (state_length s.device) n))

    -- .. and the one in which it is not
    pub is_open : s.bytes ≡ state_length s.device → first_refusal (opening s) ≡ none
    unfolding wrong_state
    is_open e = is_clear (opening s) (numbers_there, (rw (eq-eqb s.bytes (state_length s.device) e), tt))
