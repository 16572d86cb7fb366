-- What a call has run where a check refuses it, or none does. Assumes nothing.
use mathlib.Core.Path.{◌≡◌, sym, ap, ◌∙◌}
use mathlib.Core.List.{List}
use mathlib.Core.Option.{none, some}
use mathlib.Core.Bool.{false}
use Prim.Native.Nat.{ℕ}
use Rattle.calls.specs.Refusals.{Refusal, first_refusal}
use Rattle.calls.specs.Outcome.{Answer, refused, accepted}
use Rattle.plain.specs.Calls.{Common, lent_to, checks_of, answer_of, leaves, Outcome, outcome, run}
use Rattle.plainstate.specs.Reading.{read_table}
use Rattle.plainstate.specs.Ran.{Slices, as_read, Ran}

module _ (c : Common) (state : List ℕ) (left : Slices) where
  -- A call that is refused: the answer, and nothing changed.
  pub ran-refused : (r : Refusal) → first_refusal (checks_of c (read_table state)) ≡ some r → as_read left ≡ lent_to c (read_table state) → left.state ≡ state
      → Ran c state (refused r) left
  unfolding run outcome
  ran-refused r f same bytes =
      let q : run c (read_table state) ≡ record { answer = refused r; after = lent_to c (read_table state) } = rw f in
      record { answered = sym (ap (λ (o : Outcome). o.answer) q); leaves = same ∙ sym (ap (λ (o : Outcome). o.after) q); refused_bytes = λ _. bytes }

  -- A call that is not: its answer, and what it leaves.
  pub ran-accepted : (answer : Answer) → first_refusal (checks_of c (read_table state)) ≡ none → answer ≡ answer_of c (read_table state)
      → as_read left ≡ leaves c (read_table state) → (accepted answer ≡ false → left.state ≡ state) → Ran c state answer left
  unfolding run outcome
  ran-accepted answer f a l r =
      let q : run c (read_table state) ≡ record { answer = answer_of c (read_table state); after = leaves c (read_table state) } = rw f in
      record { answered = a ∙ sym (ap (λ (o : Outcome). o.answer) q); leaves = l ∙ sym (ap (λ (o : Outcome). o.after) q); refused_bytes = r }
