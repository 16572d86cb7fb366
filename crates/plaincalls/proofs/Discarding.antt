-- The ways in which a discard ends: refused, or with the entry cleared. Assumes nothing.
use mathlib.Core.Path.{◌≡◌, refl}
use mathlib.Core.List.{List}
use mathlib.Core.Option.{none, some}
use mathlib.Core.Bool.{true≢false}
use Prim.Native.Nat.{ℕ}
use lib.ListN.{set}
use Rattle.calls.specs.Refusals.{Refusal, first_refusal}
use Rattle.calls.specs.Outcome.{accepted, refused, discarded}
use Rattle.plain.specs.Table.{Table, with_entries, no_page}
use Rattle.plain.specs.Calls.{discard, lent_to, entry_checks, checks_of, without, answer_of, leaves}
use Rattle.plainstate.specs.Reading.{read_table}
use Rattle.plainstate.specs.Ran.{state_slices, Ran}
use Rattle.plainstate.proofs.Running.{ran-refused, ran-accepted}

module _ (state : List ℕ) (x : ℕ) where
  abbrev t : Table
  t = read_table state

  pub discard-refused : (r : Refusal) → first_refusal (entry_checks x t) ≡ some r → Ran (discard x) state (refused r) (state_slices state)
  unfolding checks_of lent_to
  discard-refused r e = ran-refused (discard x) state _ r e refl refl

  pub discard_done_lem : first_refusal (entry_checks x t) ≡ none → (state' : List ℕ) → read_table state' ≡ with_entries (set t.entries x no_page) t
      → Ran (discard x) state discarded (state_slices state')
  unfolding checks_of answer_of leaves without accepted
  discard_done_lem e state' q = ran-accepted (discard x) state _ discarded e refl (rw q) (λ z. absurd (true≢false z))
