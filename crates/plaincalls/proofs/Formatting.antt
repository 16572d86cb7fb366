-- The ways in which a format ends: its refusals, and the blank device. Assumes nothing.
use mathlib.Core.Path.{◌≡◌, refl}
use mathlib.Core.List.{List}
use mathlib.Core.Option.{some}
use mathlib.Core.Bool.{true≢false, true, false}
use Prim.Native.Nat.{ℕ}
use lib.ListN.{length}
use borrow.Author.Tests.{eq-eqb, ne_eqb}
use Rattle.model.specs.Device.{Device, within_limits}
use Rattle.calls.specs.Refusals.{Refusal, bad_numbers, bad_length, first_refusal}
use Rattle.calls.specs.Outcome.{accepted, refused, formatted}
use Rattle.calls.proofs.Refusing.{refuses_at, is_clear}
use Rattle.plain.specs.Table.{table_length}
use Rattle.plain.specs.Calls.{format, lent_to, checks_of, blank_table, answer_of, leaves}
use Rattle.plainstate.specs.Reading.{read_table}
use Rattle.plainstate.specs.Ran.{state_slices, Ran}
use Rattle.plainstate.proofs.Running.{ran-refused, ran-accepted}

module _ (d : Device) (state : List ℕ) where
  refuses : (r : Refusal) → first_refusal (checks_of (format d) (read_table state)) ≡ some r → Ran (format d) state (refused r) (state_slices state)
  unfolding lent_to
  refuses r e = ran-refused (format d) state _ r e refl refl

  pub format-numbers : within_limits d ≡ false → Ran (format d) state (refused bad_numbers) (state_slices state)
  unfolding checks_of
  format-numbers f = refuses bad_numbers (refuses_at 0 _ refl tt (rw f))

  module _ (within : within_limits d ≡ true) where
    pub format-length : (length state ≡ table_length d → ⊥) → Ran (format d) state (refused bad_length) (state_slices state)
    unfolding checks_of read_table
    format-length h = refuses bad_length (refuses_at 1 _ refl (rw within, tt) (rw (ne_eqb (length state) (table_length d) h)))

    pub format_done_lem : length state ≡ table_length d → (state' : List ℕ) → read_table state' ≡ blank_table d → Ran (format d) state formatted (state_slices state')
    unfolding checks_of read_table answer_of leaves accepted
    format_done_lem long state' q =
        ran-accepted (format d) state _ formatted (is_clear _ (rw within, (rw (eq-eqb (length state) (table_length d) long), tt))) refl (rw q) (λ e. absurd (true≢false e))
