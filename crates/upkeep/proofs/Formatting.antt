-- The ways in which a format ends: its refusals, and the blank device. Assumes nothing.
use mathlib.Core.Path.{◌≡◌, refl}
use mathlib.Core.List.{List, []}
use mathlib.Core.Option.{some}
use mathlib.Core.Bool.{true≢false, true, false, not}
use Prim.Native.Nat.{ℕ}
use lib.Dec.{eqb}
use lib.ListN.{length, replicate}
use borrow.Author.Tests.{eq-eqb, ne_eqb}
use Rattle.model.specs.Device.{Device, within_limits, state_length, spare_length}
use Rattle.model.specs.Spare.{nobody}
use Rattle.calls.specs.Refusals.{Refusal, bad_numbers, bad_length, first_refusal}
use Rattle.calls.specs.Outcome.{accepted, refused, formatted}
use Rattle.calls.specs.Format.{format_checks, blank_state, format_done}
use Rattle.calls.specs.History.{format_call, lend, lent_to, checks_of, effect}
use Rattle.calls.proofs.Refusing.{refuses_at, is_clear, right-length, wrong_length_lem}
use Rattle.state.specs.Reading.{read_state}
use Rattle.state.specs.Ran.{device_slices, Ran}
use Rattle.state.proofs.Refusing.{ran-refused, ran-accepted}

module _ (d : Device) (state spare : List ℕ) where
  refuses : (r : Refusal) → first_refusal (format_checks d (lend (read_state state) spare [] [])) ≡ some r → Ran (format_call d) state spare (refused r) (device_slices state spare)
  unfolding checks_of lent_to lend
  refuses r e = ran-refused (format_call d) state spare _ r e refl refl

  pub format-numbers : within_limits d ≡ false → Ran (format_call d) state spare (refused bad_numbers) (device_slices state spare)
  unfolding format_checks
  format-numbers f = refuses bad_numbers (refuses_at 0 _ refl tt (rw f))

  module _ (within : within_limits d ≡ true) where
    pub format-state : (length state ≡ state_length d → ⊥) → Ran (format_call d) state spare (refused bad_length) (device_slices state spare)
    unfolding format_checks lend read_state
    format-state h = refuses bad_length (refuses_at 1 _ refl (rw within, tt) (rw (ne_eqb (length state) (state_length d) h)))

    module _ (long : length state ≡ state_length d) where
      state-fits : not (eqb (length state) (state_length d)) ≡ false
      state-fits = rw (eq-eqb (length state) (state_length d) long)

      pub format-spare : (length spare ≡ spare_length d → ⊥) → Ran (format_call d) state spare (refused bad_length) (device_slices state spare)
      unfolding format_checks lend read_state
      format-spare h = refuses bad_length (refuses_at 2 _ refl (rw within, (state-fits, tt)) (wrong_length_lem spare (spare_length d) h))

      pub format_done_lem : length spare ≡ spare_length d → (state' spare' : List ℕ) → read_state state' ≡ blank_state d → spare' ≡ replicate (spare_length d) nobody
          → Ran (format_call d) state spare formatted (device_slices state' spare')
      unfolding checks_of lent_to lend effect format_checks format_done read_state accepted
      format_done_lem fits state' spare' s p =
          ran-accepted (format_call d) state spare formatted _ (is_clear _ (rw within, (state-fits, (right-length spare (spare_length d) fits, tt)))) refl (rw (s, p)) (λ e. absurd (true≢false e))
