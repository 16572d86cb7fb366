-- The checks at a call's start: what is known behind them, and the ways in which they refuse. Assumes nothing.
use mathlib.Core.Path.{◌≡◌, refl, ap, ◌∙◌}
use mathlib.Core.Option.{none, some}
use mathlib.Core.Bool.{true, false, not}
use Prim.Native.Nat.{ℕ, ◌≤◌, ◌<◌}
use lib.Dec.{ltb, leb}
use borrow.Author.Tests.{lt-ltb, le-ltb, eq-eqb, ne_eqb, eqb-true, le-leb, lt-leb, leb-false, not-false}
use Rattle.model.specs.Device.{Device, within_limits, head_length}
use Rattle.model.proofs.Bools.{or_none}
use Rattle.calls.specs.Refusals.{Refusal, bad_numbers, bad_length, not_sound, out_of_range, first_refusal}
use Rattle.calls.proofs.Refusing.{refuses_at, front-refuses, others_decide, clears, is_clear}
use Rattle.plain.specs.Table.{Table, table_length, entry_at, sound_entry}
use Rattle.plain.specs.Calls.{numbers_missing, opening, entry_checks}
use Rattle.plainstate.specs.Shaped.{Shaped}

module _ (t : Table) where
  -- A state that passes the checks on it alone has its shape.
  pub opened-shape : (d : Device) → first_refusal (opening t) ≡ none → t.device ≡ d → Shaped d t
  opened-shape d e n =
      let p = clears (opening t) e in
      let l : within_limits t.device ≡ true = not-false _ (or_none (ltb t.bytes head_length) _ p.0).1 in
      let b : t.bytes ≡ table_length t.device = eqb-true _ _ (not-false _ p.1.0) in
      record { numbers = n; limits = rw n at l; long = rw n at b }

  -- The ways in which it is refused ..
  pub too_short_lem : t.bytes < head_length → first_refusal (opening t) ≡ some bad_numbers
  too_short_lem h = refuses_at 0 (opening t) refl tt (rw (lt-ltb t.bytes head_length h))

  pub not_within : head_length ≤ t.bytes → within_limits t.device ≡ false → first_refusal (opening t) ≡ some bad_numbers
  not_within l h = refuses_at 0 (opening t) refl tt (rw (le-ltb t.bytes head_length l, h))

  module _ (l : head_length ≤ t.bytes) (h : within_limits t.device ≡ true) where
    numbers_there : numbers_missing t ≡ false
    numbers_there = rw (le-ltb t.bytes head_length l, h)

    pub not_long : (t.bytes ≡ table_length t.device → ⊥) → first_refusal (opening t) ≡ some bad_length
    not_long n = refuses_at 1 (opening t) refl (numbers_there, tt) (rw (ne_eqb t.bytes (table_length t.device) n))

    -- .. and the one in which it is not
    pub is_open : t.bytes ≡ table_length t.device → first_refusal (opening t) ≡ none
    is_open e = is_clear (opening t) (numbers_there, (rw (eq-eqb t.bytes (table_length t.device) e), tt))

  -- The checks of a call on logical page x: those, then no such page, then its entry not sound.
  module _ (x : ℕ) where
    pub page-closed : (r : Refusal) → first_refusal (opening t) ≡ some r → first_refusal (entry_checks x t) ≡ some r
    unfolding entry_checks
    page-closed r e = front-refuses (opening t) _ e

    module _ (d : Device) (passed : (first_refusal (opening t) ≡ none) × (t.device ≡ d)) where
      pub no_page_lem : d.N ≤ x → first_refusal (entry_checks x t) ≡ some out_of_range
      unfolding entry_checks
      no_page_lem l = others_decide (opening t) _ passed.0 ∙ refuses_at 0 _ refl tt (rw (passed.1, le-leb d.N x l))

      module _ (inside : x < d.N) where
        there : leb t.device.N x ≡ false
        there = rw (passed.1, lt-leb d.N x inside)

        pub page_unsound : sound_entry t (entry_at t x) ≡ false → first_refusal (entry_checks x t) ≡ some not_sound
        unfolding entry_checks
        page_unsound f = others_decide (opening t) _ passed.0 ∙ refuses_at 1 _ refl (there, tt) (ap not f)

        pub page-clear : sound_entry t (entry_at t x) ≡ true → first_refusal (entry_checks x t) ≡ none
        unfolding entry_checks
        page-clear f = others_decide (opening t) _ passed.0 ∙ is_clear _ (there, (ap not f, tt))

    -- A page that passes them can be looked up.
    pub opened-page : (d : Device) → first_refusal (entry_checks x t) ≡ none → t.device ≡ d → Shaped d t × (x < d.N) × (sound_entry t (entry_at t x) ≡ true)
    unfolding entry_checks
    opened-page d e n =
        let p = clears (entry_checks x t) e in
        let l : x < t.device.N = leb-false t.device.N x p.1.1.0 in
        (opened-shape d (is_clear (opening t) (p.0, (p.1.0, tt))) n, rw n at l, not-false _ p.1.1.1.0)
