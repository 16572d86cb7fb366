-- The refusals of a call on one logical page: those of its slices, no such page, then its group not sound. Assumes nothing.
use mathlib.Core.Path.{◌≡◌, refl, sym, ap, ◌∙◌}
use mathlib.Core.List.{List, []}
use mathlib.Core.Option.{none, some}
use mathlib.Core.Bool.{Bool, true, false, not}
use Prim.Native.Nat.{ℕ, ◌≤◌, ◌<◌}
use lib.Dec.{leb}
use lib.ListN.{length}
use borrow.Author.Tests.{le-leb, lt-leb, leb-false, not-false}
use Rattle.model.specs.Device.{Device, group_of, spare_length}
use Rattle.model.specs.State.{State, group_at}
use Rattle.model.specs.Sound.{sound_group}
use Rattle.calls.specs.Refusals.{Refusal, Check, not_sound, out_of_range, first_refusal, opening_with}
use Rattle.calls.specs.Lookup.{lookup_checks}
use Rattle.calls.specs.History.{lend}
use Rattle.calls.proofs.Refusing.{front-refuses, others_decide, refuses_at, clears, is_clear}
use Rattle.state.specs.Shaped.{Shaped}
use Rattle.state.proofs.Refusing.{opened_with_lem}

module _ (s : State) (spare : List ℕ) (x : ℕ) where
  abbrev page_checks : List Check
  page_checks = lookup_checks x (lend s spare [] [])

  abbrev sound_in : Device → Bool
  sound_in d = sound_group d.N (group_of x) (group_at s (group_of x))

  pub page-closed : (r : Refusal) → first_refusal (opening_with s spare) ≡ some r → first_refusal page_checks ≡ some r
  unfolding lookup_checks lend
  page-closed r e = front-refuses (opening_with s spare) _ e

  module _ (d : Device) (passed : (first_refusal (opening_with s spare) ≡ none) × (s.device ≡ d)) where
    pub no_page_lem : d.N ≤ x → first_refusal page_checks ≡ some out_of_range
    unfolding lookup_checks lend
    no_page_lem l = others_decide (opening_with s spare) _ passed.0 ∙ refuses_at 0 _ refl tt (rw (passed.1, le-leb d.N x l))

    module _ (inside : x < d.N) where
      there : leb s.device.N x ≡ false
      there = rw (passed.1, lt-leb d.N x inside)

      sound_is : (t : Bool) → sound_in d ≡ t → not (sound_in s.device) ≡ not t
      sound_is t e = ap (λ (c : Device). not (sound_in c)) passed.1 ∙ ap not e

      pub page_unsound : sound_in d ≡ false → first_refusal page_checks ≡ some not_sound
      unfolding lookup_checks lend
      page_unsound f = others_decide (opening_with s spare) _ passed.0 ∙ refuses_at 1 _ refl (there, tt) (sound_is false f)

      pub page-clear : sound_in d ≡ true → first_refusal page_checks ≡ none
      unfolding lookup_checks lend
      page-clear f = others_decide (opening_with s spare) _ passed.0 ∙ is_clear _ (there, (sound_is true f, tt))

  -- A page that passes them can be looked up.
  pub opened-page : (d : Device) → first_refusal page_checks ≡ none → s.device ≡ d → Shaped d s × (length spare ≡ spare_length d) × (x < d.N) × (sound_in d ≡ true)
  unfolding lookup_checks lend
  opened-page d e n =
      let p = clears page_checks e in
      let o = opened_with_lem s spare d (is_clear (opening_with s spare) (p.0, (p.1.0, (p.1.1.0, tt)))) n in
      let l : x < s.device.N = leb-false s.device.N x p.1.1.1.0 in
      let f : sound_in s.device ≡ true = not-false _ p.1.1.1.1.0 in
      (o.0, o.1, rw n at l, ap sound_in (sym n) ∙ f)
