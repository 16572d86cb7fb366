-- A flush's refusals behind the opening, in order. Assumes nothing.
use mathlib.Core.Path.{◌≡◌, refl, ap, ◌∙◌}
use mathlib.Core.List.{List, [], ◌∷◌}
use mathlib.Core.Option.{none, some}
use mathlib.Core.Bool.{true, false, not, ◌||◌}
use Prim.Native.Nat.{ℕ, ◌≤◌, ◌<◌}
use lib.Dec.{ltb}
use lib.ListN.{length}
use borrow.Author.Tests.{lt-ltb, le-ltb}
use Rattle.model.specs.Lists.{all}
use Rattle.model.specs.Device.{Device}
use Rattle.model.specs.State.{State, free_blocks}
use Rattle.model.specs.Sound.{is_empty, sound_state}
use Rattle.calls.specs.Refusals.{Refusal, bad_length, not_sound, bad_batch, out_of_range, no_free_block, Check, ◌when◌, first_refusal, wrong_length, opening_with}
use Rattle.calls.specs.Flush.{flush_checks}
use Rattle.calls.specs.History.{lend}
use Rattle.calls.proofs.Refusing.{others_decide, refuses_at, is_clear, right-length, wrong_length_lem}

-- by the device's own numbers
abbrev pub rest : Device → State → List ℕ → List ℕ → List Check
rest d s batch plan =
    bad_length when wrong_length plan d.B
    ∷ not_sound when not (sound_state s)
    ∷ bad_batch when (is_empty batch || ltb d.B (length batch))
    ∷ out_of_range when not (all (λ y. ltb y d.N) batch)
    ∷ no_free_block when ltb (length (free_blocks 0 s.counts)) 2
    ∷ []

module _ (s : State) (spare batch plan : List ℕ) where
  abbrev pub Refused : Refusal → Type 0
  Refused r = first_refusal (flush_checks batch (lend s spare plan [])) ≡ some r

  -- The state is opened: the other checks decide, by what was tested so far.
  module _ (d : Device) (opened : (first_refusal (opening_with s spare) ≡ none) × (s.device ≡ d)) where
    to_rest : first_refusal (flush_checks batch (lend s spare plan [])) ≡ first_refusal (rest d s batch plan)
    unfolding flush_checks lend
    to_rest = others_decide (opening_with s spare) _ opened.0 ∙ ap (λ (e : Device). first_refusal (rest e s batch plan)) opened.1

    pub unplanned : (length plan ≡ d.B → ⊥) → Refused bad_length
    unplanned h = to_rest ∙ refuses_at 0 _ refl tt (wrong_length_lem _ _ h)

    module _ (planned : length plan ≡ d.B) where
      pub unsound : sound_state s ≡ false → Refused not_sound
      unsound f = to_rest ∙ refuses_at 1 _ refl (right-length _ _ planned, tt) (ap not f)

      module _ (sound : sound_state s ≡ true) where
        pub ill_sized : (is_empty batch || ltb d.B (length batch)) ≡ true → Refused bad_batch
        ill_sized f = to_rest ∙ refuses_at 2 _ refl (right-length _ _ planned, (ap not sound, tt)) f

        module _ (sized : (is_empty batch || ltb d.B (length batch)) ≡ false) where
          pub outside : all (λ y. ltb y d.N) batch ≡ false → Refused out_of_range
          outside f = to_rest ∙ refuses_at 3 _ refl (right-length _ _ planned, (ap not sound, (sized, tt))) (ap not f)

          module _ (inside : all (λ y. ltb y d.N) batch ≡ true) where
            pub few_free : length (free_blocks 0 s.counts) < 2 → Refused no_free_block
            few_free h = to_rest ∙ refuses_at 4 _ refl (right-length _ _ planned, (ap not sound, (sized, (ap not inside, tt)))) (lt-ltb _ 2 h)

            pub admits : 2 ≤ length (free_blocks 0 s.counts) → first_refusal (flush_checks batch (lend s spare plan [])) ≡ none
            admits h = to_rest ∙ is_clear _ (right-length _ _ planned, (ap not sound, (sized, (ap not inside, (le-ltb _ 2 h, tt)))))
