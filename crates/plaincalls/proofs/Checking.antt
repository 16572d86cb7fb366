-- A flush's refusals behind the opening, in order. Assumes nothing.
use mathlib.Core.Path.{◌≡◌, refl, sym, ap, ◌∙◌}
use mathlib.Core.List.{List, [], ◌∷◌}
use mathlib.Core.Option.{none, some}
use mathlib.Core.Bool.{true, false, not, ◌||◌}
use Prim.Native.Nat.{ℕ, ◌≤◌, ◌<◌}
use native.Mathlib.Omega.{arith}
use lib.Dec.{ltb}
use lib.ListN.{length}
use borrow.Author.Tests.{lt-ltb, le-ltb}
use Rattle.model.specs.Lists.{all}
use Rattle.model.specs.Device.{Device}
use Rattle.model.specs.State.{free_blocks}
use Rattle.model.specs.Sound.{is_empty}
use Rattle.calls.specs.Refusals.{bad_length, not_sound, bad_batch, out_of_range, no_free_block, Check, ◌when◌, first_refusal, wrong_length}
use Rattle.calls.proofs.Refusing.{ClearTo, others_decide, refuses_at, is_clear, right-length, wrong_length_lem}
use Rattle.plain.specs.Table.{Table, sound_table}
use Rattle.plain.specs.Calls.{flush, opening, checks_of}
use Rattle.front.specs.Reading.{read_counts}
use Rattle.plainstate.specs.Reading.{read_table}
use Rattle.plainstate.specs.Shaped.{Shaped}
use Rattle.plainstate.proofs.Shaping.{counts_are}
use Rattle.plainstate.proofs.Refusing.{opened-shape}

-- by the device's own numbers
abbrev pub rest : Device → Table → List ℕ → List ℕ → List Check
rest d t batch plan =
    bad_length when wrong_length plan d.B
    ∷ not_sound when not (sound_table t)
    ∷ bad_batch when (is_empty batch || ltb d.B (length batch))
    ∷ out_of_range when not (all (λ y. ltb y d.N) batch)
    ∷ no_free_block when ltb (length (free_blocks 0 t.counts)) 2
    ∷ []

-- they decide where the state is opened
to_rest : (t : Table) (batch plan : List ℕ) (d : Device) → (first_refusal (opening t) ≡ none) × (t.device ≡ d)
    → first_refusal (checks_of (flush batch plan) t) ≡ first_refusal (rest d t batch plan)
unfolding checks_of
to_rest t batch plan d p = others_decide (opening t) _ p.0 ∙ ap (λ (e : Device). first_refusal (rest e t batch plan)) p.1

-- Each refuses where its test says so, and none before it.
module _ (s batch plan : List ℕ) (d : Device) (p : (first_refusal (opening (read_table s)) ≡ none) × ((read_table s).device ≡ d)) where
  abbrev t : Table
  t = read_table s

  left : first_refusal (checks_of (flush batch plan) t) ≡ first_refusal (rest d t batch plan)
  left = to_rest t batch plan d p

  pub shape : Shaped d t
  shape = opened-shape t d p.0 p.1

  pub plan_refused : (length plan ≡ d.B → ⊥) → first_refusal (checks_of (flush batch plan) t) ≡ some bad_length
  plan_refused n = left ∙ refuses_at 0 _ refl tt (wrong_length_lem plan d.B n)

  module _ (planned : length plan ≡ d.B) where
    passed₁ : ClearTo 1 (rest d t batch plan)
    passed₁ = (right-length plan d.B planned, tt)

    pub table_refused : false ≡ sound_table t → first_refusal (checks_of (flush batch plan) t) ≡ some not_sound
    table_refused e = left ∙ refuses_at 1 _ refl passed₁ (ap not (sym e))

    module _ (sound : true ≡ sound_table t) where
      passed₂ : ClearTo 2 (rest d t batch plan)
      passed₂ = (passed₁.0, (ap not (sym sound), tt))

      pub size_refused : true ≡ (is_empty batch || ltb d.B (length batch)) → first_refusal (checks_of (flush batch plan) t) ≡ some bad_batch
      size_refused e = left ∙ refuses_at 2 _ refl passed₂ (sym e)

      module _ (sized : false ≡ (is_empty batch || ltb d.B (length batch))) where
        passed₃ : ClearTo 3 (rest d t batch plan)
        passed₃ = (passed₁.0, (passed₂.1.0, (sym sized, tt)))

        pub page_refused : false ≡ all (λ y. ltb y d.N) batch → first_refusal (checks_of (flush batch plan) t) ≡ some out_of_range
        page_refused e = left ∙ refuses_at 3 _ refl passed₃ (ap not (sym e))

        module _ (inside : true ≡ all (λ y. ltb y d.N) batch) (n : ℕ) (free : n ≡ length (free_blocks 0 (read_counts d s))) where
          frees : n ≡ length (free_blocks 0 t.counts)
          frees = free ∙ ap (λ (cs : List ℕ). length (free_blocks 0 cs)) (sym (counts_are d s shape))

          pub free_refused : n < 2 → first_refusal (checks_of (flush batch plan) t) ≡ some no_free_block
          free_refused l =
              left ∙ refuses_at 4 _ refl (passed₁.0, (passed₂.1.0, (passed₃.1.1.0, (ap not (sym inside), tt)))) (lt-ltb (length (free_blocks 0 t.counts)) 2 (omega (arith, frees)))

          pub none_refused : 2 ≤ n → first_refusal (checks_of (flush batch plan) t) ≡ none
          none_refused l =
              left ∙ is_clear _ (passed₁.0, (passed₂.1.0, (passed₃.1.1.0, (ap not (sym inside), (le-ltb (length (free_blocks 0 t.counts)) 2 (omega (arith, frees)), tt)))))
