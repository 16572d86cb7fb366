-- The ways in which a collection ends: its refusals in order, and the collection done. Assumes nothing.
use mathlib.Core.Path.{◌≡◌, refl, sym, ap, ◌∙◌}
use mathlib.Core.List.{List, [], ◌∷◌, ◌++◌}
use mathlib.Core.Option.{none, some}
use mathlib.Core.Bool.{true≢false, Bool, true, false, not, ◌&&◌}
use Prim.Native.Nat.{ℕ, ◌≤◌}
use native.Mathlib.Omega.{arith}
use lib.ListN.{length, take}
use borrow.Author.Tests.{not-false}
use Rattle.model.specs.Lists.{store}
use Rattle.model.specs.Device.{Device}
use Rattle.model.specs.State.{State, free_blocks}
use Rattle.model.specs.Sound.{is_empty, sound_state}
use Rattle.calls.specs.Refusals.{Refusal, bad_length, not_sound, no_free_block, nothing_to_gain, Check, ◌when◌, first_refusal, wrong_length, opening_with}
use Rattle.calls.specs.Outcome.{Lent, Answer, accepted, refused}
use Rattle.calls.specs.Choice.{blocks_of, no_gain}
use Rattle.calls.specs.Collection.{valid, victims, admit_checks, collect_checks, collect_done}
use Rattle.calls.specs.History.{collect_call, lend, lent_to, checks_of, effect}
use Rattle.calls.proofs.Refusing.{front-refuses, others_decide, refuses_at, clears, is_clear, length_is, right-length, wrong_length_lem}
use Rattle.sorting.proofs.SortStores.{front}
use Rattle.choice.specs.Taking.{gain_checks}
use Rattle.choice.proofs.Taken.{blocks-length, blocks-few}
use Rattle.choice.proofs.Deciding.{moves-empty}
use Rattle.state.specs.Reading.{read_state}
use Rattle.state.specs.Shaped.{Passed}
use Rattle.state.specs.Ran.{Slices, Ran}
use Rattle.state.proofs.Shaping.{length-counts}
use Rattle.state.proofs.Refusing.{ran-refused, ran-accepted, opened_with_lem}

-- The checks behind the opening before any counting, by the device's own numbers.
abbrev pub rest : Device → State → List ℕ → List ℕ → List Check
rest d s plan erased = bad_length when wrong_length plan d.B ∷ bad_length when wrong_length erased d.M ∷ not_sound when not (sound_state s) ∷ []

module _ (state spare plan erased : List ℕ) where
  abbrev s : State
  s = read_state state

  abbrev x : Lent
  x = lend s spare plan erased

  abbrev pub Refused : Refusal → Type 0
  Refused r = first_refusal (admit_checks x) ≡ some r

  -- They decide where the state is opened, by what was tested so far.
  module _ (d : Device) (opened : (first_refusal (opening_with s spare) ≡ none) × (s.device ≡ d)) where
    to_rest : first_refusal (admit_checks x) ≡ first_refusal (rest d s plan erased)
    unfolding lend
    to_rest = others_decide (opening_with s spare) _ opened.0 ∙ ap (λ (e : Device). first_refusal (rest e s plan erased)) opened.1

    pub unplanned : (length plan ≡ d.B → ⊥) → Refused bad_length
    unplanned h = to_rest ∙ refuses_at 0 _ refl tt (wrong_length_lem _ _ h)

    module _ (planned : length plan ≡ d.B) where
      pub unlisted : (length erased ≡ d.M → ⊥) → Refused bad_length
      unlisted h = to_rest ∙ refuses_at 1 _ refl (right-length _ _ planned, tt) (wrong_length_lem _ _ h)

      module _ (listed : length erased ≡ d.M) where
        pub unsound : sound_state s ≡ false → Refused not_sound
        unsound f = to_rest ∙ refuses_at 2 _ refl (right-length _ _ planned, (right-length _ _ listed, tt)) (ap not f)

        pub admits : sound_state s ≡ true → first_refusal (admit_checks x) ≡ none
        admits f = to_rest ∙ is_clear _ (right-length _ _ planned, (right-length _ _ listed, (ap not f, tt)))

  -- What a collection that none of them refuses has passed.
  pub admitted : (d : Device) → (first_refusal (admit_checks x) ≡ none) × (s.device ≡ d) → Passed d s spare × (length plan ≡ d.B) × (length erased ≡ d.M)
  unfolding lend
  admitted d p =
      let c = clears (admit_checks x) p.0 in
      let o = opened_with_lem s spare d (is_clear (opening_with s spare) (c.0, (c.1.0, (c.1.1.0, tt)))) p.1 in
      let r = c.1.1.1 in
      (record { shape = o.0; fits = o.1; sound = not-false _ r.1.1.0 }, rw p.1 at (length_is plan s.device.B r.0), rw p.1 at (length_is erased s.device.M r.1.0))

  -- The taken blocks stand at the front of the list.
  module _ (d : Device) (p : (first_refusal (admit_checks x) ≡ none) × (s.device ≡ d)) (c : ℕ) (erased' : List ℕ) (count : c ≡ length (victims s spare))
      (listed : erased' ≡ store erased 0 (blocks_of (victims s spare))) where
    pub listed-few : c ≤ length erased
    listed-few =
        let a = admitted d p in
        omega (arith, count, blocks-length (victims s spare), blocks-few (valid s spare) s.device s.counts d.M (length-counts d state a.0.shape), a.2)

    pub listed_front : take c erased' ≡ blocks_of (victims s spare)
    listed_front =
        let few = listed-few in
        front _ _ _ _ listed (count ∙ sym (blocks-length _)) (omega (arith, few, count, blocks-length (victims s spare)))

  -- All checks: these, then 8 and 6.
  checks_are : collect_checks x ≡ admit_checks x ++ gain_checks (victims s spare) s.counts
  unfolding collect_checks lend
  checks_are =
      ap (λ (b : Bool). admit_checks x ++ (nothing_to_gain when no_gain (victims s spare) ∷ no_free_block when (not b && is_empty (free_blocks 0 s.counts)) ∷ []))
      (moves-empty _ (victims s spare))

  -- A refused collection changes nothing.
  abbrev as_lent : Slices
  as_lent = record { state = state; spare = spare; plan = plan; erased = erased; out = [] }

  refuses : (r : Refusal) → first_refusal (admit_checks x ++ gain_checks (victims s spare) s.counts) ≡ some r → Ran (collect_call plan erased) state spare (refused r) as_lent
  unfolding checks_of lent_to lend
  refuses r e = ran-refused (collect_call plan erased) state spare _ r (ap first_refusal checks_are ∙ e) refl refl

  -- 1, 2 or 3.
  pub not_admitted : (r : Refusal) → first_refusal (admit_checks x) ≡ some r → Ran (collect_call plan erased) state spare (refused r) as_lent
  not_admitted r e = refuses r (front-refuses (admit_checks x) _ e)

  module _ (passed : first_refusal (admit_checks x) ≡ none) where
    -- 8 or 6: no block is taken.
    pub not_taken : (r : Refusal) → first_refusal (gain_checks (victims s spare) s.counts) ≡ some r → (erased' : List ℕ) → erased' ≡ erased
        → Ran (collect_call plan erased) state spare (refused r) (record { state = state; spare = spare; plan = plan; erased = erased'; out = [] })
    not_taken r e erased' same = rw same (refuses r (others_decide (admit_checks x) _ passed ∙ e))

    -- Nothing is refused: the collection is done.
    pub collects : first_refusal (gain_checks (victims s spare) s.counts) ≡ none → (answer : Answer) (state' spare' plan' erased' : List ℕ)
        → answer ≡ (collect_done x).answer → lend (read_state state') spare' plan' erased' ≡ (collect_done x).after
        → Ran (collect_call plan erased) state spare answer (record { state = state'; spare = spare'; plan = plan'; erased = erased'; out = [] })
    unfolding checks_of lent_to effect collect_done lend accepted
    collects e answer state' spare' plan' erased' f g =
        ran-accepted (collect_call plan erased) state spare answer _ (ap first_refusal checks_are ∙ others_decide (admit_checks x) _ passed ∙ e) f g
        (λ r. absurd (true≢false (sym (ap accepted f) ∙ r)))
