-- The ways in which a collection ends: its refusals in order, and the collection done. Assumes nothing.
use mathlib.Core.Path.{◌≡◌, refl, sym, ap, ◌∙◌}
use mathlib.Core.List.{List, [], ◌∷◌, ◌++◌}
use mathlib.Core.Option.{none, some}
use mathlib.Core.Bool.{true≢false, Bool, true, false, not, ◌&&◌}
use Prim.Native.Nat.{ℕ, ◌*◌, ◌≤◌}
use native.Mathlib.Omega.{arith}
use lib.ListN.{length, take}
use borrow.Author.Tests.{not-false}
use Rattle.model.specs.Lists.{store}
use Rattle.model.specs.Device.{Device, first_page}
use Rattle.model.specs.Learning.{Write, logicals, sources}
use Rattle.model.specs.State.{free_blocks, lowest_in}
use Rattle.model.specs.Sound.{is_empty}
use Rattle.model.proofs.Lists.{length-store}
use Rattle.model.proofs.Limits.{limits}
use Rattle.model.proofs.Sorting.{logicals-length}
use Rattle.calls.specs.Refusals.{Refusal, bad_length, not_sound, no_free_block, nothing_to_gain, Check, ◌when◌, first_refusal, wrong_length}
use Rattle.calls.specs.Outcome.{Answer, accepted, refused, collected}
use Rattle.calls.specs.Choice.{blocks_of, first_of, no_gain}
use Rattle.calls.specs.PageMap.{write_counts}
use Rattle.calls.proofs.Refusing.{ClearTo, front-refuses, others_decide, refuses_at, clears, is_clear, right-length, wrong_length_lem, length_is}
use Rattle.choice.specs.Taking.{gain_checks}
use Rattle.choice.proofs.Deciding.{moves-empty}
use Rattle.choice.proofs.Taken.{blocks-length}
use Rattle.choice.proofs.Tallies.{length-tally}
use Rattle.sorting.proofs.SortStores.{front}
use Rattle.plain.specs.Table.{Table, sound_table}
use Rattle.plain.specs.Calls.{opening, victims, moves, collect, lent_to, checks_of, enter, written, cleared, answer_of, leaves}
use Rattle.plainstate.specs.Reading.{read_table}
use Rattle.plainstate.specs.Shaped.{Shaped, Passed}
use Rattle.plainstate.specs.Ran.{Ran}
use Rattle.plainstate.specs.Tally.{tally_of}
use Rattle.plainstate.proofs.Shaping.{length-counts}
use Rattle.plainstate.proofs.Refusing.{opened-shape}
use Rattle.plainstate.proofs.Running.{ran-refused, ran-accepted}
use Rattle.plaincalls.specs.Written.{block_taken}
use Rattle.plaincalls.specs.Collecting.{admit_checks}
use Rattle.plaincalls.proofs.Entering.{taken-written}
use Rattle.plaincalls.proofs.Taking.{taken-few}

-- Writes on the lowest-numbered free block: none, ..
module _ (ws : List Write) (s : Table) (pages : List ℕ) (are : pages ≡ logicals ws) where
  pub none_written : length pages ≡ 0 → (0 ≡ first_of ws s.device s.counts) × (s ≡ written ws s)
  unfolding first_of written write_counts enter logicals
  none_written z = go ws (omega (arith, z, ap (λ (l : List ℕ). length l) are, logicals-length ws))
    where
      go : (ws : List Write) → length ws ≡ 0 → (0 ≡ first_of ws s.device s.counts) × (s ≡ written ws s)
      go [] e = (refl, refl)
      go (w ∷ ws) e = absurd (omega arith)

  -- .. or some, which the block has taken.
  pub some_written : (length pages ≡ 0 → ⊥) → (k : ℕ) → k ≡ lowest_in s.counts → (d : Device) → s.device ≡ d → (t : Table) → t ≡ block_taken k pages s
      → (k * d.B ≡ first_of ws s.device s.counts) × (t ≡ written ws s)
  unfolding first_of first_page logicals
  some_written n k e d q t f = go ws are
    where
      go : (ws : List Write) → pages ≡ logicals ws → (k * d.B ≡ first_of ws s.device s.counts) × (t ≡ written ws s)
      go [] a = absurd (n (ap (λ (l : List ℕ). length l) a))
      go (w ∷ ws) a = (rw (e, ← q), f ∙ rw (e, a) (taken-written (w ∷ ws) s (omega arith)))

-- The table is shaped as before.
pub written-shape : (d : Device) (ws : List Write) (s t : Table) → Shaped d s → t ≡ written ws s → Shaped d t
unfolding written
written-shape d ws s t h e = rw e (record { numbers = h.numbers; limits = h.limits; long = h.long })

-- Moves written and blocks erased: what is left, and the answer.
module _ (s : Table) (blocks : List ℕ) where
  pub collection-left : (t u : Table) → t ≡ written (moves s) s → blocks ≡ blocks_of (victims s) → u ≡ cleared blocks t → u ≡ cleared (blocks_of (victims s)) (written (moves s) s)
  collection-left t u e b f = f ∙ ap (λ (ks : List ℕ). cleared ks t) b ∙ ap (cleared (blocks_of (victims s))) e

  pub collection-answer : (first n : ℕ) → first ≡ first_of (moves s) s.device s.counts → n ≡ length (moves s) → blocks ≡ blocks_of (victims s)
      → collected first n (length blocks) ≡ collected (first_of (moves s) s.device s.counts) (length (moves s)) (length (blocks_of (victims s)))
  collection-answer first n e f b = rw (e, f, b)

-- The checks behind the opening before any counting, by the device's own numbers.
abbrev pub rest : Device → Table → List ℕ → List ℕ → List Check
rest d t plan erased = bad_length when wrong_length plan d.B ∷ bad_length when wrong_length erased d.M ∷ not_sound when not (sound_table t) ∷ []

module _ (state plan erased : List ℕ) where
  abbrev t : Table
  t = read_table state

  -- They decide where the state is opened.
  to_rest : (d : Device) → (first_refusal (opening t) ≡ none) × (t.device ≡ d) → first_refusal (admit_checks plan erased t) ≡ first_refusal (rest d t plan erased)
  to_rest d p = others_decide (opening t) _ p.0 ∙ ap (λ (e : Device). first_refusal (rest e t plan erased)) p.1

  -- Each refuses where its test says so, and none before it.
  module _ (d : Device) (p : (first_refusal (opening t) ≡ none) × (t.device ≡ d)) where
    pub shape : Shaped d t
    shape = opened-shape t d p.0 p.1

    pub plan_refused : (length plan ≡ d.B → ⊥) → first_refusal (admit_checks plan erased t) ≡ some bad_length
    plan_refused n = to_rest d p ∙ refuses_at 0 _ refl tt (wrong_length_lem plan d.B n)

    module _ (planned : length plan ≡ d.B) where
      passed₁ : ClearTo 1 (rest d t plan erased)
      passed₁ = (right-length plan d.B planned, tt)

      pub erased_refused : (length erased ≡ d.M → ⊥) → first_refusal (admit_checks plan erased t) ≡ some bad_length
      erased_refused n = to_rest d p ∙ refuses_at 1 _ refl passed₁ (wrong_length_lem erased d.M n)

      module _ (listed : length erased ≡ d.M) where
        passed₂ : ClearTo 2 (rest d t plan erased)
        passed₂ = (passed₁.0, (right-length erased d.M listed, tt))

        pub table_refused : false ≡ sound_table t → first_refusal (admit_checks plan erased t) ≡ some not_sound
        table_refused e = to_rest d p ∙ refuses_at 2 _ refl passed₂ (ap not (sym e))

        pub none_refused : true ≡ sound_table t → first_refusal (admit_checks plan erased t) ≡ none
        none_refused e = to_rest d p ∙ is_clear _ (passed₁.0, (passed₂.1.0, (ap not (sym e), tt)))

  -- What a collection that none of them refuses has passed.
  pub admitted : (d : Device) → (first_refusal (admit_checks plan erased t) ≡ none) × (t.device ≡ d) → Passed d t × (length plan ≡ d.B) × (length erased ≡ d.M)
  admitted d p =
      let c = clears (admit_checks plan erased t) p.0 in
      let r = c.1.1 in (
        record { shape = opened-shape t d (is_clear (opening t) (c.0, (c.1.0, tt))) p.1; sound = not-false _ r.1.1.0 },
        rw p.1 at (length_is plan t.device.B r.0),
        rw p.1 at (length_is erased t.device.M r.1.0),
      )

  module _ (d : Device) (h : Passed d t) where
    -- The front of the tally is the table's.
    module _ (z tally : List ℕ) (long : length z ≡ 4096) (same : length tally ≡ length z) (is : tally ≡ store z 0 (tally_of t)) where
      pub tally-room : d.M ≤ length tally
      tally-room = omega (arith, (limits d h.shape.limits).most_M)

      pub tallied : take d.M tally ≡ tally_of t
      tallied =
          let size : length (tally_of t) ≡ d.M = length-tally _ t.device t.counts ∙ length-counts d state h.shape in
          front z tally (tally_of t) d.M is (sym size) (omega (arith, size, (limits d h.shape.limits).most_M))

    -- The front of the list are the taken blocks.
    module _ (room : length erased ≡ d.M) (n : ℕ) (count : n ≡ length (victims t)) (list : List ℕ) (is : list ≡ store erased 0 (blocks_of (victims t))) where
      few : length (blocks_of (victims t)) ≤ length erased
      few = omega (arith, taken-few d state h, room)

      pub taken-room : n ≤ length list
      taken-room = omega (arith, count, blocks-length (victims t), few, ap (λ (l : List ℕ). length l) is, length-store erased 0 (blocks_of (victims t)))

      pub taken-front : take n list ≡ blocks_of (victims t)
      taken-front = front erased list (blocks_of (victims t)) n is (count ∙ sym (blocks-length (victims t))) few

  -- all checks: these, then 8 and 6
  checks_are : checks_of (collect plan erased) t ≡ admit_checks plan erased t ++ gain_checks (victims t) t.counts
  unfolding checks_of
  checks_are =
      ap (λ (b : Bool). admit_checks plan erased t ++ (nothing_to_gain when no_gain (victims t) ∷ no_free_block when (not b && is_empty (free_blocks 0 t.counts)) ∷ []))
      (moves-empty _ (victims t))

  -- A refused collection changes nothing.
  refuses : (r : Refusal) → first_refusal (admit_checks plan erased t ++ gain_checks (victims t) t.counts) ≡ some r
      → Ran (collect plan erased) state (refused r) (record { state = state; plan = plan; erased = erased })
  unfolding lent_to
  refuses r e = ran-refused (collect plan erased) state _ r (ap first_refusal checks_are ∙ e) refl refl

  -- 1, 2 or 3.
  pub not_admitted : (r : Refusal) → first_refusal (admit_checks plan erased t) ≡ some r
      → Ran (collect plan erased) state (refused r) (record { state = state; plan = plan; erased = erased })
  not_admitted r e = refuses r (front-refuses (admit_checks plan erased t) _ e)

  module _ (passed : first_refusal (admit_checks plan erased t) ≡ none) where
    -- 8 or 6: no block is taken.
    pub not_taken : (r : Refusal) → first_refusal (gain_checks (victims t) t.counts) ≡ some r → (erased' : List ℕ) → erased' ≡ erased
        → Ran (collect plan erased) state (refused r) (record { state = state; plan = plan; erased = erased' })
    not_taken r e erased' same = rw same (refuses r (others_decide (admit_checks plan erased t) _ passed ∙ e))

    -- Nothing is refused: the collection is done.
    pub collects : first_refusal (gain_checks (victims t) t.counts) ≡ none → (answer : Answer) (state' plan' erased' : List ℕ)
        → answer ≡ collected (first_of (moves t) t.device t.counts) (length (moves t)) (length (blocks_of (victims t)))
        → read_table state' ≡ cleared (blocks_of (victims t)) (written (moves t) t) → plan' ≡ store plan 0 (sources (moves t)) → erased' ≡ store erased 0 (blocks_of (victims t))
        → Ran (collect plan erased) state answer (record { state = state'; plan = plan'; erased = erased' })
    unfolding answer_of leaves accepted
    collects e answer state' plan' erased' a s p l =
        ran-accepted (collect plan erased) state _ answer (ap first_refusal checks_are ∙ others_decide (admit_checks plan erased t) _ passed ∙ e) a (rw (s, p, l))
        (λ r. absurd (true≢false (sym (ap accepted a) ∙ r)))
