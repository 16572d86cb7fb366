-- What a collection moves: the gathered pages sorted by logical page, and what writing them to the lowest free block leaves.
-- Assumes nothing.
use mathlib.Core.Path.{◌≡◌, refl, sym, ap, ◌∙◌}
use mathlib.Core.List.{List, [], ◌∷◌, map}
use mathlib.Core.Bool.{true}
use Prim.Native.Nat.{ℕ, ◌*◌, ◌≤◌, ◌<◌}
use native.Mathlib.Omega.{arith}
use lib.Dec.{ltb}
use lib.ListN.{length, take, length-map}
use borrow.Author.Tests.{lt-ltb, ltb-true}
use Rattle.model.specs.Lists.{all, elem, ascending, store}
use Rattle.model.specs.Device.{Device, first_page}
use Rattle.model.specs.Spare.{middle, program_block}
use Rattle.model.specs.Learning.{Write, sort, logicals, sources}
use Rattle.model.specs.State.{State, free_blocks, lowest_free, lowest_in}
use Rattle.model.proofs.Bools.{and_l}
use Rattle.model.proofs.Lists.{all_each, of_asc, store_nil}
use Rattle.model.proofs.Counting.{from}
use Rattle.model.proofs.Blocks.{lowest_free_lem}
use Rattle.model.proofs.Limits.{limits}
use Rattle.model.proofs.Sorting.{sort_asc, sort-elem, sort-length, logicals-length}
use Rattle.calls.specs.Outcome.{Lent}
use Rattle.calls.specs.Flush.{write_state, write_block}
use Rattle.calls.specs.Choice.{blocks_of, pages_of, copy_by, moves_by, first_of}
use Rattle.calls.specs.Collection.{valid, victims, moves, move_all, first_moved}
use Rattle.calls.specs.History.{lend}
use Rattle.calls.proofs.Choosing.{page-taken, pages-fit}
use Rattle.sorting.specs.Keys.{writes}
use Rattle.sorting.proofs.SortStores.{front}
use Rattle.sorting.proofs.SortBatch.{same_writes}
use Rattle.choice.proofs.Taken.{taken-again}
use Rattle.state.proofs.Places.{small}
use Rattle.state.specs.Shaped.{Passed}
use Rattle.collection.proofs.Gathering.{gathered}

-- copies, by their logical pages and their sources
copies : (name : ℕ → ℕ) (ps : List ℕ) → writes (map name ps) ps ≡ map (copy_by name) ps
unfolding writes copy_by
copies name [] = refl
copies name (p ∷ ps) = ap (λ (l : List Write). record { logical = name p; source = p } ∷ l) (copies name ps)

copies_named : (name : ℕ → ℕ) (ps : List ℕ) → logicals (map (copy_by name) ps) ≡ map name ps
unfolding logicals copy_by
copies_named name [] = refl
copies_named name (p ∷ ps) = ap (λ (l : List ℕ). name p ∷ l) (copies_named name ps)

module _ (s : State) (spare : List ℕ) where
  -- No more are moved than are taken.
  moves_most : length (moves s spare) ≤ length (pages_of (victims s spare))
  unfolding moves_by
  moves_most =
      let copied = map (copy_by (middle s.device spare)) (pages_of (victims s spare)) in
      omega (arith, sort-length copied, length-map (pages_of (victims s spare)) (copy_by (middle s.device spare)))

  moves_ascend : ascending (logicals (moves s spare)) ≡ true
  unfolding moves_by
  moves_ascend = of_asc _ (sort_asc (map (copy_by (middle s.device spare)) (pages_of (victims s spare))))

  -- the logical page of a page that is taken is one
  taken-named : (p : ℕ) → elem p (pages_of (victims s spare)) ≡ true → middle s.device spare p < s.device.N
  unfolding valid
  taken-named p m = ltb-true (middle s.device spare p) s.device.N (and_l _ _ (page-taken (valid s spare) s.device s.counts p m).0)

  -- what is named by a page that is taken is below N
  named-below : (x : ℕ) → elem x (map (middle s.device spare) (pages_of (victims s spare))) ≡ true → x < s.device.N
  named-below x m =
      let r = from (middle s.device spare) (pages_of (victims s spare)) x m in
      rw r.gives at (taken-named r.source r.among)

  moves-logical : all (λ x. ltb x s.device.N) (logicals (moves s spare)) ≡ true
  unfolding moves_by
  moves-logical = all_each (λ x. ltb x s.device.N) _ (λ x m.
      lt-ltb x s.device.N (named-below x (ap (elem x) (sym (copies_named (middle s.device spare) (pages_of (victims s spare)))) ∙ sym (sort-elem x _) ∙ m)))

module _ (d : Device) (s : State) (spare : List ℕ) (v : Passed d s spare) where
  -- what is taken fits a block
  room : length (pages_of (victims s spare)) ≤ d.B
  room = omega (arith, pages-fit (valid s spare) s.device s.counts, ap (λ (e : Device). e.B) v.shape.numbers)

  -- what the taken blocks' numbers gather is what is taken
  gathered_is : (bs : List ℕ) → bs ≡ blocks_of (victims s spare) → gathered s spare bs ≡ pages_of (victims s spare)
  gathered_is bs e = ap (gathered s spare) e ∙ ap pages_of (taken-again (valid s spare) s.device s.counts)

  -- Few pages are gathered, and few are moved.
  pub gathered-few : (bs : List ℕ) → bs ≡ blocks_of (victims s spare) → length (gathered s spare bs) ≤ 256
  gathered-few bs e = omega (arith, ap length (gathered_is bs e), room, (limits d v.shape.limits).most_B)

  pub moves-few : length (moves s spare) ≤ 256
  moves-few = omega (arith, moves_most s spare, room, (limits d v.shape.limits).most_B)

  -- Stored at the front of a list that holds them, they are its front.
  pub moves_front : (z t : List ℕ) (n : ℕ) → t ≡ store z 0 (logicals (moves s spare)) → n ≡ length (moves s spare) → 256 ≤ length z → take n t ≡ logicals (moves s spare)
  moves_front z t n e count room =
      let size = logicals-length (moves s spare) in
      front z t _ n e (count ∙ sym size) (omega (arith, size, moves-few))

  -- The gathered pages, at the front of two lists, are ready to be sorted; sorted they are the moves.
  module _ (bs b b' f f' : List ℕ) (n : ℕ) (is : bs ≡ blocks_of (victims s spare)) (count : n ≡ length (gathered s spare bs))
      (named : b' ≡ store b 0 (map (middle d spare) (gathered s spare bs))) (from : f' ≡ store f 0 (gathered s spare bs))
      (long : length b ≡ 256) (long' : length f ≡ 256) where
    abbrev taken : List ℕ
    taken = pages_of (victims s spare)

    front-names : take n b' ≡ map (middle s.device spare) taken
    front-names =
        let size = length-map (gathered s spare bs) (middle d spare) in
        front b b' _ n named (omega arith) (omega (arith, gathered-few bs is))
        ∙ ap (map (middle d spare)) (gathered_is bs is)
        ∙ ap (λ (e : Device). map (middle e spare) taken) (sym v.shape.numbers)

    front_from : take n f' ≡ taken
    front_from = front f f' _ n from count (omega (arith, gathered-few bs is)) ∙ gathered_is bs is

    front_lengths : (length (take n b') ≡ n) × (length (take n f') ≡ n)
    front_lengths =
        let size = count ∙ ap length (gathered_is bs is) in
        (ap length front-names ∙ length-map taken (middle s.device spare) ∙ sym size, ap length front_from ∙ sym size)

    small_name : (x : ℕ) → elem x (map (middle s.device spare) taken) ≡ true → ltb x 1048576 ≡ true
    small_name x m = lt-ltb x 1048576 (omega (arith, named-below s spare x m, ap (λ (e : Device). e.N) v.shape.numbers, (small d v.shape.limits).pages))

    pub sort-ready : (p q : ℕ) → d.B ≤ p → d.B ≤ q
        → (length (take n b') ≤ 256) × (all (λ y. ltb y 1048576) (take n b') ≡ true) × (length (take n f') ≡ length (take n b'))
        × (length (take n b') ≤ p) × (length (take n b') ≤ q)
    sort-ready p q h k =
        let size = front_lengths in
        let fits : n ≤ d.B = omega (arith, count, ap length (gathered_is bs is), room) in
        let most = (limits d v.shape.limits).most_B in (
          omega arith,
          ap (all (λ y. ltb y 1048576)) front-names ∙ all_each (λ y. ltb y 1048576) _ small_name,
          size.1 ∙ sym size.0,
          omega arith,
          omega arith,
        )

    are : sort (writes (take n b') (take n f')) ≡ moves s spare
    unfolding moves_by
    are =
        ap (λ (l : List ℕ). sort (writes l (take n f'))) front-names
        ∙ ap (λ (l : List ℕ). sort (writes (map (middle s.device spare) taken) l)) front_from
        ∙ ap sort (copies (middle s.device spare) taken)

    pub sort-done : (r : ℕ) (ps ps' ss ss' : List ℕ) → r ≡ length (sort (writes (take n b') (take n f')))
        → ps' ≡ store ps 0 (logicals (sort (writes (take n b') (take n f'))))
        → ss' ≡ store ss 0 (sources (sort (writes (take n b') (take n f'))))
        → (r ≡ length (moves s spare)) × ((ps' ≡ store ps 0 (logicals (moves s spare))) × (ss' ≡ store ss 0 (sources (moves s spare))))
    sort-done r ps ps' ss ss' = same_writes _ (moves s spare) are r ps ps' ss ss'

  -- A block can take the moves.
  module _ (ps : List ℕ) (named : ps ≡ logicals (moves s spare)) where
    pub write-ready : (ascending ps ≡ true) × (all (λ x. ltb x d.N) ps ≡ true) × (length ps ≤ d.B)
    write-ready = (
      ap ascending named ∙ moves_ascend s spare,
      ap (all (λ x. ltb x d.N)) named ∙ ap (λ (e : Device). all (λ x. ltb x e.N) (logicals (moves s spare))) (sym v.shape.numbers) ∙ moves-logical s spare,
      omega (arith, ap length named, logicals-length (moves s spare), moves_most s spare, room),
    )

    -- the plan with the sources in front
    abbrev planned : List ℕ → List Write → List ℕ
    planned plan ws = store plan 0 (sources ws)

    -- Nothing to move: nothing is written ..
    nothing : (ws : List Write) → length ws ≡ 0
        → (0 ≡ first_moved ws s) × ((plan erased : List ℕ) → lend s spare (planned plan ws) erased ≡ move_all ws (lend s spare plan erased))
    unfolding first_of move_all sources
    nothing [] h = (refl, λ plan erased. ap (λ (l : List ℕ). lend s spare l erased) (store_nil plan 0))
    nothing (w ∷ ws) h = absurd (omega arith)

    pub none_moved : length ps ≡ 0 → (0 ≡ first_moved (moves s spare) s)
        × ((plan erased : List ℕ) → lend s spare (planned plan (moves s spare)) erased ≡ move_all (moves s spare) (lend s spare plan erased))
    none_moved h = nothing (moves s spare) (omega (arith, h, ap length named, logicals-length (moves s spare)))

    -- .. otherwise the lowest free block takes the moves.
    something : (ws : List Write) → (length ws ≡ 0 → ⊥) → (first_moved ws s ≡ first_page s.device (lowest_free s)) × ((x : Lent) → move_all ws x ≡ write_block ws (lowest_free x.state) x)
    unfolding first_of move_all
    something [] h = absurd (h refl)
    something (w ∷ ws) h = (refl, λ x. refl)

    pub some_moved : (length ps ≡ 0 → ⊥) → (k : ℕ) → k ≡ lowest_free s → (s' : State) (spare' : List ℕ)
        → ((ws : List Write) → logicals ws ≡ ps → s' ≡ write_state ws k s) → spare' ≡ program_block d ps k spare
        → (k * d.B ≡ first_moved (moves s spare) s)
        × ((plan erased : List ℕ) → lend s' spare' (planned plan (moves s spare)) erased ≡ move_all (moves s spare) (lend s spare plan erased))
    unfolding first_page lend write_block
    some_moved h k e s' spare' a b =
        let m = something (moves s spare) (λ q. h (omega (arith, q, ap length named, logicals-length (moves s spare)))) in
        let state : s' ≡ write_state (moves s spare) (lowest_free s) s = a (moves s spare) (sym named) ∙ ap (λ (j : ℕ). write_state (moves s spare) j s) e in
        let area : spare' ≡ program_block s.device (logicals (moves s spare)) (lowest_free s) spare =
        b ∙ ap (λ (c : Device). program_block c ps k spare) (sym v.shape.numbers) ∙ ap (λ (l : List ℕ). program_block s.device l k spare) named
        ∙ ap (λ (j : ℕ). program_block s.device (logicals (moves s spare)) j spare) e in
        (ap (λ (j : ℕ). j * d.B) e ∙ ap (λ (c : Device). lowest_free s * c.B) (sym v.shape.numbers) ∙ sym m.0, λ plan erased. rw (state, area) (sym (m.1 _)))

  -- The block that is written is one of the device's.
  pub lowest_in_lem : length s.counts ≡ d.M → (k : ℕ) → k ≡ lowest_free s → k < d.M
  unfolding lowest_in
  lowest_in_lem counted k e = go (free_blocks 0 s.counts) refl
    where
      go : (l : List ℕ) → free_blocks 0 s.counts ≡ l → k < d.M
      go [] q =
          let z : k ≡ 0 = e ∙ rw q refl in
          omega (arith, (limits d v.shape.limits).least_M)
      go (f ∷ l) q = omega (arith, e, counted, (lowest_free_lem s.counts (rw q (omega arith))).0)
