-- The values of an answer are bounded: pages by the device's limits, levels and records by the group's
-- soundness, counts by the batch and the room, erased blocks by the number of blocks. Assumes nothing.
use mathlib.Core.Path.{◌≡◌, refl, sym, ap, subst}
use mathlib.Core.List.{List, [], ◌∷◌, map, flatten}
use mathlib.Core.Option.{Option, none, some}
use mathlib.Core.Bool.{true≢false, Bool, true, false}
use Prim.Native.Nat.{ℕ, zero, suc, ◌+◌, ◌-◌, ◌≤◌, ◌<◌}
use native.Mathlib.Omega.{arith}
use native.Mathlib.Nat.{mul-le-mul_left}
use lib.Dec.{ltb, leb, eqb}
use lib.IntN.{ℤ, pos, negsuc}
use lib.ListN.{length, length-map, length-append}
use borrow.Author.Tests.{ltb-true, ltb-false, not-false}
use Rattle.model.specs.Lists.{all, or_else}
use Rattle.model.specs.Device.{Device, head_length, pages, first_page, group_of, offset_of, names_per_page}
use Rattle.model.specs.Record.{Record, predict}
use Rattle.model.specs.Spare.{middle, names, lowest_naming, page_named}
use Rattle.model.specs.Learning.{Write, sorted}
use Rattle.model.specs.Levels.{Group, listing, record_count, holder, levels_to}
use Rattle.model.specs.Marks.{is_marked}
use Rattle.model.specs.State.{State, group_at, free_blocks, used_blocks, lowest_in}
use Rattle.model.proofs.Bools.{and_l, and_r, or_none, all_head, all_tail}
use Rattle.model.proofs.Limits.{Limits, limits, page-inside}
use Rattle.model.proofs.Blocks.{lowest_free_lem, free_and_used}
use Rattle.model.proofs.LevelsTo.{levels_to_most}
use Rattle.model.proofs.RecordCount.{compact-count}
use Rattle.model.proofs.SoundGroup.{group-parts}
use Rattle.model.proofs.Sorting.{sort-length, sorted-length}
use Rattle.model.specs.Sound.{is_empty, is_filled}
use Rattle.calls.specs.Refusals.{Refusal, first_refusal, numbers_missing}
use Rattle.calls.specs.Outcome.{Lent, outcome, unless}
use Rattle.calls.specs.Format.{format_done}
use Rattle.calls.specs.Flush.{flush_checks, flush_done}
use Rattle.calls.specs.Lookup.{looked_named, looked_at, looked_by, descend, seek, answer_of, lookup_checks, lookup_done}
use Rattle.calls.specs.Discard.{discard_done}
use Rattle.calls.specs.Choice.{Used, used_by, ranked, take_while, victims_by, blocks_of, pages_of, copy_by, moves_by, first_of}
use Rattle.calls.specs.Collection.{valid, moves, collect_checks, collect_done}
use Rattle.calls.specs.Compaction.{compact_done}
use Rattle.calls.specs.Agreement.{agree_done}
use Rattle.calls.specs.Listing.{list_checks, list_done}
use Rattle.calls.specs.Why.{why_checks, why_done}
use Rattle.calls.specs.History.{Call, format_call, flush_call, lookup_call, discard_call, collect_call, compact_call, agree_call, list_call, why_call, lend, lent_to, checks_of, effect, run}
use Rattle.calls.specs.Bounds.{page_limit, Bounded}
use Rattle.calls.proofs.Ranking.{ranked-length}
use Rattle.calls.proofs.Choosing.{pages-fit}
use Rattle.calls.proofs.Refusing.{none_some, clears}
use Rattle.calls.proofs.Marked.{seek-marked, seek_unmarked}
use Rattle.calls.proofs.Explanation.{reasons_most}

-- the page that an entry names is one of the device's
names-inside : (d : Device) (spare : List ℕ) (p x j : ℕ) → names d spare p x j ≡ true → p + j - d.g < pages d
unfolding names
names-inside d spare p x j h = ltb-true (p + j - d.g) (pages d) (search (and_l, and_r))

lowest-inside : (d : Device) (spare : List ℕ) (p x j n q : ℕ) → lowest_naming d spare p x j n ≡ some q → q < pages d
unfolding lowest_naming or_else
lowest-inside d spare p x j zero q e = none_some e
lowest-inside d spare p x j (suc n) q e = go (names d spare p x j) refl e (λ f. lowest-inside d spare p x (suc j) n q f)
  where
    go : (t : Bool) → names d spare p x j ≡ t → or_else t (p + j - d.g) (lowest_naming d spare p x (suc j) n) ≡ some q
        → (lowest_naming d spare p x (suc j) n ≡ some q → q < pages d) → q < pages d
    go true h f ih = let z : p + j - d.g ≡ q = cc in subst (λ (y : ℕ). y < pages d) z (names-inside d spare p x j h)
    go false h f ih = ih f

-- so is the page of a lookup whose predicted page exists
named-inside : (d : Device) (spare : List ℕ) (p x q : ℕ) → p < pages d → page_named d spare p x ≡ some q → q < pages d
unfolding page_named or_else
named-inside d spare p x q h e = go (eqb (middle d spare p) x) e
  where
    go : (t : Bool) → or_else t p (lowest_naming d spare p x 0 (names_per_page d)) ≡ some q → q < pages d
    go true f = let z : p ≡ q = cc in subst (λ (y : ℕ). y < pages d) z h
    go false f = lowest-inside d spare p x 0 (names_per_page d) q f

module _ (d : Device) (l : Limits d) where
  -- a device has at most 2^20 pages
  pub pages_most : pages d ≤ page_limit
  unfolding pages
  pages_most = omega (arith, l.most_M, mul-le-mul_left d.M l.most_B)

  first_small : (k : ℕ) → k < d.M → first_page d k < page_limit
  first_small k h = omega (arith, page-inside d k 0 h (omega (arith, l.least_B)), pages_most)

  looked-fits : (spare : List ℕ) (x n : ℕ) (r : Option Record) → n ≤ 512 → Bounded (answer_of (looked_by d spare x n r))
  unfolding looked_by looked_at looked_named answer_of Bounded
  looked-fits spare x n none h = h
  looked-fits spare x n (some r) h = predicted (predict r (offset_of x))
    where
      named : (p : ℕ) → p < pages d → (o : Option ℕ) → page_named d spare p x ≡ o → Bounded (answer_of (looked_named n p o))
      named p i none e = tt
      named p i (some q) e = (omega (arith, named-inside d spare p x q i e, pages_most), omega (arith, pages_most), h)

      inside : (p : ℕ) (t : Bool) → ltb p (pages d) ≡ t → Bounded (answer_of (looked_at d spare x n (pos p)))
      inside p true e = rw (e, looked_at) (named p (ltb-true p (pages d) e) (page_named d spare p x) refl)
      inside p false e = rw (e, looked_at) tt

      predicted : (z : ℤ) → Bounded (answer_of (looked_at d spare x n z))
      predicted (pos p) = inside p (ltb p (pages d)) refl
      predicted (negsuc m) = tt

-- the device numbers of a call that has passed its first check
numbered : (s : State) → numbers_missing s ≡ false → Limits s.device
unfolding numbers_missing
numbered s e = limits s.device (not-false _ (or_none (ltb s.bytes head_length) _ e).1)

-- no level is empty, so there are no more levels than records
levels-few : (g : Group) → all is_filled g ≡ true → length g ≤ length (listing g)
unfolding is_filled flatten
levels-few [] h = omega arith
levels-few ([] ∷ g) h = absurd (true≢false (sym (all_head is_filled [] g h)))
levels-few ((r ∷ l) ∷ g) h = omega (arith, levels-few g (all_tail is_filled (r ∷ l) g h), length-append (r ∷ l) (flatten g))

-- A lookup's levels are at most 512, its pages below 2^20.
lookup-fits : (page : ℕ) (x : Lent) → first_refusal (lookup_checks page x) ≡ none → Bounded (lookup_done page x).answer
unfolding lookup_checks lookup_done descend record_count answer_of Bounded
lookup-fits page x e =
    let c = clears _ e in
    let s : State = x.state in
    let g : Group = group_at s (group_of page) in
    let p = group-parts s.device.N (group_of page) g (not-false _ c.1.1.1.1.0) in
    let m : levels_to (offset_of page) g ≤ 512 = omega (arith, levels_to_most (offset_of page) g, levels-few g p.filled, p.limit) in
    go (is_marked s.marks page) refl (looked-fits s.device (numbered s c.0) x.spare page (levels_to (offset_of page) g) (holder (offset_of page) (listing g)) m)
  where
    go : (t : Bool) → is_marked x.state.marks page ≡ t → Bounded (answer_of (descend x.state x.spare page)) → Bounded (answer_of (seek x.state x.spare page))
    go true q b = rw (seek-marked x.state x.spare page q) (omega arith)
    go false q b = rw (seek_unmarked x.state x.spare page q) b

-- A listing's records are at most 512.
list-fits : (k : ℕ) (x : Lent) → first_refusal (list_checks k x) ≡ none → Bounded (list_done k x).answer
unfolding list_checks list_done Bounded
list-fits k x e = (group-parts _ k (group_at x.state k) (not-false _ (clears _ e).1.1.1.1.0)).limit

-- A telling's entries are at most 512.
why-fits : (page : ℕ) (x : Lent) → first_refusal (why_checks page x) ≡ none → Bounded (why_done page x).answer
unfolding why_checks why_done record_count Bounded
why-fits page x e =
    let s : State = x.state in
    let g : Group = group_at s (group_of page) in
    let sound = not-false _ (clears _ e).1.1.1.1.0 in
    let p = group-parts s.device.N (group_of page) g sound in
    omega (arith, reasons_most s page sound, levels-few g p.filled, p.limit)

-- no more blocks are taken than there are
taken_most : (room : ℕ) (l : List Used) → length (blocks_of (take_while room l)) ≤ length l
unfolding take_while blocks_of
taken_most room [] = omega arith
taken_most room (u ∷ l) = go (leb (length u.pages) room) refl (taken_most (room - length u.pages) l)
  where
    go : (t : Bool) → leb (length u.pages) room ≡ t → length (blocks_of (take_while (room - length u.pages) l)) ≤ length l → length (blocks_of (take_while room (u ∷ l))) ≤ suc (length l)
    go true q ih = rw (q, take_while) (omega (arith, ih))
    go false q ih = rw (q, take_while) (omega arith)

-- a count for each block, whatever test tells a valid page and whatever name it has: both engines' collections
module _ (d : Device) (cs : List ℕ) (counted : length cs ≡ d.M) (l : Limits d) where
  pub lowest-small : first_page d (lowest_in cs) < page_limit
  unfolding lowest_in
  lowest-small = first_small d l (lowest_in cs) (go (free_blocks 0 cs) refl)
    where
      go : (f : List ℕ) → free_blocks 0 cs ≡ f → lowest_in cs < d.M
      go [] e = let z : lowest_in cs ≡ 0 = rw e in omega (arith, l.least_M)
      go (k ∷ f) e = omega (arith, (lowest_free_lem cs (omega (arith, ap length e))).0)

  pub victims_most : (valid : ℕ → Bool) → length (blocks_of (victims_by valid d cs)) ≤ 4096
  unfolding victims_by
  victims_most valid =
      let us : List Used = map (used_by valid d) (used_blocks 0 cs) in
      omega (arith, taken_most d.B (ranked us), ranked-length us, length-map (used_blocks 0 cs) (used_by valid d), free_and_used 0 cs, l.most_M)

  pub moves_most : (valid : ℕ → Bool) (name : ℕ → ℕ) → length (moves_by name (victims_by valid d cs)) ≤ 256
  unfolding moves_by
  moves_most valid name =
      let ps : List ℕ = pages_of (victims_by valid d cs) in
      omega (arith, sort-length (map (copy_by name) ps), length-map ps (copy_by name), pages-fit valid d cs, l.most_B)

  pub first_moved_lem : (ws : List Write) → first_of ws d cs < page_limit
  unfolding first_of
  first_moved_lem [] = omega arith
  first_moved_lem (w ∷ ws) = lowest-small

-- A flush's first page is below 2^20, its count at most 256.
flush-fits : (batch : List ℕ) (x : Lent) → length x.state.counts ≡ x.state.device.M → first_refusal (flush_checks batch x) ≡ none → Bounded (flush_done batch x).answer
unfolding flush_checks flush_done Bounded sorted
flush-fits batch x counted e =
    let c = clears _ e in
    let l = numbered x.state c.0 in
    let f = ltb-false x.state.device.B (length batch) (or_none (is_empty batch) _ c.1.1.1.1.1.0).1 in
    (lowest-small x.state.device x.state.counts counted l, omega (arith, sorted-length batch, f, l.most_B))

-- A collection's likewise; it erases at most 4,096 blocks.
collect-fits : (x : Lent) → length x.state.counts ≡ x.state.device.M → first_refusal (collect_checks x) ≡ none → Bounded (collect_done x).answer
unfolding collect_checks collect_done Bounded
collect-fits x counted e =
    let s : State = x.state in
    let l = numbered s (clears _ e).0 in
    let test : ℕ → Bool = valid s x.spare in (
      first_moved_lem s.device s.counts counted l (moves s x.spare),
      moves_most s.device s.counts counted l test (middle s.device x.spare),
      victims_most s.device s.counts counted l test,
    )

effect-fits : (c : Call) (s : State) (spare : List ℕ) → length s.counts ≡ s.device.M → first_refusal (checks_of c (lent_to c s spare)) ≡ none → Bounded (effect c (lent_to c s spare)).answer
unfolding checks_of lent_to lend effect format_done discard_done compact_done agree_done Bounded
effect-fits (format_call d) s spare n e = tt
effect-fits (flush_call batch plan) s spare n e = flush-fits batch _ n e
effect-fits (lookup_call x) s spare n e = lookup-fits x _ e
effect-fits (discard_call x) s spare n e = tt
effect-fits (collect_call plan erased) s spare n e = collect-fits _ n e
effect-fits (compact_call k) s spare n e = omega (arith, compact-count (group_at s k))
effect-fits (agree_call a sa b sb) s spare n e = tt
effect-fits (list_call k out) s spare n e = list-fits k _ e
effect-fits (why_call x out) s spare n e = why-fits x _ e

-- Whatever a call answers on a state with a count for each block is bounded.
pub run_bounded : (c : Call) (s : State) (spare : List ℕ) → length s.counts ≡ s.device.M → Bounded (run c s spare).answer
unfolding run unless outcome Bounded
run_bounded c s spare n = go (first_refusal (checks_of c x)) refl
  where
    x : Lent
    x = lent_to c s spare

    go : (o : Option Refusal) → first_refusal (checks_of c x) ≡ o → Bounded (outcome o x (effect c x)).answer
    go none e = effect-fits c s spare n e
    go (some r) e = tt
