-- Both engines on states that show one page map: the next call is refused alike, or gives the same pages, plan and list of erased blocks.
-- Assumes nothing.
use mathlib.Core.Path.{◌≡◌, refl, sym, ◌∙◌, ap}
use mathlib.Core.List.{List, []}
use mathlib.Core.Option.{Option, none, some}
use mathlib.Core.Bool.{Bool, true, false, not}
use Prim.Native.Nat.{ℕ, ◌<◌}
use lib.ListN.{get_or}
use borrow.Author.Tests.{eq-eqb, leb-false}
use Rattle.model.specs.Device.{Device, within_limits}
use Rattle.model.specs.State.{State}
use Rattle.calls.specs.Refusals.{Refusal, first_refusal}
use Rattle.calls.specs.Outcome as learned
use Rattle.calls.specs.Outcome.{unless}
use Rattle.calls.specs.Format.{format_checks, format_done}
use Rattle.calls.specs.Flush.{write_block, flush_done}
use Rattle.calls.specs.Lookup as lookups
use Rattle.calls.specs.Lookup.{Looked, seek, lookup_done}
use Rattle.calls.specs.Discard.{discard_done}
use Rattle.calls.specs.Collection.{collect_done}
use Rattle.calls.specs.History as history
use Rattle.calls.specs.History.{lend, effect}
use Rattle.calls.specs.PageMap.{PageMap, map_checks}
use Rattle.calls.proofs.Refusing.{stops, is_clear, clears, right-length}
use Rattle.calls.proofs.Invariant as learned_invariant
use Rattle.calls.proofs.Found.{map_of, seek_found, Missed, marked, unmarked, seek-nowhere}
use Rattle.calls.proofs.Collected.{collect_by, collect_same, collect-rest}
use Rattle.calls.proofs.Passing.{flush_checks_lem, lookup_checks_lem, discard_checks_lem, collect_checks_lem}
use Rattle.plain.specs.Table.{Table, no_page, page_of}
use Rattle.plain.specs.Calls.{Common, format, flush, lookup, discard, collect, as_call, lent_to, checks_of, looked_up, answer_of, leaves, Outcome, outcome, run}
use Rattle.plain.specs.Engines.{Same, formats, flushes, finds, misses, discards, collects, Pair, Sized}
use Rattle.plain.specs.Engines as engines
use Rattle.plain.proofs.Invariant.{table_of, Inv}
use Rattle.plain.proofs.Choosing.{same_victims, same_moves}
use Rattle.plain.proofs.Passing.{same_checks}

-- What a call comes to in both engines is the same.
pub record Agreed (o : learned.Outcome) (o' : Outcome) : Type 0 where
  pub answers : Same o.answer o'.answer
  pub plans : o.after.plan ≡ o'.after.plan
  pub erased : o.after.erased ≡ o'.after.erased

-- a call that is refused changes no list
refused-agreed : (c : Common) (s : State) (spare : List ℕ) (t : Table) (r : Refusal)
    → Agreed (record { answer = learned.refused r; after = history.lent_to (as_call c) s spare }) (record { answer = learned.refused r; after = lent_to c t })
unfolding as_call history.lent_to lent_to lend
refused-agreed (format d) s spare t r = record { answers = engines.refuses r; plans = refl; erased = refl }
refused-agreed (flush batch plan) s spare t r = record { answers = engines.refuses r; plans = refl; erased = refl }
refused-agreed (lookup x) s spare t r = record { answers = engines.refuses r; plans = refl; erased = refl }
refused-agreed (discard x) s spare t r = record { answers = engines.refuses r; plans = refl; erased = refl }
refused-agreed (collect plan erased) s spare t r = record { answers = engines.refuses r; plans = refl; erased = refl }

-- two calls that are refused alike and, where they aren't, do alike
decide : (c : Common) (s : State) (spare : List ℕ) (t : Table)
    → first_refusal (history.checks_of (as_call c) (history.lent_to (as_call c) s spare)) ≡ first_refusal (checks_of c t)
    → (first_refusal (checks_of c t) ≡ none → Agreed (effect (as_call c) (history.lent_to (as_call c) s spare)) (record { answer = answer_of c t; after = leaves c t }))
    → Agreed (history.run (as_call c) s spare) (run c t)
unfolding history.run unless learned.outcome run outcome
decide c s spare t same work = rw same (go (first_refusal (checks_of c t)) refl)
  where
    x : learned.Lent
    x = history.lent_to (as_call c) s spare

    go : (o : Option Refusal) → first_refusal (checks_of c t) ≡ o → Agreed (learned.outcome o x (effect (as_call c) x)) (outcome o c t)
    go none e = work e
    go (some r) e = refused-agreed c s spare t r

-- A format of numbers within limits is refused for nothing in the learned engine.
pub format-clear : (d : Device) (h : Pair) → within_limits d ≡ true → Sized (format d) h → first_refusal (format_checks d (lend h.state h.spare [] [])) ≡ none
unfolding lend format_checks Sized
format-clear d h e z = is_clear _ (ap not e, (ap not (eq-eqb _ _ (z e).0), (right-length _ _ (z e).1, tt)))

-- A format, whatever was there before.
pub format-agreed : (d : Device) (h : Pair) → Sized (format d) h → Agreed (history.run (as_call (format d)) h.state h.spare) (run (format d) h.table)
unfolding as_call history.lent_to history.checks_of effect lend format_checks format_done checks_of answer_of leaves Sized
format-agreed d h z = decide (format d) h.state h.spare h.table (go (within_limits d) refl) (λ e. record { answers = formats; plans = refl; erased = refl })
  where
    go : (t : Bool) → within_limits d ≡ t → first_refusal (format_checks d (lend h.state h.spare [] [])) ≡ first_refusal (checks_of (format d) h.table)
    go true e = format-clear d h e z ∙ sym (is_clear _ (ap not e, (ap not (eq-eqb _ _ (z e).2), tt)))
    go false e = stops _ _ (ap not e) ∙ sym (stops _ _ (ap not e))

module _ (s : State) (spare : List ℕ) (place : ℕ → Option ℕ) (v : learned_invariant.Inv s spare place) (es : List ℕ) (i : Inv (map_of s place) es) where
  abbrev m : PageMap
  m = map_of s place

  abbrev t : Table
  t = table_of m es

  -- a lookup gives the same page, or 'not written' in both
  lookup-agreed : (x : ℕ) → x < m.device.N → Same (lookups.answer_of (seek s spare x)) (looked_up (page_of (get_or es x no_page)))
  unfolding lookups.answer_of looked_up
  lookup-agreed x h = rw (i.names x h) (go (place x) refl)
    where
      missed : (o : Looked) → Missed s spare place v x o → Same (lookups.answer_of o) (looked_up none)
      missed o (marked e) = misses 0 0
      missed o (unmarked n e) = misses n 0

      go : (o : Option ℕ) → place x ≡ o → Same (lookups.answer_of (seek s spare x)) (looked_up o)
      go none e = missed (seek s spare x) (seek-nowhere s spare place v x h e)
      go (some p) e = rw (seek_found s spare place v x p (v.placed x p h e)).sought (finds p _ _ p 0)

  -- a collection takes the same blocks and moves the same pages
  collect-agreed : (plan erased : List ℕ) → Agreed (collect_done (lend s spare plan erased)) (record { answer = answer_of (collect plan erased) t; after = leaves (collect plan erased) t })
  unfolding collect_by lend answer_of leaves
  collect-agreed plan erased =
      let x : learned.Lent = lend s spare plan erased in
      let left = collect-rest x place v in
      rw (collect_same x place v) (record {
        answers = rw (same_moves m es i, same_victims m es i) (collects _ _ _);
        plans = rw (same_moves m es i) left.plan;
        erased = rw (same_victims m es i) left.erased;
      })

  -- The next call.
  pub agreed : (c : Common) → Sized c (record { state = s; spare = spare; table = t }) → Agreed (history.run (as_call c) s spare) (run c t)
  unfolding as_call history.lent_to history.checks_of effect lend flush_done write_block lookup_done discard_done answer_of leaves map_checks
  agreed (format d) z = format-agreed d (record { state = s; spare = spare; table = t }) z
  agreed (flush batch plan) z =
      decide (flush batch plan) s spare t (flush_checks_lem s spare place v batch plan ∙ sym (same_checks m es i (flush batch plan))) (λ e. record { answers = flushes _ _; plans = refl; erased = refl })
  agreed (lookup x) z =
      decide (lookup x) s spare t (lookup_checks_lem s spare place v x ∙ sym (same_checks m es i (lookup x)))
      (λ e. record { answers = lookup-agreed x (leb-false m.device.N x (clears _ (sym (same_checks m es i (lookup x)) ∙ e)).0); plans = refl; erased = refl })
  agreed (discard x) z =
      decide (discard x) s spare t (discard_checks_lem s spare place v x ∙ sym (same_checks m es i (discard x))) (λ e. record { answers = discards; plans = refl; erased = refl })
  agreed (collect plan erased) z =
      decide (collect plan erased) s spare t (collect_checks_lem s spare place v plan erased ∙ sym (same_checks m es i (collect plan erased))) (λ e. collect-agreed plan erased)
