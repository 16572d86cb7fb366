-- How a call on a table that shows a page map ends: refused as the map's is, or accepted with one of the map's answers, leaving the map's
-- plan and list of erased blocks and a table that shows what the map leaves. Assumes nothing.
use mathlib.Core.Path.{◌≡◌, refl, sym, subst}
use mathlib.Core.List.{List}
use mathlib.Core.Option.{Option, none, some}
use mathlib.Core.Bool.{Bool, true, false, not, ◌&&◌}
use Prim.Native.Nat.{ℕ, ◌≤◌}
use native.Mathlib.Omega.{arith}
use lib.ListN.{length}
use borrow.Author.Tests.{ltb-false, leb-false, not-false}
use Rattle.model.specs.Device.{Device, within_limits}
use Rattle.model.specs.Learning.{sorted}
use Rattle.model.specs.State.{free_blocks}
use Rattle.model.specs.Sound.{is_empty}
use Rattle.calls.specs.Refusals.{Refusal, first_refusal}
use Rattle.calls.specs.Outcome.{refused}
use Rattle.calls.specs.History.{flush_call, lookup_call, collect_call}
use Rattle.calls.specs.PageMap.{PageMap, map_moves, map_write, map_clear, map_discard, map_erase, blank_map, map_checks, MapAnswers, formats, flushes, finds, misses, skips, discards, collects, no_lists, map_done}
use Rattle.calls.proofs.Refusing.{clears}
use Rattle.calls.proofs.Fitting.{batch-ready, fits_of, some_there, some_left}
use Rattle.plain.specs.Table.{Table}
use Rattle.plain.specs.Calls.{Common, format, flush, lookup, discard, collect, as_call, lent_to, checks_of, looked_up, written, cleared, without, blank_table, answer_of, leaves, Outcome, outcome, run}
use Rattle.plain.proofs.Invariant.{table_of, Inv, Shown}
use Rattle.plain.proofs.Choosing.{same_victims, same_moves}
use Rattle.plain.proofs.Passing.{fitting, format_checks_lem, same_checks}
use Rattle.plain.proofs.Keeping.{blank_inv, flush_inv, discard_inv, collect_inv}

-- What an accepted call does is what the map does.
pub record Done (c : Common) (t : Table) (m : PageMap) : Type 0 where
  pub answers : MapAnswers m (as_call c) (answer_of c t)
  pub shown : Shown (leaves c t).table (map_done (as_call c) m).map
  pub plan : (leaves c t).plan ≡ (map_done (as_call c) m).plan
  pub erased : (leaves c t).erased ≡ (map_done (as_call c) m).erased

-- a format, whatever was there before
format_done_lem : (d : Device) (t : Table) (m : PageMap) (sized : Bool) → first_refusal (map_checks sized (as_call (format d)) m) ≡ none → Done (format d) t m
unfolding as_call map_checks answer_of leaves map_done no_lists blank_table blank_map
format_done_lem d t m sized e = record {
  answers = formats d;
  shown = record { entries = _; is = refl; inv = blank_inv d (not-false (within_limits d) (clears _ e).0) };
  plan = refl;
  erased = refl;
}

module _ (m : PageMap) (es : List ℕ) (v : Inv m es) where
  abbrev t : Table
  t = table_of m es

  flush_done_lem : (batch plan : List ℕ) → first_refusal (map_checks true (flush_call batch plan) m) ≡ none → Done (flush batch plan) t m
  unfolding as_call map_checks answer_of leaves written map_done map_write map_clear
  flush_done_lem batch plan e =
      let p = clears _ e in
      let f = fits_of m.device batch plan p.0 p.1.0 p.1.1.0 in
      let two : 2 ≤ length (free_blocks 0 m.counts) = ltb-false (length (free_blocks 0 m.counts)) 2 p.1.1.1.0 in
      record {
        answers = flushes batch plan;
        shown = record { entries = _; is = refl; inv = flush_inv m es v batch (sorted batch) (batch-ready m.device batch plan f) (omega arith) };
        plan = refl;
        erased = refl;
      }

  lookup_done_lem : (x : ℕ) → first_refusal (map_checks true (lookup_call x) m) ≡ none → Done (lookup x) t m
  unfolding as_call map_checks answer_of leaves looked_up map_done no_lists
  lookup_done_lem x e = record {
    answers = rw (v.names x (leb-false m.device.N x (clears _ e).0)) (answers (m.place x) refl);
    shown = record { entries = es; is = refl; inv = v };
    plan = refl;
    erased = refl;
  }
    where
      missed : m.place x ≡ none → (t : Bool) → m.discarded x ≡ t → MapAnswers m (lookup_call x) (looked_up none)
      missed q true d = skips x d
      missed q false d = misses x 0 q d

      answers : (o : Option ℕ) → m.place x ≡ o → MapAnswers m (lookup_call x) (looked_up o)
      answers none q = missed q (m.discarded x) refl
      answers (some p) q = finds x p p 0 q

  discard_done_lem : (x : ℕ) → first_refusal (map_checks true (as_call (discard x)) m) ≡ none → Done (discard x) t m
  unfolding as_call map_checks answer_of leaves without map_done map_discard no_lists
  discard_done_lem x e = record {
    answers = discards x;
    shown = record { entries = _; is = refl; inv = discard_inv m es v x (leb-false m.device.N x (clears _ e).0) };
    plan = refl;
    erased = refl;
  }

  collect_done_lem : (plan erased : List ℕ) → first_refusal (map_checks true (collect_call plan erased) m) ≡ none → Done (collect plan erased) t m
  unfolding as_call map_checks answer_of leaves written cleared map_done map_erase map_write
  collect_done_lem plan erased e = record {
    answers = rw (same_moves m es v, same_victims m es v) (collects plan erased);
    shown = rw (same_moves m es v, same_victims m es v) (record { entries = _; is = refl; inv = collect_inv m es v (room (clears _ e).1.1.1.0) });
    plan = rw (same_moves m es v);
    erased = rw (same_victims m es v);
  }
    where
      room : (not (is_empty (map_moves m)) && is_empty (free_blocks 0 m.counts)) ≡ false → 1 ≤ length (map_moves m) → 1 ≤ length (free_blocks 0 m.counts)
      room t n = some_there (free_blocks 0 m.counts) (rw (some_left (map_moves m) n) at t)

  done : (c : Common) → first_refusal (map_checks (fitting c t) (as_call c) m) ≡ none → Done c t m
  unfolding fitting as_call
  done (format d) e = format_done_lem d t m _ e
  done (flush batch plan) e = flush_done_lem batch plan e
  done (lookup x) e = lookup_done_lem x e
  done (discard x) e = discard_done_lem x e
  done (collect plan erased) e = collect_done_lem plan erased e

-- The two ways.
pub data Ended (c : Common) (t : Table) (m : PageMap) : Outcome → Type 0 where
  refuses : (sized : Bool) (r : Refusal) → first_refusal (map_checks sized (as_call c) m) ≡ some r → Ended c t m (record { answer = refused r; after = lent_to c t })
  accepts : (sized : Bool) → first_refusal (map_checks sized (as_call c) m) ≡ none → Done c t m → Ended c t m (record { answer = answer_of c t; after = leaves c t })

-- a call with checks that refuse as the map's do
decide : (c : Common) (t : Table) (m : PageMap) (sized : Bool) → first_refusal (checks_of c t) ≡ first_refusal (map_checks sized (as_call c) m)
    → (first_refusal (map_checks sized (as_call c) m) ≡ none → Done c t m) → Ended c t m (run c t)
unfolding run outcome
decide c t m sized same work = go (first_refusal (checks_of c t)) (sym same)
  where
    go : (o : Option Refusal) → first_refusal (map_checks sized (as_call c) m) ≡ o → Ended c t m (outcome o c t)
    go none e = accepts sized e (work e)
    go (some r) e = refuses sized r e

-- A format ends so whatever was there before ..
pub format-ends : (d : Device) (t : Table) (m : PageMap) → Ended (format d) t m (run (format d) t)
unfolding as_call
format-ends d t m = decide (format d) t m (fitting (format d) t) (format_checks_lem d t m) (format_done_lem d t m (fitting (format d) t))

-- .. and every call does on a table that shows a page map.
pub ends : (t : Table) (m : PageMap) → Shown t m → (c : Common) → Ended c t m (run c t)
ends t m s c =
    subst (λ (t : Table). Ended c t m (run c t)) (sym s.is)
    (decide c (table_of m s.entries) m (fitting c (table_of m s.entries)) (same_checks m s.entries s.inv c) (done m s.entries s.inv c))
