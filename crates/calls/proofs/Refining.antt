-- The definitions simulate the page map: each call answers what the map answers, and leaves state, spare area and book that show what
-- the map leaves. Assumes nothing.
use mathlib.Core.Path.{◌≡◌, refl, sym, ◌∙◌, ap, ap₂, subst, fun_ext}
use mathlib.Core.List.{List, [], ◌∷◌}
use mathlib.Core.Option.{Option, none, some}
use mathlib.Core.Bool.{true≢false, Bool, true, false, not, ◌&&◌, and-true, and-false}
use Prim.Native.Nat.{ℕ, ◌≤◌, ◌<◌}
use native.Mathlib.Omega.{arith}
use lib.ListN.{length}
use borrow.Author.Tests.{ltb-false, leb-false, not-false}
use Rattle.model.specs.Lists.{elem}
use Rattle.model.specs.Device.{Device, within_limits, first_page, marks_count}
use Rattle.model.specs.Learning.{Write, sorted, logicals}
use Rattle.model.specs.Marks.{mark_byte, is_marked, unmark_all}
use Rattle.model.specs.State.{State, with_marks, with_groups, free_blocks, lowest_in, lowest_free}
use Rattle.model.specs.Sound.{is_empty}
use Rattle.model.proofs.Marks.{length-unmark_all, none_marked, mark-inside, mark-marked, unmark_all-marked}
use Rattle.model.proofs.Sorting.{sorted-elem}
use Rattle.calls.specs.Refusals.{Refusal, first_refusal}
use Rattle.calls.specs.Outcome.{Lent, with_state, with_out, Answer, flushed, refused, accepted, Outcome}
use Rattle.calls.specs.Format.{blank_state, format_checks, format_done}
use Rattle.calls.specs.Flush.{write_block, clear_marks, flush_done}
use Rattle.calls.specs.Lookup.{Looked, seek, answer_of, lookup_done}
use Rattle.calls.specs.Discard.{discard_page, discard_done}
use Rattle.calls.specs.Collection.{move_all, collect_done}
use Rattle.calls.specs.Compaction.{compact_done, compact_group}
use Rattle.calls.specs.Agreement.{agree_done}
use Rattle.calls.specs.Listing.{list_done}
use Rattle.calls.specs.Why.{why_done}
use Rattle.calls.specs.Book.{Entry, no_entry, enter}
use Rattle.calls.specs.History.{Call, format_call, flush_call, lookup_call, discard_call, collect_call, compact_call, agree_call, list_call, why_call, lend, lent_to, checks_of, effect, run, accepted_entry, entry_of, Past, past_after, step}
use Rattle.calls.specs.PageMap.{PageMap, map_moves, map_write, map_clear, map_discard, map_erase, blank_map, map_checks, MapAnswers, formats, flushes, finds, misses, skips, discards, collects, compacts, lists, explains, no_lists, map_done, MapPast, map_idle, map_after, MapMakes, others}
use Rattle.calls.specs.PageMap as maps
use Rattle.calls.specs.Demand3.{page_maps, Defined, definitions}
use Rattle.calls.proofs.Refusing.{clears, refused_not_accepted}
use Rattle.calls.proofs.Fitting.{batch-ready, batch-filled, fits_of, some_there, some_left}
use Rattle.calls.proofs.Invariant.{Inv}
use Rattle.calls.proofs.Found.{map_of, seek_found, Missed, marked, unmarked, seek-nowhere}
use Rattle.calls.proofs.Keeping.{format_inv, compact_inv, discard_inv}
use Rattle.calls.proofs.Writing.{Fresh}
use Rattle.calls.proofs.Collected.{Rest, rest, moved-rest, written_inv, collect_by, collect_same, collect-rest, collect_inv}
use Rattle.calls.proofs.Decided.{Decided, refuses, accepts, decided}
use Rattle.calls.proofs.Passing.{format_checks_lem, flush_checks_lem, lookup_checks_lem, discard_checks_lem, compact_checks_lem, list_checks_lem, why_checks_lem, collect_checks_lem}
use Rattle.calls.proofs.Simulation.{Simulates}

-- State, spare area and book show a page map with its book.
pub record Shows (h : Past) (k : MapPast) : Type 0 where
  pub device : h.state.device ≡ k.map.device
  pub counts : h.state.counts ≡ k.map.counts
  pub marks : is_marked h.state.marks ≡ k.map.discarded
  pub inv : Inv h.state h.spare k.map.place
  pub book : h.book ≡ k.book

-- what comes of a call shows what the map makes of it
abbrev Simulated : Call → Past → MapPast → Outcome → Type 0
Simulated c h k o = (k' : MapPast) × MapMakes k c o.answer k' × Shows (past_after c o h.book) k'

-- the map beside a state, its spare area and its book
abbrev beside : PageMap → Past → MapPast
beside m h = record { map = m; book = h.book }

-- the book is fed nothing of a refused call
refused-entry : (c : Call) (r : Refusal) (plan erased : List ℕ) → entry_of c (refused r) plan erased ≡ no_entry
unfolding entry_of
refused-entry c r plan erased = ap (λ (t : Bool). elim t [ true ↦ accepted_entry c (refused r) plan erased | false ↦ no_entry ]) (refused_not_accepted r)

-- a call is lent the state and the spare area as they are
lent_same : (c : Call) (s : State) (spare : List ℕ) → ((lent_to c s spare).state ≡ s) × ((lent_to c s spare).spare ≡ spare)
unfolding lent_to lend
lent_same (format_call d) s spare = (refl, refl)
lent_same (flush_call batch plan) s spare = (refl, refl)
lent_same (lookup_call x) s spare = (refl, refl)
lent_same (discard_call x) s spare = (refl, refl)
lent_same (collect_call plan erased) s spare = (refl, refl)
lent_same (compact_call k) s spare = (refl, refl)
lent_same (agree_call a sa b sb) s spare = (refl, refl)
lent_same (list_call k out) s spare = (refl, refl)
lent_same (why_call x out) s spare = (refl, refl)

-- an accepted call: the map accepts it with this answer, and what is left shows what the map leaves
done : (c : Call) (h : Past) (m : PageMap) (out : Outcome) (sized : Bool) → first_refusal (map_checks sized c m) ≡ none → MapAnswers m c out.answer
    → (ms : List ℕ) → Rest out.after (map_done c m).map.device (map_done c m).map.counts ms (map_done c m).plan (map_done c m).erased
    → is_marked ms ≡ (map_done c m).map.discarded → Inv out.after.state out.after.spare (map_done c m).map.place → Simulated c h (beside m h) out
unfolding past_after map_after
done c h m out sized e a ms r d v = (
  map_after c out.answer (map_done c m) h.book,
  maps.accepts sized c out.answer e a,
  record {
    device = r.device;
    counts = r.counts;
    marks = ap is_marked r.marks ∙ d;
    inv = v;
    book = ap₂ (λ (p q : List ℕ). enter (entry_of c out.answer p q) h.book) r.plan r.erased;
  },
)

-- a format that is accepted, whatever was there before
format-made : (d : Device) (h : Past) (m : PageMap) (sized : Bool) → first_refusal (map_checks sized (format_call d) m) ≡ none
    → Simulated (format_call d) h (beside m h) (format_done d (lend h.state h.spare [] []))
unfolding format_done blank_state blank_map map_checks map_done no_lists lend
format-made d h m sized e =
    done (format_call d) h m _ sized e (formats d) _ (rest _) (fun_ext (none_marked (marks_count d))) (format_inv d (not-false (within_limits d) (clears _ e).0))

-- a flush clears the marks of what it writes
flush-fresh : (batch marks : List ℕ) → Fresh (logicals (sorted batch)) marks (unmark_all batch marks)
flush-fresh batch marks = record {
  size = length-unmark_all batch marks;
  kept = λ x n. after x (sym (sorted-elem x batch) ∙ n) ∙ and-true (is_marked marks x);
  cleared = λ x t. after x (sym (sorted-elem x batch) ∙ t) ∙ and-false (is_marked marks x);
}
  where
    after : (x : ℕ) {t : Bool} → elem x batch ≡ t → is_marked (unmark_all batch marks) x ≡ (is_marked marks x && not t)
    after x e = unmark_all-marked batch marks x ∙ ap (λ (t : Bool). is_marked marks x && not t) e

-- writes are on the lowest-numbered free block
write_moves : (ws : List Write) (x : Lent) → 1 ≤ length ws → write_block ws (lowest_free x.state) x ≡ move_all ws x
unfolding move_all
write_moves [] x h = absurd (omega arith)
write_moves (w ∷ ws) x h = refl

module _ (h : Past) (place : ℕ → Option ℕ) (v : Inv h.state h.spare place) where
  abbrev m : PageMap
  m = map_of h.state place

  -- a refused call changes nothing
  idle : (c : Call) (r : Refusal) → Shows (past_after c (record { answer = refused r; after = lent_to c h.state h.spare }) h.book) (map_idle (beside m h))
  unfolding past_after map_idle
  idle c r =
      let x : Lent = lent_to c h.state h.spare in
      let same = lent_same c h.state h.spare in
      record {
        device = ap (λ (s : State). s.device) same.0;
        counts = ap (λ (s : State). s.counts) same.0;
        marks = ap (λ (s : State). is_marked s.marks) same.0;
        inv = rw (same.0, same.1) v;
        book = ap (λ (n : Entry). enter n h.book) (refused-entry c r x.plan x.erased);
      }

  -- a call with these checks, which refuse as the map's do
  decide : (c : Call) (sized : Bool) → first_refusal (checks_of c (lent_to c h.state h.spare)) ≡ first_refusal (map_checks sized c m)
      → (first_refusal (map_checks sized c m) ≡ none → Simulated c h (beside m h) (effect c (lent_to c h.state h.spare))) → Simulated c h (beside m h) (run c h.state h.spare)
  unfolding run
  decide c sized same work = go _ (decided (checks_of c x) x (effect c x))
    where
      x : Lent
      x = lent_to c h.state h.spare

      go : (o : Outcome) → Decided (checks_of c x) x (effect c x) o → Simulated c h (beside m h) o
      go o (accepts e) = work (sym same ∙ e)
      go o (refuses r e) = (map_idle (beside m h), maps.refuses sized c r (sym same ∙ e), idle c r)

  flush-made : (batch plan : List ℕ) → first_refusal (map_checks true (flush_call batch plan) m) ≡ none → Simulated (flush_call batch plan) h (beside m h) (flush_done batch (lend h.state h.spare plan []))
  unfolding flush_done clear_marks with_marks map_checks map_done map_write map_clear lend
  flush-made batch plan e =
      let x : Lent = lend h.state h.spare plan [] in
      let p = clears _ e in
      let f = fits_of m.device batch plan p.0 p.1.0 p.1.1.0 in
      let cleared : Lent = with_state (clear_marks batch h.state) x in
      let two : 2 ≤ length (free_blocks 0 m.counts) = ltb-false (length (free_blocks 0 m.counts)) 2 p.1.1.1.0 in
      subst (λ (y : Lent). Simulated (flush_call batch plan) h (beside m h) (record { answer = flushed (first_page m.device (lowest_in m.counts)) (length (sorted batch)); after = y }))
      (sym (write_moves (sorted batch) cleared (batch-filled batch f.filled)))
      (done (flush_call batch plan) h m _ true e (flushes batch plan) _ (moved-rest (sorted batch) cleared) (fun_ext (unmark_all-marked batch h.state.marks))
      (written_inv (sorted batch) x place v (batch-ready m.device batch plan f) (batch-filled batch f.filled) (omega arith) (unmark_all batch h.state.marks) (flush-fresh batch h.state.marks)))

  lookup-made : (x : ℕ) → first_refusal (map_checks true (lookup_call x) m) ≡ none
      → Simulated (lookup_call x) h (beside m h) (lookup_done x (lend h.state h.spare [] []))
  unfolding lookup_done map_checks map_done no_lists lend answer_of
  lookup-made x e = done (lookup_call x) h m _ true e (answers (place x) refl) _ (rest _) refl v
    where
      below : x < m.device.N
      below = leb-false m.device.N x (clears _ e).0

      missed : place x ≡ none → (o : Looked) → Missed h.state h.spare place v x o → MapAnswers m (lookup_call x) (answer_of o)
      missed q o (marked t) = skips x t
      missed q o (unmarked n t) = misses x n q t

      answers : (o : Option ℕ) → place x ≡ o → MapAnswers m (lookup_call x) (answer_of (seek h.state h.spare x))
      answers none q = missed q (seek h.state h.spare x) (seek-nowhere h.state h.spare place v x below q)
      answers (some p) q = rw (seek_found h.state h.spare place v x p (v.placed x p below q)).sought (finds x p _ _ q)

  discard-made : (x : ℕ) → first_refusal (map_checks true (discard_call x) m) ≡ none → Simulated (discard_call x) h (beside m h) (discard_done x (lend h.state h.spare [] []))
  unfolding discard_done discard_page with_marks map_checks map_done map_discard no_lists lend
  discard-made x e =
      let below : x < m.device.N = leb-false m.device.N x (clears _ e).0 in
      let inside : mark_byte x < length h.state.marks = omega (arith, mark-inside m.device x below, v.marked) in
      done (discard_call x) h m _ true e (discards x) _ (rest _) (fun_ext (mark-marked x h.state.marks inside)) (discard_inv h.state h.spare place v x below)

  compact-made : (k : ℕ) → first_refusal (map_checks true (compact_call k) m) ≡ none → Simulated (compact_call k) h (beside m h) (compact_done k (lend h.state h.spare [] []))
  unfolding compact_done compact_group with_groups map_done no_lists lend
  compact-made k e = done (compact_call k) h m _ true e (compacts k _) _ (rest _) refl (compact_inv h.state h.spare place v k)

  collect-made : (plan erased : List ℕ) → first_refusal (map_checks true (collect_call plan erased) m) ≡ none
      → Simulated (collect_call plan erased) h (beside m h) (collect_done (lend h.state h.spare plan erased))
  unfolding collect_by map_checks map_done map_erase map_write lend
  collect-made plan erased e =
      let x : Lent = lend h.state h.spare plan erased in
      subst (λ (o : Outcome). Simulated (collect_call plan erased) h (beside m h) o) (sym (collect_same x place v))
      (done (collect_call plan erased) h m _ true e (collects plan erased) _ (collect-rest x place v) refl (collect_inv x place v (room (clears _ e).1.1.1.0)))
    where
      room : (not (is_empty (map_moves m)) && is_empty (free_blocks 0 m.counts)) ≡ false → 1 ≤ length (map_moves m) → 1 ≤ length (free_blocks 0 m.counts)
      room t n = some_there (free_blocks 0 m.counts) (rw (some_left (map_moves m) n) at t)

  list-made : (k : ℕ) (out : List ℕ) → first_refusal (map_checks true (list_call k out) m) ≡ none → Simulated (list_call k out) h (beside m h) (list_done k (with_out out (lend h.state h.spare [] [])))
  unfolding list_done map_done no_lists lend
  list-made k out e = done (list_call k out) h m _ true e (lists k out _) _ (rest _) refl v

  why-made : (x : ℕ) (out : List ℕ) → first_refusal (map_checks true (why_call x out) m) ≡ none → Simulated (why_call x out) h (beside m h) (why_done x (with_out out (lend h.state h.spare [] [])))
  unfolding why_done map_done no_lists lend
  why-made x out e = done (why_call x out) h m _ true e (explains x out _) _ (rest _) refl v

  -- an agreement is of two states that the map doesn't know
  agree-made : (s : State) (spare : List ℕ) (s' : State) (spare' : List ℕ) → Simulated (agree_call s spare s' spare') h (beside m h) (run (agree_call s spare s' spare') h.state h.spare)
  unfolding run lent_to checks_of effect agree_done map_checks first_refusal map_done no_lists lend
  agree-made s spare s' spare' = go _ (decided _ _ _)
    where
      x : Lent
      x = lend h.state h.spare [] []

      go : (o : Outcome) → Decided (checks_of (agree_call s spare s' spare') x) x (agree_done s spare s' spare' x) o → Simulated (agree_call s spare s' spare') h (beside m h) o
      go o (accepts e) = done (agree_call s spare s' spare') h m _ true refl (maps.agrees s spare s' spare' _) _ (rest _) refl v
      go o (refuses r e) = (map_idle (beside m h), others s spare s' spare' r, idle (agree_call s spare s' spare') r)

  -- every call
  made : (c : Call) → Simulated c h (beside m h) (run c h.state h.spare)
  unfolding lent_to checks_of effect
  made (format_call d) = decide (format_call d) _ (format_checks_lem d h.state h.spare m) (format-made d h m _)
  made (flush_call batch plan) = decide (flush_call batch plan) true (flush_checks_lem h.state h.spare place v batch plan) (flush-made batch plan)
  made (lookup_call x) = decide (lookup_call x) true (lookup_checks_lem h.state h.spare place v x) (lookup-made x)
  made (discard_call x) = decide (discard_call x) true (discard_checks_lem h.state h.spare place v x) (discard-made x)
  made (collect_call plan erased) = decide (collect_call plan erased) true (collect_checks_lem h.state h.spare place v plan erased) (collect-made plan erased)
  made (compact_call k) = decide (compact_call k) true (compact_checks_lem h.state h.spare place v k) (compact-made k)
  made (agree_call s spare s' spare') = agree-made s spare s' spare'
  made (list_call k out) = decide (list_call k out) true (list_checks_lem h.state h.spare place v k out) (list-made k out)
  made (why_call x out) = decide (why_call x out) true (why_checks_lem h.state h.spare place v x out) (why-made x out)

-- An accepted format, wherever it is made.
started : (h : Past) (d : Device) → accepted (run (format_call d) h.state h.spare).answer ≡ true → Simulated (format_call d) h (beside (blank_map d) h) (run (format_call d) h.state h.spare)
unfolding run lent_to checks_of effect
started h d t = go _ (decided (format_checks d x) x (format_done d x)) t
  where
    x : Lent
    x = lend h.state h.spare [] []

    go : (o : Outcome) → Decided (format_checks d x) x (format_done d x) o → accepted o.answer ≡ true → Simulated (format_call d) h (beside (blank_map d) h) o
    go o (refuses r e) t = absurd (true≢false (sym t ∙ refused_not_accepted r))
    go o (accepts e) t = format-made d h (blank_map d) _ (sym (format_checks_lem d h.state h.spare (blank_map d)) ∙ e)

-- a call of the definitions, by what comes of it
simulated : (h : Past) (k : MapPast) (c : Call) (a : Answer) (h' : Past) → Defined h c a h' → Simulated c h k (run c h.state h.spare) → (k' : MapPast) × MapMakes k c a k' × Shows h' k'
unfolding step
simulated h k c a h' made s = (s.0, rw made.answered s.1, rw made.left s.2)

-- The definitions simulate the page map.
pub refines : Simulates definitions page_maps Shows
refines = record {
  books = λ h k r. r.book;
  frees = λ h k r. ap (λ (l : List ℕ). length (free_blocks 0 l)) r.counts;
  steps = λ h k r c a h' d.
      let same : beside (map_of h.state k.map.place) h ≡ k = λ i. record { map = record { device = r.device i; counts = r.counts i; place = k.map.place; discarded = r.marks i }; book = r.book i } in
      simulated h k c a h' d (subst (λ (k : MapPast). Simulated c h k (run c h.state h.spare)) same (made h k.map.place r.inv c));
  starts = λ h d a h' made t.
      let s = simulated h (beside (blank_map d) h) (format_call d) a h' made (started h d (ap accepted (sym made.answered) ∙ t)) in
      (beside (blank_map d) h, s.0, s.1, s.2);
}
