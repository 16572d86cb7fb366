-- What holds of the page map and the book after every call: the map's invariant, a free block, and a book that agrees with the map.
-- A format gives it, and every call keeps it. Assumes nothing.
use mathlib.Core.Path.{◌≡◌, refl, sym, ◌∙◌, ap}
use mathlib.Core.List.{List}
use mathlib.Core.Option.{none}
use mathlib.Core.Bool.{true≢false, Bool, true}
use Prim.Native.Nat.{ℕ, zero, suc, ◌≤◌}
use native.Mathlib.Omega.{arith}
use lib.ListN.{length, replicate}
use borrow.Author.Tests.{ltb-false, not-false}
use Rattle.model.specs.Device.{Device, within_limits}
use Rattle.model.specs.Learning.{sorted}
use Rattle.model.specs.State.{free_blocks}
use Rattle.model.proofs.Lists.{store-front}
use Rattle.model.proofs.Limits.{limits}
use Rattle.calls.specs.Refusals.{first_refusal}
use Rattle.calls.specs.Outcome.{Answer, number, accepted, values, formatted}
use Rattle.calls.specs.Choice.{blocks_of}
use Rattle.calls.specs.Book.{write_of, enter}
use Rattle.calls.specs.History.{Call, format_call, flush_call, discard_call, collect_call, value, accepted_entry, entry_of}
use Rattle.calls.specs.PageMap.{PageMap, map_victims, map_write, map_clear, map_discard, blank_map, map_checks, map_done, MapPast, map_idle, map_after, MapMakes, refuses, accepts, others, no_lists, MapAnswers, formats, flushes, finds, misses, skips, discards, collects, compacts, agrees, lists, explains}
use Rattle.calls.specs.Demand3.{Fits}
use Rattle.calls.proofs.Refusing.{clears, length_is, refused_not_accepted}
use Rattle.calls.proofs.Moves.{Writable}
use Rattle.calls.proofs.Fitting.{batch-ready, batch-filled, fits_of}
use Rattle.calls.proofs.MapInvariant.{MapInv}
use Rattle.calls.proofs.MapWriting.{blank_map_lem, write-map, write-free}
use Rattle.calls.proofs.MapCollecting.{taken-fit, collect-map, collect-free}
use Rattle.calls.proofs.MapDiscarding.{discard-map, clear-map}
use Rattle.calls.proofs.Carrying.{Kept, idle_kept, flush-kept}
use Rattle.calls.proofs.Copying.{collect-kept}
use Rattle.calls.proofs.Discarding.{discard-kept}

-- The claim that every call keeps.
pub record MapHolds (h : MapPast) : Type 0 where
  pub inv : MapInv h.map
  pub free : 1 ≤ length (free_blocks 0 h.map.counts)
  pub kept : Kept h.book h.map

-- the map stays and the book is fed nothing
idle_holds : (h : MapPast) → MapHolds h → MapHolds (map_idle h)
unfolding map_idle
idle_holds h v = record { inv = v.inv; free = v.free; kept = idle_kept h.book h.map v.kept }

-- of n counts that are 0 all are free
free_zeros : (k n : ℕ) → length (free_blocks k (replicate n 0)) ≡ n
unfolding free_blocks
free_zeros k zero = refl
free_zeros k (suc n) = ap suc (free_zeros (suc k) n)

-- An accepted format gives all, whatever was there before.
format-holds : (d : Device) (h : MapPast) → within_limits d ≡ true → MapHolds (map_after (format_call d) formatted (map_done (format_call d) h.map) h.book)
unfolding map_after map_done no_lists blank_map entry_of accepted_entry accepted number enter write_of
format-holds d h l = record {
  inv = blank_map_lem d l;
  free = omega (arith, free_zeros 0 d.M, (limits d l).least_M);
  kept = record {
    device = refl;
    missing = λ x i j k. refl;
    gone = λ x i j. absurd (true≢false (sym j));
    present = λ x p i j. let z : ◌≡◌ {A = ℕ} 0 1 = cc in absurd (omega arith);
    once = λ p q a i j. let z : ◌≡◌ {A = ℕ} 0 1 = cc in absurd (omega arith);
    past = λ p a i. let z : ◌≡◌ {A = ℕ} 0 1 = cc in absurd (omega arith);
  };
}

-- An accepted flush keeps all.
flush-holds : (sized : Bool) (batch plan : List ℕ) (h : MapPast) (a : Answer) → MapHolds h → first_refusal (map_checks sized (flush_call batch plan) h.map) ≡ none → MapAnswers h.map (flush_call batch plan) a
    → MapHolds (map_after (flush_call batch plan) a (map_done (flush_call batch plan) h.map) h.book)
unfolding map_checks map_after map_done map_write map_clear entry_of accepted_entry accepted number value values
flush-holds sized batch plan h a v e (flushes _ _) =
    let p = clears _ e in
    let f : Fits h.map.device batch plan = fits_of h.map.device batch plan p.0 p.1.0 p.1.1.0 in
    let free : 2 ≤ length (free_blocks 0 h.map.counts) = ltb-false (length (free_blocks 0 h.map.counts)) 2 p.1.1.1.0 in
    let one : 1 ≤ length (free_blocks 0 h.map.counts) = omega arith in
    let r : Writable h.map.device (sorted batch) = batch-ready h.map.device batch plan f in
    record {
      inv = write-map (map_clear batch h.map) (clear-map h.map v.inv batch) (sorted batch) r (λ n. one);
      free = omega (arith, write-free (sorted batch) h.map.counts (λ n. one));
      kept = flush-kept h.map v.inv h.book v.kept batch plan r (batch-filled batch f.filled) one f.planned;
    }

-- An accepted discard keeps all.
discard-holds : (x : ℕ) (a : Answer) (h : MapPast) → MapHolds h → MapAnswers h.map (discard_call x) a → MapHolds (map_after (discard_call x) a (map_done (discard_call x) h.map) h.book)
unfolding map_after map_done map_discard no_lists entry_of accepted_entry accepted number
discard-holds x a h v (discards _) = record { inv = discard-map h.map v.inv x; free = v.free; kept = discard-kept h.map h.book v.kept x }

-- An accepted collection keeps all.
collect-holds : (sized : Bool) (plan erased : List ℕ) (h : MapPast) (a : Answer) → MapHolds h → first_refusal (map_checks sized (collect_call plan erased) h.map) ≡ none → MapAnswers h.map (collect_call plan erased) a
    → MapHolds (map_after (collect_call plan erased) a (map_done (collect_call plan erased) h.map) h.book)
unfolding map_checks map_after map_done entry_of accepted_entry accepted number value values
collect-holds sized plan erased h a v e (collects _ _) =
    let m : PageMap = h.map in
    let p = clears _ e in
    let fits : length (blocks_of (map_victims m)) ≤ length erased = omega (arith, taken-fit m v.inv, length_is erased m.device.M p.1.0) in
    record {
      inv = collect-map m v.inv (λ n. v.free);
      free = omega (arith, collect-free m v.inv (λ n. v.free) v.free p.1.1.0);
      kept = rw (store-front erased (blocks_of (map_victims m)) fits) (collect-kept m v.inv h.book v.kept plan v.free (length_is plan m.device.B p.0));
    }

-- A call that is accepted keeps all.
accepted-holds : (sized : Bool) (h : MapPast) (c : Call) (a : Answer) → MapHolds h → first_refusal (map_checks sized c h.map) ≡ none → MapAnswers h.map c a
    → MapHolds (map_after c a (map_done c h.map) h.book)
unfolding map_after map_idle map_done no_lists entry_of accepted_entry accepted number map_checks
accepted-holds sized h c a v e (formats d) = format-holds d h (not-false (within_limits d) (clears _ e).0)
accepted-holds sized h c a v e (flushes batch plan) = flush-holds sized batch plan h a v e (flushes batch plan)
accepted-holds sized h c a v e (finds x p q n f) = idle_holds h v
accepted-holds sized h c a v e (misses x n f g) = idle_holds h v
accepted-holds sized h c a v e (skips x g) = idle_holds h v
accepted-holds sized h c a v e (discards x) = discard-holds x a h v (discards x)
accepted-holds sized h c a v e (collects plan erased) = collect-holds sized plan erased h a v e (collects plan erased)
accepted-holds sized h c a v e (compacts k n) = idle_holds h v
accepted-holds sized h c a v e (agrees s spare s' spare' t) = idle_holds h v
accepted-holds sized h c a v e (lists k out n) = idle_holds h v
accepted-holds sized h c a v e (explains x out n) = idle_holds h v

-- Every call keeps all.
pub makes-holds : (h : MapPast) (c : Call) (a : Answer) (h' : MapPast) → MapHolds h → MapMakes h c a h' → MapHolds h'
makes-holds h c a h' v (refuses sized _ r e) = idle_holds h v
makes-holds h c a h' v (accepts sized _ _ e p) = accepted-holds sized h c a v e p
makes-holds h c a h' v (others s spare s' spare' r) = idle_holds h v

-- A format that is accepted gives all, whatever was there before.
pub starts-hold : (h : MapPast) (d : Device) (a : Answer) (h' : MapPast) → accepted a ≡ true → MapMakes h (format_call d) a h' → MapHolds h'
unfolding map_checks
starts-hold h d a h' t (refuses sized _ r e) = absurd (true≢false (sym t ∙ refused_not_accepted r))
starts-hold h d a h' t (accepts sized _ _ e (formats _)) = format-holds d h (not-false (within_limits d) (clears _ e).0)
