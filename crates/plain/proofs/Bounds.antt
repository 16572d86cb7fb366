-- The values of a plain engine's answer are bounded as the learned one's are. Assumes nothing.
use mathlib.Core.Path.{◌≡◌, refl}
use mathlib.Core.Option.{Option, none, some}
use mathlib.Core.Bool.{Bool, true, false}
use Prim.Native.Nat.{ℕ}
use native.Mathlib.Omega.{arith}
use lib.Dec.{ltb, eqb}
use lib.ListN.{length}
use borrow.Author.Tests.{ltb-true, ltb-false, not-false}
use Rattle.model.specs.Device.{head_length, pages}
use Rattle.model.specs.Learning.{sorted}
use Rattle.model.specs.Sound.{is_empty}
use Rattle.model.proofs.Bools.{and_l, or_none}
use Rattle.model.proofs.Limits.{Limits, limits}
use Rattle.model.proofs.Sorting.{sorted-length}
use Rattle.calls.specs.Refusals.{Refusal, first_refusal}
use Rattle.calls.specs.Bounds.{Bounded}
use Rattle.calls.proofs.Refusing.{clears}
use Rattle.calls.proofs.Bounds.{pages_most, lowest-small, victims_most, moves_most, first_moved_lem}
use Rattle.plain.specs.Table.{Table, no_page, entry_at, page_of, is_written, sound_entry}
use Rattle.plain.specs.Calls.{Common, format, flush, lookup, discard, collect, numbers_missing, entry_checks, moves, checks_of, looked_up, answer_of, outcome, run}

-- the device numbers of a call that has passed its first check
numbered : (t : Table) → numbers_missing t ≡ false → Limits t.device
numbered t e = limits t.device (not-false _ (or_none (ltb t.bytes head_length) _ e).1)

-- A lookup's page is one of the device's.
lookup-fits : (t : Table) (x : ℕ) → first_refusal (entry_checks x t) ≡ none → Bounded (looked_up (page_of (entry_at t x)))
unfolding entry_checks sound_entry is_written page_of looked_up Bounded
lookup-fits t x e = go (eqb (entry_at t x) no_page) refl
  where
    go : (q : Bool) → eqb (entry_at t x) no_page ≡ q → Bounded (looked_up (page_of (entry_at t x)))
    go true q = rw (q, page_of) (omega arith)
    go false q =
        let p = clears (entry_checks x t) e in
        let w : sound_entry t (entry_at t x) ≡ true = not-false _ p.1.1.1.0 in
        let w' : is_written t (entry_at t x) ≡ true = rw q at w in
        let h = ltb-true (entry_at t x) (pages t.device) (and_l _ _ w') in
        let m = pages_most t.device (numbered t p.0) in
        rw (q, page_of) (omega (arith, h, m), omega (arith, h, m), omega arith)

fits : (c : Common) (t : Table) → length t.counts ≡ t.device.M → first_refusal (checks_of c t) ≡ none → Bounded (answer_of c t)
unfolding checks_of answer_of Bounded sorted
fits (format d) t n e = tt
fits (flush batch plan) t n e =
    let c = clears _ e in
    let l = numbered t c.0 in
    let f = ltb-false t.device.B (length batch) (or_none (is_empty batch) _ c.1.1.1.1.0).1 in
    (lowest-small t.device t.counts n l, omega (arith, sorted-length batch, f, l.most_B))
fits (lookup x) t n e = lookup-fits t x e
fits (discard x) t n e = tt
fits (collect plan erased) t n e =
    let l = numbered t (clears _ e).0 in
    (first_moved_lem t.device t.counts n l (moves t), moves_most t.device t.counts n l _ _, victims_most t.device t.counts n l _)

-- Whatever a call answers on a table with a count for each block is bounded.
pub run_bounded : (c : Common) (t : Table) → length t.counts ≡ t.device.M → Bounded (run c t).answer
unfolding run outcome Bounded
run_bounded c t n = go (first_refusal (checks_of c t)) refl
  where
    go : (o : Option Refusal) → first_refusal (checks_of c t) ≡ o → Bounded (outcome o c t).answer
    go none e = fits c t n e
    go (some r) e = tt
