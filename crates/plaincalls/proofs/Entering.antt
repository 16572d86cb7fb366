-- Entries set one after the other, and the block that took them. Assumes nothing.
use mathlib.Core.Path.{◌≡◌, sym, ap, ◌∙◌}
use mathlib.Core.List.{List, [], ◌∷◌}
use Prim.Native.Nat.{ℕ, suc, ◌+◌, ◌*◌, ◌≤◌, ◌<◌}
use native.Mathlib.Omega.{arith}
use native.Mathlib.Numerals.{add-one}
use lib.ListN.{length, get_or, set, drop, drop_of_length-le}
use lib.Seq.{drop-cons}
use Rattle.model.specs.Device.{Device, first_page}
use Rattle.model.specs.Learning.{Write, logicals}
use Rattle.model.specs.State.{lowest_in}
use Rattle.model.proofs.Sorting.{logicals-length}
use Rattle.calls.specs.Choice.{first_of}
use Rattle.calls.specs.PageMap.{write_counts}
use Rattle.plain.specs.Table.{Table, with_counts, with_entries}
use Rattle.plain.specs.Calls.{enter, written}
use Rattle.plaincalls.specs.Written.{block_taken}

-- what is left to enter, from place i on, makes the whole; so it is
abbrev pub Entering : (first : ℕ) (l : List ℕ) (s : Table) (i : ℕ) (t : Table) → Type 0
Entering first l s i t = with_entries (enter first l s.entries) s ≡ with_entries (enter (first + i) (drop i l) t.entries) t

-- .. with one more, ..
pub enter_next : (first : ℕ) (l : List ℕ) (s : Table) (i : ℕ) (t u : Table) → Entering first l s i t → i < length l
    → u ≡ with_entries (set t.entries (get_or l i 0) (first + i)) t → Entering first l s (i + 1) u
unfolding enter
enter_next first l s i t u so h e =
    let z : suc (first + i) ≡ first + (i + 1) = omega arith in
    so
    ∙ ap (λ (m : List ℕ). with_entries (enter (first + i) m t.entries) t) (drop-cons l i 0 h)
    ∙ ap (λ (p : ℕ). with_entries (enter p (drop (suc i) l) (set t.entries (get_or l i 0) (first + i))) t) z
    ∙ ap (λ (j : ℕ). with_entries (enter (first + (i + 1)) (drop j l) (set t.entries (get_or l i 0) (first + i))) t) (sym (add-one i))
    ∙ ap (λ (v : Table). with_entries (enter (first + (i + 1)) (drop (i + 1) l) v.entries) v) (sym e)

-- .. and in the end
pub enter_all : (first : ℕ) (l : List ℕ) (s : Table) (i : ℕ) (t : Table) → Entering first l s i t → length l ≤ i → t ≡ with_entries (enter first l s.entries) s
unfolding enter
enter_all first l s i t so h = sym (so ∙ rw (drop_of_length-le l h))

-- the count, then the entries
pub block_taken_lem : (d : Device) (k : ℕ) (pages : List ℕ) (s t u : Table) → s.device ≡ d → t ≡ with_counts (set s.counts k (length pages)) s
    → u ≡ with_entries (enter (k * d.B) pages t.entries) t → u ≡ block_taken k pages s
unfolding block_taken first_page
block_taken_lem d k pages s t u n e f = f ∙ rw (e, ← n)

-- the lowest-numbered free block that took writes, at least one
pub taken-written : (ws : List Write) (t : Table) → 1 ≤ length ws → block_taken (lowest_in t.counts) (logicals ws) t ≡ written ws t
unfolding block_taken written first_of write_counts
taken-written [] t h = absurd (omega arith)
taken-written (w ∷ ws) t h =
    ap (λ (n : ℕ). with_entries (enter (first_page t.device (lowest_in t.counts)) (logicals (w ∷ ws)) t.entries) (with_counts (set t.counts (lowest_in t.counts) n) t)) (logicals-length (w ∷ ws))
