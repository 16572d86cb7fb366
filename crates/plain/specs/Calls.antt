-- Document 02, d: the plain engine's calls, "format, flush, lookup, discard and collection", each with its refusals in order. It "is lent
-- no spare area". Assumes nothing.
use Rattle.std.specs.Prelude.{List, [], ◌∷◌, ◌++◌, Bool, not, ◌&&◌, ◌||◌, ℕ, suc, ltb, leb, eqb, length, set, replicate}
use Rattle.std.proofs.Math.Option.{Option, none, some}
use Rattle.model.specs.Lists.{all, store}
use Rattle.model.specs.Device.{Device, within_limits, first_page, head_length}
use Rattle.model.specs.Learning.{Write, sorted, logicals, sources}
use Rattle.model.specs.State.{free_blocks, lowest_in}
use Rattle.model.specs.Sound.{is_empty}
use Rattle.calls.specs.Refusals.{Refusal, Check, ◌when◌, first_refusal, bad_numbers, bad_length, not_sound, out_of_range, bad_batch, no_free_block, nothing_to_gain, wrong_length}
use Rattle.calls.specs.Outcome.{Answer, formatted, flushed, found, not_written, discarded, collected, refused}
use Rattle.calls.specs.Choice.{Used, victims_by, moves_by, blocks_of, first_of, no_gain}
use Rattle.calls.specs.PageMap.{is_some, or_zero, write_counts, clear_counts}
use Rattle.calls.specs.History.{Call, format_call, flush_call, lookup_call, discard_call, collect_call}
use Rattle.plain.specs.Table.{Table, with_counts, with_entries, table_length, no_page, entry_at, page_of, sound_entry, sound_table, naming}

-- A call that both engines have, with its arguments and lent lists.
pub data Common : Type 0 where
  format : Device → Common
  flush : (batch plan : List ℕ) → Common
  lookup : (page : ℕ) → Common
  discard : (page : ℕ) → Common
  collect : (plan erased : List ℕ) → Common

-- the same call of the learned engine
unfoldable pub as_call : Common → Call
as_call (format d) = format_call d
as_call (flush batch plan) = flush_call batch plan
as_call (lookup x) = lookup_call x
as_call (discard x) = discard_call x
as_call (collect plan erased) = collect_call plan erased

-- The lent slices: the state as it is read, the plan, the list of erased blocks. One that a call is not lent is empty.
pub record Lent : Type 0 where
  pub table : Table
  pub plan : List ℕ
  pub erased : List ℕ

unfoldable pub lent_to : Common → Table → Lent
lent_to (format d) t = record { table = t; plan = []; erased = [] }
lent_to (flush batch plan) t = record { table = t; plan = plan; erased = [] }
lent_to (lookup x) t = record { table = t; plan = []; erased = [] }
lent_to (discard x) t = record { table = t; plan = []; erased = [] }
lent_to (collect plan erased) t = record { table = t; plan = plan; erased = erased }

-- REFUSALS. 1 and 2, as for the learned engine's calls: the numbers, then the state's length.
abbrev pub numbers_missing : Table → Bool
numbers_missing t = ltb t.bytes head_length || not (within_limits t.device)

abbrev pub opening : Table → List Check
opening t =
    bad_numbers when numbers_missing t
    ∷ bad_length when not (eqb t.bytes (table_length t.device))
    ∷ []

-- of lookup and discard: 1, 2, 4, and 3 "their own" entry
unfoldable pub entry_checks : ℕ → Table → List Check
entry_checks x t = opening t ++ (out_of_range when leb t.device.N x ∷ not_sound when not (sound_entry t (entry_at t x)) ∷ [])

-- the page is valid if an entry names it; the blocks that a collection takes, and what it moves
abbrev pub victims : Table → List Used
victims t = victims_by (λ p. is_some (naming p 0 t.entries)) t.device t.counts

abbrev pub moves : Table → List Write
moves t = moves_by (λ p. or_zero (naming p 0 t.entries)) (victims t)

unfoldable pub checks_of : Common → Table → List Check
checks_of (format d) t = bad_numbers when not (within_limits d) ∷ bad_length when not (eqb t.bytes (table_length d)) ∷ []
checks_of (flush batch plan) t =
    opening t
    ++ (bad_length when wrong_length plan t.device.B
    ∷ not_sound when not (sound_table t)
    ∷ bad_batch when (is_empty batch || ltb t.device.B (length batch))
    ∷ out_of_range when not (all (λ y. ltb y t.device.N) batch)
    ∷ no_free_block when ltb (length (free_blocks 0 t.counts)) 2
    ∷ [])
checks_of (lookup x) t = entry_checks x t
checks_of (discard x) t = entry_checks x t
checks_of (collect plan erased) t =
    opening t
    ++ (bad_length when wrong_length plan t.device.B
    ∷ bad_length when wrong_length erased t.device.M
    ∷ not_sound when not (sound_table t)
    ∷ nothing_to_gain when no_gain (victims t)
    ∷ no_free_block when (not (is_empty (moves t)) && is_empty (free_blocks 0 t.counts))
    ∷ [])

-- EFFECTS. An answer names no level and predicts nothing: the page found stands for both of the learned engine's, with 0 levels.
unfoldable pub looked_up : Option ℕ → Answer
looked_up none = not_written 0
looked_up (some p) = found p p 0

-- the entries of these logical pages name the pages from p on
unfoldable pub enter : ℕ → List ℕ → List ℕ → List ℕ
enter p [] entries = entries
enter p (x ∷ xs) entries = enter (suc p) xs (set entries x p)

-- the table with these writes on the lowest-numbered free block (none is needed for none)
unfoldable pub written : List Write → Table → Table
written ws t =
    with_entries (enter (first_of ws t.device t.counts) (logicals ws) t.entries) (with_counts (write_counts ws t.counts) t)

-- with these blocks erased
unfoldable pub cleared : List ℕ → Table → Table
cleared ks t = with_counts (clear_counts ks t.counts) t

-- "Discard sets the entry to 4,294,967,295"
unfoldable pub without : ℕ → Table → Table
without x t = with_entries (set t.entries x no_page) t

unfoldable pub blank_table : Device → Table
blank_table d = record { bytes = table_length d; device = d; counts = replicate d.M 0; entries = replicate d.N no_page }

-- what a call that is accepted answers ..
unfoldable pub answer_of : Common → Table → Answer
answer_of (format d) t = formatted
answer_of (flush batch plan) t = flushed (first_page t.device (lowest_in t.counts)) (length (sorted batch))
answer_of (lookup x) t = looked_up (page_of (entry_at t x))
answer_of (discard x) t = discarded
answer_of (collect plan erased) t = collected (first_of (moves t) t.device t.counts) (length (moves t)) (length (blocks_of (victims t)))

-- .. and what it leaves
unfoldable pub leaves : Common → Table → Lent
leaves (format d) t = record { table = blank_table d; plan = []; erased = [] }
leaves (flush batch plan) t = record { table = written (sorted batch) t; plan = store plan 0 (sources (sorted batch)); erased = [] }
leaves (lookup x) t = record { table = t; plan = []; erased = [] }
leaves (discard x) t = record { table = without x t; plan = []; erased = [] }
leaves (collect plan erased) t = record {
  table = cleared (blocks_of (victims t)) (written (moves t) t);
  plan = store plan 0 (sources (moves t));
  erased = store erased 0 (blocks_of (victims t));
}

pub record Outcome : Type 0 where
  pub answer : Answer
  pub after : Lent

-- "A refused call gives the first refusal in that document's order that applies, and changes no byte of any buffer."
unfoldable pub outcome : Option Refusal → Common → Table → Outcome
outcome none c t = record { answer = answer_of c t; after = leaves c t }
outcome (some r) c t = record { answer = refused r; after = lent_to c t }

-- a call on a state
unfoldable pub run : Common → Table → Outcome
run c t = outcome (first_refusal (checks_of c t)) c t
