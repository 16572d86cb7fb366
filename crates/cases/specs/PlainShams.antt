-- Document 02, d: ways of making the plain engine's calls that differ from the definitions' in one, each with a list of calls from a
-- format after which it doesn't answer as the learned engine does. Assumes nothing.
use Rattle.std.specs.Prelude.{◌≡◌, refl, List, [], ◌∷◌, map, ℕ, take, set, get_or}
use Rattle.calls.specs.Refusals.{first_refusal, no_free_block}
use Rattle.calls.specs.Outcome.{flushed, found, not_written, refused}
use Rattle.calls.specs.Choice.{blocks_of}
use Rattle.calls.specs.History as history
use Rattle.calls.specs.History.{Past, format_call, steps}
use Rattle.plain.specs.Table.{Table}
use Rattle.plain.specs.Calls.{Common, format, flush, lookup, discard, collect, as_call, lent_to, checks_of, victims, Outcome, outcome, run}
use Rattle.cases.specs.Shown.{Shown, answer, show_outcome}
use Rattle.cases.specs.Small.{small, unformatted}
use Rattle.cases.specs.PlainSmall.{unformatted_table, flush_of, collect_of, PlainWay, table_after, show_table}
use Rattle.cases.specs.Opens.{everything}

-- a collection that skips an erase: the first of the blocks that it takes keeps its count
keep_first : List ℕ → Table → Outcome → Outcome
keep_first [] t o = o
keep_first (k ∷ ks) t o = record {
  answer = o.answer;
  after = record {
    table = record {
      bytes = o.after.table.bytes;
      device = o.after.table.device;
      counts = set o.after.table.counts k (get_or t.counts k 0);
      entries = o.after.table.entries;
    };
    plan = o.after.plan;
    erased = o.after.erased;
  };
}

skips_erase : PlainWay
skips_erase (format d) t = run (format d) t
skips_erase (flush batch plan) t = run (flush batch plan) t
skips_erase (lookup x) t = run (lookup x) t
skips_erase (discard x) t = run (discard x) t
skips_erase (collect plan erased) t = keep_first (blocks_of (victims t)) t (run (collect plan erased) t)

-- a discard that says yes and leaves the entry
keeps_entry : PlainWay
keeps_entry (format d) t = run (format d) t
keeps_entry (flush batch plan) t = run (flush batch plan) t
keeps_entry (lookup x) t = run (lookup x) t
keeps_entry (discard x) t = record { answer = (run (discard x) t).answer; after = lent_to (discard x) t }
keeps_entry (collect plan erased) t = run (collect plan erased) t

-- a flush that takes the last free block: it asks for all but the last of its seven checks
takes_last : PlainWay
takes_last (format d) t = run (format d) t
takes_last (flush batch plan) t = outcome (first_refusal (take 6 (checks_of (flush batch plan) t))) (flush batch plan) t
takes_last (lookup x) t = run (lookup x) t
takes_last (discard x) t = run (discard x) t
takes_last (collect plan erased) t = run (collect plan erased) t

-- What a sham and the learned engine come to after the same calls.
pub record Besides : Type 0 where
  pub sham : Shown
  pub learned : Shown

-- call c after a format of the small device and these calls
besides : PlainWay → List Common → Common → Besides
besides w cs c =
    let h : Past = steps (format_call small ∷ map as_call cs) (unformatted small) in
    record {
      sham = show_table (w c (table_after w (format small ∷ cs) (unformatted_table small)));
      learned = show_outcome (history.run (as_call c) h.state h.spare);
    }

flush_small : ℕ → Common
flush_small x = flush_of small (x ∷ [])

-- what they come to
pub given : List Besides
given =
    besides skips_erase (flush_small 0 ∷ flush_small 0 ∷ collect_of small ∷ []) (flush_small 1)
    ∷ besides keeps_entry (flush_small 0 ∷ discard 0 ∷ []) (lookup 0)
    ∷ besides takes_last (flush_small 0 ∷ flush_small 1 ∷ []) (flush_small 2)
    ∷ []

pub stated : List Besides
stated =
    -- a collection erases blocks 0 and 1; where block 0 keeps its count, one block is free and not two
    record { sham = answer (refused no_free_block) (99 ∷ 99 ∷ 99 ∷ 99 ∷ []) []; learned = answer (flushed 0 1) (0 ∷ 99 ∷ 99 ∷ 99 ∷ []) [] }
    -- a discarded page is found
    ∷ record { sham = answer (found 0 0 0) [] []; learned = answer (not_written 0) [] [] }
    -- one block is free
    ∷ record { sham = answer (flushed 8 1) (0 ∷ 99 ∷ 99 ∷ 99 ∷ []) []; learned = answer (refused no_free_block) (99 ∷ 99 ∷ 99 ∷ 99 ∷ []) [] }
    ∷ []

-- The shams' answers beside the learned engine's, computed.
pub plain-shams : given ≡ stated
unfolding everything small unformatted unformatted_table flush_of collect_of table_after show_table keep_first skips_erase keeps_entry takes_last besides flush_small given stated
plain-shams = refl
