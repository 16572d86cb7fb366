-- Document 02, g, on the bytes: what support staff may conclude from a run of telling why, of that and of every lookup in the same state.
-- Assumes nothing.
use Rattle.std.specs.Prelude.{◌≡◌, List, ℕ, length}
use Rattle.model.specs.Lists.{store}
use Rattle.model.specs.Device.{group_of, offset_of, spare_length}
use Rattle.model.specs.Levels.{listing}
use Rattle.model.specs.State.{group_at}
use Rattle.calls.specs.Outcome.{Answer, explained}
use Rattle.calls.specs.Why.{Reason, reasons_bytes}
use Rattle.calls.specs.History.{lookup_call, why_call}
use Rattle.calls.specs.Explanation.{EachHolds, Beside}
use Rattle.state.specs.Reading.{read_state}
use Rattle.history.specs.Demand3.{Buffers, Runs}

-- What n entries and the bytes `written` say of page x, whose lookups look at this state: these entries, one after the other at the front of
-- what was lent, the rest as it was; each holds; and whatever spare area of the right length a lookup is lent, it answers beside them.
pub record Explains (state : List ℕ) (x : ℕ) (out : List ℕ) (n : ℕ) (written : List ℕ) : Type 0 where
  pub entries : List Reason
  pub listed : n ≡ length entries
  pub bytes : written ≡ store out 0 (reasons_bytes entries)
  pub hold : EachHolds (offset_of x) (listing (group_at (read_state state) (group_of x))) (group_at (read_state state) (group_of x)) entries
  pub lookups : (i i' : Buffers) (a : Answer) → i.state ≡ state → length i.spare ≡ spare_length (read_state state).device → Runs i (lookup_call x) a i'
      → Beside (offset_of x) entries a

-- every run of telling why that is accepted, on bytes of any content
abbrev pub TellingExplains : Type 0
TellingExplains = (h h' : Buffers) (x : ℕ) (out : List ℕ) (n : ℕ) → (made : Runs h (why_call x out) (explained n) h') → Explains h.state x out n made.left.out
