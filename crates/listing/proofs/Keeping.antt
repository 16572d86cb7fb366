-- A call that is no format leaves the device numbers, so the memory stays ready for the next line. Assumes nothing.
use mathlib.Core.Path.{◌≡◌, refl, sym, ap, ◌∙◌}
use mathlib.Core.List.{List, [], ◌∷◌}
use mathlib.Core.Option.{Option, none, some}
use mathlib.Core.Bool.{Bool, true, false, cond}
use Prim.Native.Nat.{ℕ}
use lib.Dec.{eqb}
use lib.ListN.{length, get_or, replicate}
use Rattle.model.specs.Device.{Device}
use Rattle.model.specs.State.{State, with_counts, with_marks, with_groups}
use Rattle.calls.specs.Refusals.{Refusal, first_refusal}
use Rattle.calls.specs.Outcome.{Lent, outcome, unless}
use Rattle.calls.specs.Flush.{write_state, write_block, clear_marks, flush_done}
use Rattle.calls.specs.Lookup.{lookup_done}
use Rattle.calls.specs.Collection.{victims, moves, erase_block, erase_blocks, list_erased, collect_done, move_all}
use Rattle.calls.specs.Choice.{blocks_of}
use Rattle.calls.specs.Compaction.{compact_group, compact_done}
use Rattle.calls.specs.History.{Call, format_call, flush_call, lookup_call, discard_call, collect_call, compact_call, agree_call, list_call, why_call, lend, lent_to, checks_of, effect, run}
use Rattle.calls.proofs.Collected.{moved-rest}
use Rattle.listing.specs.declared.lent.Held.{Held}
use Rattle.listing.specs.Sizes.{spare_room, state_room}
use Rattle.listing.specs.Session.{Session, call_of}
use Rattle.listing.specs.Memory.{in_use, InMemory, Obeyed}

-- the call leaves the device numbers of what it is lent
abbrev Keeps : Call → Type 0
Keeps c = (x : Lent) → (effect c x).after.state.device ≡ x.state.device

flush_keeps : (batch plan : List ℕ) → Keeps (flush_call batch plan)
unfolding effect flush_done clear_marks write_block write_state with_counts with_marks with_groups
flush_keeps batch plan x = refl

lookup_keeps : (page : ℕ) → Keeps (lookup_call page)
unfolding effect lookup_done
lookup_keeps page x = refl

compact_keeps : (k : ℕ) → Keeps (compact_call k)
unfolding effect compact_done compact_group with_groups
compact_keeps k x = refl

erase_keeps : (ks : List ℕ) (x : Lent) → (erase_blocks ks x).state.device ≡ x.state.device
unfolding erase_blocks erase_block with_counts
erase_keeps [] x = refl
erase_keeps (k ∷ ks) x = erase_keeps ks (erase_block k x)

collect_keeps : (plan erased : List ℕ) → Keeps (collect_call plan erased)
unfolding effect collect_done list_erased
collect_keeps plan erased x =
    erase_keeps (blocks_of (victims x.state x.spare)) (move_all (moves x.state x.spare) x)
    ∙ (moved-rest (moves x.state x.spare) x).device

-- whichever of the two is made
either_keeps : (t : Bool) (c d : Call) → Keeps c → Keeps d → Keeps (cond t c d)
either_keeps true c d a b = a
either_keeps false c d a b = b

operation_keeps : (op : ℕ) (ns : List ℕ) (s : Session) → Keeps (call_of op ns s)
unfolding call_of
operation_keeps op ns s =
    either_keeps (eqb op 2) _ _ (flush_keeps ns (replicate s.state.device.B 0))
    (either_keeps (eqb op 3) _ _ (lookup_keeps (get_or ns 0 0))
    (either_keeps (eqb op 4) _ _ (collect_keeps (replicate s.state.device.B 0) (replicate s.state.device.M 0))
    (compact_keeps (get_or ns 0 0))))

-- the state that a call is lent
lent-state : (c : Call) (s : State) (spare : List ℕ) → (lent_to c s spare).state ≡ s
unfolding lent_to lend
lent-state (format_call d) s spare = refl
lent-state (flush_call batch plan) s spare = refl
lent-state (lookup_call x) s spare = refl
lent-state (discard_call x) s spare = refl
lent-state (collect_call plan erased) s spare = refl
lent-state (compact_call k) s spare = refl
lent-state (agree_call a sa b sb) s spare = refl
lent-state (list_call k out) s spare = refl
lent-state (why_call x out) s spare = refl

run_keeps : (c : Call) → Keeps c → (s : State) (spare : List ℕ) → (run c s spare).after.state.device ≡ s.device
unfolding run unless outcome
run_keeps c k s spare = go (first_refusal (checks_of c (lent_to c s spare)))
  where
    go : (o : Option Refusal) → (outcome o (lent_to c s spare) (effect c (lent_to c s spare))).after.state.device ≡ s.device
    go none = k (lent_to c s spare) ∙ ap (λ (x : State). x.device) (lent-state c s spare)
    go (some r) = ap (λ (x : State). x.device) (lent-state c s spare)

-- the memory is ready after a line's call as before it
pub call-ready : (op : ℕ) (ns : List ℕ) (h : Held) (n : ℕ) (state spare state' spare' : List ℕ) → InMemory h state spare
    → length state' ≡ state_room → length spare' ≡ spare_room
    → Obeyed (call_of op ns (in_use h state spare)) h.state h.spare state spare n state' spare' → InMemory h state' spare'
call-ready op ns h n state spare state' spare' i long fits o =
    let same : (in_use h state' spare').state.device ≡ (in_use h state spare).state.device =
    ap (λ (x : State). x.device) o.state_read ∙ run_keeps _ (operation_keeps op ns (in_use h state spare)) _ _ in
    record {
      bytes = long;
      entries = fits;
      state_used = i.state_used;
      spare_used = i.spare_used;
      blocks_used = i.blocks_used;
      pages_used = i.pages_used;
      blocks_read = i.blocks_read ∙ ap (λ (d : Device). d.M) (sym same);
      pages_read = i.pages_read ∙ ap (λ (d : Device). d.B) (sym same);
    }
