-- What each accepted call makes of the marks, on states of any content. Assumes nothing.
use mathlib.Core.Path.{◌≡◌, refl, sym, ◌∙◌}
use mathlib.Core.List.{List}
use mathlib.Core.Bool.{true≢false, true}
use Prim.Native.Nat.{ℕ}
use Rattle.model.specs.State.{State, with_counts, with_marks, with_groups}
use Rattle.calls.specs.Outcome.{Lent, accepted, Outcome}
use Rattle.calls.specs.Format.{blank_state, format_done}
use Rattle.calls.specs.Flush.{write_state, write_block, clear_marks, flush_done}
use Rattle.calls.specs.Lookup.{lookup_done}
use Rattle.calls.specs.Discard.{discard_page, discard_done}
use Rattle.calls.specs.Collection.{move_all, list_erased, collect_done}
use Rattle.calls.specs.Compaction.{compact_group, compact_done}
use Rattle.calls.specs.Agreement.{agree_done}
use Rattle.calls.specs.Listing.{list_done}
use Rattle.calls.specs.Why.{why_done}
use Rattle.calls.specs.History.{Call, format_call, flush_call, lookup_call, discard_call, collect_call, compact_call, agree_call, list_call, why_call, lend, lent_to, checks_of, effect, run}
use Rattle.calls.specs.Marked.{marks_after, MarksFollow}
use Rattle.calls.proofs.Refusing.{refused_not_accepted}
use Rattle.calls.proofs.Decided.{Decided, refuses, accepts, decided}
use Rattle.calls.proofs.Collected.{moved-rest, erased-rest}

-- a collection moves and erases, and leaves the marks
collect-marks : (x : Lent) → (collect_done x).after.state.marks ≡ x.state.marks
unfolding collect_done list_erased
collect-marks x = (erased-rest _ (move_all _ x)).marks ∙ (moved-rest _ x).marks

effect-marks : (c : Call) (s : State) (spare : List ℕ) → (effect c (lent_to c s spare)).after.state.marks ≡ marks_after c s.marks
unfolding effect lent_to lend marks_after format_done blank_state flush_done clear_marks write_block write_state with_groups with_counts with_marks lookup_done discard_done discard_page compact_done compact_group agree_done list_done why_done
effect-marks (format_call d) s spare = refl
effect-marks (flush_call batch plan) s spare = refl
effect-marks (lookup_call x) s spare = refl
effect-marks (discard_call x) s spare = refl
effect-marks (collect_call plan erased) s spare = collect-marks _
effect-marks (compact_call k) s spare = refl
effect-marks (agree_call a sa b sb) s spare = refl
effect-marks (list_call k out) s spare = refl
effect-marks (why_call x out) s spare = refl

pub marks_follow : MarksFollow
unfolding run
marks_follow c s spare = go _ (decided (checks_of c (lent_to c s spare)) _ _)
  where
    go : (o : Outcome) → Decided (checks_of c (lent_to c s spare)) (lent_to c s spare) (effect c (lent_to c s spare)) o → accepted o.answer ≡ true → o.after.state.marks ≡ marks_after c s.marks
    go o (refuses r e) t = absurd (true≢false (sym t ∙ refused_not_accepted r))
    go o (accepts e) t = effect-marks c s spare
