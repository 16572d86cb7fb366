-- The ways in which a flush ends: refused, or its block written. Assumes nothing.
use mathlib.Core.Path.{◌≡◌, refl}
use mathlib.Core.List.{List, []}
use mathlib.Core.Option.{none, some}
use mathlib.Core.Bool.{true≢false}
use Prim.Native.Nat.{ℕ, ◌*◌, ◌<◌}
use native.Mathlib.Omega.{arith}
use lib.ListN.{length}
use borrow.Author.Tests.{ltb-false, not-false}
use Rattle.model.specs.Device.{Device, first_page}
use Rattle.model.specs.State.{State, with_marks, free_blocks, lowest_free}
use Rattle.model.proofs.Blocks.{lowest_free_lem}
use Rattle.calls.specs.Refusals.{Refusal, first_refusal, opening_with}
use Rattle.calls.specs.Outcome.{accepted, refused, flushed}
use Rattle.calls.specs.Flush.{flush_checks, clear_marks, flush_done, write_block}
use Rattle.calls.specs.History.{flush_call, lend, lent_to, checks_of, effect}
use Rattle.calls.proofs.Fitting.{fits_of}
use Rattle.calls.proofs.Refusing.{clears, is_clear}
use Rattle.state.specs.Reading.{read_state}
use Rattle.state.specs.Ran.{Ran}
use Rattle.state.proofs.Refusing.{ran-refused, ran-accepted, opened_with_lem}
use Rattle.state.proofs.Shaping.{length-counts}
use Rattle.flush.specs.Written.{Admitted, BatchWritten}

module _ (state spare batch plan : List ℕ) where
  abbrev s : State
  s = read_state state

  pub flush-refused : (r : Refusal) → first_refusal (flush_checks batch (lend s spare plan [])) ≡ some r
      → Ran (flush_call batch plan) state spare (refused r) (record { state = state; spare = spare; plan = plan; erased = []; out = [] })
  unfolding checks_of lent_to lend
  flush-refused r e = ran-refused (flush_call batch plan) state spare _ r e refl refl

  module _ (d : Device) (clear : first_refusal (flush_checks batch (lend s spare plan [])) ≡ none) (numbers : s.device ≡ d) where
    pub passed : Admitted d s spare batch plan
    unfolding flush_checks lend
    passed =
        let c = clears _ clear in
        let o = opened_with_lem s spare d (is_clear (opening_with s spare) (c.0, (c.1.0, (c.1.1.0, tt)))) numbers in
        let r = c.1.1.1 in
        let f = fits_of s.device batch plan r.0 r.1.1.0 r.1.1.1.0 in
        record {
          shape = o.0;
          fits = o.1;
          sound = not-false _ r.1.0;
          planned = rw numbers at f.planned;
          short = rw numbers at f.short;
          inside = rw numbers at f.logical;
          free = ltb-false (length (free_blocks 0 s.counts)) 2 r.1.1.1.1.0;
        }

    -- the lowest-numbered free block is one of the blocks
    pub lowest-inside : (k : ℕ) → k ≡ lowest_free s → k < d.M
    lowest-inside k e = omega (arith, (lowest_free_lem s.counts (omega (arith, passed.free))).0, length-counts d state passed.shape)

    -- the batch is written, and the block's first page and the count are answered
    pub flush-written : (k n : ℕ) (state' spare' plan' : List ℕ) → k ≡ lowest_free s → BatchWritten d batch k n s (read_state state') spare spare' plan plan'
        → Ran (flush_call batch plan) state spare (flushed (k * d.B) n) (record { state = state'; spare = spare'; plan = plan'; erased = []; out = [] })
    unfolding checks_of lent_to lend effect flush_done clear_marks with_marks write_block first_page accepted
    flush-written k n state' spare' plan' e w =
        ran-accepted (flush_call batch plan) state spare (flushed (k * d.B) n) _ clear (rw (e, w.count, ← numbers))
        (rw (w.state, w.area, w.listed, e, ← numbers)) (λ z. absurd (true≢false z))
