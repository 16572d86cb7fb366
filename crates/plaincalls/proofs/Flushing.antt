-- The ways in which a flush ends: refused, or its block written. Assumes nothing.
use mathlib.Core.Path.{◌≡◌, refl, ap, ◌∙◌}
use mathlib.Core.List.{List, []}
use mathlib.Core.Option.{none, some}
use mathlib.Core.Bool.{true≢false}
use Prim.Native.Nat.{ℕ, ◌*◌, ◌<◌}
use native.Mathlib.Omega.{arith}
use lib.ListN.{length}
use borrow.Author.Tests.{ltb-false}
use Rattle.model.specs.Device.{Device, first_page}
use Rattle.model.specs.Learning.{sorted, logicals}
use Rattle.model.specs.State.{free_blocks, lowest_in}
use Rattle.model.proofs.Blocks.{lowest_free_lem}
use Rattle.calls.specs.Refusals.{Refusal, first_refusal}
use Rattle.calls.specs.Outcome.{accepted, refused, flushed}
use Rattle.calls.proofs.Fitting.{batch-filled, fits_of}
use Rattle.calls.proofs.Refusing.{clears, is_clear}
use Rattle.plain.specs.Table.{Table}
use Rattle.plain.specs.Calls.{flush, opening, lent_to, checks_of, written, answer_of, leaves}
use Rattle.plainstate.specs.Reading.{read_table}
use Rattle.plainstate.specs.Ran.{Ran}
use Rattle.plainstate.proofs.Running.{ran-refused, ran-accepted}
use Rattle.plainstate.proofs.Refusing.{opened-shape}
use Rattle.plainstate.proofs.Shaping.{length-counts}
use Rattle.plaincalls.specs.Written.{Admitted, block_taken, Written}
use Rattle.plaincalls.proofs.Entering.{taken-written}

module _ (state batch plan : List ℕ) where
  abbrev t : Table
  t = read_table state

  pub flush-refused : (r : Refusal) → first_refusal (checks_of (flush batch plan) t) ≡ some r
      → Ran (flush batch plan) state (refused r) (record { state = state; plan = plan; erased = [] })
  unfolding lent_to
  flush-refused r e = ran-refused (flush batch plan) state _ r e refl refl

  module _ (d : Device) (clear : first_refusal (checks_of (flush batch plan) t) ≡ none) (numbers : t.device ≡ d) where
    pub passed : Admitted d t batch plan
    unfolding checks_of
    passed =
        let c = clears (checks_of (flush batch plan) t) clear in
        let r = c.1.1 in
        let f = fits_of t.device batch plan r.0 r.1.1.0 r.1.1.1.0 in
        record {
          shape = opened-shape t d (is_clear (opening t) (c.0, (c.1.0, tt))) numbers;
          fits = rw numbers at f;
          free = ltb-false (length (free_blocks 0 t.counts)) 2 r.1.1.1.1.0;
        }

    -- the lowest-numbered free block is one of the blocks
    pub lowest-inside : (k : ℕ) → k ≡ lowest_in t.counts → k < d.M
    lowest-inside k e = omega (arith, e, (lowest_free_lem t.counts (omega (arith, passed.free))).0, length-counts d state passed.shape)

    -- the batch is written, and the block's first page and the count are answered
    pub flush-written : (k n : ℕ) (state' plan' : List ℕ) → k ≡ lowest_in t.counts → Written batch k n t (read_table state') plan plan'
        → Ran (flush batch plan) state (flushed (k * d.B) n) (record { state = state'; plan = plan'; erased = [] })
    unfolding answer_of leaves first_page accepted
    flush-written k n state' plan' e w =
        let done : read_table state' ≡ written (sorted batch) t =
        w.table ∙ ap (λ (j : ℕ). block_taken j (logicals (sorted batch)) t) e ∙ taken-written (sorted batch) t (batch-filled batch passed.fits.filled) in
        ran-accepted (flush batch plan) state _ (flushed (k * d.B) n) clear (rw (e, w.count, ← numbers)) (rw (done, w.listed)) (λ z. absurd (true≢false z))
