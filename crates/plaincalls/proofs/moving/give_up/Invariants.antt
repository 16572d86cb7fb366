-- What clearing the blocks from the next one on leaves now is what clearing all leaves of the start.
use Rattle.std.proofs.Common.{◌≡◌, drop}
use Rattle.calls.specs.PageMap.{clear_counts}
use Rattle.plaincalls.proofs.moving.give_up.Given as goal

abbrev pub invariant-loop-k : goal.invariant-loop-k
invariant-loop-k l = clear_counts l.blocks l.fn.kept ≡ clear_counts (drop l.k-index l.blocks) l.kept
