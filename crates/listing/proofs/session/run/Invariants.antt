-- At each turn the bytes that have come led from the start to where the session stands, and what they print was handed over.
use Rattle.std.proofs.Common.{◌≡◌}
use Rattle.listing.specs.Progress.{progress, Going}
use Rattle.listing.proofs.Running.{Ran}
use Rattle.listing.proofs.session.run.Given as goal

abbrev pub invariant-loop-turn : goal.invariant-loop-turn
invariant-loop-turn g l = record {
  going : Going (record { held = l.memory.held; filled = l.line.filled; laid = l.out.waiting }) l.line.bytes l.memory.state l.memory.spare l.out.bytes;
  handed : l.out.waiting ≡ 0;
  ran : Ran (progress (record { held = l.memory.held; filled = l.line.filled; laid = l.out.waiting }) l.line.bytes l.memory.state l.memory.spare) l.turn
      (g.R.Read.remaining l.fn.script) (g.R.Read.remaining l.script) (g.W.Write.contents l.fn.output) (g.W.Write.contents l.output);
}
