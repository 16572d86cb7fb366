-- At each turn the bytes before led from the start to where the session stands, and what they print was handed over.
use Rattle.std.proofs.Common.{◌≡◌, take}
use Rattle.std.specs.Io.KnownBytes.{Appends}
use Rattle.listing.specs.Progress.{fed, fed_prints, progress, Going}
use Rattle.listing.proofs.session.feed.Given as goal

abbrev pub invariant-loop-byte : goal.invariant-loop-byte
invariant-loop-byte g l = record {
  going : Going (record { held = l.memory.held; filled = l.line.filled; laid = l.out.waiting }) l.line.bytes l.memory.state l.memory.spare l.out.bytes;
  handed : l.out.waiting ≡ 0;
  here : progress (record { held = l.memory.held; filled = l.line.filled; laid = l.out.waiting }) l.line.bytes l.memory.state l.memory.spare
      ≡ fed (take l.byte-index l.bytes) (progress (record { held = l.fn.memory.held; filled = l.fn.line.filled; laid = l.fn.out.waiting }) l.fn.line.bytes l.fn.memory.state l.fn.memory.spare);
  printed : Appends (g.W.Write.contents l.fn.output) (g.W.Write.contents l.output)
      (fed_prints (take l.byte-index l.bytes) (progress (record { held = l.fn.memory.held; filled = l.fn.line.filled; laid = l.fn.out.waiting }) l.fn.line.bytes l.fn.memory.state l.fn.memory.spare));
}
