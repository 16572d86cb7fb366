-- What is left to write from page i on is what is left of the whole.
use Rattle.std.proofs.Common.{◌≡◌, length}
use Rattle.spare.proofs.Programming.{Left}
use Rattle.spare.proofs.program_pages.Given as goal

abbrev pub invariant-loop-i : goal.invariant-loop-i
invariant-loop-i l = (length l.spare ≡ length l.fn.spare) × Left l.around l.pages l.n l.a l.stop l.fn.spare l.spare l.left l.i
