-- Those of the first i words are counted.
use Rattle.std.proofs.Common.{◌+◌, ◌*◌}
use Rattle.model.specs.Marks.{is_marked}
use Rattle.plainstate.proofs.Ones.{Counted}
use Rattle.plainstate.proofs.bits.by_words.Given as goal

abbrev pub invariant-loop-i : goal.invariant-loop-i
invariant-loop-i l = Counted (is_marked l.bits) l.a l.e (l.a + 32 * l.i) l.n
