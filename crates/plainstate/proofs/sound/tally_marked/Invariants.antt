-- The marked pages of the first k blocks are counted, and their entries stored; what is left are those of the others.
use Rattle.std.proofs.Common.{◌≡◌, ◌+◌, ◌*◌, ◌≤◌}
use Rattle.model.specs.Lists.{store}
use Rattle.model.specs.Marks.{is_marked}
use Rattle.front.specs.Read.{numbers_of}
use Rattle.plainstate.specs.Reading.{read_table}
use Rattle.plainstate.specs.Bits.{counted_from}
use Rattle.plainstate.specs.Tally.{entries_from}
use Rattle.plainstate.proofs.Tallying.{entries_at, counted_at}
use Rattle.plainstate.proofs.sound.tally_marked.Given as goal

abbrev pub invariant-loop-k : goal.invariant-loop-k
invariant-loop-k l = record {
  few : l.n ≤ l.k * l.d.b;
  count : l.n + counted_at (is_marked l.bits) (numbers_of l.d) (read_table l.state).counts l.k
      ≡ counted_from (is_marked l.bits) (numbers_of l.d) 0 (read_table l.state).counts;
  stored : store l.fn.tally 0 (entries_from (is_marked l.bits) (numbers_of l.d) 0 (read_table l.state).counts)
      ≡ store l.tally l.k (entries_at (is_marked l.bits) (numbers_of l.d) (read_table l.state).counts l.k);
}
