-- What is counted so far and the valid pages from p on make the whole.
use Rattle.std.proofs.Common.{◌≡◌, ◌+◌, length}
use Rattle.calls.specs.Collection.{used_block}
use Rattle.state.specs.Reading.{read_state}
use Rattle.collection.proofs.Judging.{valid_upto}
use Rattle.collection.proofs.validity.valid_pages.Given as goal

abbrev pub invariant-loop-p : goal.invariant-loop-p
invariant-loop-p l = length (used_block (read_state l.state) l.spare l.k).pages ≡ l.n + length (valid_upto (read_state l.state) l.spare l.p-end l.p)
