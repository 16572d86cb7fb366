-- What is left to store are the valid pages from p on, behind the n that are stored.
use Rattle.std.proofs.Common.{◌≡◌, ◌+◌, map, length}
use Rattle.model.specs.Lists.{store}
use Rattle.model.specs.Spare.{middle}
use Rattle.calls.specs.Collection.{used_block}
use Rattle.front.specs.Read.{numbers_of}
use Rattle.state.specs.Reading.{read_state}
use Rattle.collection.proofs.Judging.{valid_upto}
use Rattle.collection.proofs.moving.gather_block.Given as goal

abbrev pub invariant-loop-p : goal.invariant-loop-p
invariant-loop-p l =
    let all = (used_block (read_state l.state) l.spare l.fn.k).pages in
    let left = valid_upto (read_state l.state) l.spare l.p-end l.p in
    record {
      count : l.fn.n + length all ≡ l.n + length left;
      logical : store l.initial.pages l.fn.n (map (middle (numbers_of l.d) l.spare) all) ≡ store l.pages l.n (map (middle (numbers_of l.d) l.spare) left);
      source : store l.initial.sources l.fn.n all ≡ store l.sources l.n left;
    }
