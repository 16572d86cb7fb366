-- What is left to store are the valid pages of the blocks from the index on, behind the n that are stored.
use Rattle.std.proofs.Common.{◌≡◌, ◌+◌, map, length, drop}
use Rattle.model.specs.Lists.{store}
use Rattle.model.specs.Spare.{middle}
use Rattle.front.specs.Read.{numbers_of}
use Rattle.state.specs.Reading.{read_state}
use Rattle.collection.proofs.Gathering.{gathered}
use Rattle.collection.proofs.moving.gather.Given as goal

abbrev pub invariant-loop-k : goal.invariant-loop-k
invariant-loop-k l =
    let all = gathered (read_state l.state) l.spare l.blocks in
    let left = gathered (read_state l.state) l.spare (drop l.k-index l.blocks) in
    record {
      count : length all ≡ l.n + length left;
      logical : store l.initial.pages 0 (map (middle (numbers_of l.d) l.spare) all) ≡ store l.pages l.n (map (middle (numbers_of l.d) l.spare) left);
      source : store l.initial.sources 0 all ≡ store l.sources l.n left;
    }
