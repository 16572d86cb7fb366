-- What is left to store are the tallies of the blocks from k on.
use Rattle.std.proofs.Common.{◌≡◌}
use Rattle.model.specs.Lists.{store}
use Rattle.calls.specs.Collection.{valid}
use Rattle.choice.proofs.Tallies.{tallies}
use Rattle.state.specs.Reading.{read_state}
use Rattle.collection.specs.Tally.{tally_of}
use Rattle.collection.proofs.validity.tally_all.Given as goal

abbrev pub invariant-loop-k : goal.invariant-loop-k
invariant-loop-k l =
    let s = read_state l.state in
    store l.initial.tally 0 (tally_of s l.spare) ≡ store l.tally l.k (tallies (valid s l.spare) s.device s.counts l.k)
