-- A turn adds what its block counts.
use Rattle.std.proofs.Common.{arith, ◌∙◌}
use Rattle.front.specs.Read.{numbers_of}
use Rattle.front.specs.Reading.{read_counts}
use Rattle.front.proofs.CountsRead.{length-read}
use Rattle.front.proofs.Scanning.{free_from, free_one, free_next, free_all}
use Rattle.front.proofs.counts.free_count.Goals as goal

pub loop-k-preserved : goal.loop-k-preserved
loop-k-preserved c =
    let cs = read_counts (numbers_of c.args.d) c.args.state.now in
    let long = length-read (numbers_of c.args.d) c.args.state.now in
    let one = c.from-n.ensures ∙ free_one c.loop-k.k _ _ c.count.ensures.0 in
    (grind arith, free_next cs _ _ one _ c.loop-k.invariant.1 (omega (arith, long)))

pub returns : goal.returns
unfolding free_from
returns c = free_all (read_counts (numbers_of c.args.d) c.args.state.now) _ _ c.loop-k.invariant.1 (omega (arith, length-read (numbers_of c.args.d) c.args.state.now))
