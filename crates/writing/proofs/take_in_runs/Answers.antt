-- `take_in_runs` meets its contract: a turn takes the place's run in, and goes on behind it.
use Rattle.state.proofs.Shaping.{length-groups}
use Rattle.writing.proofs.Places.{located_first}
use Rattle.writing.proofs.Passing.{taken_none, taken_more, taken_all}
use Rattle.writing.proofs.take_in_runs.Goals as goal

pub loop-p-init : goal.loop-p-init
loop-p-init c = record { located = located_first _ _ _; so = taken_none _ _ _ _ _ _ c.requires.0 c.requires.1 }

pub put_in_run-p-requires : goal.put_in_run-p-requires
put_in_run-p-requires c =
    let now = c.loop-p.invariant in
    let handed = c.requires.2 in
    let less = c.loop-p-test.true in
    record {
      shaped = now.so.shaped;
      groups = now.so.sound;
      sorted = handed.sorted;
      inside = less;
      located = now.located;
      members = handed.members _ less;
      sound = handed.sound _ less;
    }

pub loop-p-preserved : goal.loop-p-preserved
loop-p-preserved c =
    let now = c.loop-p.invariant.so in
    let put = c.put_in_run-p.ensures in
    record {
      located = put.1;
      so = taken_more _ _ _ _ _ _ c.requires.2 _ _ c.loop-p-test.true now (length-groups _ _ now.shaped) _ _ put.2 put.0;
    }

pub returns : goal.returns
returns c = taken_all _ _ _ _ _ _ _ _ c.loop-p-test.false c.loop-p.invariant.so
