-- `take_in_all` meets its contract: the batch is learned into two arrays, and the runs are handed over.
use Rattle.std.proofs.Common.{◌∙◌, ap, List}
use Rattle.model.specs.Learning.{Run}
use Rattle.model.specs.Levels.{take_in_all}
use Rattle.model.specs.State.{with_groups}
use Rattle.front.specs.Read.{numbers_of}
use Rattle.model.proofs.Limits.{limits}
use Rattle.state.specs.Reading.{read_state}
use Rattle.writing.proofs.Learned.{runs_are, handed-over}
use Rattle.writing.proofs.take_in_all.Goals as goal

pub learn-n-requires : goal.learn-n-requires
learn-n-requires c =
    let batch = c.requires.written_value in (
      record {
        ascends = batch.0;
        size = batch.2;
        pages = batch.3;
        bound = (limits (numbers_of c.args.d) c.requires.shaped.0.limits).most_g;
      },
      batch.2,
      batch.2,
    )

pub take_in_runs-requires : goal.take_in_runs-requires
take_in_runs-requires c =
    let batch = c.requires.written_value in
    let learned = c.learn-n.ensures in (
      c.requires.shaped.0,
      c.requires.shaped.1,
      handed-over _ _ _ _ batch.0 batch.1 _ _ batch.2 batch.2 _ _ learned.1 learned.2 _ learned.0 batch.2,
    )

pub returns : goal.returns
returns c =
    let batch = c.requires.written_value in
    let learned = c.learn-n.ensures in
    let state = read_state c.args.state.now in
    c.take_in_runs.ensures
    ∙ ap (λ (rs : List Run). with_groups (take_in_all 0 rs state.groups) state)
    (runs_are _ _ _ _ batch.0 batch.1 _ _ batch.2 batch.2 _ _ learned.1 learned.2 _ learned.0)
