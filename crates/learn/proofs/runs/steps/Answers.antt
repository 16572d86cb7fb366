-- `steps` meets its contract: at each turn l pages were compared.
use Rattle.std.proofs.Common.{◌+◌, arith}
use Rattle.model.proofs.Ascent.{rises}
use Rattle.learn.proofs.Strides.{stride_joins}
use Rattle.learn.proofs.runs.steps.Goals as goal

pub overflow_sub-so : goal.overflow_sub-so
overflow_sub-so c =
    let j = c.args.j + c.loop-l.l in
    omega (arith, rises _ j (j + 1) c.requires.0 (omega arith) (omega (arith, c.requires.1)))

pub loop-l-preserved : goal.loop-l-preserved
loop-l-preserved c = λ e. stride_joins _ _ _ _ _ c.loop-l.invariant e
