-- `run_at` meets its contract: where no approximate run can be longer, the accurate one is the run.
use Rattle.std.proofs.Common.{◌+◌, ◌/◌, get_or, arith, subst, sym, ◌∙◌}
use Rattle.slopes.proofs.AheadOf.{Goes, ahead_some, ahead_none}
use Rattle.learn.specs.Runs.{IsRun}
use Rattle.learn.proofs.Grouping.{before-end}
use Rattle.learn.proofs.Choosing.{takes-exact, takes_all}
use Rattle.learn.proofs.runs.run_at.Goals as goal
use Rattle.learn.proofs.runs.run_at.Goals.{then-g-eq0-via-then-g-eq0, then-g-eq0-via-else-g-eq0+then-ended}

-- without an error bound, or where the accurate run takes all pages
pub returns-then-g-eq0 : goal.returns-then-g-eq0
returns-then-g-eq0 c =
    let r = c.accurate-r.ensures.by_index c.args.g in
    elim c.then-g-eq0.branch [
      | then-g-eq0-via-then-g-eq0 w ↦ subst (IsRun _) (takes-exact _ _ _ w.if-g-eq0.true) r
      | then-g-eq0-via-else-g-eq0+then-ended w ↦
          subst (IsRun _) (takes_all _ _ _ _ c.requires.1 (omega (arith, w.if-g-eq0.false)) _ r.1 (ahead_none _ _ _ (sym w.ended.ensures ∙ w.if-ended.true))) r
    ]

pub longer-requires : goal.longer-requires
longer-requires c =
    let w = c.args.written.now in
    let p = c.requires.0 in
    let e = c.group_end-end.ensures in
    let n = c.accurate-r.result.taken in
    let goes : Goes w (get_or w c.args.i 0 / 256) (c.args.i + n) = ahead_some _ _ _ (sym c.ended.ensures ∙ c.if-ended.false) in (
      c.accurate-r.ensures.by_index c.args.g,
      before-end _ _ p.ascends _ _ e (omega arith) goes,
      omega (arith, c.if-g-eq0.false),
      p.pages,
    )
