-- `owns_ends` meets its contract: a law of the ends for each answer.
use mathlib.Core.Path.{sym, ◌∙◌}
use mathlib.Core.Bool.{true≢false}
use Rattle.group.proofs.Tests.{ends_other, ends_first, ends_last, ends-both, ends-taken}
use Rattle.group.proofs.owns_ends.Goals as goal
use Rattle.group.proofs.owns_ends.Goals.{then-owners-first-via-then-owners-first, then-owners-first-via-else-owners-first+then-owners-last}

pub returns-then-r-eq0 : goal.returns-then-r-eq0
returns-then-r-eq0 c = let q = ends_other c.args.r c.args.owners.now c.if-r-eq0.true in (q.0, λ e. q.1)

pub returns-then-owners-first : goal.returns-then-owners-first
returns-then-owners-first c =
    elim c.then-owners-first.branch [
      | then-owners-first-via-then-owners-first w ↦ (ends_first _ _ c.if-r-eq0.false w.if-owners-first.true, λ e. absurd (true≢false (sym e)))
      | then-owners-first-via-else-owners-first+then-owners-last w ↦
          (ends_last _ _ c.if-r-eq0.false w.if-owners-first.false w.if-owners-last.true, λ e. absurd (true≢false (sym e)))
    ]

pub returns : goal.returns
returns c = (
  ends-both _ _ c.if-r-eq0.false c.if-owners-first.false c.if-owners-last.false,
  λ e. c.take.ensures ∙ ends-taken c.args.r c.args.owners.now c.if-r-eq0.false,
)
