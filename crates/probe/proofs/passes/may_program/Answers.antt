-- Each test as its law says; the numbers are within their limits.
use Rattle.std.proofs.Common.{leb, sym, ap, ◌∙◌, arith}
use Rattle.probe.proofs.Passing.{no_area, no_block, no_pages, stop_decides}
use Rattle.probe.proofs.passes.may_program.Goals as goal

pub returns-then-l-spare_len : goal.returns-then-l-spare_len
returns-then-l-spare_len c = no_area _ _ _ _ _ c.args.d.limits (λ e. c.if-l-spare_len.true (e ∙ sym c.spare_len.ensures))

pub returns-then-d-k : goal.returns-then-d-k
returns-then-d-k c = no_block _ _ _ _ _ c.args.d.limits (c.if-l-spare_len.false ∙ c.spare_len.ensures) c.if-d-k.true

pub returns-then-d-p : goal.returns-then-d-p
returns-then-d-p c =
    no_pages _ _ _ _ _ c.args.d.limits (c.if-l-spare_len.false ∙ c.spare_len.ensures) (omega arith) c.if-d-p.true

pub returns : goal.returns
returns c =
    stop_decides _ _ _ _ _ c.args.d.limits (c.if-l-spare_len.false ∙ c.spare_len.ensures) (omega arith) (omega arith) _ (ap (leb _) c.entries_per_block.ensures)
