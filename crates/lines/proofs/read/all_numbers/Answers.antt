use mathlib.Core.Path.{sym, ◌∙◌}
use Rattle.lines.proofs.Fields.{field_bad, field_good, fields_passed}
use Rattle.lines.proofs.read.all_numbers.Goals as goal

pub returns-then-is_none : goal.returns-then-is_none
returns-then-is_none c = sym (c.loop-i.invariant ∙ field_bad _ _ _ _ c.loop-i-test.true c.number_at.ensures c.if-is_none.ensures)

pub loop-i-preserved : goal.loop-i-preserved
loop-i-preserved c = c.loop-i.invariant ∙ field_good _ _ _ _ c.loop-i-test.true c.number_at.ensures c.if-is_none.ensures

pub returns : goal.returns
returns c = sym (c.loop-i.invariant ∙ fields_passed _ _ _ c.loop-i-test.false)
