use Prim.Native.Nat.{ℕ, ◌+◌, ◌-◌}
use mathlib.Core.Path.{sym, ap, ◌∙◌}
use lib.ListN.{set}
use Rattle.model.specs.Lists.{store}
use Rattle.lines.specs.Reading.{values_from}
use Rattle.lines.proofs.Fields.{value-told, values-turn, values-stored}
use Rattle.lines.proofs.read.fill.Goals as goal

pub loop-i-preserved : goal.loop-i-preserved
loop-i-preserved c =
    let now = c.loop-i in
    let line = c.args.line.now in
    ap (λ (v : ℕ). store (set now.numbers now.i v) (now.i + 1) (values_from line (now.i + 1) (c.args.count - (now.i + 1)))) (c.unwrap_or.ensures ∙ value-told _ _ c.number_at.ensures)
    ∙ values-turn _ _ _ _ c.loop-i-test.true
    ∙ now.invariant

pub returns : goal.returns
returns c = sym (values-stored _ _ _ _ c.loop-i-test.false) ∙ c.loop-i.invariant
