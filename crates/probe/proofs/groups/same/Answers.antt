-- All bytes are the same where those up to offset o differ nowhere and those from there on are the same.
use mathlib.Core.Path.{sym, ap, ◌∙◌}
use Prim.Native.Nat.{ℕ}
use lib.Dec.{eqb}
use Rattle.group.proofs.Turns.{any_turn, any_done}
use Rattle.probe.proofs.Filling.{none_from}
use Rattle.probe.proofs.groups.same.Goals as goal

pub loop-o-preserved : goal.loop-o-preserved
loop-o-preserved c =
    let so = c.loop-o in
    so.invariant ∙ any_turn _ 256 so.any _ c.loop-o-test.true _ (ap (λ (n : ℕ). eqb n 0) c.from-any.ensures ∙ none_from _)

pub returns : goal.returns
returns c = sym (c.loop-o.invariant ∙ any_done _ 256 c.loop-o.any _ c.loop-o-test.false)
