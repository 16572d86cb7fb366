-- Each return by the law of its test.
use Prim.Native.Nat.{ℕ}
use native.Mathlib.Omega.{arith}
use mathlib.Core.Path.{sym, ap, ◌∙◌}
use Rattle.model.specs.Options.{as_option}
use Rattle.lines.specs.Script.{takes, field_count}
use Rattle.lines.proofs.Fields.{length-values}
use Rattle.lines.proofs.Lines.{too_short_lem, part_field, no_operation, other_count, no_numbers, is_call, takes-few, operation-number, no_operation-takes, bad-read, call-read}
use Rattle.lines.proofs.read.read.Goals as goal
use Rattle.lines.proofs.read.read.Goals.{then-line-lt2-via-then-line-lt2, then-line-lt2-via-else-line-lt2+then-line-ne0, then-not-takes-via-then-not-takes, then-not-takes-via-else-not-takes+then-not-all_numbers}

pub returns-then-line-lt2 : goal.returns-then-line-lt2
returns-then-line-lt2 c =
    elim c.then-line-lt2.branch [
      | then-line-lt2-via-then-line-lt2 w ↦ bad-read _ _ (too_short_lem _ w.if-line-lt2.true)
      | then-line-lt2-via-else-line-lt2+then-line-ne0 w ↦ bad-read _ _ (part_field _ w.if-line-lt2.false w.if-line-ne0.true)
    ]

pub returns-in_err-number : goal.returns-in_err-number
unfolding as_option
returns-in_err-number c = rw c.from_residual.ensures (bad-read _ _ (no_operation _ c.if-line-lt2.false c.if-line-ne0.false (sym c.in_err-number.ensures)))

pub returns-in_err-operation : goal.returns-in_err-operation
unfolding as_option
returns-in_err-operation c =
    rw c.from_residual-in_err-operation.ensures
    (bad-read _ _ (other_count _ c.if-line-lt2.false c.if-line-ne0.false _ (sym c.in_ok-number.ensures) (no_operation-takes _ _ c.in_err-operation.ensures)))

pub returns-then-not-takes : goal.returns-then-not-takes
unfolding as_option
returns-then-not-takes c =
    elim c.then-not-takes.branch [
      | then-not-takes-via-then-not-takes w ↦
          bad-read _ _
          (other_count _ c.if-line-lt2.false c.if-line-ne0.false _ (sym c.in_ok-number.ensures)
          (ap (λ (n : ℕ). takes n (field_count c.args.line.now)) (operation-number _ _ c.in_ok-operation.ensures) ∙ (sym c.takes.ensures ∙ w.if-not-takes.true)))
      | then-not-takes-via-else-not-takes+then-not-all_numbers w ↦
          bad-read _ _ (no_numbers _ c.if-line-lt2.false c.if-line-ne0.false (sym w.all_numbers.ensures ∙ w.if-not-all_numbers.true))
    ]

pub fill-requires : goal.fill-requires
fill-requires c = (omega arith, omega (arith, takes-few _ _ (sym c.takes.ensures ∙ c.if-not-takes.false)))

pub returns : goal.returns
unfolding as_option
returns c =
    call-read _ _ _ _ _ _ _
    (is_call _ c.if-line-lt2.false c.if-line-ne0.false _ (sym c.in_ok-number.ensures)
    (ap (λ (n : ℕ). takes n (field_count c.args.line.now)) (operation-number _ _ c.in_ok-operation.ensures) ∙ (sym c.takes.ensures ∙ c.if-not-takes.false))
    (sym c.all_numbers.ensures ∙ c.if-not-all_numbers.false))
    c.in_ok-operation.ensures
    c.fill.ensures
    (length-values _ _ _)
