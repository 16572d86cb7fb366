use Prim.Native.Nat.{◌+◌, ◌*◌}
use native.Mathlib.Omega.{arith}
use mathlib.Core.Path.{◌≡◌, sym, ◌∙◌}
use mathlib.Core.Bool.{true}
use lib.ListN.{get_or}
use Rattle.model.specs.Options.{as_option}
use Rattle.lines.specs.Script.{is_digit}
use Rattle.lines.proofs.Numbers.{digits-end, digit-read, no_digit, digit-value, Small, one_more_lem}
use Rattle.lines.proofs.read.digits.Goals as goal

-- the character is a digit
is_one : (c : goal.After-from) → is_digit (get_or c.args.text.now c.loop-c.c-index 0) ≡ true
unfolding is_digit
is_one c = sym c.is_ascii_digit.ensures.value ∙ c.if-not-is_ascii_digit.false

-- v with it behind
small : (c : goal.After-from) → Small (10 * c.loop-c.v + c.from.result) (c.loop-c.c-index + 1)
small c = one_more_lem _ _ _ c.loop-c.invariant.0 (omega (arith, digit-value _ (is_one c))) (omega arith)

pub returns-then-not-is_ascii_digit : goal.returns-then-not-is_ascii_digit
unfolding as_option is_digit
returns-then-not-is_ascii_digit c = sym (no_digit _ _ _ c.loop-c-test.true (sym c.is_ascii_digit.ensures.value ∙ c.if-not-is_ascii_digit.true)) ∙ c.loop-c.invariant.1

pub overflow_mul-v : goal.overflow_mul-v
overflow_mul-v c = omega (arith, one_more_lem c.loop-c.v c.loop-c.c-index 0 c.loop-c.invariant.0 (omega arith) (omega arith))

pub overflow_add-v : goal.overflow_add-v
overflow_add-v c = omega (arith, small c)

pub loop-c-preserved : goal.loop-c-preserved
loop-c-preserved c = ((small c).power, rw c.from.ensures (sym (digit-read _ _ _ c.loop-c-test.true (is_one c)) ∙ c.loop-c.invariant.1))

pub returns : goal.returns
unfolding as_option
returns c = sym (digits-end _ _ _ c.loop-c-test.false) ∙ c.loop-c.invariant.1
