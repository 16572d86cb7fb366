use mathlib.Core.Path.{sym, ap, ◌∙◌}
use Rattle.model.specs.Options.{as_option}
use Rattle.std.proofs.lemmas.List.{take_rest}
use Rattle.lines.specs.Script.{digits_from}
use Rattle.lines.proofs.Numbers.{first-found, none_found}
use Rattle.lines.proofs.read.number.Goals as goal

pub returns-in_err-i : goal.returns-in_err-i
unfolding as_option
returns-in_err-i c = rw c.from_residual.ensures (sym (none_found _ c.in_err-i.ensures))

pub returns : goal.returns
returns c = c.digits.ensures ∙ (ap (digits_from 0) (take_rest c.args.field.now c.in_ok-i.i) ∙ sym (first-found _ _ c.in_ok-i.ensures))
