-- The fewest digits that hold n are n in decimal; a number of 32 bits has at most 10.
use native.Mathlib.Omega.{arith}
use borrow.Author.Rules.{rules}
use mathlib.Core.Path.{◌≡◌}
use lib.ListN.{length, take}
use Rattle.io.specs.Digits.{IsDigitCount}
use Rattle.lines.proofs.Decimals.{ten-digits, laid_number}
use Rattle.lines.proofs.print.put_number.Goals as goal

pub put_digits-requires : goal.put_digits-requires
put_digits-requires c =
    let text = c.decimal-k.ensures in
    let few : c.decimal-k.result ≡ length (take c.decimal-k.result c.decimal-k.new.out) = search rules in
    let count : IsDigitCount 10 1 c.args.n c.decimal-k.result = rw c.from.ensures at text.len in
    (omega arith, omega (arith, ten-digits c.args.n _ (omega arith) count))

pub returns : goal.returns
returns c =
    let text = c.decimal-k.ensures in
    let few : c.decimal-k.result ≡ length (take c.decimal-k.result c.decimal-k.new.out) = search rules in
    let count : IsDigitCount 10 1 c.args.n c.decimal-k.result = rw c.from.ensures at text.len in
    laid_number _ _ _ _ _ c.requires.0 (omega arith) count few (rw c.from.ensures at text.digits) c.put_digits.ensures
