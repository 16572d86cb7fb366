-- Five numbers and the newline are laid out one behind the other; the intercept comes back from its bits. A number takes at most 11 characters.
use mathlib.Core.Path.{ap}
use native.Mathlib.Omega.{arith}
use lib.IntN.{ℤ}
use mir.Syntax.{w32}
use mir.Facts.{to_z-of_z}
use Rattle.lines.specs.Printed.{signed, integer, right, ascii, line_for}
use Rattle.lines.proofs.Texts.{laid_as, laid_then}
use Rattle.lines.proofs.print.lay_record.Goals as goal

pub returns : goal.returns
unfolding signed ascii line_for
returns c = let back = to_z-of_z {w = w32} {z = c.args.r.intercept} (record { sfits = c.struct_told-1.given.1.1.1.0.1 }) in
    let level = c.put_number-a.ensures in
    let start = c.put_number-b.ensures in
    let span = c.put_number-c.ensures in
    let word = c.put_number-d.ensures in
    let intercept = c.put_integer-e.ensures in
    let newline = c.put_byte.ensures in (
      laid_then level.0 (laid_then start.0 (laid_then span.0 (laid_then word.0 (laid_then (laid_as (ap (λ (z : ℤ). right 10 (integer z)) back) intercept.0) newline)))),
      omega (arith, level.1, start.1, span.1, word.1, intercept.1, newline.next),
    )
