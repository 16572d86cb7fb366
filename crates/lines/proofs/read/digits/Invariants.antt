-- The digits passed make v, and v with those left makes the number.
use Rattle.std.proofs.Common.{◌≡◌, ◌^◌, ◌<◌, drop}
use Rattle.lines.specs.Script.{digits_from}
use Rattle.lines.proofs.read.digits.Given as goal

abbrev pub invariant-loop-c : goal.invariant-loop-c
invariant-loop-c l = (l.v < 10 ^ l.c-index) × (digits_from l.v (drop l.c-index l.text) ≡ digits_from 0 l.text)
