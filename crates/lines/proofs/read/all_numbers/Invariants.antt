-- The fields passed hold numbers, so those left decide.
use Rattle.std.proofs.Common.{◌≡◌, ◌-◌}
use Rattle.lines.specs.Script.{numbers_from}
use Rattle.lines.specs.Reading.{is_there}
use Rattle.lines.proofs.read.all_numbers.Given as goal

abbrev pub invariant-loop-i : goal.invariant-loop-i
invariant-loop-i l = is_there (numbers_from l.line 0 l.count) ≡ is_there (numbers_from l.line l.i (l.count - l.i))
