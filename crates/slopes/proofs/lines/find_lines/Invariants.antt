-- At each turn the places from j on have the ends of their lines.
use Rattle.slopes.proofs.LinesFound.{Found}
use Rattle.slopes.proofs.lines.find_lines.Given as goal

abbrev pub invariant-loop-j : goal.invariant-loop-j
invariant-loop-j l = Found l.written l.ends l.i l.e l.end l.stride l.j
