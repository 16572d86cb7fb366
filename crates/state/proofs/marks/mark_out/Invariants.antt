-- The forecasts of the pages so far are as they are to be, and the others stay.
use Rattle.state.specs.Reading.{read_state}
use Rattle.state.proofs.MarkingOut.{OutSo}
use Rattle.state.proofs.marks.mark_out.Given as goal

abbrev pub invariant-loop-o : goal.invariant-loop-o
invariant-loop-o l = OutSo (read_state l.state).marks l.x l.initial.forecasts l.forecasts l.o
