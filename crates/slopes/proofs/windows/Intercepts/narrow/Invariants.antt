-- At each turn the intercepts of the slopes before k are narrowed.
use Rattle.std.proofs.Common.{◌+◌, ◌*◌, ◌-◌, min, max, get_or}
use Rattle.model.specs.Device.{ceil}
use Rattle.slopes.proofs.Stores.{Storing}
use Rattle.slopes.proofs.windows.Intercepts.narrow.Given as goal

abbrev pub invariant-loop-k : goal.invariant-loop-k
invariant-loop-k l = record {
  low : Storing 0 (λ i. max (get_or l.fn.self.low i 0) (l.l - ceil ((l.a + i) * l.o) 256)) l.fn.self.low l.self.low l.k;
  high : Storing 0 (λ i. min (get_or l.fn.self.high i 0) (l.h - ceil ((l.a + i) * l.o) 256)) l.fn.self.high l.self.high l.k;
}
