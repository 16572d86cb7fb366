-- What the whole copy gives is what copying the rest gives from here.
use Rattle.std.proofs.Common.{◌≡◌, ◌+◌, ◌-◌, length, take, drop}
use Rattle.model.specs.Lists.{store}
use Rattle.spare.proofs.copy.Given as goal

abbrev pub invariant-loop-j : goal.invariant-loop-j
invariant-loop-j l =
    (length l.to ≡ length l.initial.to)
    × (store l.initial.to l.at (take l.m (drop l.i l.from)) ≡ store l.to (l.at + l.j) (take (l.m - l.j) (drop (l.i + l.j) l.from)))
