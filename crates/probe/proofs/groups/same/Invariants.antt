-- All bytes are the same where those up to offset o differ nowhere and those from there on are the same.
use Rattle.std.proofs.Common.{◌≡◌, ◌-◌, ℕ, ◌&&◌, get_or}
use lib.Dec.{eqb}
use Rattle.group.specs.Reading.{every_from}
use Rattle.probe.proofs.groups.same.Given as goal

abbrev pub invariant-loop-o : goal.invariant-loop-o
invariant-loop-o l =
    every_from (λ (k : ℕ). eqb (get_or l.a k 0) (get_or l.b k 0)) 256 0 ≡ (eqb l.any 0 && every_from (λ (k : ℕ). eqb (get_or l.a k 0) (get_or l.b k 0)) (256 - l.o) l.o)
