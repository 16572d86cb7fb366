-- `move_down`: the bytes that are left to move make the whole move.
use Rattle.std.proofs.Common.{◌≡◌, ◌+◌, ◌-◌, length}
use Rattle.octets.specs.Slots.{moved}
use Rattle.octets.proofs.move_down.Given as goal

abbrev pub invariant-loop-j : goal.invariant-loop-j
invariant-loop-j l = (length l.s ≡ length l.initial.s) × (moved l.s (l.q + l.j) (l.q + l.w + l.j) (l.n - l.j) ≡ moved l.initial.s l.q (l.q + l.w) l.n)
