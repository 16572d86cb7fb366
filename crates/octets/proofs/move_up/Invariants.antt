-- `move_up`: the bytes that are left to move make the whole move.
use Rattle.std.proofs.Common.{◌≡◌, ◌+◌, length}
use Rattle.octets.specs.Slots.{moved}
use Rattle.octets.proofs.move_up.Given as goal

abbrev pub invariant-loop-j : goal.invariant-loop-j
invariant-loop-j l = (length l.s ≡ length l.initial.s) × (moved l.s (l.q + l.w) l.q l.j ≡ moved l.initial.s (l.q + l.w) l.q l.n)
