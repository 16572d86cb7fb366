-- The part is group k. Bounds and length are proved for the number that the code takes, whichever it is, so that another group's part is
-- refused at what is read from it.
use Rattle.std.proofs.Common.{arith, List, ℕ, ◌≡◌, ◌+◌, ◌<◌}
use Rattle.model.specs.Device.{Device, group_count, group_length}
use Rattle.state.specs.Reading.{group_place, read_state}
use Rattle.state.specs.Shaped.{Shaped}
use Rattle.state.proofs.Handing.{GroupPart, lent}
use Rattle.state.proofs.groups.group_bytes.Goals as goal

part : (d : Device) (s : List ℕ) (h : Shaped d (read_state s)) (k a e : ℕ) → a ≡ group_place d k → e ≡ group_place d k + group_length → k < group_count d → GroupPart s k a e
part d s h k a e start end lt = lent d s h k a e lt start end

pub slice_bounds-result-end : goal.slice_bounds-result-end
slice_bounds-result-end c = omega (arith, (part _ _ c.requires.0 _ _ _ c.group_place.ensures c.group_end.ensures (omega (arith, c.requires.1))).inside)

pub returns-clause-long : goal.returns-clause-long
returns-clause-long c = (part _ _ c.requires.0 _ _ _ c.group_place.ensures c.group_end.ensures (omega (arith, c.requires.1))).size

pub returns-clause-read : goal.returns-clause-read
returns-clause-read c = (part _ _ c.requires.0 _ _ _ c.group_place.ensures c.group_end.ensures (omega (arith, c.requires.1))).group
