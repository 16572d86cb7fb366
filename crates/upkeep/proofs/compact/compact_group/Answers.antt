-- The part is group k; the law of a sound group's part compacted, and the bytes outside the part stay.
use Rattle.std.proofs.Common.{arith}
use Rattle.state.proofs.Handing.{lent, part-outside}
use Rattle.upkeep.proofs.Compacting.{part-ready, part-compacted, records-left}
use Rattle.upkeep.proofs.compact.compact_group.Goals as goal

pub slice_bounds-compact-end : goal.slice_bounds-compact-end
slice_bounds-compact-end c =
    omega (arith, (lent _ _ c.requires.0 _ _ _ c.requires.1 c.group_place-a.ensures c.group_end-e.ensures).inside)

pub compact-requires : goal.compact-requires
compact-requires c = part-ready _ _ c.requires.0 _ _ _ c.requires.1 c.group_place-a.ensures c.group_end-e.ensures c.requires.2

pub returns-clause-read : goal.returns-clause-read
returns-clause-read c =
    let pre = c.requires in
    let done = c.compact.ensures in (
      part-compacted _ _ pre.0 _ _ _ pre.1 c.group_place-a.ensures c.group_end-e.ensures pre.2 _ done.0 done.1,
      records-left _ _ pre.0 _ _ _ pre.1 c.group_place-a.ensures c.group_end-e.ensures pre.2 _ done.2,
    )

pub returns-clause-outside : goal.returns-clause-outside
returns-clause-outside c =
    part-outside _ _ c.requires.0 _ _ _ c.requires.1 c.group_place-a.ensures c.group_end-e.ensures _ c.compact.ensures.0
