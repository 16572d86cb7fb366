-- The entry's place lies in the spare area, so it is read there, with any default.
use Rattle.std.proofs.Common.{arith}
use Rattle.spare.proofs.Sizes.{sizes, entry-inside}
use Rattle.spare.proofs.Naming.{entry_read}
use Rattle.spare.proofs.entry.Goals as goal

pub overflow_mul-at : goal.overflow_mul-at
overflow_mul-at c = omega (arith, entry-inside _ _ _ _ c.entries_per_page.ensures c.requires.1 c.requires.2, (sizes _ c.args.d.limits).area)

pub overflow_add-at : goal.overflow_add-at
overflow_add-at c = omega (arith, entry-inside _ _ _ _ c.entries_per_page.ensures c.requires.1 c.requires.2, (sizes _ c.args.d.limits).area)

pub offset_bounds-spare-at : goal.offset_bounds-spare-at
offset_bounds-spare-at c = omega (arith, entry-inside _ _ _ _ c.entries_per_page.ensures c.requires.1 c.requires.2, (sizes _ c.args.d.limits).area)

pub bounds-spare-at : goal.bounds-spare-at
bounds-spare-at c = omega (arith, c.requires.0, entry-inside _ _ _ _ c.entries_per_page.ensures c.requires.1 c.requires.2)

pub returns : goal.returns
returns c =
    let inside = entry-inside _ _ _ _ c.entries_per_page.ensures c.requires.1 c.requires.2 in
    entry_read _ _ _ _ _ c.entries_per_page.ensures (omega (arith, c.requires.0, inside))
