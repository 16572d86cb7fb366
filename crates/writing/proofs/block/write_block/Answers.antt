-- The count, then the learned records; the spare entries. Assumes nothing.
use Rattle.std.proofs.Common.{◌∙◌, arith}
use Rattle.model.proofs.Limits.{limits}
use Rattle.model.proofs.OnePass.{pass_all}
use Rattle.writing.proofs.Written.{room, counted-shaped, counted-sound, records-taken}
use Rattle.writing.proofs.block.write_block.Goals as goal

pub overflow_mul-first : goal.overflow_mul-first
overflow_mul-first c = let pre = c.requires.shaped in omega (arith, room _ _ pre.0 _ pre.3 0 (omega arith))

pub set_count-requires : goal.set_count-requires
set_count-requires c =
    let pre = c.requires.shaped in
    let most = limits _ pre.0.limits in
    (pre.0, pre.3, omega (arith, pre.3, c.requires.pages_value.2, most.most_M, most.most_B))

pub take_in_all-requires-clause-shaped : goal.take_in_all-requires-clause-shaped
take_in_all-requires-clause-shaped c =
    let pre = c.requires.shaped in
    let e = c.set_count.ensures in
    (counted-shaped _ _ pre.0 _ pre.3 _ _ e, counted-sound _ _ pre.0 _ pre.3 _ _ e pre.1)

pub take_in_all-requires-clause-written_value : goal.take_in_all-requires-clause-written_value
take_in_all-requires-clause-written_value c =
    let pre = c.requires.shaped in
    let pages = c.requires.pages_value in
    let most = limits _ pre.0.limits in
    let fits = room _ _ pre.0 _ pre.3 _ pages.2 in
    (pages.0, pages.1, omega (arith, pages.2, most.most_B), omega (arith, fits, pre.3, pages.2, most.most_M, most.most_B))

pub returns-clause-state_after : goal.returns-clause-state_after
returns-clause-state_after c =
    let pre = c.requires.shaped in
    records-taken _ _ pre.0 _ pre.3 _ _ c.set_count.ensures _ _ _ c.take_in_all.ensures (omega arith) (omega arith)

pub returns-clause-spare_after : goal.returns-clause-spare_after
returns-clause-spare_after c =
    c.program_block.ensures.spare_after ∙ rw c.entries_per_block-all.ensures (pass_all _ _ _ _ c.requires.pages_value.2)
