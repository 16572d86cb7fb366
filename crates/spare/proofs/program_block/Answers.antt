-- The written pages' entries, then the unused pages' as erased, until the stop: the pass, stopped there.
use Rattle.std.proofs.Common.{arith, rules, ◌+◌, ◌*◌, ◌≤◌, length}
use Rattle.model.specs.Device.{entries_per_page}
use Rattle.model.proofs.OnePass.{pass_stopped}
use Rattle.front.specs.Read.{numbers_of}
use Rattle.spare.proofs.Sizes.{sizes, block_size, block_entries-inside, programmed-inside}
use Rattle.spare.proofs.Stores.{part_filled}
use Rattle.spare.proofs.Around.{passed}
use Rattle.spare.proofs.program_block.Goals as goal

pub overflow_mul-a-2 : goal.overflow_mul-a-2
overflow_mul-a-2 c =
    let s = c.requires in
    omega (arith, block_entries-inside _ _ _ (block_size _ _ c.entries_per_page-n.ensures) s.1, (sizes _ c.args.d.limits).area)

pub copy-requires : goal.copy-requires
copy-requires c = let z = sizes _ c.args.d.limits in (omega (arith, c.requires.2, z.long, z.bound), omega arith)

pub program_by_width-left-requires : goal.program_by_width-left-requires
program_by_width-left-requires c =
    let s = c.requires in
    let z = sizes _ c.args.d.limits in
    let inside = programmed-inside _ _ _ _ _ 0 c.entries_per_page-n.ensures s.1 s.2 s.3 (omega arith) in
    (omega (arith, s.0, inside), omega (arith, c.copy.auto.to, c.entries_per_page-n.ensures, s.2, z.long, z.page))

pub overflow_add-at : goal.overflow_add-at
overflow_add-at c =
    let s = c.requires in
    omega (arith, programmed-inside _ _ _ _ _ 0 c.entries_per_page-n.ensures s.1 s.2 s.3 (omega arith), (sizes _ c.args.d.limits).area)

pub overflow_add-at-2 : goal.overflow_add-at-2
overflow_add-at-2 c =
    let s = c.requires in
    omega (arith, programmed-inside _ _ _ _ _ c.program_by_width-left.result c.entries_per_page-n.ensures s.1 s.2 s.3 (omega (arith, c.program_by_width-left.ensures.0)), (sizes _ c.args.d.limits).area)

pub offset_bounds-spare-at : goal.offset_bounds-spare-at
offset_bounds-spare-at c =
    let s = c.requires in
    omega (arith, programmed-inside _ _ _ _ _ 0 c.entries_per_page-n.ensures s.1 s.2 s.3 (omega arith), (sizes _ c.args.d.limits).area)

pub slice_bounds-fill-end : goal.slice_bounds-fill-end
slice_bounds-fill-end c =
    let s = c.requires in
    let end : c.args.k * (c.args.d.b * c.entries_per_page-n.result) + length c.args.written.now * c.entries_per_page-n.result + c.program_by_width-left.result ≤ length c.args.spare.now =
    omega (arith, s.0, programmed-inside _ _ _ _ _ c.program_by_width-left.result c.entries_per_page-n.ensures s.1 s.2 s.3 (omega (arith, c.program_by_width-left.ensures.0))) in
    search rules

pub returns : goal.returns
returns c =
    let s = c.requires in
    let z = sizes _ c.args.d.limits in
    let width = c.entries_per_page-n.ensures in
    let room : length c.args.written.now + entries_per_page (numbers_of c.args.d) ≤ 286 + 1 = omega (arith, s.2, z.long, z.page) in
    let inside = programmed-inside _ _ _ _ _ c.program_by_width-left.result width s.1 s.2 s.3 (omega (arith, c.program_by_width-left.ensures.0)) in
    let filled = part_filled _ _ _ _ _ (omega (arith, s.0, c.program_by_width-left.auto.spare, inside)) (c.fill.ensures.after (λ y e. e)) in
    let whole = passed _ _ 286 room _ _ _ _ _ _ _ _ _ s.2 s.3 width (block_size _ _ width) c.copy.ensures c.program_by_width-left.ensures filled in
    record { spare_after = whole; stopped = rw whole (pass_stopped _ _ _ _ _ s.1 s.2 s.3 s.0) }
