-- Block k's entries lie in the spare area; filling them is the model's erase.
use Rattle.std.proofs.Common.{arith, rules, ◌∙◌, ◌+◌, ◌*◌, ◌≤◌, length}
use Rattle.spare.proofs.Sizes.{sizes, block_entries-inside}
use Rattle.spare.proofs.Stores.{part_filled, erase-fill}
use Rattle.spare.proofs.erase.Goals as goal

pub overflow_mul-a : goal.overflow_mul-a
overflow_mul-a c = omega (arith, block_entries-inside _ _ _ c.entries_per_block-n.ensures c.requires.1, (sizes _ c.args.d.limits).area)

pub offset_bounds-spare-a : goal.offset_bounds-spare-a
offset_bounds-spare-a c = omega (arith, block_entries-inside _ _ _ c.entries_per_block-n.ensures c.requires.1, (sizes _ c.args.d.limits).area)

pub slice_bounds-fill-end : goal.slice_bounds-fill-end
slice_bounds-fill-end c =
    let inside : c.args.k * c.entries_per_block-n.result + c.entries_per_block-n.result ≤ length c.args.spare.now =
    omega (arith, c.requires.0, block_entries-inside _ _ _ c.entries_per_block-n.ensures c.requires.1) in
    search rules

pub returns : goal.returns
returns c =
    let inside = block_entries-inside _ _ _ c.entries_per_block-n.ensures c.requires.1 in
    part_filled _ _ _ _ _ (omega (arith, c.requires.0, inside)) (c.fill.ensures.after (λ y e. e)) ∙ erase-fill _ _ _ _ c.entries_per_block-n.ensures
