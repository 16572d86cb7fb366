-- The part is group k, and becomes an empty group's.
use Rattle.std.proofs.Common.{set, ap, ◌∙◌, arith}
use Rattle.model.specs.Levels.{Group}
use Rattle.model.specs.State.{with_groups}
use Rattle.state.specs.Reading.{read_state}
use Rattle.state.proofs.Handing.{lent, part_replaced}
use Rattle.upkeep.proofs.format.empty_group.Goals as goal

pub slice_bounds-empty-end : goal.slice_bounds-empty-end
slice_bounds-empty-end c =
    omega (arith, (lent _ _ c.requires.0 _ _ _ c.requires.1 c.group_place-a.ensures c.group_end-e.ensures).inside)

pub returns : goal.returns
returns c =
    let s = read_state c.args.state.now in
    part_replaced _ _ c.requires.0 _ _ _ c.requires.1 c.group_place-a.ensures c.group_end-e.ensures _ c.empty.auto.b
    ∙ ap (λ (g : Group). with_groups (set s.groups c.args.k g) s) c.empty.ensures
