-- The head, then the counts, the marks and the groups: the law of what is read then.
use Rattle.std.proofs.Common.{ap, ◌∙◌, arith}
use Rattle.model.specs.Device.{Device}
use Rattle.model.specs.Lists.{store}
use Rattle.front.specs.Read.{numbers_of}
use Rattle.front.specs.Formatting.{head_of}
use Rattle.state.proofs.Places.{head_inside}
use Rattle.state.proofs.Shaping.{shaped-counts, shaped-marks}
use Rattle.upkeep.proofs.Blank.{head_shape, blank-read}
use Rattle.upkeep.proofs.format.blank.Goals as goal

pub write_numbers-requires : goal.write_numbers-requires
write_numbers-requires c = omega (arith, head_inside (numbers_of c.args.d), c.requires)

pub free_blocks-requires : goal.free_blocks-requires
free_blocks-requires c = head_shape _ _ _ c.args.d.limits c.requires (c.write_numbers.ensures ∙ ap (λ (e : Device). store c.args.state.now 0 (head_of e)) c.head.ensures)

pub clear_marks-requires : goal.clear_marks-requires
clear_marks-requires c =
    rw c.free_blocks.ensures (shaped-counts _ _ _ (head_shape _ _ _ c.args.d.limits c.requires (c.write_numbers.ensures ∙ ap (λ (e : Device). store c.args.state.now 0 (head_of e)) c.head.ensures)))

pub empty_groups-requires : goal.empty_groups-requires
empty_groups-requires c =
    rw (c.clear_marks.ensures, c.free_blocks.ensures)
    (shaped-marks _ _ _ (shaped-counts _ _ _ (head_shape _ _ _ c.args.d.limits c.requires (c.write_numbers.ensures ∙ ap (λ (e : Device). store c.args.state.now 0 (head_of e)) c.head.ensures))))

pub returns : goal.returns
returns c =
    blank-read _ _ _ c.args.d.limits c.requires (c.write_numbers.ensures ∙ ap (λ (e : Device). store c.args.state.now 0 (head_of e)) c.head.ensures) _ _ _ c.free_blocks.ensures c.clear_marks.ensures c.empty_groups.ensures
