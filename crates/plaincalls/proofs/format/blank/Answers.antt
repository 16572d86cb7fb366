-- The head, then the counts and the entries: the law of what is read then.
use Rattle.std.proofs.Common.{ap, ◌∙◌, arith}
use Rattle.model.specs.Device.{Device, head_length}
use Rattle.model.specs.Lists.{store}
use Rattle.front.specs.Read.{numbers_of}
use Rattle.front.specs.Formatting.{head_of}
use Rattle.plainstate.proofs.Sizes.{end_at}
use Rattle.plainstate.proofs.Shaping.{shaped-counts}
use Rattle.plaincalls.proofs.Blank.{head_shape, blank-read}
use Rattle.plaincalls.proofs.format.blank.Goals as goal

pub write_numbers-requires : goal.write_numbers-requires
unfolding head_length
write_numbers-requires c = omega (arith, end_at (numbers_of c.args.d))

pub free_blocks-requires : goal.free_blocks-requires
free_blocks-requires c = head_shape _ _ _ c.args.d.limits c.requires (c.write_numbers.ensures ∙ ap (λ (e : Device). store c.args.state.now 0 (head_of e)) c.head.ensures)

pub clear_entries-requires : goal.clear_entries-requires
clear_entries-requires c =
    rw c.free_blocks.ensures (shaped-counts _ _ _ (head_shape _ _ _ c.args.d.limits c.requires (c.write_numbers.ensures ∙ ap (λ (e : Device). store c.args.state.now 0 (head_of e)) c.head.ensures)))

pub returns : goal.returns
returns c = blank-read _ _ _ c.args.d.limits c.requires (c.write_numbers.ensures ∙ ap (λ (e : Device). store c.args.state.now 0 (head_of e)) c.head.ensures) _ _ c.free_blocks.ensures c.clear_entries.ensures
