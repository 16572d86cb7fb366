-- The bytes are group k's, and so are their slots.
use Rattle.std.proofs.Common.{List, ℕ, ap, ◌∙◌}
use Rattle.model.specs.Lists.{store}
use Rattle.lookup.proofs.Listing.{part_room, part_count, part-listed}
use Rattle.lookup.proofs.list.list_group.Goals as goal

pub list_slots-requires : goal.list_slots-requires
list_slots-requires c = let b = c.group_bytes.ensures in (part_room _ _ _ _ b.long b.read c.requires.2, c.requires.3)

pub returns : goal.returns
returns c =
    let b = c.group_bytes.ensures in (
      c.list_slots.ensures.0 ∙ part_count _ _ _ _ b.long b.read c.requires.2,
      c.list_slots.ensures.1 ∙ ap (λ (v : List ℕ). store c.args.out.now 0 v) (part-listed _ _ _ _ b.long b.read c.requires.2),
    )
