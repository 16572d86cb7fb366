-- The bytes are the page's group's.
use Rattle.std.proofs.Common.{ℕ, ◌/◌, length, ap, ◌∙◌, arith}
use Rattle.model.specs.Lists.{store}
use Rattle.model.specs.Device.{offset_of}
use Rattle.model.specs.Levels.{Group}
use Rattle.model.specs.Sound.{sound_group}
use Rattle.model.proofs.Limits.{group-inside}
use Rattle.calls.specs.Why.{reasons_in, reasons_bytes}
use Rattle.lookup.proofs.why.tell_group.Goals as goal

pub group_bytes-requires : goal.group_bytes-requires
group_bytes-requires c = (c.requires.0, group-inside _ _ c.requires.1)

pub tell_slots-requires : goal.tell_slots-requires
tell_slots-requires c =
    let b = c.group_bytes.ensures in
    (b.long, record { pages = c.args.d.n; number = c.args.page / 256; sound = ap (sound_group _ _) b.read ∙ c.requires.2 }, omega arith, c.requires.3)

pub returns : goal.returns
returns c =
    let o : ℕ = offset_of c.args.page in
    let read = c.group_bytes.ensures.read in
    let done = c.tell_slots.ensures in
    (done.0 ∙ ap (λ (g : Group). length (reasons_in o g)) read, done.1 ∙ ap (λ (g : Group). store c.args.out.now 0 (reasons_bytes (reasons_in o g))) read)
