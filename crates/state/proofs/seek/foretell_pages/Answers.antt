-- The group's forecasts, and 0 for each marked page.
use Rattle.std.proofs.Common.{◌∙◌}
use Rattle.model.proofs.Limits.{group-inside}
use Rattle.state.proofs.Telling.{tells_page}
use Rattle.state.proofs.seek.foretell_pages.Goals as goal

pub foretell-requires : goal.foretell-requires
foretell-requires c = let pre = c.requires in (pre.0, group-inside _ _ pre.3, pre.1, pre.6)

pub returns : goal.returns
returns c =
    let pre = c.requires in
    let told = c.foretell.ensures in
    let out = c.mark_out.ensures in
    (λ spare o h. tells_page _ _ _ _ pre.0.numbers pre.2 pre.5 _ _ told out spare o h, out.long ∙ told.long)
