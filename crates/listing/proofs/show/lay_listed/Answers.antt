-- Level and record are those at the place of record i.
use mathlib.Core.Path.{ap, ◌∙◌}
use Prim.Native.Nat.{ℕ}
use Rattle.lines.specs.Printed.{line_for}
use Rattle.lines.proofs.Texts.{laid_as}
use Rattle.listing.proofs.show.lay_listed.Goals as goal

pub returns : goal.returns
returns c =
    let r = c.decode-r in
    let level = c.get_u16-level in
    let laid = c.lay_record.ensures in
    (laid_as (ap (λ (n : ℕ). line_for n r.result) level.ensures.0 ∙ ap (line_for _) r.ensures.0) laid.0, laid.1)
