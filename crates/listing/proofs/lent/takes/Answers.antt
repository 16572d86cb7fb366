-- One law for each test; the numbers are within their limits.
use Rattle.std.proofs.Common.{ℕ, leb, sym, ap, ◌∙◌}
use Rattle.std.proofs.lemmas.Bool.{lt-leb}
use Rattle.listing.specs.Sizes.{spare_room}
use Rattle.listing.proofs.Room.{many-pages, entries_decide}
use Rattle.listing.proofs.lent.takes.Goals as goal

pub returns-then-d-le-LOGICAL : goal.returns-then-d-le-LOGICAL
returns-then-d-le-LOGICAL c =
    ap (λ (n : ℕ). leb n spare_room) c.spare_len.ensures ∙ sym (entries_decide _ c.args.d.limits c.if-d-le-LOGICAL.true)

pub returns-else-d-le-LOGICAL : goal.returns-else-d-le-LOGICAL
returns-else-d-le-LOGICAL c = lt-leb _ _ c.if-d-le-LOGICAL.false ∙ sym (many-pages _ c.args.d.limits c.if-d-le-LOGICAL.false)
