-- The part in use is lent; a listing has at most 512 records, and its bytes are read back as its lines.
use native.Mathlib.Omega.{arith}
use mathlib.Core.Path.{refl, ap, ◌∙◌}
use mathlib.Core.List.{[]}
use Rattle.lines.specs.Printed.{refused_line}
use Rattle.lines.proofs.Texts.{laid_as}
use Rattle.listing.specs.Session.{list_reply}
use Rattle.listing.proofs.Listed.{few-records, listed-print, refused-print}
use Rattle.listing.proofs.session.list_group.Goals as goal

pub lay_listing-requires : goal.lay_listing-requires
lay_listing-requires c =
    let few = few-records _ (c.in-Ok.ensures []) in
    (c.requires.1, few, omega (arith, few, c.list.auto.out))

pub returns-in-Ok : goal.returns-in-Ok
unfolding list_reply
returns-in-Ok c = laid_as (listed-print _ _ _ _ _ refl _ (c.in-Ok.ensures _)) c.lay_listing.ensures

pub returns-in-Err : goal.returns-in-Err
unfolding list_reply
returns-in-Err c = laid_as (ap refused_line c.from.ensures.0 ∙ refused-print _ _ _ _ _ refl _ (c.in-Err.ensures _)) c.lay_refused.ensures
