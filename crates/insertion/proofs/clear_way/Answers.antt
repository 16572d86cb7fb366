-- `clear_way` meets its contract: nobody owns one of the offsets, or the losers give them up; levels are numbered anew if a record went.
use mathlib.Core.Path.{refl, ◌∙◌, sym}
use native.Mathlib.Omega.{arith}
use Rattle.group.specs.Cutting.{flat}
use Rattle.group.proofs.Cases.{owner_none}
use Rattle.insertion.proofs.Steps.{shown-room}
use Rattle.insertion.proofs.Losing.{owner_bounded}
use Rattle.insertion.proofs.Settling.{shown-renumbered}
use Rattle.insertion.proofs.Insertion.{ready-shown, unowned_settled, kept_settled, record_short, unnoted_unowned, noting_all}
use Rattle.insertion.proofs.clear_way.Goals as goal

pub returns-then-flag-eq0 : goal.returns-then-flag-eq0
returns-then-flag-eq0 c = λ q. unowned_settled _ _ _ q (λ o h t p. omega (arith, owner_none _ o (sym c.flag.ensures ∙ c.if-flag-eq0.true)))

pub overflow_add-start : goal.overflow_add-start
overflow_add-start c = omega (arith, record_short _ _ _ c.requires)

pub overflow_add-start-2 : goal.overflow_add-start-2
overflow_add-start-2 c = omega (arith, record_short _ _ _ c.requires)

pub note_losers-requires : goal.note_losers-requires
note_losers-requires c =
    let q = c.requires in
    (q.size, omega arith, omega (arith, record_short _ _ _ q), q.long, refl, owner_bounded _ _ (ready-shown _ _ _ q))

pub returns-then-not-note_losers : goal.returns-then-not-note_losers
returns-then-not-note_losers c = λ q. unowned_settled _ _ _ q (unnoted_unowned _ _ _ q _ _ c.note_losers.ensures c.if-not-note_losers.true)

pub give_up_all-requires : goal.give_up_all-requires
give_up_all-requires c =
    let q = c.requires in
    let noting = c.note_losers.ensures in
    (record { list = _; shown = ready-shown _ _ _ q }, q.long, noting.size, noting_all _ _ _ q _ _ noting)

pub renumber_levels-requires : goal.renumber_levels-requires
renumber_levels-requires c =
    let q = c.requires in
    shown-room _ _ (c.give_up_all.ensures (flat q.group) (ready-shown _ _ _ q)).0

pub returns-then-give_up_all-n : goal.returns-then-give_up_all-n
returns-then-give_up_all-n c = λ q. shown-renumbered _ _ _ (c.give_up_all.ensures (flat q.group) (ready-shown _ _ _ q)).0 c.renumber_levels.ensures

pub returns-else-give_up_all-n : goal.returns-else-give_up_all-n
returns-else-give_up_all-n c = λ q. kept_settled _ _ _ q _ _ _ (c.give_up_all.ensures (flat q.group) (ready-shown _ _ _ q)) c.used-n.ensures.1 c.if-give_up_all-n.false
