-- `give_up` meets its contract: the slot loses nothing, or what is left of it is put in its place, or it is taken out.
use native.Mathlib.Omega.{arith}
use borrow.Author.Rules.{rules}
use Rattle.insertion.proofs.Steps.{still_inside, shown-room}
use Rattle.insertion.proofs.Remaining.{slot-short, slot_range, left-eight}
use Rattle.insertion.proofs.GivingUp.{give_none, give_kept, give_gone}
use Rattle.insertion.proofs.give_up.Goals as goal

pub get-s-requires : goal.get-s-requires
get-s-requires c = search (shown-room, rules)

pub overflow_add-result : goal.overflow_add-result
overflow_add-result c = omega (arith, c.requires.1, (shown-room _ _ c.requires.0.shown).1)

pub returns-then-not-loses : goal.returns-then-not-loses
returns-then-not-loses c =
    (c.requires.4, give_none _ _ c.requires.1 _ c.get-s.ensures.0 c.args.taken.now c.args.losers.now _ c.loses.ensures c.requires.4 c.if-not-loses.true)

pub left_of-requires : goal.left_of-requires
left_of-requires c = search (shown-room, slot-short, slot_range, rules)

pub put-requires : goal.put-requires
put-requires c =
    let got = c.get-s.ensures in
    let shown = c.requires.0.shown in
    let left = c.left_of.ensures in
    (left.room, still_inside _ _ _ left.slots c.requires.1, (got.1.0, left-eight _ _ shown _ c.requires.1 _ got.0 _ _ _ left _ c.in-Some.is))

pub overflow_add-result-in-Some : goal.overflow_add-result-in-Some
overflow_add-result-in-Some c = omega (arith, c.requires.1, (shown-room _ _ c.requires.0.shown).1)

pub returns-in-Some : goal.returns-in-Some
returns-in-Some c =
    give_kept _ _ c.requires.1 _ c.get-s.ensures.0 c.args.taken.now c.args.losers.now _ c.loses.ensures c.requires.4
    c.if-not-loses.false _ _ c.left_of.ensures _ c.in-Some.is _ c.put.ensures

pub remove-requires : goal.remove-requires
remove-requires c = search (still_inside, rules)

pub returns-in-None : goal.returns-in-None
returns-in-None c =
    give_gone _ _ c.requires.1 _ c.get-s.ensures.0 c.args.taken.now c.args.losers.now _ c.loses.ensures c.requires.4
    c.if-not-loses.false _ _ c.left_of.ensures c.in-None.is _ c.remove.ensures
