-- `turn` meets its contract: the slot lies beside r, or what is left of it sinks, stays, or is nothing.
use mathlib.Core.Path.{refl}
use native.Mathlib.Omega.{arith}
use borrow.Author.Rules.{rules}
use Rattle.insertion.proofs.Steps.{still_inside, shown-room}
use Rattle.insertion.proofs.Remaining.{slot-short, slot_range, left-eight}
use Rattle.insertion.proofs.Turning.{facing_inside, facing_laid, turn-beside, turn_gone, turn-left, turn-sinks}
use Rattle.insertion.proofs.turn.Goals as goal

pub get-s-requires : goal.get-s-requires
get-s-requires c = search (shown-room, facing_inside, rules)

pub returns-then-not-meets : goal.returns-then-not-meets
returns-then-not-meets c = λ q L masks.
    turn-beside _ _ _ q _ c.get-s.ensures.0 _ L c.args.mask.now masks _ c.meets.ensures c.if-not-meets.true _ c.side_of.ensures

pub left_of-requires : goal.left_of-requires
left_of-requires c = search (shown-room, facing_inside, slot-short, slot_range, rules)

pub lower-requires : goal.lower-requires
lower-requires c = search (facing_laid, facing_inside, left-eight, rules)

pub returns-in-Some : goal.returns-in-Some
returns-in-Some c = λ q L masks.
    turn-sinks _ _ _ q _ c.get-s.ensures.0 _ L c.args.mask.now masks _ c.meets.ensures c.if-not-meets.false _ _ c.left_of.ensures
    _ c.in-Some.is _ c.if-meets.ensures refl _ c.lower.ensures

pub put-requires : goal.put-requires
put-requires c =
    let got = c.get-s.ensures.0 in
    let q = c.requires.0 in
    let left = c.left_of.ensures in
    (left.room, still_inside _ _ _ left.slots (facing_inside _ _ _ q), (omega arith, left-eight _ _ q.shown _ (facing_inside _ _ _ q) _ got _ _ _ left _ c.in-Some.is))

pub returns-in-Some-2 : goal.returns-in-Some-2
returns-in-Some-2 c = λ q L masks.
    turn-left _ _ _ q _ c.get-s.ensures.0 _ L c.args.mask.now masks _ c.meets.ensures c.if-not-meets.false _ _ c.left_of.ensures
    _ c.in-Some.is _ c.if-meets.ensures refl _ c.put.ensures _ c.side_of-in-Some-2.ensures

pub remove-requires : goal.remove-requires
remove-requires c = search (still_inside, facing_inside, rules)

pub returns-in-None : goal.returns-in-None
returns-in-None c = λ q L masks.
    turn_gone _ _ _ q _ c.get-s.ensures.0 _ L c.args.mask.now masks _ c.meets.ensures c.if-not-meets.false _ _ c.left_of.ensures
    c.in-None.is _ c.remove.ensures
