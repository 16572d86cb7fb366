-- Each condition by the law of its return.
use mathlib.Core.Path.{◌≡◌, sym, ◌∙◌}
use mathlib.Core.Bool.{true}
use borrow.Author.Rules.{rules}
use Rattle.probe.specs.Groups.{has_room}
use Rattle.probe.proofs.Insertion.{no_room, not_eight, no_mask, by_fitting}
use Rattle.probe.proofs.groups.may_insert.Goals as goal

pub returns-then-not-has_room : goal.returns-then-not-has_room
returns-then-not-has_room c = no_room _ _ _ (sym c.has_room.ensures ∙ c.if-not-has_room.true)

pub returns-then-eight-ne-RECORD_BYTES : goal.returns-then-eight-ne-RECORD_BYTES
returns-then-eight-ne-RECORD_BYTES c = let room : has_room c.args.part.now ≡ true = sym c.has_room.ensures ∙ c.if-not-has_room.false in search (not_eight, room, rules)

pub returns-then-mask : goal.returns-then-mask
returns-then-mask c = let room : has_room c.args.part.now ≡ true = sym c.has_room.ensures ∙ c.if-not-has_room.false in search (no_mask, room, rules)

pub returns : goal.returns
returns c = let room : has_room c.args.part.now ≡ true = sym c.has_room.ensures ∙ c.if-not-has_room.false in search (by_fitting, room, rules)
