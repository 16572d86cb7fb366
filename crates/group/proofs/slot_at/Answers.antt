-- `slot_at` meets its contract: the record's eight bytes and the level behind them.
use Rattle.model.specs.Device.{group_length}
use Rattle.group.specs.Layout.{slot_of, slot_record}
use borrow.Author.Rules.{rules}
use Rattle.group.proofs.slot_at.Goals as goal

pub decode-held-requires : goal.decode-held-requires
decode-held-requires c = unfold group_length in search rules

pub returns : goal.returns
unfolding slot_of slot_record
returns c = let held = c.decode-held.ensures in let level = c.level-level.ensures in (rw (held.0, level.0), level.1, held.1)
