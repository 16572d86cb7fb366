-- There is room for it or not.
use Rattle.plainstate.proofs.Tallying.{put_in_lem, put-out}
use Rattle.plainstate.proofs.sound.put_entry.Goals as goal

pub returns-then-i-tally : goal.returns-then-i-tally
returns-then-i-tally c = put_in_lem _ _ _

pub returns-else-i-tally : goal.returns-else-i-tally
returns-else-i-tally c = put-out _ _ _ c.if-i-tally.false
