-- Where the records would be too many, the group is compacted.
use native.Mathlib.Omega.{arith}
use mathlib.Core.Path.{sym, ◌∙◌}
use borrow.Author.Rules.{rules}
use Rattle.group.proofs.Soundness.{sound-encodes}
use Rattle.writing.proofs.Rooms.{room-plain, room-compact}
use Rattle.writing.proofs.make_room.Statement.{statement}
use Rattle.writing.proofs.make_room.Tie as tie

record_count_requires : tie.Need-record_count-used-requires
record_count_requires c κs = let b = c.requires.0 in (b.size, sound-encodes b.N b.number _ b.sound)

compact_requires : tie.Need-compact-requires
compact_requires c κs = let b = c.requires.0 in record { N = b.N; number = b.number; size = b.size; sound = b.sound }

pub make_room_spec : {M : Type 1} → statement M
make_room_spec = tie.close (tie.spec record_count_requires (λ c. search rules) (λ c. search rules) compact_requires
    (λ c. search rules) (λ c. c.compact.ensures.1 ∙ sym (room-compact _ _ (omega (arith, c.record_count-used.ensures)))) (λ c. search rules)
    (λ c. sym (room-plain _ _ (omega (arith, c.record_count-used.ensures)))))
