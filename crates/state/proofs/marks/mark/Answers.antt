-- Where the bit isn't set, it is added to its byte.
use native.Mathlib.Omega.{arith}
use mathlib.Core.Path.{sym, ap, ◌∙◌}
use mathlib.Core.List.{List}
use Prim.Native.Nat.{ℕ}
use Rattle.model.specs.Marks.{mark_byte}
use Rattle.model.specs.State.{with_marks}
use Rattle.model.proofs.Marks.{mark-inside}
use Rattle.front.proofs.Bits.{added-byte, mark-adds}
use Rattle.state.specs.Reading.{read_state}
use Rattle.state.proofs.Marking.{marked-stays}
use Rattle.state.proofs.marks.mark.Goals as goal

pub returns-then-is_marked : goal.returns-then-is_marked
returns-then-is_marked c = marked-stays _ _ (sym c.is_marked.ensures ∙ c.if-is_marked.true)

pub marks_byte-byte-requires : goal.marks_byte-byte-requires
unfolding mark_byte
marks_byte-byte-requires c = (c.requires.0, mark-inside _ _ c.requires.1)

pub set_marks_byte-requires : goal.set_marks_byte-requires
unfolding mark_byte
set_marks_byte-requires c = (c.requires.0, mark-inside _ _ c.requires.1, omega (arith, (added-byte _ _ _ c.marks_byte-byte.ensures.0 (sym c.is_marked.ensures ∙ c.if-is_marked.false) c.marks_byte-byte.ensures.1)))

pub returns : goal.returns
returns c = let s = read_state c.args.state.now in
    c.set_marks_byte.ensures ∙ ap (λ (ms : List ℕ). with_marks ms s) (mark-adds _ _ _ c.marks_byte-byte.ensures.0 (sym c.is_marked.ensures ∙ c.if-is_marked.false))
