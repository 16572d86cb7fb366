-- A member; off the stride; not owned, with the owner where there is one.
use Rattle.std.proofs.Common.{sym, ◌∙◌}
use Rattle.lookup.proofs.WhyEntries.{tells_member, tells_stride, tells_unowned, tells_owned}
use Rattle.lookup.proofs.why.entry_for.Goals as goal

pub returns-then-member : goal.returns-then-member
returns-then-member c L q = tells_member _ c.requires.4 _ _ L (sym (c.member.ensures L q) ∙ c.if-member.true)

pub returns-then-not-is_approximate : goal.returns-then-not-is_approximate
returns-then-not-is_approximate c L q =
    tells_stride _ c.requires.4 _ _ L (sym (c.member.ensures L q) ∙ c.if-member.false) (sym (c.is_approximate.ensures L) ∙ c.if-not-is_approximate.true)

pub returns-then-w-eq0 : goal.returns-then-w-eq0
returns-then-w-eq0 c L q =
    tells_unowned _ c.requires.4 _ _ L (sym (c.member.ensures L q) ∙ c.if-member.false) (sym (c.is_approximate.ensures L) ∙ c.if-not-is_approximate.false)
    c.if-w-eq0.true

pub returns-else-w-eq0 : goal.returns-else-w-eq0
returns-else-w-eq0 c L q =
    tells_owned _ c.requires.4 _ _ L (sym (c.member.ensures L q) ∙ c.if-member.false) (sym (c.is_approximate.ensures L) ∙ c.if-not-is_approximate.false)
    c.if-w-eq0.false c.requires.3
