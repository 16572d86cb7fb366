-- A law for each kind of record.
use mathlib.Core.Path.{sym, ◌∙◌}
use mathlib.Core.List.{[]}
use native.Mathlib.Omega.{arith}
use Rattle.record.proofs.Words.{even_of}
use Rattle.record.proofs.Masks.{single-members, accurate-members}
use Rattle.group.proofs.Shapes.{shaped-below}
use Rattle.probe.specs.Groups.{record_by}
use Rattle.probe.proofs.Masks.{owned-tested, strided-tested}
use Rattle.probe.proofs.groups.expect.Goals as goal

pub expect_owned-requires : goal.expect_owned-requires
expect_owned-requires c = (c.requires.0, omega (arith, shaped-below 256 _ c.requires.1), c.requires.3)

pub expect_strided-requires-else-w-eq0 : goal.expect_strided-requires-else-w-eq0
expect_strided-requires-else-w-eq0 c = (
  omega (arith, even_of _ (sym (c.is_approximate.ensures []) ∙ c.if-is_approximate.false)),
  omega (arith, c.requires.2),
  omega (arith, shaped-below 256 _ c.requires.1),
  c.requires.3,
)

pub returns-then-is_approximate : goal.returns-then-is_approximate
returns-then-is_approximate c = (
  c.expect_owned.ensures.0,
  owned-tested c.args.mask.now c.args.r c.expect_owned.new.expected (sym (c.is_approximate.ensures []) ∙ c.if-is_approximate.true) c.expect_owned.ensures,
)

pub returns-then-w-eq0 : goal.returns-then-w-eq0
returns-then-w-eq0 c =
    let single = c.if-w-eq0.true in (
      c.expect_strided.ensures.0,
      strided-tested c.args.mask.now c.args.r c.expect_strided.new.expected 1 _ (omega arith) (λ o h. sym (single-members (record_by c.args.mask.now c.args.r) o single)) c.expect_strided.ensures,
    )

pub returns-else-w-eq0 : goal.returns-else-w-eq0
returns-else-w-eq0 c =
    let accurate = even_of _ (sym (c.is_approximate.ensures []) ∙ c.if-is_approximate.false) in
    let strided = c.expect_strided-else-w-eq0 in (
      strided.ensures.0,
      strided-tested c.args.mask.now c.args.r strided.new.expected _ _ (omega arith) (λ o h. sym (accurate-members (record_by c.args.mask.now c.args.r) o c.if-w-eq0.false accurate)) strided.ensures,
    )
