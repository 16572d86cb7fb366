-- The entry is the next that is moved, or is passed over.
use Rattle.std.proofs.Common.{◌<◌, ◌+◌, ◌/◌, ℕ, length, refl, sym, ap, ◌∙◌, arith}
use native.Mathlib.Nat.{mul-le-mul}
use Rattle.model.proofs.Limits.{limits}
use Rattle.plainstate.specs.Reading.{read_table}
use Rattle.plainstate.proofs.Shaping.{length-entries}
use Rattle.plaincalls.proofs.Gathering.{gather-start, gather-end, gather-room, gather_next, gather-over}
use Rattle.plaincalls.proofs.Taking.{entry-block}
use Rattle.plaincalls.proofs.moving.gather.Goals as goal
use Rattle.plaincalls.proofs.moving.gather.Goals.{then-is_moved, else-is_moved}

pub overflow_mul-past : goal.overflow_mul-past
overflow_mul-past c =
    let l = limits _ c.requires.0.shape.limits in
    omega (arith, mul-le-mul l.most_M l.most_B)

pub nonzero_div-r : goal.nonzero_div-r
nonzero_div-r c = omega (arith, c.from.ensures, (limits _ c.requires.0.shape.limits).least_B)

pub loop-x-init : goal.loop-x-init
loop-x-init c = gather-start _ _ _ _

pub is_moved-requires : goal.is_moved-requires
is_moved-requires c =
    let pre = c.requires in
    (ap (λ (b : ℕ). 4294967296 / b + 1) c.from.ensures, refl, pre.1, entry-block _ _ pre.0 _ _ c.loop-x-test.true c.entry-e.ensures)

-- there is room for one more
pub bounds-pages-n : goal.bounds-pages-n
bounds-pages-n c =
    let there : c.loop-x.x < length (read_table c.args.state.now).entries = omega (arith, length-entries _ _ c.requires.0.shape) in
    let room = gather-room _ _ _ _ _ _ _ _ c.loop-x.invariant _ there c.entry-e.ensures (sym c.is_moved.ensures ∙ c.if-is_moved.true) in
    omega (arith, c.requires.2)

pub bounds-sources-n : goal.bounds-sources-n
bounds-sources-n c =
    let there : c.loop-x.x < length (read_table c.args.state.now).entries = omega (arith, length-entries _ _ c.requires.0.shape) in
    let room = gather-room _ _ _ _ _ _ _ _ c.loop-x.invariant _ there c.entry-e.ensures (sym c.is_moved.ensures ∙ c.if-is_moved.true) in
    omega (arith, c.requires.3)

pub loop-x-preserved : goal.loop-x-preserved
loop-x-preserved c =
    let there : c.loop-x.x < length (read_table c.args.state.now).entries = omega (arith, length-entries _ _ c.requires.0.shape) in
    elim c.if-is_moved.branch [
      | then-is_moved w ↦ rw (w.pages-is, w.sources-is, w.n-is)
          (gather_next _ _ _ _ _ _ _ _ c.loop-x.invariant _ there c.entry-e.ensures (sym c.is_moved.ensures ∙ w.if-is_moved.true))
      | else-is_moved w ↦ rw (w.pages-is, w.sources-is, w.n-is)
          (gather-over _ _ _ _ _ _ _ _ c.loop-x.invariant _ there c.entry-e.ensures (sym c.is_moved.ensures ∙ w.if-is_moved.false))
    ]

pub returns-clause-count : goal.returns-clause-count
returns-clause-count c =
    (gather-end _ _ _ _ _ _ _ _ c.loop-x.invariant (omega (arith, length-entries _ _ c.requires.0.shape))).0

pub returns-clause-logical : goal.returns-clause-logical
returns-clause-logical c =
    (gather-end _ _ _ _ _ _ _ _ c.loop-x.invariant (omega (arith, length-entries _ _ c.requires.0.shape))).1.0

pub returns-clause-source : goal.returns-clause-source
returns-clause-source c =
    (gather-end _ _ _ _ _ _ _ _ c.loop-x.invariant (omega (arith, length-entries _ _ c.requires.0.shape))).1.1
