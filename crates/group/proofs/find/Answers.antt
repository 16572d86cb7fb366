-- `find` meets its contract: the bytes encode a group, and a slot's record owns what its owners name.
use mathlib.Core.Path.{◌≡◌, sym, ap, ◌∙◌}
use mathlib.Core.List.{List}
use mathlib.Core.Bool.{true}
use Prim.Native.Nat.{ℕ, ◌+◌, ◌<◌}
use native.Mathlib.Omega.{arith}
use lib.Dec.{eqb}
use Rattle.group.specs.Layout.{levels_at}
use Rattle.group.specs.Reading.{encodes, SoundBytes}
use Rattle.group.proofs.Slots.{few-used}
use Rattle.group.proofs.Soundness.{sound-encodes}
use Rattle.group.proofs.SoundSlots.{slot-inside, slot-single, slot_owns}
use Rattle.group.proofs.Finding.{nowhere, hit-read, hit-found, hit-missed, hit-top, hit-nowhere}
use Rattle.group.proofs.find.Goals as goal

-- the bytes of a sound group encode it
group : (b : List ℕ) → SoundBytes b → encodes b ≡ true
group b s = sound-encodes _ _ _ s.sound

pub loop-i-init : goal.loop-i-init
loop-i-init c = record { few = omega (arith, few-used _ (group _ c.requires.1)); rest = hit-top _ _ _ 0 c.used-n.ensures.0 }

pub loop-i-preserved : goal.loop-i-preserved
loop-i-preserved c =
    let slot = c.slot_at-s in
    let test : c.loop-i.i < c.used-n.result = omega arith in
    let own = slot_owns _ c.requires.1 _ _ c.used-n.ensures.0 test slot.result slot.ensures.0 _ c.requires.2 _ (ap (λ (v : ℕ). eqb v (slot.result.held.start + 1)) c.owner-w.ensures.0) in
    record {
      few = c.loop-i.invariant.few;
      rest = c.loop-i.invariant.rest ∙ hit-missed _ _ _ _ test _ _ slot.ensures.0 (c.member.ensures _ own) c.if-member.false;
    }

pub member-requires : goal.member-requires
member-requires c =
    let used = c.used-n.ensures.0 in
    let slot = c.slot_at-s in
    let test : c.loop-i.i < c.used-n.result = omega arith in
    (c.requires.2, slot-inside _ c.requires.1 _ _ used test slot.result slot.ensures.0, slot-single _ c.requires.1 _ _ used test slot.result slot.ensures.0)

pub returns-then-member : goal.returns-then-member
returns-then-member c =
    let slot = c.slot_at-s in
    let test : c.loop-i.i < c.used-n.result = omega arith in
    let own = slot_owns _ c.requires.1 _ _ c.used-n.ensures.0 test slot.result slot.ensures.0 _ c.requires.2 _ (ap (λ (v : ℕ). eqb v (slot.result.held.start + 1)) c.owner-w.ensures.0) in
    hit-read _ _ (group _ c.requires.1) _
    (sym (c.loop-i.invariant.rest ∙ hit-found _ _ _ _ test _ _ slot.ensures.0 (c.member.ensures _ own) c.if-member.true))

pub returns : goal.returns
returns c =
    let e : c.loop-i.i ≡ c.used-n.result = omega arith in
    hit-read _ _ (group _ c.requires.1) _
    (ap nowhere (c.levels_at.ensures ∙ ap (levels_at c.args.b.now) (sym e)) ∙ sym (c.loop-i.invariant.rest ∙ hit-nowhere _ _ _ _ c.loop-i-test.false))
