use Rattle.std.proofs.Common.{refl, arith}
use Rattle.state.specs.Reading.{read_state}
use Rattle.state.proofs.Shaping.{length-groups}
use Rattle.state.proofs.Handing.{groups_sound, unsound_here, sound_on, sound-end}
use Rattle.state.proofs.groups.groups_sound.Goals as goal

pub loop-k-init : goal.loop-k-init
loop-k-init c = refl

pub returns-then-not-group_sound : goal.returns-then-not-group_sound
unfolding groups_sound
returns-then-not-group_sound c =
    unsound_here (read_state c.args.state.now) _ _ _ c.group_sound.ensures c.loop-k.invariant
    (omega (arith, c.loop-k-test.true, c.group_count-k-end.ensures, length-groups _ _ c.requires)) c.if-not-group_sound.true

pub loop-k-preserved : goal.loop-k-preserved
loop-k-preserved c =
    sound_on _ _ _ _ c.group_sound.ensures c.loop-k.invariant
    (omega (arith, c.loop-k-test.true, c.group_count-k-end.ensures, length-groups _ _ c.requires)) c.if-not-group_sound.false

pub returns : goal.returns
unfolding groups_sound
returns c =
    sound-end (read_state c.args.state.now) _ _ c.loop-k.invariant
    (omega (arith, c.loop-k-test.false, c.group_count-k-end.ensures, length-groups _ _ c.requires))
