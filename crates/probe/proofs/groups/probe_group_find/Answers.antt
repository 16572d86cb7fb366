-- By the conditions, then what was found, packed: a sound group has at most 512 levels, so no sum passes 2^64.
use mathlib.Core.Path.{sym, ◌∙◌}
use native.Mathlib.Omega.{arith}
use Rattle.probe.proofs.Conditions.{size, sound, not_sound_lem, not_below, levels_bounded, found_at, found_nowhere}
use Rattle.probe.proofs.groups.probe_group_find.Goals as goal
use Rattle.probe.proofs.groups.probe_group_find.Goals.{then-not-is_sound-via-then-not-is_sound, then-not-is_sound-via-else-not-is_sound+then-o-ge-OFFSETS}

pub returns-then-not-is_sound : goal.returns-then-not-is_sound
returns-then-not-is_sound c =
    elim c.then-not-is_sound.branch [
      | then-not-is_sound-via-then-not-is_sound w ↦ not_sound_lem _ _ (sym c.is_sound.ensures ∙ w.if-not-is_sound.true)
      | then-not-is_sound-via-else-not-is_sound+then-o-ge-OFFSETS w ↦ not_below _ _ (sym c.is_sound.ensures ∙ w.if-not-is_sound.false) w.if-o-ge-OFFSETS.true
    ]

pub find-descent-requires : goal.find-descent-requires
find-descent-requires c =
    let is = sym c.is_sound.ensures ∙ c.if-not-is_sound.false in
    (size _ is, record { pages = 256; number = 0; sound = sound _ is }, c.if-o-ge-OFFSETS.false)

pub overflow_mul-levels : goal.overflow_mul-levels
overflow_mul-levels c = omega (arith, levels_bounded _ _ (sym c.is_sound.ensures ∙ c.if-not-is_sound.false) c.if-o-ge-OFFSETS.false c.find-descent.result.levels c.find-descent.ensures.1)

pub overflow_add-result : goal.overflow_add-result
overflow_add-result c = omega (arith, levels_bounded _ _ (sym c.is_sound.ensures ∙ c.if-not-is_sound.false) c.if-o-ge-OFFSETS.false c.find-descent.result.levels c.find-descent.ensures.1)

pub overflow_add-result-in-Some : goal.overflow_add-result-in-Some
overflow_add-result-in-Some c = omega (arith, levels_bounded _ _ (sym c.is_sound.ensures ∙ c.if-not-is_sound.false) c.if-o-ge-OFFSETS.false c.find-descent.result.levels c.find-descent.ensures.1)

pub overflow_add-result-in-Some-2 : goal.overflow_add-result-in-Some-2
overflow_add-result-in-Some-2 c = omega (arith, levels_bounded _ _ (sym c.is_sound.ensures ∙ c.if-not-is_sound.false) c.if-o-ge-OFFSETS.false c.find-descent.result.levels c.find-descent.ensures.1)

pub returns-in-Some : goal.returns-in-Some
returns-in-Some c =
    let is = sym c.is_sound.ensures ∙ c.if-not-is_sound.false in
    found_at _ _ is c.if-o-ge-OFFSETS.false c.in-Some.r c.find-descent.result.levels (rw c.in-Some.is at c.find-descent.ensures.0) c.find-descent.ensures.1

pub returns-in-None : goal.returns-in-None
returns-in-None c =
    let is = sym c.is_sound.ensures ∙ c.if-not-is_sound.false in
    (found_nowhere _ _ is c.if-o-ge-OFFSETS.false c.find-descent.result.levels (rw c.in-None.is at c.find-descent.ensures.0) c.find-descent.ensures.1)
