-- `left_of` meets its contract: by the record's kind; while the flag is 0 an approximate record owns nothing.
use mathlib.Core.Path.{sym, ◌∙◌}
use mathlib.Core.List.{[]}
use native.Mathlib.Omega.{arith}
use Rattle.slots.proofs.Leaving.{exact-left, unowned-left}
use Rattle.slots.proofs.owners.left_of.Goals as goal

pub shrink_accurate-requires : goal.shrink_accurate-requires
shrink_accurate-requires c = (c.requires.2, c.requires.1, sym (c.is_approximate.ensures []) ∙ c.if-not-is_approximate.true)

pub returns-then-not-is_approximate : goal.returns-then-not-is_approximate
returns-then-not-is_approximate c =
    exact-left _ c.args.taken.now c.args.r _ c.requires.0 (sym (c.is_approximate.ensures []) ∙ c.if-not-is_approximate.true) c.shrink_accurate.ensures

pub returns-then-flag-eq0 : goal.returns-then-flag-eq0
returns-then-flag-eq0 c =
    let slope = sym (c.is_approximate.ensures []) ∙ c.if-not-is_approximate.false in
    unowned-left c.args.r slope _ c.args.taken.now c.requires.0 c.requires.1 c.requires.3 (sym c.flag.ensures ∙ c.if-flag-eq0.true)

pub left_of_owner-requires : goal.left_of_owner-requires
left_of_owner-requires c =
    let slope = sym (c.is_approximate.ensures []) ∙ c.if-not-is_approximate.false in
    (c.requires.0, omega arith, c.requires.1, c.requires.2, slope, c.requires.3)
