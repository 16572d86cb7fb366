-- `put_record` meets its contract: by the record's kind.
use native.Mathlib.Omega.{arith}
use mathlib.Core.Path.{sym, ◌∙◌}
use mathlib.Core.List.{[]}
use Prim.Native.Nat.{◌<◌}
use Rattle.slots.proofs.OwnMembers.{exact-sound, owned_in_range}
use Rattle.forecast.proofs.Putting.{word_low, end_low, owns-start, owned-flag, rise-small, sloped_entered, strided-entered}
use Rattle.forecast.proofs.put_record.Goals as goal

pub overflow_add-e : goal.overflow_add-e
overflow_add-e c = omega (arith, end_low _ _ c.requires.3)

pub put_owned-requires : goal.put_owned-requires
put_owned-requires c =
    let pre = c.requires in
    let slope = sym (c.is_approximate.ensures []) ∙ c.if-is_approximate.true in
    (pre.0, owned-flag _ _ _ (owns-start _ _ pre.3 slope), omega arith, end_low _ _ pre.3, omega (arith, word_low _ _ pre.3), pre.1, omega (arith, pre.2), owned_in_range _ _ pre.3 slope)

pub returns-then-is_approximate : goal.returns-then-is_approximate
returns-then-is_approximate c =
    let slope = sym (c.is_approximate.ensures []) ∙ c.if-is_approximate.true in
    sloped_entered _ _ c.requires.3 _ _ _ slope c.put_owned.ensures

pub rise-requires : goal.rise-requires
rise-requires c = let pre = c.requires in (word_low _ _ pre.3, omega (arith, end_low _ _ pre.3))

pub overflow_add-from : goal.overflow_add-from
overflow_add-from c =
    let byte : c.args.r.start < 256 = omega (arith, end_low _ _ c.requires.3) in
    omega (arith, c.rise.ensures [], rise-small _ _ (word_low _ _ c.requires.3) byte, c.requires.2)

pub stride-d-requires : goal.stride-d-requires
stride-d-requires c = exact-sound _ _ (sym (c.is_approximate.ensures []) ∙ c.if-is_approximate.false) c.requires.3

pub put_strided-requires : goal.put_strided-requires
put_strided-requires c =
    let pre = c.requires in
    let byte : c.args.r.start < 256 = omega (arith, end_low _ _ pre.3) in
    (pre.1, omega arith, omega arith, end_low _ _ pre.3, omega (arith, pre.2, c.rise.ensures [], rise-small _ _ (word_low _ _ pre.3) byte))

pub put_strided-requires-else-d-eq1 : goal.put_strided-requires-else-d-eq1
put_strided-requires-else-d-eq1 c =
    let pre = c.requires in
    let so = c.stride-d.ensures in
    let byte : c.args.r.start < 256 = omega (arith, end_low _ _ pre.3) in
    (pre.1, so.some, so.low, end_low _ _ pre.3, omega (arith, pre.2, c.rise.ensures [], rise-small _ _ (word_low _ _ pre.3) byte))

pub returns-then-d-eq1 : goal.returns-then-d-eq1
returns-then-d-eq1 c =
    let exact = sym (c.is_approximate.ensures []) ∙ c.if-is_approximate.false in
    strided-entered _ _ c.requires.3 _ _ _ exact 1 (rw c.if-d-eq1.true at c.stride-d.ensures) (rw (c.rise.ensures []) at c.put_strided.ensures)

pub returns-else-d-eq1 : goal.returns-else-d-eq1
returns-else-d-eq1 c =
    let exact = sym (c.is_approximate.ensures []) ∙ c.if-is_approximate.false in
    strided-entered _ _ c.requires.3 _ _ _ exact _ c.stride-d.ensures (rw (c.rise.ensures []) at c.put_strided-else-d-eq1.ensures)
