-- A record that can be inserted is, and the group read after is counted; otherwise all stays.
use mathlib.Core.Path.{sym, ◌∙◌}
use native.Mathlib.Omega.{arith}
use Rattle.probe.proofs.Insertion.{not_inserted, has-eight, has-size, ready, still_encodes, inserted}
use Rattle.probe.proofs.groups.probe_group_insert.Goals as goal

pub returns-then-not-may_insert : goal.returns-then-not-may_insert
returns-then-not-may_insert c = not_inserted _ _ _ (sym c.may_insert.ensures ∙ c.if-not-may_insert.true)

pub decode-r-requires : goal.decode-r-requires
decode-r-requires c = omega (arith, has-eight _ _ _ (sym c.may_insert.ensures ∙ c.if-not-may_insert.false))

pub insert-requires : goal.insert-requires
insert-requires c = ready _ _ _ (sym c.may_insert.ensures ∙ c.if-not-may_insert.false) _ c.decode-r.ensures.0

pub record_count-requires : goal.record_count-requires
record_count-requires c =
    let may = sym c.may_insert.ensures ∙ c.if-not-may_insert.false in
    (c.insert.auto.b ∙ has-size _ _ _ may, still_encodes _ _ _ may _ c.decode-r.ensures.0 _ c.insert.ensures)

pub returns : goal.returns
returns c =
    let may = sym c.may_insert.ensures ∙ c.if-not-may_insert.false in
    inserted _ _ _ may _ c.decode-r.ensures.0 _ c.insert.ensures _ (c.from.ensures ∙ c.record_count.ensures)
