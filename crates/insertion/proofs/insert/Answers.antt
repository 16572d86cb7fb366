-- `insert` meets its contract: others give up, level 0's records meet their fates, the record is put in and gets its offsets.
use mathlib.Core.Path.{◌∙◌, sym}
use native.Mathlib.Omega.{arith}
use Rattle.group.specs.Cutting.{flat}
use Rattle.insertion.specs.InsertSlots.{settle}
use Rattle.insertion.specs.Shown.{Shown}
use Rattle.insertion.proofs.Insertion.{given_up, record_short, mask_in_range, settled_exact, settled_slope, parted, way_made, put-ready, put-room, insert-exact, insert-slope}
use Rattle.insertion.proofs.insert.Goals as goal
use Rattle.insertion.proofs.insert.Goals.{then-approximate, else-approximate}

pub victims-p-requires : goal.victims-p-requires
victims-p-requires c =
    let q = c.requires in
    let cleared : Shown c.if-approximate.b (settle 0 0 (flat (given_up _ _ _ q))) = elim c.if-approximate.branch [
      | then-approximate w ↦ rw w.b-is (settled_slope _ _ _ q (sym (c.is_approximate-approximate.ensures q.owned) ∙ w.if-approximate.true) _ (w.clear_way.ensures q))
      | else-approximate w ↦ rw w.b-is (settled_exact _ _ _ q (sym (c.is_approximate-approximate.ensures q.owned) ∙ w.if-approximate.false))
    ] in
    (parted _ _ _ q _ cleared, q.long)

pub insert-requires : goal.insert-requires
insert-requires c =
    let q = c.requires in
    let cleared : Shown c.if-approximate.b (settle 0 0 (flat (given_up _ _ _ q))) = elim c.if-approximate.branch [
      | then-approximate w ↦ rw w.b-is (settled_slope _ _ _ q (sym (c.is_approximate-approximate.ensures q.owned) ∙ w.if-approximate.true) _ (w.clear_way.ensures q))
      | else-approximate w ↦ rw w.b-is (settled_exact _ _ _ q (sym (c.is_approximate-approximate.ensures q.owned) ∙ w.if-approximate.false))
    ] in
    let ready = put-ready _ _ _ q _ _ (way_made _ _ _ q _ _ _ cleared c.victims-p.ensures) in
    (ready.0, ready.1, ready.2, (omega arith, ready.3))

pub own-requires : goal.own-requires
own-requires c =
    let q = c.requires in
    let cleared : Shown c.if-approximate.b (settle 0 0 (flat (given_up _ _ _ q))) = elim c.if-approximate.branch [
      | then-approximate w ↦ rw w.b-is (settled_slope _ _ _ q (sym (c.is_approximate-approximate.ensures q.owned) ∙ w.if-approximate.true) _ (w.clear_way.ensures q))
      | else-approximate w ↦ rw w.b-is (settled_exact _ _ _ q (sym (c.is_approximate-approximate.ensures q.owned) ∙ w.if-approximate.false))
    ] in
    (put-room _ _ _ q _ _ (way_made _ _ _ q _ _ _ cleared c.victims-p.ensures) _ c.insert.ensures, record_short _ _ _ q, q.long, mask_in_range _ _ _ q)

pub returns-then-approximate-2 : goal.returns-then-approximate-2
returns-then-approximate-2 c = λ q.
    let cleared : Shown c.if-approximate.b (settle 0 0 (flat (given_up _ _ _ q))) = elim c.if-approximate.branch [
      | then-approximate w ↦ rw w.b-is (settled_slope _ _ _ q (sym (c.is_approximate-approximate.ensures q.owned) ∙ w.if-approximate.true) _ (w.clear_way.ensures q))
      | else-approximate w ↦ rw w.b-is (settled_exact _ _ _ q (sym (c.is_approximate-approximate.ensures q.owned) ∙ w.if-approximate.false))
    ] in
    let way = way_made _ _ _ q _ _ _ cleared c.victims-p.ensures in
    insert-slope _ _ _ q _ _ way _ c.insert.ensures (sym (c.is_approximate-approximate.ensures q.owned) ∙ c.if-approximate-2.true) _ c.own.ensures

pub returns-else-approximate-2 : goal.returns-else-approximate-2
returns-else-approximate-2 c = λ q.
    let cleared : Shown c.if-approximate.b (settle 0 0 (flat (given_up _ _ _ q))) = elim c.if-approximate.branch [
      | then-approximate w ↦ rw w.b-is (settled_slope _ _ _ q (sym (c.is_approximate-approximate.ensures q.owned) ∙ w.if-approximate.true) _ (w.clear_way.ensures q))
      | else-approximate w ↦ rw w.b-is (settled_exact _ _ _ q (sym (c.is_approximate-approximate.ensures q.owned) ∙ w.if-approximate.false))
    ] in
    let way = way_made _ _ _ q _ _ _ cleared c.victims-p.ensures in
    insert-exact _ _ _ q _ _ way _ c.insert.ensures (sym (c.is_approximate-approximate.ensures q.owned) ∙ c.if-approximate-2.false)
