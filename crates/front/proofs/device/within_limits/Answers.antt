-- The limits one by one, as the definition tests them.
use Rattle.std.proofs.Common.{rules, ◌≡◌, ◌∙◌}
use mathlib.Core.Bool.{◌&&◌}
use lib.Dec.{leb}
use Rattle.front.specs.Read.{device_in}
use Rattle.front.proofs.Within.{both, not_both, but_g, by_g}
use Rattle.front.proofs.device.within_limits.Goals as goal
use Rattle.front.proofs.device.within_limits.Goals.{then-contains, else-contains, then-contains-2, else-contains-2, then-h-ge1, else-h-ge1}

pub returns-then-from : goal.returns-then-from
returns-then-from c =
    let h = c.args.h in
    let blocks : c.contains.result ≡ (leb 3 h.m && leb h.m 4096) = search rules in
    let pages : c.if-contains.value ≡ ((leb 3 h.m && leb h.m 4096) && (leb 4 h.b && leb h.b 256)) =
    elim c.if-contains.branch [
      | then-contains w ↦ both _ blocks w.if-contains.true (w.value-is ∙ search rules)
      | else-contains w ↦ not_both _ blocks w.if-contains.false w.value-is
    ] in
    let some : c.if-contains-2.value ≡ (((leb 3 h.m && leb h.m 4096) && (leb 4 h.b && leb h.b 256)) && leb 1 h.n) =
    elim c.if-contains-2.branch [
      | then-contains-2 w ↦ both _ pages w.if-contains-2.true w.value-is
      | else-contains-2 w ↦ not_both _ pages w.if-contains-2.false w.value-is
    ] in
    let room : c.if-h-ge1.value ≡ but_g (device_in h) =
    elim c.if-h-ge1.branch [
      | then-h-ge1 w ↦ both _ some w.if-h-ge1.true (w.value-is ∙ rw (w.from.ensures, w.from-then-h-ge1.ensures))
      | else-h-ge1 w ↦ not_both _ some w.if-h-ge1.false w.value-is
    ] in
    rw (by_g (device_in h) c.if-h-ge1.value room, c.if-from.true)

pub returns-else-from : goal.returns-else-from
returns-else-from c =
    let h = c.args.h in
    let blocks : c.contains.result ≡ (leb 3 h.m && leb h.m 4096) = search rules in
    let pages : c.if-contains.value ≡ ((leb 3 h.m && leb h.m 4096) && (leb 4 h.b && leb h.b 256)) =
    elim c.if-contains.branch [
      | then-contains w ↦ both _ blocks w.if-contains.true (w.value-is ∙ search rules)
      | else-contains w ↦ not_both _ blocks w.if-contains.false w.value-is
    ] in
    let some : c.if-contains-2.value ≡ (((leb 3 h.m && leb h.m 4096) && (leb 4 h.b && leb h.b 256)) && leb 1 h.n) =
    elim c.if-contains-2.branch [
      | then-contains-2 w ↦ both _ pages w.if-contains-2.true w.value-is
      | else-contains-2 w ↦ not_both _ pages w.if-contains-2.false w.value-is
    ] in
    let room : c.if-h-ge1.value ≡ but_g (device_in h) =
    elim c.if-h-ge1.branch [
      | then-h-ge1 w ↦ both _ some w.if-h-ge1.true (w.value-is ∙ rw (w.from.ensures, w.from-then-h-ge1.ensures))
      | else-h-ge1 w ↦ not_both _ some w.if-h-ge1.false w.value-is
    ] in
    rw (by_g (device_in h) c.if-h-ge1.value room, c.if-from.false)
