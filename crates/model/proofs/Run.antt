-- What a run is to the offsets that it takes: its members, its ends, its predictions. Assumes nothing.
use mathlib.Core.Path.{◌≡◌, refl}
use mathlib.Core.List.{List}
use mathlib.Core.Bool.{Bool, true, false}
use Prim.Native.Nat.{ℕ, suc, ◌+◌, ◌*◌, ◌-◌, ◌/◌, ◌%◌, ◌≤◌, ◌<◌}
use native.Mathlib.Omega.{arith}
use lib.Dec.{ltb, eqb}
use lib.ListN.{length, get_or, take}
use lib.IntN.{pos, sub_ℕ, ◌+ℤ◌}
use borrow.Author.Tests.{ltb-true, ltb-false, le-ltb, eq-eqb, ne_eqb}
use Rattle.model.specs.Lists.{elem}
use Rattle.model.specs.Record.{accurate, approximate, kind_of, kind, is_approximate, end, member, predict}
use Rattle.model.specs.Learning.{Run, Bounds}
use Rattle.model.specs.Sound.{sound_as}
use Rattle.model.specs.Demand2.{Near}

-- r is a run of group k that takes the first of the offsets xs, on the pages from p on: they are its record's members, the
-- record is sound, an accurate one or a single predicts each page, any one predicts within the bounds.
pub record RunOf (b : Bounds) (k p : ℕ) (xs : List ℕ) (r : Run) : Type 0 where
  pub group : r.group ≡ k
  pub filled : 1 ≤ r.taken
  pub inside : r.taken ≤ length xs
  pub members : (o : ℕ) → member r.learned o ≡ elem o (take r.taken xs)
  pub ends : end r.learned ≡ get_or xs (r.taken - 1) 0
  pub sound : sound_as (kind r.learned) r.learned ≡ true
  pub exact : is_approximate (kind r.learned) ≡ false → (i : ℕ) → i < r.taken → predict r.learned (get_or xs i 0) ≡ pos (p + i)
  pub near : (i : ℕ) → i < r.taken → Near b (p + i) (predict r.learned (get_or xs i 0))

-- the kind that an even word gives
pub kind_even : (d : ℕ) → 0 < d → kind_of (2 * d) ≡ accurate d
unfolding kind_of
kind_even d h =
    let z : eqb (2 * d) 0 ≡ false = ne_eqb (2 * d) 0 (omega arith) in
    let t : eqb (2 * d % 2) 0 ≡ true = eq-eqb (2 * d % 2) 0 (omega arith) in
    let v : 2 * d / 2 ≡ d = omega arith in
    rw (z, t, v, kind_of)

-- the kind that an odd word gives
pub kind_odd : (a : ℕ) → kind_of (2 * a + 1) ≡ approximate a
unfolding kind_of
kind_odd a =
    let z : eqb (2 * a + 1) 0 ≡ false = ne_eqb (2 * a + 1) 0 (omega arith) in
    let t : eqb ((2 * a + 1) % 2) 0 ≡ false = ne_eqb ((2 * a + 1) % 2) 0 (omega arith) in
    let v : (2 * a + 1) / 2 ≡ a = omega arith in
    rw (z, t, v, kind_of)

-- m below u, and then c above that, where it's no less than nothing
pub sub_plus : (u m c : ℕ) → m ≤ u + c → sub_ℕ u m +ℤ pos c ≡ pos (u + c - m)
sub_plus u m c h = go (ltb u m) refl
  where
    go : (t : Bool) → ltb u m ≡ t → sub_ℕ u m +ℤ pos c ≡ pos (u + c - m)
    go true e =
        let k : u < m = ltb-true u m e in
        let l : ltb c (suc (m - suc u)) ≡ false = le-ltb c (suc (m - suc u)) (omega arith) in
        let n : c - suc (m - suc u) ≡ u + c - m = omega arith in
        rw (e, l, n)
    go false e =
        let k : m ≤ u = ltb-false u m e in
        let n : u - m + c ≡ u + c - m = omega arith in
        rw (e, n)
