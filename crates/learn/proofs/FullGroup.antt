-- 256 pages of a group are all of it, at stride 1: where the accurate run ends before the group does, there are at most 255. Assumes
-- nothing.
use mathlib.Core.Path.{◌≡◌, refl}
use mathlib.Core.List.{List}
use mathlib.Core.Bool.{Bool, true, false}
use Prim.Native.Nat.{ℕ, zero, suc, ◌+◌, ◌-◌, ◌/◌, ◌≤◌, ◌<◌}
use native.Mathlib.Omega.{arith}
use lib.Dec.{ltb}
use lib.ListN.{length, get_or}
use borrow.Author.Tests.{ltb-true, ltb-false}
use Rattle.model.specs.Lists.{ascending}
use Rattle.model.specs.Learning.{Bounds}
use Rattle.learn.specs.Runs.{Strides, GroupEnd, accurate_at}
use Rattle.slopes.proofs.AheadOf.{Goes, ahead-goes}
use Rattle.model.proofs.Ascent.{rises}
use Rattle.learn.proofs.Strides.{onward_to}
use Rattle.learn.proofs.AccurateAt.{taken_is}

-- m places on, pages are at least m higher
rises_by : (w : List ℕ) (i m : ℕ) → ascending w ≡ true → i + m < length w → get_or w i 0 + m ≤ get_or w (i + m) 0
rises_by w i zero asc h = let e : i + 0 ≡ i = omega arith in rw e (omega arith)
rises_by w i (suc m) asc h =
    let e : i + suc m ≡ i + m + 1 = omega arith in
    let u : get_or w (i + m) 0 < get_or w (i + m + 1) 0 = rises w (i + m) (i + m + 1) asc (omega arith) (omega arith) in
    rw e (omega (arith, u, rises_by w i m asc (omega arith)))

module _ (w : List ℕ) (i e : ℕ) (asc : ascending w ≡ true) (g : GroupEnd w i e) where
  -- 256 pages of a group follow one another
  full-steps : i + 256 ≤ e → (q : ℕ) → i ≤ q → q + 1 < e → get_or w (q + 1) 0 - get_or w q 0 ≡ 1
  full-steps h q k m =
      let a : i + (q - i) ≡ q = omega arith in
      let b : q + 1 + (e - 1 - (q + 1)) ≡ e - 1 = omega arith in
      let low = rw a at (rises_by w i (q - i) asc (omega (arith, g.end))) in
      let high = rw b at (rises_by w (q + 1) (e - 1 - (q + 1)) asc (omega (arith, g.end))) in
      let up = rises w q (q + 1) asc (omega arith) (omega (arith, g.end)) in
      omega (arith, low, high, up, g.group (e - 1) (omega arith) (omega arith), g.end)

  pub group-small : (b : Bounds) → i + (accurate_at b w i).taken < e → e ≤ i + 255
  group-small b h = go (ltb (i + 255) e) refl
    where
      go : (t : Bool) → ltb (i + 255) e ≡ t → e ≤ i + 255
      go true f =
          let n : i + 255 < e = ltb-true _ _ f in
          let one : get_or w (i + 1) 0 - get_or w i 0 ≡ 1 = full-steps (omega arith) i (omega arith) (omega arith) in
          let t : Goes w (get_or w i 0 / 256) (i + 1) = ahead-goes w _ (i + 1) (omega (arith, g.end)) (g.group (i + 1) (omega arith) (omega arith)) in
          let s : Strides w 1 (i + 1) (e - 1) = record { step = λ q a c. full-steps (omega arith) q (omega arith) (omega arith) } in
          let v = onward_to w _ 1 asc (i + 1) (e - 1) t.group (omega arith) (omega (arith, g.end)) (g.group (e - 1) (omega arith) (omega arith)) s in
          let u = rw one at (taken_is w i asc t b) in
          absurd (omega (arith, u, v))
      go false f = ltb-false _ _ f
