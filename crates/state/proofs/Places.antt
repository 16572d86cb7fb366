-- Within the limits the places of counts, marks and groups are small numbers. Assumes nothing.
use mathlib.Core.Path.{◌≡◌}
use mathlib.Core.Bool.{true}
use Prim.Native.Nat.{ℕ, suc, ◌+◌, ◌*◌, ◌-◌, ◌≤◌}
use native.Mathlib.Omega.{arith}
use native.Mathlib.Nat.{mul-le-mul}
use Rattle.model.specs.Device.{Device, within_limits, group_count, marks_count, head_length, count_length, marks_length, group_length, regions, regions_length, state_length}
use Rattle.model.proofs.Limits.{limits}
use Rattle.state.specs.Regions.{place_at, cell_place}
use Rattle.state.specs.Reading.{count_place, marks_place, group_place}

-- how large the numbers get
pub record Small (d : Device) : Type 0 where
  pub blocks : d.M ≤ 4096
  pub pages : d.N ≤ 524160
  pub marks : marks_count d ≤ 65520
  pub groups : group_count d ≤ 2048

pub small : (d : Device) → within_limits d ≡ true → Small d
unfolding group_count marks_count
small d h =
    let l = limits d h in
    let m : d.M - 1 ≤ 4095 = omega (arith, l.most_M) in
    let p : (d.M - 1) * d.B ≤ 4095 * 256 = mul-le-mul m l.most_B in
    let n : d.N ≤ 524160 = omega (arith, l.most_N, p) in
    record { blocks = l.most_M; pages = n; marks = omega arith; groups = omega arith }

pub pages-small : (d : Device) → within_limits d ≡ true → d.M * d.B ≤ 1048576
pages-small d h = let l = limits d h in mul-le-mul l.most_M l.most_B

-- where a count, a byte of the marks, a group and the state's end lie, in numbers
pub count_at : (d : Device) (k : ℕ) → count_place d k ≡ 16 + k * 2
unfolding cell_place place_at regions regions_length head_length count_length
count_at d k = omega arith

pub marks_at : (d : Device) (k : ℕ) → marks_place d k ≡ 16 + d.M * 2 + k
unfolding cell_place place_at regions regions_length head_length count_length marks_length
marks_at d k = omega arith

pub group_at_lem : (d : Device) (k : ℕ) → group_place d k ≡ 16 + d.M * 2 + marks_count d + k * 5636
unfolding cell_place place_at regions regions_length head_length count_length marks_length group_length
group_at_lem d k = omega arith

pub end_at : (d : Device) → state_length d ≡ 16 + d.M * 2 + marks_count d + group_count d * 5636
unfolding state_length regions regions_length head_length count_length marks_length group_length
end_at d = omega arith

pub marks-small : (d : Device) (k : ℕ) → within_limits d ≡ true → k ≤ marks_count d → marks_place d k ≤ 73728
marks-small d k h l = omega (arith, marks_at d k, (small d h).blocks, (small d h).marks)

pub group-small : (d : Device) (k : ℕ) → within_limits d ≡ true → k ≤ group_count d → group_place d k ≤ 11616256
group-small d k h l = omega (arith, group_at_lem d k, (small d h).blocks, (small d h).marks, (small d h).groups)

-- the place of a byte of the marks, from where the counts end
pub marks_from : (d : Device) (k p : ℕ) → p ≡ 16 + 2 * d.M → p + k ≡ marks_place d k
marks_from d k p e = omega (arith, e, marks_at d k)

-- a group's place, from where the marks end, which are n bytes
pub group_from : (d : Device) (k n p : ℕ) → n ≡ marks_count d → p ≡ marks_place d n → p + k * 5636 ≡ group_place d k
group_from d k n p f e = omega (arith, e, f, marks_at d n, group_at_lem d k)

-- the state ends where its groups do, as many as k
pub state-end : (d : Device) (k p : ℕ) → p ≡ group_place d k → k ≡ group_count d → p ≡ state_length d
state-end d k p e f = omega (arith, e, f, group_at_lem d k, end_at d)

-- one group behind the other, and all behind the head
pub group_next : (d : Device) (k : ℕ) → group_place d (suc k) ≡ group_place d k + group_length
unfolding group_length
group_next d k = omega (arith, group_at_lem d k, group_at_lem d (suc k))

pub head_inside : (d : Device) → head_length ≤ state_length d
unfolding head_length
head_inside d = omega (arith, end_at d)
