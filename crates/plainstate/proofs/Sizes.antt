-- Within the limits the places of the entries are small numbers. Assumes nothing.
use mathlib.Core.Path.{◌≡◌}
use mathlib.Core.Bool.{true}
use Prim.Native.Nat.{ℕ, ◌+◌, ◌*◌, ◌-◌, ◌≤◌, ◌<◌}
use native.Mathlib.Omega.{arith}
use native.Mathlib.Nat.{mul-le-mul, mul-le-mul_right}
use Rattle.model.specs.Device.{Device, within_limits, pages, head_length, count_length, regions_length}
use Rattle.model.proofs.Limits.{limits}
use Rattle.plain.specs.Table.{entry_length, table_regions, table_length}
use Rattle.plainstate.specs.Reading.{entry_place}

-- how large the numbers get
pub record Small (d : Device) : Type 0 where
  pub blocks : d.M ≤ 4096
  pub logical : d.N ≤ 524160
  pub all : pages d ≤ 1048576

pub small : (d : Device) → within_limits d ≡ true → Small d
unfolding pages
small d h =
    let l = limits d h in
    let m : d.M - 1 ≤ 4095 = omega (arith, l.most_M) in
    let p : (d.M - 1) * d.B ≤ 4095 * 256 = mul-le-mul m l.most_B in
    record { blocks = l.most_M; logical = omega (arith, l.most_N, p); all = mul-le-mul l.most_M l.most_B }

-- where the entries begin and the state ends, in numbers
pub entry_at_lem : (d : Device) (x : ℕ) → entry_place d x ≡ 16 + 2 * d.M + 4 * x
unfolding entry_place
entry_at_lem d x = omega arith

pub end_at : (d : Device) → table_length d ≡ 16 + 2 * d.M + 4 * d.N
unfolding table_length table_regions regions_length head_length count_length entry_length
end_at d = omega arith

-- an entry's place, from where the counts end
pub entry_from : (d : Device) (x p : ℕ) → p ≡ 16 + 2 * d.M → p + 4 * x ≡ entry_place d x
entry_from d x p e = omega (arith, e, entry_at_lem d x)

-- the state ends where its entries do
pub table-end : (d : Device) (p : ℕ) → p ≡ entry_place d d.N → p ≡ table_length d
table-end d p e = omega (arith, e, entry_at_lem d d.N, end_at d)

-- a block's pages are pages of the device
pub block-end : (d : Device) (k : ℕ) → k < d.M → k * d.B + d.B ≤ pages d
unfolding pages
block-end d k h = omega (arith, mul-le-mul_right d.B h)
