-- Whether device numbers are within their limits, by the ways that the code answers it. Assumes nothing.
use mathlib.Core.Path.{◌≡◌, refl, ◌∙◌}
use mathlib.Core.Bool.{Bool, true, false, ◌&&◌}
use Prim.Native.Nat.{ℕ, ◌*◌, ◌-◌, ◌≤◌}
use native.Mathlib.Omega.{arith}
use native.Mathlib.Nat.{mul-le-mul}
use lib.Dec.{leb}
use Rattle.model.specs.Device.{Device, within_limits}

-- the blocks beside one, each of b pages
pub room_small : (m b : ℕ) → m ≤ 4096 → b ≤ 256 → (m - 1) * b ≤ 1048320
room_small m b h l = let k : m - 1 ≤ 4095 = omega arith in mul-le-mul k l

-- what `t && b` answers, where t is a
pub both : {a t v : Bool} (b : Bool) → t ≡ a → t ≡ true → v ≡ b → v ≡ (a && b)
both b e f g = rw (← e, f) g

pub not_both : {a t v : Bool} (b : Bool) → t ≡ a → t ≡ false → v ≡ t → v ≡ (a && b)
not_both b e f g = rw (← e, f) (g ∙ f)

and_assoc : (a b c : Bool) → ((a && b) && c) ≡ (a && (b && c))
and_assoc true b c = refl
and_assoc false b c = refl

-- all limits but g's
module _ (d : Device) where
  abbrev pub but_g : Bool
  but_g = (((leb 3 d.M && leb d.M 4096) && (leb 4 d.B && leb d.B 256)) && leb 1 d.N) && leb (2 * d.N) ((d.M - 1) * d.B)

  pub by_g : (v : Bool) → v ≡ but_g → within_limits d ≡ (v && leb d.g 15)
  unfolding within_limits
  by_g v e = rw (e, and_assoc ((leb 3 d.M && leb d.M 4096) && (leb 4 d.B && leb d.B 256)) (leb 1 d.N) (leb (2 * d.N) ((d.M - 1) * d.B)))
