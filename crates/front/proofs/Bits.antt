-- A mark's bit in its byte, as code tests, sets and clears it (model's Marks). Assumes nothing.
use mathlib.Core.Path.{◌≡◌, sym, ap, ◌∙◌}
use mathlib.Core.List.{List}
use mathlib.Core.Bool.{Bool, true, false}
use Prim.Native.Nat.{ℕ, ◌+◌, ◌-◌, ◌*◌, ◌/◌, ◌%◌, ◌^◌, ◌≤◌, ◌<◌}
use native.Mathlib.Omega.{arith}
use lib.ListN.{get_or, set}
use Rattle.model.specs.Marks.{mark_byte, mark_value, has_bit, set_bit, clear_bit, is_marked, mark, unmark}
use Rattle.model.proofs.Bits.{bit-fits, set_off, clear_on}
use Rattle.model.proofs.Marks.{value_most, set-byte}

-- what the bit of page x counts, as it is shifted into its place
abbrev pub shifted : ℕ → ℕ
shifted x = 1 * 2 ^ (x % 8) % 4294967296

shifted_is : (x : ℕ) → shifted x ≡ mark_value x
unfolding mark_value
shifted_is x = let l : mark_value x ≤ 128 = value_most x in omega (arith, l)

-- page x by the byte of its mark, b
module _ (ms : List ℕ) (x b : ℕ) (e : b ≡ get_or ms (x / 8) 0) where
  pub bit-told : (t : Bool) → t ≡ has_bit b (mark_value x) → t ≡ is_marked ms x
  unfolding is_marked mark_byte
  bit-told t q = q ∙ ap (λ (c : ℕ). has_bit c (mark_value x)) e

  has : (t : Bool) → is_marked ms x ≡ t → has_bit b (mark_value x) ≡ t
  unfolding is_marked mark_byte
  has t q = ap (λ (c : ℕ). has_bit c (mark_value x)) e ∙ q

  -- where it is not marked, its bit is added
  module _ (off : is_marked ms x ≡ false) where
    added : set_bit b (mark_value x) ≡ b + shifted x
    added = set_off b (mark_value x) (has false off) ∙ ap (λ (v : ℕ). b + v) (sym (shifted_is x))

    pub added-byte : b < 256 → b + shifted x < 256
    added-byte l = omega (arith, added, set-byte b x l)

    pub mark-adds : set ms (x / 8) (b + shifted x) ≡ mark x ms
    unfolding mark mark_byte
    mark-adds = ap (set ms (x / 8)) (sym added ∙ ap (λ (c : ℕ). set_bit c (mark_value x)) e)

  -- where it is, its bit can be taken away
  module _ (on : is_marked ms x ≡ true) where
    pub bit-inside : shifted x ≤ b
    bit-inside = omega (arith, shifted_is x, bit-fits b (mark_value x) (has true on))

    taken : clear_bit b (mark_value x) ≡ b - shifted x
    taken = clear_on b (mark_value x) (has true on) ∙ ap (λ (v : ℕ). b - v) (sym (shifted_is x))

    pub unmark-takes : set ms (x / 8) (b - shifted x) ≡ unmark x ms
    unfolding unmark mark_byte
    unmark-takes = ap (set ms (x / 8)) (sym taken ∙ ap (λ (c : ℕ). clear_bit c (mark_value x)) e)
