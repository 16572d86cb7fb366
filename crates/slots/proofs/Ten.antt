-- A slot's ten bytes: the record's eight and the level's two are one store, and the slot is read back from them. Assumes nothing.
use mathlib.Core.Path.{◌≡◌, refl, ◌∙◌}
use mathlib.Core.List.{List, ◌++◌}
use Prim.Native.Nat.{ℕ, ◌+◌, ◌<◌}
use native.Mathlib.Omega.{arith}
use lib.ListN.{length, length-append, get_or-append}
use mir.Syntax.{w32}
use mir.Val.{SFits}
use Rattle.model.specs.Lists.{store}
use Rattle.octets.specs.Little.{le16, bytes2, bytes4}
use Rattle.octets.proofs.Stores.{store_all, store_then}
use Rattle.octets.proofs.Same.{Same, stored-below}
use Rattle.octets.proofs.ReadWrite.{length-bytes2, le16-stored}
use Rattle.record.specs.declared.Record.{Record}
use Rattle.record.specs.Coding.{record_at, eight, InEight}
use Rattle.record.proofs.Coding.{length-eight, record_same, decode-encode}
use Rattle.group.specs.declared.Slot.{Slot}
use Rattle.slots.specs.Coding.{ten, InTen}
use Rattle.slots.specs.Edits.{at_level}
use Rattle.slots.proofs.Reading.{slot_in}

pub length-ten : (v : Slot) → length (ten v) ≡ 10
unfolding ten
length-ten v = length-append (eight v.held) (bytes2 v.level) ∙ omega (arith, length-eight v.held, length-bytes2 v.level)

-- a store of the record, and one of the level behind it
pub ten-stored : (s t u : List ℕ) (p : ℕ) (v : Slot) → t ≡ store s p (eight v.held) → u ≡ store t (p + 8) (bytes2 v.level) → u ≡ store s p (ten v)
unfolding ten
ten-stored s t u p v d e =
    let h : p + 8 ≡ p + length (eight v.held) = omega (arith, length-eight v.held) in
    e ∙ rw (h, d) (store_then s p (eight v.held) (bytes2 v.level))

eight-back : (r : Record) → InEight r → SFits w32 r.intercept → record_at (eight r) 0 ≡ r
eight-back r fits signed =
    let e : store (eight r) 0 (eight r) ≡ eight r = store_all (eight r) (eight r) refl in
    rw e at (decode-encode r fits signed (eight r) 0 (omega (arith, length-eight r)))

level-back : (v : Slot) → v.level < 65536 → le16 (ten v) 8 ≡ v.level
unfolding le16 ten eight bytes2 bytes4
level-back v h = omega arith

-- the slot comes back
pub ten-back : (v : Slot) → InTen v → SFits w32 v.held.intercept → slot_in (ten v) ≡ v
unfolding ten
ten-back v fits signed = rw (level-back v fits.0, record_same front, eight-back v.held fits.1 signed)
  where
    front : Same 8 (eight v.held ++ bytes2 v.level) 0 (eight v.held) 0
    front = record { each = λ k h. get_or-append (eight v.held) (bytes2 v.level) 0 (0 + k) (omega (arith, length-eight v.held)) }

-- a store over the level of a slot
pub level-over : (v : List ℕ) (n : ℕ) → length v ≡ 10 → n < 65536 → slot_in (store v 8 (bytes2 n)) ≡ at_level n (slot_in v)
level-over v n long h =
    let level : le16 (store v 8 (bytes2 n)) 8 ≡ n = le16-stored v 8 n (omega arith) h in
    rw (level, record_same (stored-below 8 v 8 (bytes2 n) 0 (omega arith)))
