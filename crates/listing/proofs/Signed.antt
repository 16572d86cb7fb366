-- The records that are read from bytes have intercepts of 32 bits, in whatever state they stand. Assumes nothing.
use mathlib.Core.Path.{◌≡◌, refl}
use mathlib.Core.List.{List, [], ◌∷◌, ◌++◌, map, flatten}
use mathlib.Core.Bool.{Bool, true, false}
use Prim.Native.Nat.{ℕ, zero, suc, ◌+◌}
use native.Mathlib.Omega.{arith}
use borrow.Author.Tests.{ltb-true, ltb-false}
use lib.Dec.{ltb, eqb}
use lib.ListN.{get_or}
use mir.Syntax.{w32}
use mir.Val.{SFits, to_z}
use Rattle.octets.specs.Little.{le32, signed32, le32s}
use Rattle.front.specs.Tables.{list_from}
use Rattle.record.specs.Coding.{record_at}
use Rattle.model.specs.Record.{Record}
use Rattle.model.specs.Levels.{Group}
use Rattle.model.specs.State.{group_at}
use Rattle.group.specs.Layout.{slot_place, slot_record, slot_of, slots_from, slots_of, owner_of}
use Rattle.group.specs.Cutting.{Placed, front, behind, cut}
use Rattle.group.specs.Reading.{placed_of, group_or, encodes, read_group}
use Rattle.state.specs.Regions.{read_region}
use Rattle.state.specs.Reading.{read_state}
use Rattle.listing.proofs.Each.{Each, none, more}

-- an intercept of 32 bits
abbrev pub Signed : Record → Type 0
Signed r = SFits w32 r.intercept

-- bits read as signed are a number of 32 bits
signed_bits : (n : ℕ) → SFits w32 (signed32 n)
unfolding signed32
signed_bits n = go (ltb n 2147483648) refl
  where
    go : (t : Bool) → ltb n 2147483648 ≡ t → SFits w32 (to_z w32 n)
    go true e = rw e (record { sfits = ltb-true n 2147483648 e })
    go false e = rw e (record { sfits = omega (arith, ltb-false n 2147483648 e) })

-- slots' records
signed-slots : (w : ℕ → ℕ) (b : List ℕ) (i n : ℕ) → Each (λ (p : Placed). Signed p.item) (map (placed_of w) (slots_from b i n))
unfolding slots_from slot_of slot_record record_at le32s
signed-slots w b i zero = none
signed-slots w b i (suc n) = more {x = placed_of w (slot_of b i)} (signed_bits (le32 b (slot_place i + 4))) (signed-slots w b (suc i) n)

-- cut into levels they are the same records
signed-behind : (n : ℕ) (l : List Placed) → Each (λ (p : Placed). Signed p.item) l → Each Signed (front n l ++ flatten (behind n l))
unfolding front behind flatten
signed-behind n [] none = none
signed-behind n (p ∷ l) (more h hs) = go (eqb p.level n) refl (λ m. signed-behind m l hs)
  where
    go : (t : Bool) → eqb p.level n ≡ t → ((m : ℕ) → Each Signed (front m l ++ flatten (behind m l))) → Each Signed (front n (p ∷ l) ++ flatten (behind n (p ∷ l)))
    go true e ih = rw (e, front, behind) (more h (ih n))
    go false e ih = rw (e, front, behind) (more h (ih p.level))

signed_cut : (l : List Placed) → Each (λ (p : Placed). Signed p.item) l → Each Signed (flatten (cut l))
unfolding cut flatten
signed_cut [] none = none
signed_cut (p ∷ l) (more h hs) = more h (signed-behind p.level l hs)

-- a group's bytes
signed-group : (b : List ℕ) → Each Signed (flatten (read_group b))
unfolding read_group group_or slots_of flatten
signed-group b = go (encodes b)
  where
    go : (t : Bool) → Each Signed (flatten (group_or t (slots_of b) (owner_of b)))
    go true = signed_cut _ (signed-slots (owner_of b) b 0 _)
    go false = none

-- an element of a region that is read, or what stands for one that isn't there
element : {A : Type 0} (P : A → Type 0) (f : ℕ → A) (d : A) → ((k : ℕ) → P (f k)) → P d → (i n k : ℕ) → P (get_or (list_from f i n) k d)
unfolding list_from
element P f d each other i zero k = other
element P f d each other i (suc n) zero = each i
element P f d each other i (suc n) (suc k) = element P f d each other (suc i) n k

-- a state's bytes
pub signed-state : (b : List ℕ) (k : ℕ) → Each Signed (flatten (group_at (read_state b) k))
unfolding read_state group_at read_region flatten
signed-state b k = element (λ (g : Group). Each Signed (flatten g)) _ [] (λ j. signed-group _) none 0 _ k
