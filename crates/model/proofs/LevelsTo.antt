-- How many levels a lookup looks at: at most all, and all where no record has the offset. Assumes nothing.
use mathlib.Core.Path.{◌≡◌, refl, ◌∙◌, ap}
use mathlib.Core.List.{List, [], ◌∷◌, ◌++◌, flatten}
use mathlib.Core.Option.{none}
use mathlib.Core.Bool.{Bool, true, false, ◌||◌}
use Prim.Native.Nat.{ℕ, suc, ◌≤◌}
use native.Mathlib.Omega.{arith}
use lib.ListN.{length}
use Rattle.model.specs.Lists.{or_else}
use Rattle.model.specs.Record.{Record, member}
use Rattle.model.specs.Levels.{Group, listing, member_of_any, holder, levels_to}

-- No more levels are looked at than there are.
pub levels_to_most : (o : ℕ) (g : Group) → levels_to o g ≤ length g
unfolding levels_to
levels_to_most o [] = omega arith
levels_to_most o (l ∷ g) = go (member_of_any l o) refl (levels_to_most o g)
  where
    go : (t : Bool) → member_of_any l o ≡ t → levels_to o g ≤ length g → levels_to o (l ∷ g) ≤ length (l ∷ g)
    go true e ih = rw (e, levels_to) (omega arith)
    go false e ih = rw (e, levels_to) (omega arith)

-- a list that holds no record with o has no member o, nor does what lies behind it
holder_none : (o : ℕ) (l m : List Record) → holder o (l ++ m) ≡ none → (member_of_any l o ≡ false) × (holder o m ≡ none)
unfolding holder member_of_any or_else
holder_none o [] m h = (refl, h)
holder_none o (r ∷ l) m h = go (member r o) refl h (λ k. holder_none o l m k)
  where
    go : (t : Bool) → member r o ≡ t → or_else t r (holder o (l ++ m)) ≡ none → (holder o (l ++ m) ≡ none → (member_of_any l o ≡ false) × (holder o m ≡ none))
        → ((member r o || member_of_any l o) ≡ false) × (holder o m ≡ none)
    go true e k ih = let z : ◌≡◌ {A = ℕ} 0 1 = cc in absurd (omega arith)
    go false e k ih = let q = ih k in (ap (λ (t : Bool). t || member_of_any l o) e ∙ q.0, q.1)

-- All are looked at where no record has the offset.
pub levels_to_all : (o : ℕ) (g : Group) → holder o (listing g) ≡ none → levels_to o g ≡ length g
unfolding levels_to flatten
levels_to_all o [] h = refl
levels_to_all o (l ∷ g) h =
    let q = holder_none o l (flatten g) h in
    let e : member_of_any l o ≡ false = q.0 in
    rw (e, levels_to) (ap suc (levels_to_all o g q.1))
