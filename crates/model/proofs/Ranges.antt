-- When ranges meet: records that don't lie beside each other and share no member. Assumes nothing.
use mathlib.Core.Path.{◌≡◌, refl, sym, ◌∙◌}
use mathlib.Core.List.{◌∷◌}
use mathlib.Core.Logic.{◌⊎◌, inl, inr}
use mathlib.Core.Bool.{true≢false, Bool, true, false, and_comm, and-false}
use Prim.Native.Nat.{ℕ, ◌≤◌, ◌<◌}
use native.Mathlib.Omega.{arith}
use lib.Dec.{leb}
use borrow.Author.Tests.{leb-false, lt-leb}
use Rattle.model.specs.Record.{Record, end, member}
use Rattle.model.specs.Levels.{Level, meets, meets_any}
use Rattle.model.proofs.Bools.{and_i, is_false}
use Rattle.model.proofs.Shrink.{Within}

-- of two records that don't meet, one ends before the other starts
pub meets-false : (r s : Record) → meets r s ≡ false → (end s < r.start) ⊎ (end r < s.start)
unfolding meets
meets-false r s h = go (leb r.start (end s)) (leb s.start (end r)) refl refl
  where
    go : (x y : Bool) → leb r.start (end s) ≡ x → leb s.start (end r) ≡ y → (end s < r.start) ⊎ (end r < s.start)
    go false y p q = inl (leb-false _ _ p)
    go true false p q = inr (leb-false _ _ q)
    go true true p q = absurd (true≢false (sym (and_i _ _ p q) ∙ h))

-- a record that ends before another starts doesn't meet it
pub before-meets : (r s : Record) → end r < s.start → meets r s ≡ false
unfolding meets
before-meets r s h =
    let k : leb s.start (end r) ≡ false = lt-leb _ _ h in
    rw k (and-false (leb r.start (end s)))

-- not meeting is symmetric
pub meets-sym : (r s : Record) → meets r s ≡ false → meets s r ≡ false
unfolding meets
meets-sym r s h = and_comm (leb s.start (end r)) (leb r.start (end s)) ∙ h

-- a record that meets none of a level meets neither its first nor one of the others
pub any_cons : (r s : Record) (l : Level) → meets_any r (s ∷ l) ≡ false → (meets r s ≡ false) × (meets_any r l ≡ false)
unfolding meets_any
any_cons r s l h = go (meets r s) refl
  where
    go : (t : Bool) → meets r s ≡ t → (meets r s ≡ false) × (meets_any r l ≡ false)
    go true q = absurd (true≢false (rw (q, meets_any) at h))
    go false q = (q, rw (q, meets_any) at h)

-- and back
pub cons_any : (r s : Record) (l : Level) → meets r s ≡ false → meets_any r l ≡ false → meets_any r (s ∷ l) ≡ false
unfolding meets_any
cons_any r s l p q = rw (p, meets_any) q

-- two records that don't meet share no member
pub not_both : (o : ℕ) (r s : Record) → Within r → Within s → meets r s ≡ false → member r o ≡ true → member s o ≡ false
not_both o r s u v h k = is_false (member s o) (λ q. apart (meets-false r s h) (u o k) (v o q))
  where
    apart : (end s < r.start) ⊎ (end r < s.start) → (r.start ≤ o) × (o ≤ end r) → (s.start ≤ o) × (o ≤ end s) → ⊥
    apart (inl a) x y = omega arith
    apart (inr a) x y = omega arith
