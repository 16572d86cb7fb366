-- Where a logical page lies once a list of them is written to the pages from one on: there, or where it lay. Assumes nothing.
use mathlib.Core.Path.{◌≡◌, refl, sym, ◌∙◌}
use mathlib.Core.List.{List, [], ◌∷◌}
use mathlib.Core.Option.{Option, some}
use mathlib.Core.Logic.{◌⊎◌, inl, inr}
use mathlib.Core.Bool.{true≢false, Bool, true, false}
use Prim.Native.Nat.{ℕ, suc, ◌+◌, ◌≤◌, ◌<◌}
use native.Mathlib.Omega.{arith}
use lib.Dec.{eqb}
use lib.ListN.{length, get_or}
use borrow.Author.Tests.{eqb-true, eqb-false}
use Rattle.model.specs.Lists.{elem}
use Rattle.model.specs.Device.{Device, first_page}
use Rattle.model.specs.Learning.{Write}
use Rattle.model.specs.State.{lowest_in}
use Rattle.model.proofs.Bools.{is_false}
use Rattle.model.proofs.Lists.{elem_cons, no_elem}
use Rattle.calls.specs.Choice.{first_of}
use Rattle.calls.specs.PageMap.{spot}

-- The two cases ..
pub data Spot (x p : ℕ) (w : List ℕ) (old : Option ℕ) : Option ℕ → Type 0 where
  elsewhere : elem x w ≡ false → Spot x p w old old
  there : (i : ℕ) → i < length w → get_or w i 0 ≡ x → Spot x p w old (some (p + i))

-- .. and there is no other.
pub spot_view : (x p : ℕ) (w : List ℕ) (old : Option ℕ) → Spot x p w old (spot x p w old)
unfolding spot
spot_view x p [] old = elsewhere (is_false (elem x []) (λ h. no_elem x h))
spot_view x p (y ∷ l) old = go (eqb x y) refl (spot x (suc p) l old) refl (spot_view x (suc p) l old)
  where
    miss : eqb x y ≡ false → elem x l ≡ false → (x ≡ y) ⊎ (elem x l ≡ true) → ⊥
    miss e h (inl q) = eqb-false x y e q
    miss e h (inr q) = true≢false (sym q ∙ h)

    go : (t : Bool) → eqb x y ≡ t → (v : Option ℕ) → spot x (suc p) l old ≡ v → Spot x (suc p) l old v → Spot x p (y ∷ l) old (spot x p (y ∷ l) old)
    go true e v q s =
        let z : p + 0 ≡ p = omega arith in
        let r : Spot x p (y ∷ l) old (some (p + 0)) = there 0 (omega arith) (sym (eqb-true x y e)) in
        rw (e, spot) (rw z at r)
    go false e v q (elsewhere h) = rw (e, spot) (rw q (elsewhere (is_false (elem x (y ∷ l)) (λ k. miss e h (elem_cons x y l k)))))
    go false e v q (there i b h) =
        let z : p + suc i ≡ suc p + i = omega arith in
        let r : Spot x p (y ∷ l) old (some (p + suc i)) = there (suc i) (omega arith) h in
        rw (e, spot) (rw q (rw z at r))

-- What is written goes to the first pages of the lowest-numbered free block.
pub first_of_lem : (ws : List Write) (d : Device) (counts : List ℕ) → 1 ≤ length ws → first_of ws d counts ≡ first_page d (lowest_in counts)
unfolding first_of
first_of_lem [] d counts h = absurd (omega arith)
first_of_lem (w ∷ ws) d counts h = refl
