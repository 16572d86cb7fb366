-- The owner that an offset gets, by the owner it had and the mask: one law for each way. Assumes nothing.
use Rattle.std.specs.Prelude as code
use mathlib.Core.Path.{◌≡◌, refl, ◌∙◌}
use mathlib.Core.Bool.{Bool, true, false, not}
use Prim.Native.Nat.{ℕ, suc}
use borrow.Author.Tests.{eq-eqb, ne_eqb}
use Rattle.model.specs.Record.{kind_of, is_approximate}
use Rattle.record.specs.declared.Record.{Record}
use Rattle.slots.specs.Owners.{either, left_to, handed_on, start_left, owner_left}

-- an owner that names the start is handed on
module _ (start : ℕ) (taken : Bool) (newStart w : ℕ) where
  pub on_named : w ≡ suc start → handed_on start taken newStart w ≡ either taken 0 (suc newStart)
  unfolding handed_on either
  on_named e = rw (eq-eqb w (suc start) e, either)

  pub on_other : (w ≡ suc start → ⊥) → handed_on start taken newStart w ≡ w
  unfolding handed_on either
  on_other n = rw (ne_eqb w (suc start) n, either)

-- an approximate record's owners are handed on, and those of any other stay
module _ (r : Record) (x : code.Option Record) (taken : Bool) (w : ℕ) where
  pub owner_sloped : is_approximate (kind_of r.word) ≡ true → owner_left r x taken w ≡ handed_on r.start taken (start_left x) w
  unfolding owner_left either
  owner_sloped a = rw (a, owner_left, either)

  pub owner-exact : is_approximate (kind_of r.word) ≡ false → owner_left r x taken w ≡ w
  unfolding owner_left either
  owner-exact a = rw (a, owner_left, either)

  -- so an owner that names it becomes the new start or nobody, and one that doesn't stays
  pub owner-named : is_approximate (kind_of r.word) ≡ true → w ≡ suc r.start → owner_left r x taken w ≡ either taken 0 (suc (start_left x))
  owner-named a e = owner_sloped a ∙ on_named r.start taken (start_left x) w e

  pub owner_other : (is_approximate (kind_of r.word) ≡ true → w ≡ suc r.start → ⊥) → owner_left r x taken w ≡ w
  owner_other n = go (is_approximate (kind_of r.word)) refl
    where
      go : (t : Bool) → is_approximate (kind_of r.word) ≡ t → owner_left r x taken w ≡ w
      go true a = owner_sloped a ∙ on_other r.start taken (start_left x) w (n a)
      go false a = owner-exact a

module _ (start : ℕ) (taken : Bool) (w : ℕ) where
  pub left-named : w ≡ suc start → left_to start taken w ≡ not taken
  unfolding left_to
  left-named e = rw (eq-eqb w (suc start) e)

  pub left_other : (w ≡ suc start → ⊥) → left_to start taken w ≡ false
  unfolding left_to
  left_other n = rw (ne_eqb w (suc start) n)
