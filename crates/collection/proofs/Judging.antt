-- Whether a page is valid, by what its lookup gives; the pages of a block. Assumes nothing.
use mathlib.Core.Path.{◌≡◌, refl, sym, ap, ◌∙◌}
use mathlib.Core.List.{List, [], ◌∷◌}
use mathlib.Core.Bool.{Bool, true, false, ◌&&◌}
use Prim.Native.Nat.{ℕ, suc, ◌+◌, ◌*◌, ◌-◌, ◌≤◌, ◌<◌}
use native.Mathlib.Omega.{arith}
use native.Mathlib.Numerals.{add-one}
use lib.Dec.{ltb, eqb}
use lib.ListN.{length}
use mir.Val.{bool_byte}
use borrow.Author.Tests.{lt-ltb, le-ltb}
use Rattle.model.specs.Lists.{select}
use Rattle.model.specs.Device.{Device, pages, first_page}
use Rattle.model.specs.Spare.{middle}
use Rattle.model.specs.State.{State, group_at}
use Rattle.model.specs.Sound.{sound_group, sound_state}
use Rattle.model.proofs.Bools.{and_l}
use Rattle.model.proofs.Limits.{limits, page-inside}
use Rattle.model.proofs.SoundGroups.{group_sound}
use Rattle.calls.specs.Lookup.{Looked, at, seek}
use Rattle.calls.specs.Choice.{used_by}
use Rattle.calls.specs.Collection.{gives, valid, used_block}
use Rattle.spare.proofs.Sizes.{page-small}
use Rattle.choice.proofs.ValidPages.{valid-few}
use Rattle.state.specs.Shaped.{Passed}

-- the valid pages from p on, before page e
unfoldable pub valid_upto : State → List ℕ → ℕ → ℕ → List ℕ
valid_upto s spare e p = select (valid s spare) (e - p) p

module _ (s : State) (spare : List ℕ) (e p : ℕ) where
  -- Behind the last page there is none.
  pub upto-end : e ≤ p → valid_upto s spare e p ≡ []
  unfolding valid_upto select
  upto-end h =
      let z : e - p ≡ 0 = omega arith in
      ap (λ (n : ℕ). select (valid s spare) n p) z

  module _ (h : p < e) (t : Bool) (q : t ≡ valid s spare p) where
    here : valid_upto s spare e p ≡ select (valid s spare) (suc (e - (p + 1))) p
    unfolding valid_upto
    here =
        let z : e - p ≡ suc (e - (p + 1)) = omega arith in
        ap (λ (n : ℕ). select (valid s spare) n p) z

    later : select (valid s spare) (e - (p + 1)) (suc p) ≡ valid_upto s spare e (p + 1)
    unfolding valid_upto
    later = ap (select (valid s spare) (e - (p + 1))) (sym (add-one p))

    -- A page that is valid is the next of them; one that isn't is passed.
    pub upto_next : t ≡ true → valid_upto s spare e p ≡ p ∷ valid_upto s spare e (p + 1)
    unfolding select
    upto_next f = here ∙ rw (sym q ∙ f, select) (ap (λ (l : List ℕ). p ∷ l) later)

    pub upto-passed : t ≡ false → valid_upto s spare e p ≡ valid_upto s spare e (p + 1)
    unfolding select
    upto-passed f = here ∙ rw (sym q ∙ f, select) later

    -- Either way the page counts as its test says, 1 or 0.
    pub upto-count : length (valid_upto s spare e p) ≡ bool_byte t + length (valid_upto s spare e (p + 1))
    upto-count = go t refl
      where
        go : (b : Bool) → t ≡ b → length (valid_upto s spare e p) ≡ bool_byte b + length (valid_upto s spare e (p + 1))
        go true f = omega (arith, ap length (upto_next f))
        go false f = omega (arith, ap length (upto-passed f))

module _ (d : Device) (s : State) (spare : List ℕ) (v : Passed d s spare) where
  -- Every group of a sound state is sound.
  pub group_fine : (k : ℕ) → sound_group d.N k (group_at s k) ≡ true
  unfolding sound_state group_at
  group_fine k =
      ap (λ (e : Device). sound_group e.N k (group_at s k)) (sym v.shape.numbers)
      ∙ group_sound s.device.N k s.groups (and_l _ _ v.sound)

  -- page p, whose middle entry is x
  module _ (p x : ℕ) (e : x ≡ middle d spare p) where
    valid_is : valid s spare p ≡ (ltb x d.N && gives p (seek s spare x))
    unfolding valid
    valid_is = rw (v.shape.numbers, e)

    -- It isn't valid where x is no logical page ..
    pub too_high : d.N ≤ x → false ≡ valid s spare p
    too_high h = sym (valid_is ∙ rw (le-ltb x d.N h))

    -- .. or where lookup of x gives no page ..
    pub not_given : x < d.N → (a : Looked) → a ≡ seek s spare x → gives p a ≡ false → false ≡ valid s spare p
    not_given h a q f = sym (valid_is ∙ rw (lt-ltb x d.N h) (ap (gives p) (sym q) ∙ f))

    -- .. and else if the page given is p.
    pub given_is : x < d.N → (q a n : ℕ) → at q a n ≡ seek s spare x → eqb p q ≡ valid s spare p
    unfolding gives
    given_is h q a n f = sym (valid_is ∙ rw (lt-ltb x d.N h, ← f))

  -- A block's pages are pages of the device, and small numbers.
  module _ (k : ℕ) (h : k < d.M) where
    pub block-fits : k * d.B + d.B ≤ 1048576
    block-fits =
        let last = limits d v.shape.limits in
        omega (arith, page-small d k (d.B - 1) v.shape.limits h (omega (arith, last.least_B)), last.least_B)

    pub in_device : (p : ℕ) → k * d.B ≤ p → p < k * d.B + d.B → p < pages d
    unfolding first_page
    in_device p a e = omega (arith, page-inside d k (p - k * d.B) h (omega arith))

  -- A block has few valid pages.
  pub pages-few : (k : ℕ) → length (used_block s spare k).pages ≤ 256
  pages-few k =
      omega (arith, valid-few (valid s spare) s.device k, ap (λ (e : Device). e.B) v.shape.numbers, (limits d v.shape.limits).most_B)

  -- They are those among its pages, by the numbers of the device.
  pub pages_all : (k : ℕ) → valid_upto s spare (k * d.B + d.B) (k * d.B) ≡ (used_block s spare k).pages
  unfolding valid_upto used_by first_page
  pages_all k =
      let n : (k * d.B + d.B) - k * d.B ≡ d.B = omega arith in
      ap (λ (m : ℕ). select (valid s spare) m (k * d.B)) n ∙ ap (λ (e : Device). (used_by (valid s spare) e k).pages) (sym v.shape.numbers)
