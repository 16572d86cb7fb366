-- A search along the slots finds the first record that has the offset, and counts the levels down to it: each slot that
-- lacks the offset is in the level at hand or opens the next, which is then looked at too. Assumes nothing.
use mathlib.Core.Path.{◌≡◌, refl, sym, ap, ◌∙◌}
use mathlib.Core.List.{List, [], ◌∷◌, map}
use mathlib.Core.Option
use mathlib.Core.Bool.{Bool, true, false, ◌||◌}
use Prim.Native.Nat.{ℕ, suc, ◌+◌, ◌-◌, ◌≤◌, ◌<◌}
use native.Mathlib.Omega.{arith}
use native.Mathlib.Numerals.{add-one}
use Rattle.std.specs.Prelude.{Some, None}
use Rattle.model.specs.Lists.{or_else}
use Rattle.model.specs.Options.{as_option}
use Rattle.record.specs.declared.Record.{Record}
use Rattle.model.specs.Record as model
use Rattle.model.specs.Record.{member}
use Rattle.model.specs.Levels.{Level, Group, listing, member_of_any, holder, levels_to}
use Rattle.record.specs.Read.{bare}
use Rattle.group.specs.declared.Slot.{Slot}
use Rattle.group.specs.declared.Descent.{Descent}
use Rattle.group.specs.Layout.{used_of, slot_of, slots_from, slots_of, owner_of, levels_at}
use Rattle.group.specs.Cutting.{climbs, cut, front, behind}
use Rattle.group.specs.Reading.{record_of, placed_of, encodes, read_group}
use Rattle.group.proofs.Cutting.{Step, same, next, step, top, front_same, behind_same, front_next, behind_next}
use Rattle.group.proofs.Slots.{slots_all, slots-step, slots_end, encoded, read_is, listing-read}

-- a record with the levels looked at, and none
abbrev pub at : Record → ℕ → Descent
at r n = record { held = Some r; levels = n }

abbrev pub nowhere : ℕ → Descent
nowhere n = record { held = None; levels = n }

-- what a search for o finds in the slots l, behind n levels
unfoldable pub hit_from : (ℕ → ℕ) → ℕ → ℕ → List Slot → Descent
hit_from w o n [] = nowhere n
hit_from w o n (s ∷ l) = elim (member (record_of w s) o) [ true ↦ at s.held (suc s.level) | false ↦ hit_from w o (suc s.level) l ]

module _ (w : ℕ → ℕ) (o : ℕ) where
  found : (n : ℕ) (l : List Slot) → as_option (hit_from w o n l).held ≡ Option.map bare (holder o (map (record_of w) l))
  unfolding hit_from as_option holder or_else
  found n [] = refl
  found n (s ∷ l) = go (member (record_of w s) o) refl (found (suc s.level) l)
    where
      go : (t : Bool) → member (record_of w s) o ≡ t → as_option (hit_from w o (suc s.level) l).held ≡ Option.map bare (holder o (map (record_of w) l))
          → as_option (hit_from w o n (s ∷ l)).held ≡ Option.map bare (holder o (map (record_of w) (s ∷ l)))
      go true e ih = rw (e, hit_from)
      go false e ih = rw (e, hit_from) ih

  -- the search at a slot that has the offset, and at one that lacks it
  hit-has : (n : ℕ) (s : Slot) (l : List Slot) → member (record_of w s) o ≡ true → hit_from w o n (s ∷ l) ≡ at s.held (suc s.level)
  unfolding hit_from
  hit-has n s l e = rw (e, hit_from)

  hit_lacks : (n : ℕ) (s : Slot) (l : List Slot) → member (record_of w s) o ≡ false → hit_from w o n (s ∷ l) ≡ hit_from w o (suc s.level) l
  unfolding hit_from
  hit_lacks n s l e = rw (e, hit_from)

  -- the count of levels there
  levels-has : (r : model.Record) (f : Level) (g : Group) → member r o ≡ true → levels_to o ((r ∷ f) ∷ g) ≡ 1
  unfolding levels_to member_of_any
  levels-has r f g e = let k : member_of_any (r ∷ f) o ≡ true = ap (λ (t : Bool). t || member_of_any f o) e in rw (k, levels_to)

  levels_lacks : (r : model.Record) (f : Level) (g : Group) → member r o ≡ false → levels_to o ((r ∷ f) ∷ g) ≡ levels_to o (f ∷ g)
  unfolding levels_to member_of_any
  levels_lacks r f g e = let k : member_of_any (r ∷ f) o ≡ member_of_any f o = ap (λ (t : Bool). t || member_of_any f o) e in rw (k, levels_to)

  -- a slot of level n, in front of what has that level
  level_at : (n m : ℕ) (s : Slot) (l : List Slot) (f : Level) (g : Group) → s.level ≡ n → n + levels_to o (f ∷ g) ≡ (hit_from w o (suc n) l).levels
      → n + levels_to o ((record_of w s ∷ f) ∷ g) ≡ (hit_from w o m (s ∷ l)).levels
  level_at n m s l f g q ih = go (member (record_of w s) o) refl
    where
      go : (t : Bool) → member (record_of w s) o ≡ t → n + levels_to o ((record_of w s ∷ f) ∷ g) ≡ (hit_from w o m (s ∷ l)).levels
      go true e = rw (levels-has (record_of w s) f g e, hit-has m s l e, q) (add-one n)
      go false e = rw (levels_lacks (record_of w s) f g e, hit_lacks m s l e, q) ih

  looked : (n : ℕ) (l : List Slot) → climbs (suc n) (map (placed_of w) l) ≡ true
      → n + levels_to o (front n (map (placed_of w) l) ∷ behind n (map (placed_of w) l)) ≡ (hit_from w o (suc n) l).levels
  unfolding front behind hit_from levels_to member_of_any
  looked n [] h = add-one n
  looked n (s ∷ l) h = go (step n (placed_of w s) (map (placed_of w) l) h) (λ c. looked n l c) (λ c. looked (suc n) l c)
    where
      go : Step n (placed_of w s) (map (placed_of w) l) → (climbs (suc n) (map (placed_of w) l) ≡ true → n + levels_to o (front n (map (placed_of w) l) ∷ behind n (map (placed_of w) l)) ≡ (hit_from w o (suc n) l).levels)
          → (climbs (suc (suc n)) (map (placed_of w) l) ≡ true → suc n + levels_to o (front (suc n) (map (placed_of w) l) ∷ behind (suc n) (map (placed_of w) l)) ≡ (hit_from w o (suc (suc n)) l).levels)
          → n + levels_to o (front n (map (placed_of w) (s ∷ l)) ∷ behind n (map (placed_of w) (s ∷ l))) ≡ (hit_from w o (suc n) (s ∷ l)).levels
      go (same e c) ih jh =
          rw (front_same n (placed_of w s) (map (placed_of w) l) e, behind_same n (placed_of w s) (map (placed_of w) l) e)
          (level_at n (suc n) s l (front n (map (placed_of w) l)) (behind n (map (placed_of w) l)) e (ih c))
      go (next e c) ih jh =
          let F : Level = front (suc n) (map (placed_of w) l) in
          let B : Group = behind (suc n) (map (placed_of w) l) in
          let k : suc n + levels_to o ((record_of w s ∷ F) ∷ B) ≡ (hit_from w o (suc n) (s ∷ l)).levels = level_at (suc n) (suc n) s l F B e (jh c) in
          rw (front_next n (placed_of w s) (map (placed_of w) l) e, behind_next n (placed_of w s) (map (placed_of w) l) e) (omega (arith, k))

  looked-top : (l : List Slot) → climbs 0 (map (placed_of w) l) ≡ true → levels_to o (cut (map (placed_of w) l)) ≡ (hit_from w o 0 l).levels
  unfolding cut hit_from levels_to
  looked-top [] h = refl
  looked-top (s ∷ l) h =
      let t = top (placed_of w s) (map (placed_of w) l) h in
      let e : s.level ≡ 0 = t.0 in
      let F : Level = front 0 (map (placed_of w) l) in
      let B : Group = behind 0 (map (placed_of w) l) in
      let k : 0 + levels_to o ((record_of w s ∷ F) ∷ B) ≡ (hit_from w o 0 (s ∷ l)).levels = level_at 0 0 s l F B e (looked 0 l t.1) in
      ap (λ (m : ℕ). levels_to o ((record_of w s ∷ front m (map (placed_of w) l)) ∷ behind m (map (placed_of w) l))) e ∙ (let z : levels_to o ((record_of w s ∷ F) ∷ B) ≡ (hit_from w o 0 (s ∷ l)).levels = omega (arith, k) in z)

-- what the search from the top finds is what a lookup meets in the group, and so is its count of levels
pub hit-read : (b : List ℕ) (o : ℕ) → encodes b ≡ true → (x : Descent) → x ≡ hit_from (owner_of b) o 0 (slots_of b)
    → (as_option x.held ≡ Option.map bare (holder o (listing (read_group b)))) × (x.levels ≡ levels_to o (read_group b))
hit-read b o h x e = (
  rw (e, listing-read b h) (found (owner_of b) o 0 (slots_of b)),
  rw (e, read_is b h) (sym (looked-top (owner_of b) o (slots_of b) (encoded b h).climbing)),
)

-- the search at slot i of n
module _ (b : List ℕ) (o n i : ℕ) where
  abbrev W : ℕ → ℕ
  W = owner_of b

  pub hit-found : i < n → (t : Bool) (s : Slot) → s ≡ slot_of b i → t ≡ member (record_of (owner_of b) s) o → t ≡ true
      → hit_from (owner_of b) o (levels_at b i) (slots_from b i (n - i)) ≡ at s.held (s.level + 1)
  hit-found h t s es et y =
      rw (slots-step b n i h, ← es, add-one s.level) (hit-has W o (levels_at b i) s (slots_from b (i + 1) (n - (i + 1))) (sym et ∙ y))

  pub hit-missed : i < n → (t : Bool) (s : Slot) → s ≡ slot_of b i → t ≡ member (record_of (owner_of b) s) o → t ≡ false
      → hit_from (owner_of b) o (levels_at b i) (slots_from b i (n - i)) ≡ hit_from (owner_of b) o (levels_at b (i + 1)) (slots_from b (i + 1) (n - (i + 1)))
  unfolding levels_at slot_of
  hit-missed h t s es et y =
      let e : suc s.level ≡ levels_at b (i + 1) = rw (add-one i, es) in
      rw (slots-step b n i h, ← es, ← e) (hit_lacks W o (levels_at b i) s (slots_from b (i + 1) (n - (i + 1))) (sym et ∙ y))

  pub hit-top : n ≡ used_of b → hit_from (owner_of b) o 0 (slots_of b) ≡ hit_from (owner_of b) o (levels_at b 0) (slots_from b 0 (n - 0))
  unfolding levels_at
  hit-top e = ap (hit_from W o 0) (slots_all b n e)

  pub hit-nowhere : n ≤ i → hit_from (owner_of b) o (levels_at b i) (slots_from b i (n - i)) ≡ nowhere (levels_at b i)
  unfolding hit_from
  hit-nowhere h = rw (slots_end b n i h)
