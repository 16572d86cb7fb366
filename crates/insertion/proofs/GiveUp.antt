-- Slots that give up offsets: one by one, level by level, and when they are as many as before. Assumes nothing.
use mathlib.Core.Path.{◌≡◌, refl, ◌∙◌, ap}
use mathlib.Core.List.{List, [], ◌∷◌, ◌++◌, map}
use mathlib.Core.Option.{Option, none, some}
use mathlib.Core.Bool.{Bool, true, false}
use Prim.Native.Nat.{ℕ, suc, ◌≤◌, ◌<◌}
use native.Mathlib.Omega.{arith}
use lib.ListN.{length}
use Rattle.model.specs.Record.{Record, kind, is_approximate}
use Rattle.model.specs.Levels.{Level, Group, shrink, keep, give_up}
use Rattle.group.specs.Cutting.{Placed, flat_from, flat}
use Rattle.insertion.specs.Flat.{tag}
use Rattle.insertion.specs.Slots.{keep_slot}
use Rattle.insertion.specs.InsertSlots.{given, give_up_slots}
use Rattle.insertion.proofs.Shrink.{shrink_same}

-- a record that isn't approximate stays whole, an approximate one shrinks
module _ (lost : ℕ → Bool) (r : Record) where
  pub given_other : is_approximate (kind r) ≡ false → given lost r ≡ some r
  unfolding given
  given_other h = rw (h, given) refl

  pub given-approximate : is_approximate (kind r) ≡ true → given lost r ≡ shrink lost r
  unfolding given
  given-approximate h = rw (h, given) refl

-- tests that agree below 256 leave the same
pub gives_same : (t u : ℕ → Bool) → ((o : ℕ) → o < 256 → t o ≡ u o) → (l : List Placed) → give_up_slots t l ≡ give_up_slots u l
unfolding give_up_slots given
gives_same t u h [] = refl
gives_same t u h (s ∷ l) =
    let same : given t s.item ≡ given u s.item = ap (λ (x : Option Record). elim (is_approximate (kind s.item)) [ true ↦ x | false ↦ some s.item ]) (shrink_same t u s.item h) in
    ap (λ (x : Option Record). keep_slot s.level x (give_up_slots t l)) same ∙ ap (keep_slot s.level (given u s.item)) (gives_same t u h l)

module _ (lost : ℕ → Bool) where
  -- a level's slots, before others
  give_up-tag : (n : ℕ) (l : Level) (q : List Placed) → give_up_slots lost (tag n l ++ q) ≡ tag n (give_up lost l) ++ give_up_slots lost q
  unfolding give_up_slots give_up given keep_slot keep
  give_up-tag n [] q = refl
  give_up-tag n (s ∷ l) q = ap (keep_slot n (given lost s)) (give_up-tag n l q) ∙ go (is_approximate (kind s)) refl (shrink lost s) refl
    where
      go : (t : Bool) → is_approximate (kind s) ≡ t → (x : Option Record) → shrink lost s ≡ x
          → keep_slot n (given lost s) (tag n (give_up lost l) ++ give_up_slots lost q) ≡ tag n (give_up lost (s ∷ l)) ++ give_up_slots lost q
      go true e none x = rw (e, give_up, given, x)
      go true e (some r) x = rw (e, give_up, given, x)
      go false e y x = rw (e, give_up, given)

  give_up_from : (n : ℕ) (g : Group) → give_up_slots lost (flat_from n g) ≡ flat_from n (map (give_up lost) g)
  unfolding give_up_slots flat_from
  give_up_from n [] = refl
  give_up_from n (l ∷ g) = give_up-tag n l (flat_from (suc n) g) ∙ ap (λ (m : List Placed). tag n (give_up lost l) ++ m) (give_up_from (suc n) g)

  -- Slots that give up offsets are the levels that do.
  pub give_up-flat : (g : Group) → give_up_slots lost (flat g) ≡ flat (map (give_up lost) g)
  give_up-flat g = give_up_from 0 g

  -- They are no more than before.
  pub gives-fewer : (l : List Placed) → length (give_up_slots lost l) ≤ length l
  unfolding give_up_slots keep_slot
  gives-fewer [] = omega arith
  gives-fewer (s ∷ l) = go (given lost s.item) (gives-fewer l)
    where
      go : (x : Option Record) → length (give_up_slots lost l) ≤ length l → length (keep_slot s.level x (give_up_slots lost l)) ≤ suc (length l)
      go none h = omega arith
      go (some r) h = omega arith
