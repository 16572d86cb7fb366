-- Each offset is owned by at most one record: insertion and compaction keep it so. Assumes nothing.
use mathlib.Core.Path.{◌≡◌, refl, sym, ◌∙◌, ap}
use mathlib.Core.List.{List, [], ◌∷◌, map, flatten}
use mathlib.Core.Option.{Option, none, some}
use mathlib.Core.Logic.{◌⊎◌, inl, inr}
use mathlib.Core.Bool.{true≢false, Bool, true, false}
use Prim.Native.Nat.{ℕ, ◌+◌, ◌≤◌}
use native.Mathlib.Omega.{arith}
use Rattle.model.specs.Lists.{all, elem, distinct}
use Rattle.model.specs.Record.{Record, kind, is_approximate, member}
use Rattle.model.specs.Levels.{Level, Group, listing, shrink, keep, give_up, give_up_all, insert, compact}
use Rattle.model.specs.Sound.{sound_record, owned_offsets}
use Rattle.model.specs.Totals.{total, indicator, owns, OwnedOnce}
use Rattle.model.proofs.Bools.{all_head, all_tail, all_left, all_right}
use Rattle.model.proofs.Lists.{no_elem}
use Rattle.model.proofs.Counting.{elem_append, elem-left, elem-right, distinct_append, distinct-right, distinct_apart, asc_distinct}
use Rattle.model.proofs.Total.{Lessens, indicator_le, total_append, total-insert_top, total-insert, total-compact}
use Rattle.model.proofs.SoundRecord.{sound-ascends, sound-owner, owned-member, shrunk-owned}
use Rattle.model.proofs.SoundRecords.{insert-records, compact-records}

-- Whether r owns o, with the number.
data Owns (o : ℕ) (r : Record) : Type 0 where
  yes : elem o r.owned ≡ true → owns o r ≡ 1 → Owns o r
  no : elem o r.owned ≡ false → owns o r ≡ 0 → Owns o r

owns? : (o : ℕ) (r : Record) → Owns o r
unfolding owns
owns? o r = go (elem o r.owned) refl
  where
    go : (t : Bool) → elem o r.owned ≡ t → Owns o r
    go true e = yes e (ap indicator e)
    go false e = no e (ap indicator e)

disowns : (o : ℕ) (r : Record) → (elem o r.owned ≡ true → ⊥) → owns o r ≡ 0
disowns o r f = go (owns? o r)
  where
    go : Owns o r → owns o r ≡ 0
    go (yes h e) = absurd (f h)
    go (no h e) = e

owns_lessens : (o : ℕ) → Lessens (owns o)
unfolding owns
owns_lessens o lost r s e = indicator_le (elem o s.owned) (elem o r.owned) (λ h. (shrunk-owned lost r s e o h).0)

unowned : (o : ℕ) (l : List Record) → (elem o (owned_offsets l) ≡ true → ⊥) → total (owns o) l ≡ 0
unfolding total owned_offsets
unowned o [] f = refl
unowned o (r ∷ l) f =
    omega (arith, disowns o r (λ h. f (elem-left o r.owned (owned_offsets l) h)), unowned o l (λ h. f (elem-right o r.owned (owned_offsets l) h)))

-- from the rule of a sound group
pub once_of : (l : List Record) → distinct (owned_offsets l) ≡ true → OwnedOnce l
unfolding total owned_offsets OwnedOnce
once_of [] d o = omega arith
once_of (r ∷ l) d o = go (owns? o r) (once_of l (distinct-right r.owned (owned_offsets l) d) o)
  where
    go : Owns o r → total (owns o) l ≤ 1 → owns o r + total (owns o) l ≤ 1
    go (yes h e) ih = omega (arith, unowned o l (λ k. distinct_apart r.owned (owned_offsets l) d o h k))
    go (no h e) ih = omega arith

owned : (o : ℕ) (l : List Record) → elem o (owned_offsets l) ≡ true → 1 ≤ total (owns o) l
unfolding total owned_offsets
owned o [] h = no_elem o h
owned o (r ∷ l) h = go (owns? o r) (elem_append o r.owned (owned_offsets l) h) (λ k. owned o l k)
  where
    go : Owns o r → (elem o r.owned ≡ true) ⊎ (elem o (owned_offsets l) ≡ true) → (elem o (owned_offsets l) ≡ true → 1 ≤ total (owns o) l) → 1 ≤ owns o r + total (owns o) l
    go (yes k e) q ih = omega arith
    go (no k e) (inl q) ih = absurd (true≢false (sym q ∙ k))
    go (no k e) (inr q) ih = omega (arith, ih q)

module _ (N k : ℕ) where
  of_once : (l : List Record) → all (sound_record N k) l ≡ true → OwnedOnce l → distinct (owned_offsets l) ≡ true
  unfolding total owned_offsets OwnedOnce distinct
  of_once [] a f = refl
  of_once (r ∷ l) a f =
      distinct_append r.owned (owned_offsets l) (asc_distinct (sound-ascends N k r (all_head (sound_record N k) r l a))) (of_once l (all_tail (sound_record N k) r l a) (λ o. omega (arith, f o))) (λ o h i. both o (owns? o r) h i)
    where
      both : (o : ℕ) → Owns o r → elem o r.owned ≡ true → elem o (owned_offsets l) ≡ true → ⊥
      both o (yes p e) h i = omega (arith, f o, owned o l i)
      both o (no p e) h i = true≢false (sym h ∙ p)

  give_up-owned : (lost : ℕ → Bool) (o : ℕ) → lost o ≡ true → (l : Level) → all (sound_record N k) l ≡ true → total (owns o) (give_up lost l) ≡ 0
  unfolding give_up total keep
  give_up-owned lost o b [] a = refl
  give_up-owned lost o b (s ∷ l) a =
      go (is_approximate (kind s)) refl (give_up-owned lost o b l (all_tail (sound_record N k) s l a))
    where
      cut : (x : Option Record) → shrink lost s ≡ x → total (owns o) (give_up lost l) ≡ 0 → total (owns o) (keep x (give_up lost l)) ≡ 0
      cut none e ih = ih
      cut (some u) e ih = omega (arith, disowns o u (λ h. true≢false (sym b ∙ (shrunk-owned lost s u e o h).1)))

      go : (t : Bool) → is_approximate (kind s) ≡ t → total (owns o) (give_up lost l) ≡ 0 → total (owns o) (give_up lost (s ∷ l)) ≡ 0
      go true e ih = rw (e, give_up) (cut (shrink lost s) refl ih)
      go false e ih =
          rw (e, give_up) (omega (arith, disowns o s (λ h. true≢false (sym (sound-owner N k s o (all_head (sound_record N k) s l a) h) ∙ e))))

  give_ups_owned : (lost : ℕ → Bool) (o : ℕ) → lost o ≡ true → (g : Group) → all (sound_record N k) (listing g) ≡ true → total (owns o) (listing (map (give_up lost) g)) ≡ 0
  unfolding flatten total
  give_ups_owned lost o b [] a = refl
  give_ups_owned lost o b (l ∷ g) a =
      omega (
        arith,
        total_append (owns o) (give_up lost l) (listing (map (give_up lost) g)),
        give_up-owned lost o b l (all_left (sound_record N k) l (listing g) a),
        give_ups_owned lost o b g (all_right (sound_record N k) l (listing g) a),
      )

  insert-once : (r : Record) (g : Group) → sound_record N k r ≡ true → all (sound_record N k) (listing g) ≡ true → OwnedOnce (listing g) → OwnedOnce (listing (insert r g))
  unfolding insert give_up_all OwnedOnce
  insert-once r g h a f o = go (owns? o r)
    where
      given : elem o r.owned ≡ true → is_approximate (kind r) ≡ true → total (owns o) (listing (give_up_all r g)) ≡ 0
      given i e = rw (e, give_up_all) (give_ups_owned (member r) o (owned-member r o e ∙ i) g a)

      go : Owns o r → total (owns o) (listing (insert r g)) ≤ 1
      go (yes i e) = omega (arith, total-insert_top (owns o) (owns_lessens o) r (give_up_all r g), given i (sound-owner N k r o h i))
      go (no i e) = omega (arith, total-insert (owns o) (owns_lessens o) r g, f o)

  -- A sound record inserted into a group of sound records, whose offsets have at most one owner each, leaves it so.
  pub insert-owners : (r : Record) (g : Group) → sound_record N k r ≡ true → all (sound_record N k) (listing g) ≡ true → distinct (owned_offsets (listing g)) ≡ true → distinct (owned_offsets (listing (insert r g))) ≡ true
  insert-owners r g h a d =
      of_once (listing (insert r g)) (insert-records N k r g h a) (insert-once r g h a (once_of (listing g) d))

  -- Compaction of such a group does.
  pub compact-owners : (g : Group) → all (sound_record N k) (listing g) ≡ true → distinct (owned_offsets (listing g)) ≡ true → distinct (owned_offsets (listing (compact g))) ≡ true
  unfolding OwnedOnce
  compact-owners g a d =
      of_once (listing (compact g)) (compact-records N k g a) (λ o. omega (arith, total-compact (owns o) (owns_lessens o) g, once_of (listing g) d o))
