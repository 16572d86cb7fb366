-- No two approximate records have one start exactly where no offset has two owners and each owns its start: what two of
-- them own is told apart by the start that the owners name. By induction on the slots. Assumes nothing.
use mathlib.Core.Path.{◌≡◌, refl, sym}
use mathlib.Core.List.{List, [], ◌∷◌, map}
use mathlib.Core.Logic.{◌⊎◌, inl, inr}
use mathlib.Core.Bool.{Bool, true, false}
use Prim.Native.Nat.{ℕ, suc, ◌≤◌}
use native.Mathlib.Omega.{arith}
use Rattle.model.specs.Lists.{elem, distinct}
use Rattle.model.specs.Sound.{owned_offsets}
use Rattle.model.proofs.Lists.{no_elem}
use Rattle.model.proofs.Counting.{elem_append, elem-left, elem-right, distinct_append, distinct-right, distinct_apart, asc_distinct}
use Rattle.group.specs.declared.Slot.{Slot}
use Rattle.group.specs.Reading.{record_of}
use Rattle.group.specs.Checking.{approx, end_of}
use Rattle.group.proofs.Members.{In, here, there}
use Rattle.group.proofs.Ends.{owned_asc}
use Rattle.group.proofs.Shapes.{owned-approx, owned_other, owned_if, if_owned}

-- two slots hold approximate records with one start
pub record Alike (s t : Slot) : Type 0 where
  pub one : approx s.held ≡ true
  pub other : approx t.held ≡ true
  pub starts : s.held.start ≡ t.held.start

abbrev pub Fresh : List Slot → Type 0
Fresh [] = Unit
Fresh (s ∷ l) = ((t : Slot) → In t l → Alike s t → ⊥) × Fresh l

-- ranges that end at an offset of the group
abbrev pub Small : List Slot → Type 0
Small l = (s : Slot) → In s l → end_of s.held ≤ 255

module _ (w : ℕ → ℕ) where
  -- the slot whose record owns an offset
  record Owner (o : ℕ) (l : List Slot) : Type 0 where
    slot : Slot
    among : In slot l
    kind : approx slot.held ≡ true
    names : w o ≡ suc slot.held.start

  owner_of_lem : (o : ℕ) (l : List Slot) → elem o (owned_offsets (map (record_of w) l)) ≡ true → Owner o l
  unfolding owned_offsets
  owner_of_lem o [] h = no_elem o h
  owner_of_lem o (s ∷ l) h = go (elem_append o (record_of w s).owned (owned_offsets (map (record_of w) l)) h) (λ k. owner_of_lem o l k)
    where
      go : (elem o (record_of w s).owned ≡ true) ⊎ (elem o (owned_offsets (map (record_of w) l)) ≡ true) → (elem o (owned_offsets (map (record_of w) l)) ≡ true → Owner o l) → Owner o (s ∷ l)
      go (inl k) ih = let q = owned_if w s o k in record { slot = s; among = here; kind = q.0; names = q.1 }
      go (inr k) ih = let q = ih k in record { slot = q.slot; among = there q.among; kind = q.kind; names = q.names }

  offset_in : (o : ℕ) {t : Slot} {l : List Slot} → In t l → elem o (record_of w t).owned ≡ true → elem o (owned_offsets (map (record_of w) l)) ≡ true
  unfolding owned_offsets
  offset_in o {t = t} {l = []} i h = elim i [ ]
  offset_in o {l = t ∷ l} here h = elem-left o (record_of w t).owned (owned_offsets (map (record_of w) l)) h
  offset_in o {l = s ∷ l} (there i) h = elem-right o (record_of w s).owned (owned_offsets (map (record_of w) l)) (offset_in o i h)

  owned-once : (s : Slot) → distinct (record_of w s).owned ≡ true
  unfolding distinct
  owned-once s = go (approx s.held) refl
    where
      go : (t : Bool) → approx s.held ≡ t → distinct (record_of w s).owned ≡ true
      go true e = rw (owned-approx w s e) (asc_distinct (owned_asc w s.held.start))
      go false e = rw (owned_other w s e)

  -- no offset has two owners
  pub fresh-distinct : (l : List Slot) → Fresh l → distinct (owned_offsets (map (record_of w) l)) ≡ true
  unfolding owned_offsets distinct
  fresh-distinct [] f = refl
  fresh-distinct (s ∷ l) f =
      distinct_append (record_of w s).owned (owned_offsets (map (record_of w) l)) (owned-once s) (fresh-distinct l f.1) apart
    where
      apart : (o : ℕ) → elem o (record_of w s).owned ≡ true → elem o (owned_offsets (map (record_of w) l)) ≡ true → ⊥
      apart o h k =
          let p = owned_if w s o h in
          let q = owner_of_lem o l k in
          let e : s.held.start ≡ q.slot.held.start = omega (arith, p.1, q.names) in
          f.0 q.slot q.among (record { one = p.0; other = q.kind; starts = e })

  -- where no offset has two owners and each approximate record owns its start, no two starts are one
  pub distinct-fresh : (l : List Slot) → distinct (owned_offsets (map (record_of w) l)) ≡ true → Small l
      → ((t : Slot) → In t l → approx t.held ≡ true → w t.held.start ≡ suc t.held.start) → Fresh l
  unfolding owned_offsets
  distinct-fresh [] d m e = tt
  distinct-fresh (s ∷ l) d m e =
      (apart, distinct-fresh l (distinct-right (record_of w s).owned (owned_offsets (map (record_of w) l)) d) (λ t i. m t (there i)) (λ t i. e t (there i)))
    where
      apart : (t : Slot) → In t l → Alike s t → ⊥
      apart t i a =
          let q : w s.held.start ≡ suc t.held.start = rw a.starts (e t (there i) a.other) in
          distinct_apart (record_of w s).owned (owned_offsets (map (record_of w) l)) d s.held.start
          (if_owned w s s.held.start (omega (arith, m s here)) a.one (e s here a.one))
          (offset_in s.held.start i (if_owned w t s.held.start (omega (arith, m s here)) a.other q))

-- where no two starts are one, an approximate record is known by its start
pub same_slot : {s t : Slot} (l : List Slot) → Fresh l → In s l → In t l → Alike s t → s ≡ t
same_slot {s = s} {t = t} [] f i _ a = elim i [ ]
same_slot (s ∷ l) f here here a = refl
same_slot (s ∷ l) f here (there j) a = absurd (f.0 _ j a)
same_slot (s ∷ l) f (there i) here a = absurd (f.0 _ i (record { one = a.other; other = a.one; starts = sym a.starts }))
same_slot (s ∷ l) f (there i) (there j) a = same_slot l f.1 i j a
