-- The owner of an offset among records, and the offsets that a sound record owns, each from the other: an offset has one
-- owner, a record owns its start, and an ascending list is known by its elements. Assumes nothing.
use mathlib.Core.Path.{◌≡◌, refl, sym, ap, ◌∙◌}
use mathlib.Core.List.{List, [], ◌∷◌}
use mathlib.Core.Logic.{◌⊎◌, inl, inr}
use mathlib.Core.Bool.{true≢false, Bool, true, false, ◌&&◌}
use Prim.Native.Nat.{ℕ, suc, ◌<◌}
use native.Mathlib.Omega.{arith}
use lib.Dec.{leb, eqb}
use borrow.Author.Tests.{eqb-true, eq-eqb}
use Rattle.model.specs.Lists.{all, elem, distinct, ascending}
use Rattle.model.specs.Record.{Record, Kind, single, accurate, approximate, kind, is_approximate}
use Rattle.model.specs.Sound.{owns_its_ends, sound_as, sound_record, owned_offsets}
use Rattle.model.proofs.Bools.{and_l, and_r, iff_bool}
use Rattle.model.proofs.Lists.{elem_cons, elem_here, elem_there, no_elem, Asc, next, asc_elem, asc_head}
use Rattle.model.proofs.Counting.{elem-left, elem-right, distinct-right, distinct_apart}
use Rattle.model.proofs.SoundRecord.{sound-ascends, sound-owner, owned-member, record_parts}
use Rattle.model.proofs.Order.{sound-within}
use Rattle.group.specs.Reading.{owned_by, owned_as}
use Rattle.group.specs.Held.{owner_among}
use Rattle.group.proofs.Members.{In, here, there, in_some, all_in}
use Rattle.group.proofs.Ends.{owned_only, owned_in, owned_asc}

-- ascending lists of the same numbers are equal
asc_tail : (x y : ℕ) (l m : List ℕ) → x ≡ y → Asc (suc x) l → ((o : ℕ) → elem o (x ∷ l) ≡ true → elem o (y ∷ m) ≡ true) → (o : ℕ) → elem o l ≡ true → elem o m ≡ true
asc_tail x y l m e a f o h = go (elem_cons o y m (f o (elem_there o x l h)))
  where
    go : (o ≡ y) ⊎ (elem o m ≡ true) → elem o m ≡ true
    go (inl q) = absurd (let z : ⊥ = omega (arith, asc_elem a o h) in z)
    go (inr q) = q

pub asc_same : {p q : ℕ} (l m : List ℕ) → Asc p l → Asc q m → ((o : ℕ) → elem o l ≡ true → elem o m ≡ true) → ((o : ℕ) → elem o m ≡ true → elem o l ≡ true) → l ≡ m
asc_same [] [] a c f g = refl
asc_same [] (y ∷ m) a c f g = no_elem y (g y (elem_here y m))
asc_same (x ∷ l) [] a c f g = no_elem x (f x (elem_here x l))
asc_same (x ∷ l) (y ∷ m) (next i a) (next j c) f g =
    let e : x ≡ y = omega (arith, asc_head (next i a) y (g y (elem_here y m)), asc_head (next j c) x (f x (elem_here x l))) in
    let ih : l ≡ m = asc_same l m a c (asc_tail x y l m e a f) (asc_tail y x m l (sym e) c g) in
    rw (e, ih)

-- the owner of o among the records: none, or the first that owns it
pub data Among (o : ℕ) (l : List Record) : ℕ → Type 0 where
  nobody : ((r : Record) → In r l → elem o r.owned ≡ true → ⊥) → Among o l 0
  owner : (r : Record) → In r l → elem o r.owned ≡ true → Among o l (suc r.start)

pub among : (o : ℕ) (l : List Record) → Among o l (owner_among o l)
unfolding owner_among
among o [] = nobody none
  where
    none : (r : Record) → In r [] → elem o r.owned ≡ true → ⊥
    none r i h = omega (arith, in_some i)
among o (r ∷ l) = go (elem o r.owned) refl (among o l)
  where
    later : {n : ℕ} → elem o r.owned ≡ false → Among o l n → Among o (r ∷ l) n
    later e (nobody f) = nobody none
      where
        none : (s : Record) → In s (r ∷ l) → elem o s.owned ≡ true → ⊥
        none s here h = true≢false (sym h ∙ e)
        none s (there i) h = f s i h
    later e (owner s i h) = owner s (there i) h

    go : (t : Bool) → elem o r.owned ≡ t → Among o l (owner_among o l) → Among o (r ∷ l) (owner_among o (r ∷ l))
    go true e a = rw (e, owner_among) (owner r here e)
    go false e a = rw (e, owner_among) (later e a)

-- an offset has one owner
owned_offset : (o : ℕ) {r : Record} {l : List Record} → In r l → elem o r.owned ≡ true → elem o (owned_offsets l) ≡ true
unfolding owned_offsets
owned_offset o {r = r} {l = []} i h = elim i [ ]
owned_offset o {l = r ∷ l} here h = elem-left o r.owned (owned_offsets l) h
owned_offset o {l = s ∷ l} (there i) h = elem-right o s.owned (owned_offsets l) (owned_offset o i h)

one_owner : (o : ℕ) {r s : Record} {l : List Record} → distinct (owned_offsets l) ≡ true → In r l → In s l → elem o r.owned ≡ true → elem o s.owned ≡ true → r ≡ s
unfolding owned_offsets
one_owner o d here here h k = refl
one_owner o {l = r ∷ l} d here (there j) h k = absurd (distinct_apart r.owned (owned_offsets l) d o h (owned_offset o j k))
one_owner o {l = s ∷ l} d (there i) here h k = absurd (distinct_apart s.owned (owned_offsets l) d o k (owned_offset o i h))
one_owner o {l = x ∷ l} d (there i) (there j) h k = one_owner o (distinct-right x.owned (owned_offsets l) d) i j h k

-- an approximate sound record owns its start, and nothing above 255
module _ (N k : ℕ) (r : Record) (h : sound_record N k r ≡ true) (a : is_approximate (kind r) ≡ true) where
  ends : owns_its_ends r r.owned ≡ true
  unfolding sound_as is_approximate
  ends = go (kind r) a (record_parts N k r h).shape
    where
      go : (q : Kind) → is_approximate q ≡ true → sound_as q r ≡ true → owns_its_ends r r.owned ≡ true
      go single e s = absurd (true≢false (sym e))
      go (accurate d) e s = absurd (true≢false (sym e))
      go (approximate c) e s = and_r (leb c 256) _ s

  owns-start : elem r.start r.owned ≡ true
  unfolding owns_its_ends
  owns-start = go r.owned ends
    where
      go : (l : List ℕ) → owns_its_ends r l ≡ true → elem r.start l ≡ true
      go [] e = absurd (true≢false (sym e))
      go (x ∷ l) e =
          let q : x ≡ r.start = eqb-true _ _ (and_r (ascending (x ∷ l)) _ (and_l (ascending (x ∷ l) && eqb x r.start) _ e)) in
          ap (λ (y : ℕ). elem y (x ∷ l)) (sym q) ∙ elem_here x l

  owns-low : (o : ℕ) → elem o r.owned ≡ true → o < 256
  owns-low o m = omega (arith, (sound-within N k r h o (owned-member r o a ∙ m)).1, (record_parts N k r h).byte)

-- of sound records with one owner for each offset: a record's owned offsets are those whose owner names its start
module _ (N k : ℕ) (l : List Record) (s : all (sound_record N k) l ≡ true) (d : distinct (owned_offsets l) ≡ true) (w : ℕ → ℕ) (owners : (o : ℕ) → o < 256 → w o ≡ owner_among o l) where
  module _ (r : Record) (i : In r l) where
    sound : sound_record N k r ≡ true
    sound = all_in (sound_record N k) s i

    names : is_approximate (kind r) ≡ true → (o : ℕ) (n : ℕ) → Among o l n → elem o r.owned ≡ true → n ≡ suc r.start
    names a o n (nobody f) h = absurd (f r i h)
    names a o n (owner t j e) h = ap (λ (x : Record). suc x.start) (one_owner o d j i e h)

    named : is_approximate (kind r) ≡ true → (o : ℕ) (n : ℕ) → Among o l n → n ≡ suc r.start → elem o r.owned ≡ true
    named a o n (nobody f) q = absurd (let z : ⊥ = omega arith in z)
    named a o n (owner t j e) q =
        let st : sound_record N k t ≡ true = all_in (sound_record N k) s j in
        let p : t.start ≡ r.start = omega arith in
        let u : elem r.start t.owned ≡ true = rw p at (owns-start N k t st (sound-owner N k t o st e)) in
        let v : t ≡ r = one_owner r.start d j i u (owns-start N k r sound a) in
        ap (λ (x : Record). elem o x.owned) (sym v) ∙ e

    -- the owner of an offset names an approximate record exactly where that record owns it
    pub owner-names : is_approximate (kind r) ≡ true → (o : ℕ) → o < 256 → eqb (w o) (suc r.start) ≡ elem o r.owned
    owner-names a o h =
        iff_bool _ _ (λ e. named a o (owner_among o l) (among o l) (sym (owners o h) ∙ eqb-true _ _ e))
        (λ e. eq-eqb _ _ (owners o h ∙ names a o (owner_among o l) (among o l) e))

    -- so what it owns is read back
    pub owned-back : owned_as (kind r) w r.start ≡ r.owned
    unfolding owned_as is_approximate
    owned-back = go (kind r) refl
      where
        none : (x : List ℕ) → ((o : ℕ) → elem o x ≡ true → ⊥) → [] ≡ x
        none [] f = refl
        none (y ∷ x) f = absurd (f y (elem_here y x))

        other : is_approximate (kind r) ≡ false → [] ≡ r.owned
        other e = none r.owned (λ o h. true≢false (sym (sound-owner N k r o sound h) ∙ e))

        picks : is_approximate (kind r) ≡ true → owned_by w r.start ≡ r.owned
        picks a =
            asc_same (owned_by w r.start) r.owned (owned_asc w r.start) (sound-ascends N k r sound)
            (λ o h. let q = owned_only w r.start o h in sym (owner-names a o q.1) ∙ eq-eqb _ _ q.0)
            (λ o h. let q = owns-low N k r sound a o h in owned_in w r.start o q (eqb-true _ _ (owner-names a o q ∙ h)))

        go : (q : Kind) → kind r ≡ q → owned_as q w r.start ≡ r.owned
        go single e = other (ap is_approximate e)
        go (accurate c) e = other (ap is_approximate e)
        go (approximate c) e = picks (ap is_approximate e)
