-- A sound record, shrunk, is sound, and owns nothing that it didn't own or that it gave up. Assumes nothing.
use mathlib.Core.Path.{◌≡◌, refl, sym, ◌∙◌, ap, subst}
use mathlib.Core.List.{List, [], ◌∷◌}
use mathlib.Core.Option.{some}
use mathlib.Core.Bool.{true≢false, Bool, true, false, not, ◌&&◌}
use Prim.Native.Nat.{ℕ, ◌+◌, ◌*◌, ◌-◌, ◌%◌, ◌≤◌, ◌<◌}
use native.Mathlib.Omega.{arith}
use lib.Dec.{ltb, leb, eqb}
use borrow.Author.Tests.{leb-true, ltb-true, eqb-true, eq-eqb, le-leb, lt-ltb, not-true}
use Rattle.model.specs.Lists.{elem, ascending, last_of, select}
use Rattle.model.specs.Record.{Record, Kind, single, accurate, approximate, kind, is_approximate, end, member_as, member}
use Rattle.model.specs.Levels.{shrunk_to, shrunk_to_any, shrink}
use Rattle.model.specs.Sound.{is_empty, owns_its_ends, sound_as, sound_record}
use Rattle.model.proofs.Bools.{and_l, and_r, and_i}
use Rattle.model.proofs.Lists.{Picked, picked, Asc, asc_select, asc_of, of_asc, asc_head, last_elem, elem_here, no_elem}
use Rattle.model.proofs.Shrink.{On, on_of, step-sub, member_as_lem}
use Rattle.model.proofs.Order.{sound-within}

-- s is r shrunk to first and rest, ascending: members of r that don't pass the test
record Remainder (lost : ℕ → Bool) (r s : Record) : Type 0 where
  first : ℕ
  rest : List ℕ
  picks : (o : ℕ) → elem o (first ∷ rest) ≡ true → (member r o ≡ true) × (lost o ≡ false)
  ascends : Asc 0 (first ∷ rest)
  is : shrunk_to r first rest ≡ s

remainder : (lost : ℕ → Bool) (r s : Record) → shrink lost r ≡ some s → Remainder lost r s
unfolding shrink shrunk_to_any
remainder lost r s e = go (select (λ o. member r o && not (lost o)) 256 0) (picked _ 256 0) (asc_select _ 256 0) e
  where
    go : (l : List ℕ) → Picked (λ o. member r o && not (lost o)) 256 0 l → Asc 0 l → shrunk_to_any r l ≡ some s → Remainder lost r s
    go [] p a q = let z : ◌≡◌ {A = ℕ} 0 1 = cc in absurd (omega arith)
    go (x ∷ l) p a q = record {
      first = x;
      rest = l;
      picks = λ o h. let k = (p.only o h).0 in (and_l (member r o) _ k, not-true (lost o) (and_r (member r o) _ k));
      ascends = a;
      is = cc;
    }

-- The parts of a record's soundness: its bounds, and its shape as its kind wants it.
pub record SoundRecord (N k : ℕ) (r : Record) : Type 0 where
  pub byte : end r ≤ 255
  pub inside : 256 * k + end r < N
  pub shape : sound_as (kind r) r ≡ true

-- A record that passes the test has them.
pub record_parts : (N k : ℕ) (r : Record) → sound_record N k r ≡ true → SoundRecord N k r
unfolding sound_record
record_parts N k r h =
    let a : (leb (end r) 255 && ltb (256 * k + end r) N) ≡ true = and_l (leb (end r) 255 && ltb (256 * k + end r) N) _ h in
    record {
      byte = leb-true _ _ (and_l (leb (end r) 255) _ a);
      inside = ltb-true _ _ (and_r (leb (end r) 255) _ a);
      shape = and_r (leb (end r) 255 && ltb (256 * k + end r) N) _ h;
    }

-- A record that has them passes the test.
pub parts_record : (N k : ℕ) (r : Record) → SoundRecord N k r → sound_record N k r ≡ true
unfolding sound_record
parts_record N k r h = and_i _ _ (and_i _ _ (le-leb _ _ h.byte) (lt-ltb _ _ h.inside)) h.shape

-- What a record owns: offsets, if it is approximate; otherwise nothing.
data Ownership (r : Record) : Type 0 where
  owner : is_approximate (kind r) ≡ true → Asc 0 r.owned → Ownership r
  nobody : r.owned ≡ [] → Ownership r

ownership : (N k : ℕ) (r : Record) → sound_record N k r ≡ true → Ownership r
unfolding sound_as is_empty is_approximate owns_its_ends
ownership N k r h = go (kind r) refl (record_parts N k r h).shape
  where
    empty : (l : List ℕ) → is_empty l ≡ true → l ≡ []
    empty [] e = refl
    empty (x ∷ l) e = absurd (true≢false (sym e))

    ascends : (l : List ℕ) → owns_its_ends r l ≡ true → Asc 0 l
    ascends [] e = absurd (true≢false (sym e))
    ascends (x ∷ l) e =
        let a : (ascending (x ∷ l) && eqb x r.start) ≡ true = and_l (ascending (x ∷ l) && eqb x r.start) _ e in
        asc_of (x ∷ l) (and_l (ascending (x ∷ l)) _ a)

    go : (q : Kind) → kind r ≡ q → sound_as q r ≡ true → Ownership r
    go single e s = nobody (empty r.owned (and_r (eqb r.span 0) _ s))
    go (accurate d) e s = nobody (empty r.owned (and_r (leb d 255 && eqb (r.span % d) 0) _ s))
    go (approximate a) e s = owner (ap is_approximate e) (ascends r.owned (and_r (leb a 256) _ s))

-- The offsets that a sound record owns ascend.
pub sound-ascends : (N k : ℕ) (r : Record) → sound_record N k r ≡ true → Asc 0 r.owned
unfolding ascending
sound-ascends N k r h = go (ownership N k r h)
  where
    go : Ownership r → Asc 0 r.owned
    go (owner a w) = w
    go (nobody e) = rw e (asc_of [] refl)

-- Of sound records only an approximate one owns offsets.
pub sound-owner : (N k : ℕ) (r : Record) (o : ℕ) → sound_record N k r ≡ true → elem o r.owned ≡ true → is_approximate (kind r) ≡ true
sound-owner N k r o h m = go (ownership N k r h)
  where
    go : Ownership r → is_approximate (kind r) ≡ true
    go (owner a w) = a
    go (nobody e) = no_elem o (rw e at m)

-- An approximate record's members are the offsets that it owns.
pub owned-member : (r : Record) (o : ℕ) → is_approximate (kind r) ≡ true → member r o ≡ elem o r.owned
unfolding member_as is_approximate
owned-member r o h = go (kind r) refl h
  where
    go : (q : Kind) → kind r ≡ q → is_approximate q ≡ true → member r o ≡ elem o r.owned
    go single e a = absurd (true≢false (sym a))
    go (accurate d) e a = absurd (true≢false (sym a))
    go (approximate c) e a = member_as_lem r (approximate c) o e

-- A shrunk record owns only what it owned and didn't lose.
pub shrunk-owned : (lost : ℕ → Bool) (r s : Record) → shrink lost r ≡ some s → (o : ℕ) → elem o s.owned ≡ true → (elem o r.owned ≡ true) × (lost o ≡ false)
unfolding shrunk_to
shrunk-owned lost r s e o h =
    let m = remainder lost r s e in
    go m.first m.rest m.picks (is_approximate (kind r)) refl (ap (λ (u : Record). elem o u.owned) m.is ∙ h)
  where
    go : (x : ℕ) (l : List ℕ) → ((i : ℕ) → elem i (x ∷ l) ≡ true → (member r i ≡ true) × (lost i ≡ false)) → (t : Bool) → is_approximate (kind r) ≡ t
        → elem o (elim t [ true ↦ x ∷ l | false ↦ [] ]) ≡ true → (elem o r.owned ≡ true) × (lost o ≡ false)
    go x l p true a k = let i = p o k in (sym (owned-member r o a) ∙ i.0, i.1)
    go x l p false a k = no_elem o k

module _ (N k : ℕ) (r : Record) (h : sound_record N k r ≡ true) (x : ℕ) (l : List ℕ) (p : (o : ℕ) → elem o (x ∷ l) ≡ true → member r o ≡ true) (a : Asc 0 (x ∷ l)) where
  first_in : member r x ≡ true
  first_in = p x (elem_here x l)

  last_in : member r (last_of x l) ≡ true
  last_in = p (last_of x l) (last_elem x l)

  ends : x ≤ last_of x l
  ends = asc_head a (last_of x l) (last_elem x l)

  owned-left : (t : Bool) → is_approximate (kind r) ≡ t → (shrunk_to r x l).owned ≡ elim t [ true ↦ x ∷ l | false ↦ [] ]
  unfolding shrunk_to
  owned-left t e = ap (λ (b : Bool). elim b [ true ↦ x ∷ l | false ↦ [] ]) e

  shape_of : (q : Kind) → kind r ≡ q → sound_as q r ≡ true → sound_as q (shrunk_to r x l) ≡ true
  unfolding sound_as shrunk_to member_as is_approximate is_empty owns_its_ends
  shape_of single e s =
      let i : x ≡ r.start = eqb-true _ _ (sym (member_as_lem r single x e) ∙ first_in) in
      let j : last_of x l ≡ r.start = eqb-true _ _ (sym (member_as_lem r single (last_of x l) e) ∙ last_in) in
      let z : last_of x l - x ≡ 0 = omega arith in
      and_i _ _ (eq-eqb _ _ z) (ap is_empty (owned-left false (ap is_approximate e)))
  shape_of (accurate d) e s =
      let i : On d r x = on_of d r x (sym (member_as_lem r (accurate d) x e) ∙ first_in) in
      let j : On d r (last_of x l) = on_of d r _ (sym (member_as_lem r (accurate d) (last_of x l) e) ∙ last_in) in
      let z : (last_of x l - x) % d ≡ 0 = step-sub r.start x (last_of x l) d i.low ends i.step j.step in
      and_i _ _ (and_i _ _ (and_l (leb d 255) _ (and_l (leb d 255 && eqb (r.span % d) 0) _ s)) (eq-eqb _ _ z)) (ap is_empty (owned-left false (ap is_approximate e)))
  shape_of (approximate c) e s =
      let z : last_of x l ≡ x + (last_of x l - x) = omega (arith, ends) in
      let w : owns_its_ends (shrunk_to r x l) (x ∷ l) ≡ true = and_i _ _ (and_i _ _ (of_asc (x ∷ l) a) (eq-eqb x x refl)) (eq-eqb _ _ z) in
      and_i _ _ (and_l (leb c 256) _ s) (ap (owns_its_ends (shrunk_to r x l)) (owned-left true (ap is_approximate e)) ∙ w)

  shrunk_to-sound : sound_record N k (shrunk_to r x l) ≡ true
  unfolding shrunk_to
  shrunk_to-sound =
      let s = record_parts N k r h in
      let w = sound-within N k r h (last_of x l) last_in in
      let z : x + (last_of x l - x) ≤ end r = omega (arith, ends, w.1) in
      parts_record N k (shrunk_to r x l) (record { byte = omega (arith, s.byte); inside = omega (arith, s.inside); shape = shape_of (kind r) refl s.shape })

-- A sound record, shrunk, is sound.
pub shrunk-sound : (N k : ℕ) (lost : ℕ → Bool) (r s : Record) → sound_record N k r ≡ true → shrink lost r ≡ some s → sound_record N k s ≡ true
shrunk-sound N k lost r s h e =
    let m = remainder lost r s e in
    subst (λ (u : Record). sound_record N k u ≡ true) m.is (shrunk_to-sound N k r h m.first m.rest (λ o i. (m.picks o i).0) m.ascends)
