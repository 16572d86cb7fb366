-- The owners from which each approximate record takes what it owns in its range. Where the ends pass, no two starts are one, and an
-- owner that is gone was in the range of the record that it named; where no two starts are one, the ends pass. By induction on the
-- slots, and on a range offset by offset. Assumes nothing.
use mathlib.Core.Path.{◌≡◌, refl, sym, ap, ◌∙◌}
use mathlib.Core.List.{List, [], ◌∷◌}
use mathlib.Core.Logic.{◌⊎◌, inl, inr}
use mathlib.Core.Bool.{true≢false, Bool, true, false}
use Prim.Native.Nat.{ℕ, zero, suc, ◌+◌, ◌≤◌, ◌<◌}
use native.Mathlib.Omega.{arith}
use lib.Dec.{leb, eqb}
use lib.ListN.{length, get_or, set, length-set}
use lib.Seq.{get_or-set_same, get_or-set_other}
use borrow.Author.Tests.{eqb-true, eqb-false, eq-eqb, ne_eqb, leb-true, leb-false}
use Rattle.model.proofs.Bools.{and_l, and_r, and_i}
use Rattle.model.proofs.Lists.{le_cases}
use Rattle.record.specs.declared.Record.{Record}
use Rattle.group.specs.declared.Slot.{Slot}
use Rattle.group.specs.Checking.{approx, end_of, owns_ends, unnamed, without, taken, own_ends, left_by}
use Rattle.group.proofs.Members.{In, here, there}
use Rattle.group.proofs.Fresh.{Alike, Fresh, Small}

-- one name taken from the owners of a range
module _ (name : ℕ) where
  abbrev One : ℕ → List ℕ → List ℕ
  One o c = set c o (unnamed name (get_or c o 0))

  length_one : (o : ℕ) (c : List ℕ) → length (One o c) ≡ length c
  length_one o c = length-set c o (unnamed name (get_or c o 0))

  one_other : (o : ℕ) (c : List ℕ) (x : ℕ) → (x ≡ o → ⊥) → get_or (One o c) x 0 ≡ get_or c x 0
  one_other o c x f = get_or-set_other c o x (unnamed name (get_or c o 0)) 0 f

  one_keeps : (o : ℕ) (c : List ℕ) (x : ℕ) → o < length c → (get_or c x 0 ≡ name → ⊥) → get_or (One o c) x 0 ≡ get_or c x 0
  unfolding unnamed
  one_keeps o c x h f = go (eqb x o) refl
    where
      go : (t : Bool) → eqb x o ≡ t → get_or (One o c) x 0 ≡ get_or c x 0
      go true q =
          let e : x ≡ o = eqb-true _ _ q in
          let z : eqb (get_or c o 0) name ≡ false = ne_eqb _ _ (λ k. f (ap (λ (y : ℕ). get_or c y 0) e ∙ k)) in
          rw (e, get_or-set_same c o (unnamed name (get_or c o 0)) 0 h, z, unnamed)
      go false q = one_other o c x (eqb-false _ _ q)

  one_loses : (o : ℕ) (c : List ℕ) → o < length c → get_or c o 0 ≡ name → get_or (One o c) o 0 ≡ 0
  unfolding unnamed
  one_loses o c h e = get_or-set_same c o (unnamed name (get_or c o 0)) 0 h ∙ rw (eq-eqb _ _ e, unnamed)

  length_without : (n o : ℕ) (c : List ℕ) → length (without name n o c) ≡ length c
  unfolding without
  length_without zero o c = refl
  length_without (suc n) o c = length_without n (suc o) (One o c) ∙ length_one o c

  -- another owner stays, one outside the range stays, and the one named is gone in the range
  without_keeps : (n o : ℕ) (c : List ℕ) (x : ℕ) → o + n ≤ length c → (get_or c x 0 ≡ name → ⊥) → get_or (without name n o c) x 0 ≡ get_or c x 0
  unfolding without
  without_keeps zero o c x h f = refl
  without_keeps (suc n) o c x h f =
      let e : get_or (One o c) x 0 ≡ get_or c x 0 = one_keeps o c x (omega arith) f in
      without_keeps n (suc o) (One o c) x (omega (arith, length_one o c)) (λ q. f (sym e ∙ q)) ∙ e

  without-outside : (n o : ℕ) (c : List ℕ) (x : ℕ) → (x < o) ⊎ (o + n ≤ x) → get_or (without name n o c) x 0 ≡ get_or c x 0
  unfolding without
  without-outside zero o c x h = refl
  without-outside (suc n) o c x (inl h) = without-outside n (suc o) (One o c) x (inl (omega arith)) ∙ one_other o c x (λ q. omega arith)
  without-outside (suc n) o c x (inr h) = without-outside n (suc o) (One o c) x (inr (omega arith)) ∙ one_other o c x (λ q. omega arith)

  without-loses : (n o : ℕ) (c : List ℕ) (x : ℕ) → o + n ≤ length c → o ≤ x → x < o + n → get_or c x 0 ≡ name → get_or (without name n o c) x 0 ≡ 0
  unfolding without
  without-loses zero o c x h a b e = absurd (omega arith)
  without-loses (suc n) o c x h a b e = go (le_cases o x a) (λ d q. without-loses n (suc o) (One o c) x (omega (arith, length_one o c)) d (omega arith) q)
    where
      go : (x ≡ o) ⊎ (suc o ≤ x) → (suc o ≤ x → get_or (One o c) x 0 ≡ name → get_or (without name n (suc o) (One o c)) x 0 ≡ 0) → get_or (without name n (suc o) (One o c)) x 0 ≡ 0
      go (inl q) ih = without-outside n (suc o) (One o c) x (inl (omega arith)) ∙ rw q (one_loses o c (omega arith) (rw q at e))
      go (inr d) ih = ih d (one_other o c x (λ q. omega arith) ∙ e)

-- what a record takes
module _ (c : List ℕ) (r : Record) (long : length c ≡ 256) (small : end_of r ≤ 255) where
  taken-long : (t : Bool) → length (taken t c r) ≡ 256
  unfolding taken
  taken-long false = long
  taken-long true = length_without (suc r.start) (suc r.span) r.start c ∙ long

  taken-loses : (t : Bool) → t ≡ true → (x : ℕ) → r.start ≤ x → x ≤ end_of r → get_or c x 0 ≡ suc r.start → get_or (taken t c r) x 0 ≡ 0
  unfolding taken
  taken-loses false e x a b q = absurd (true≢false (sym e))
  taken-loses true e x a b q = without-loses (suc r.start) (suc r.span) r.start c x (omega arith) a (omega arith) q

  -- an owner that the record took
  record Took (t : Bool) (x : ℕ) : Type 0 where
    is : t ≡ true
    named : get_or c x 0 ≡ suc r.start
    low : r.start ≤ x
    high : x ≤ end_of r
    gone : get_or (taken t c r) x 0 ≡ 0

  took : (t : Bool) (x : ℕ) → (get_or (taken t c r) x 0 ≡ get_or c x 0) ⊎ Took t x
  unfolding taken
  took false x = inl refl
  took true x = go (leb r.start x) (leb x (end_of r)) (eqb (get_or c x 0) (suc r.start)) refl refl refl
    where
      go : (a b n : Bool) → leb r.start x ≡ a → leb x (end_of r) ≡ b → eqb (get_or c x 0) (suc r.start) ≡ n → (get_or (taken true c r) x 0 ≡ get_or c x 0) ⊎ Took true x
      go false b n p q e = let h : x < r.start = leb-false _ _ p in inl (without-outside (suc r.start) (suc r.span) r.start c x (inl h))
      go true false n p q e = let h : end_of r < x = leb-false _ _ q in inl (without-outside (suc r.start) (suc r.span) r.start c x (inr (omega arith)))
      go true true false p q e = inl (without_keeps (suc r.start) (suc r.span) r.start c x (omega arith) (eqb-false _ _ e))
      go true true true p q e =
          let a : r.start ≤ x = leb-true _ _ p in
          let b : x ≤ end_of r = leb-true _ _ q in
          let n : get_or c x 0 ≡ suc r.start = eqb-true _ _ e in
          inr (record { is = refl; named = n; low = a; high = b; gone = taken-loses true refl x a b n })

  took_none : (t : Bool) (x : ℕ) → get_or c x 0 ≡ 0 → get_or (taken t c r) x 0 ≡ 0
  took_none t x z = go (took t x)
    where
      go : (get_or (taken t c r) x 0 ≡ get_or c x 0) ⊎ Took t x → get_or (taken t c r) x 0 ≡ 0
      go (inl e) = e ∙ z
      go (inr k) = k.gone

-- the owners after the first slot's record
abbrev Next : List ℕ → Slot → List ℕ
Next c s = taken (approx s.held) c s.held

own_head : (c : List ℕ) (s : Slot) (l : List Slot) → own_ends c (s ∷ l) ≡ true → approx s.held ≡ true
    → (get_or c s.held.start 0 ≡ suc s.held.start) × (get_or c (end_of s.held) 0 ≡ suc s.held.start)
unfolding own_ends owns_ends
own_head c s l h a = go (approx s.held) a (and_l (owns_ends (approx s.held) c s.held) _ h)
  where
    go : (t : Bool) → t ≡ true → owns_ends t c s.held ≡ true → (get_or c s.held.start 0 ≡ suc s.held.start) × (get_or c (end_of s.held) 0 ≡ suc s.held.start)
    go false e k = absurd (true≢false (sym e))
    go true e k = (
      eqb-true _ _ (and_l (eqb (get_or c s.held.start 0) (suc s.held.start)) _ k),
      eqb-true _ _ (and_r (eqb (get_or c s.held.start 0) (suc s.held.start)) _ k),
    )

own_tail : (c : List ℕ) (s : Slot) (l : List Slot) → own_ends c (s ∷ l) ≡ true → own_ends (Next c s) l ≡ true
unfolding own_ends
own_tail c s l h = and_r (owns_ends (approx s.held) c s.held) _ h

-- a record of the slots that takes offset o, and starts at x
pub record Taker (x o : ℕ) (l : List Slot) : Type 0 where
  pub slot : Slot
  pub among : In slot l
  pub kind : approx slot.held ≡ true
  pub starts : slot.held.start ≡ x
  pub low : slot.held.start ≤ o
  pub high : o ≤ end_of slot.held

-- the owners c by an owner for each offset, or 0 where it is taken
abbrev Sub : (ℕ → ℕ) → List ℕ → Type 0
Sub w c = (x : ℕ) → x < 256 → (get_or c x 0 ≡ 0) ⊎ (get_or c x 0 ≡ w x)

sub_next : (w : ℕ → ℕ) (c : List ℕ) (s : Slot) → length c ≡ 256 → end_of s.held ≤ 255 → Sub w c → Sub w (Next c s)
sub_next w c s n m u x lt = go (took c s.held n m (approx s.held) x) (u x lt)
  where
    go : (get_or (Next c s) x 0 ≡ get_or c x 0) ⊎ Took c s.held n m (approx s.held) x → (get_or c x 0 ≡ 0) ⊎ (get_or c x 0 ≡ w x) → (get_or (Next c s) x 0 ≡ 0) ⊎ (get_or (Next c s) x 0 ≡ w x)
    go (inl e) (inl z) = inl (e ∙ z)
    go (inl e) (inr q) = inr (e ∙ q)
    go (inr k) v = inl k.gone

-- an offset with no owner keeps none, and no approximate record that passes starts there
pub left_none : (c : List ℕ) (l : List Slot) → length c ≡ 256 → Small l → (x : ℕ) → get_or c x 0 ≡ 0 → get_or (left_by c l) x 0 ≡ 0
unfolding left_by
left_none c [] n m x z = z
left_none c (s ∷ l) n m x z =
    left_none (Next c s) l (taken-long c s.held n (m s here) (approx s.held)) (λ t i. m t (there i)) x (took_none c s.held n (m s here) (approx s.held) x z)

no_start : (c : List ℕ) (l : List Slot) → length c ≡ 256 → Small l → own_ends c l ≡ true → (t : Slot) → In t l → approx t.held ≡ true → get_or c t.held.start 0 ≡ 0 → ⊥
no_start c [] n m h t i a z = elim i [ ]
no_start c (s ∷ l) n m h t here a z = omega (arith, (own_head c s l h a).0)
no_start c (s ∷ l) n m h t (there i) a z =
    no_start (Next c s) l (taken-long c s.held n (m s here) (approx s.held)) (λ u j. m u (there j)) (own_tail c s l h) t i a (took_none c s.held n (m s here) (approx s.held) t.held.start z)

-- so no two starts are one
pub fresh_of : (c : List ℕ) (l : List Slot) → length c ≡ 256 → Small l → own_ends c l ≡ true → Fresh l
fresh_of c [] n m h = tt
fresh_of c (s ∷ l) n m h = (apart, fresh_of (Next c s) l long (λ t i. m t (there i)) (own_tail c s l h))
  where
    long : length (Next c s) ≡ 256
    long = taken-long c s.held n (m s here) (approx s.held)

    apart : (t : Slot) → In t l → Alike s t → ⊥
    apart t i a =
        let z : get_or (Next c s) s.held.start 0 ≡ 0 =
        taken-loses c s.held n (m s here) (approx s.held) a.one s.held.start (omega arith) (omega arith) (own_head c s l h a.one).0 in
        no_start (Next c s) l long (λ u j. m u (there j)) (own_tail c s l h) t i a.other (ap (λ (x : ℕ). get_or (Next c s) x 0) (sym a.starts) ∙ z)

-- each approximate record that passes owns its ends
pub ends_of : (w : ℕ → ℕ) (c : List ℕ) (l : List Slot) → length c ≡ 256 → Small l → Sub w c → own_ends c l ≡ true → (t : Slot) → In t l → approx t.held ≡ true
    → (w t.held.start ≡ suc t.held.start) × (w (end_of t.held) ≡ suc t.held.start)
ends_of w c [] n m u h t i a = elim i [ ]
ends_of w c (s ∷ l) n m u h t here a =
    let q = own_head c s l h a in
    let b : end_of s.held ≤ 255 = m s here in
    (own s.held.start (u s.held.start (omega arith)) q.0, own (end_of s.held) (u (end_of s.held) (omega arith)) q.1)
  where
    own : (x : ℕ) → (get_or c x 0 ≡ 0) ⊎ (get_or c x 0 ≡ w x) → get_or c x 0 ≡ suc s.held.start → w x ≡ suc s.held.start
    own x (inl z) q = absurd (omega arith)
    own x (inr e) q = sym e ∙ q
ends_of w c (s ∷ l) n m u h t (there i) a =
    ends_of w (Next c s) l (taken-long c s.held n (m s here) (approx s.held)) (λ x j. m x (there j)) (sub_next w c s n (m s here) u) (own_tail c s l h) t i a

-- an owner that is gone in the end was taken by the record that it names
pub taken_by_lem : (c : List ℕ) (l : List Slot) → length c ≡ 256 → Small l → (x o : ℕ) → get_or c o 0 ≡ suc x → get_or (left_by c l) o 0 ≡ 0 → Taker x o l
unfolding left_by
taken_by_lem c [] n m x o e z = absurd (omega arith)
taken_by_lem c (s ∷ l) n m x o e z =
    go (took c s.held n (m s here) (approx s.held) o) (λ q. taken_by_lem (Next c s) l (taken-long c s.held n (m s here) (approx s.held)) (λ t i. m t (there i)) x o q z)
  where
    go : (get_or (Next c s) o 0 ≡ get_or c o 0) ⊎ Took c s.held n (m s here) (approx s.held) o → (get_or (Next c s) o 0 ≡ suc x → Taker x o l) → Taker x o (s ∷ l)
    go (inl q) ih = let t = ih (q ∙ e) in record { slot = t.slot; among = there t.among; kind = t.kind; starts = t.starts; low = t.low; high = t.high }
    go (inr k) ih = record { slot = s; among = here; kind = k.is; starts = omega (arith, k.named); low = k.low; high = k.high }

-- an approximate record takes the owners in its range that name it
pub left_gone : (c : List ℕ) (l : List Slot) → length c ≡ 256 → Small l → (t : Slot) → In t l → approx t.held ≡ true → (o : ℕ) → t.held.start ≤ o → o ≤ end_of t.held
    → (get_or c o 0 ≡ 0) ⊎ (get_or c o 0 ≡ suc t.held.start) → get_or (left_by c l) o 0 ≡ 0
unfolding left_by
left_gone c [] n m t i a o low high v = elim i [ ]
left_gone c (s ∷ l) n m t here a o low high v =
    left_none (Next c s) l (taken-long c s.held n (m s here) (approx s.held)) (λ u i. m u (there i)) o (go v)
  where
    go : (get_or c o 0 ≡ 0) ⊎ (get_or c o 0 ≡ suc s.held.start) → get_or (Next c s) o 0 ≡ 0
    go (inl z) = took_none c s.held n (m s here) (approx s.held) o z
    go (inr q) = taken-loses c s.held n (m s here) (approx s.held) a o low high q
left_gone c (s ∷ l) n m t (there i) a o low high v =
    left_gone (Next c s) l (taken-long c s.held n (m s here) (approx s.held)) (λ u j. m u (there j)) t i a o low high (go (took c s.held n (m s here) (approx s.held) o) v)
  where
    go : (get_or (Next c s) o 0 ≡ get_or c o 0) ⊎ Took c s.held n (m s here) (approx s.held) o → (get_or c o 0 ≡ 0) ⊎ (get_or c o 0 ≡ suc t.held.start) → (get_or (Next c s) o 0 ≡ 0) ⊎ (get_or (Next c s) o 0 ≡ suc t.held.start)
    go (inl e) (inl z) = inl (e ∙ z)
    go (inl e) (inr q) = inr (e ∙ q)
    go (inr k) u = inl k.gone

-- the ends pass where no two starts are one and each approximate record owns its ends
pub owns_all : (c : List ℕ) (l : List Slot) → length c ≡ 256 → Small l → Fresh l
    → ((t : Slot) → In t l → approx t.held ≡ true → (get_or c t.held.start 0 ≡ suc t.held.start) × (get_or c (end_of t.held) 0 ≡ suc t.held.start)) → own_ends c l ≡ true
unfolding own_ends owns_ends
owns_all c [] n m f e = refl
owns_all c (s ∷ l) n m f e =
    and_i _ _ (go (approx s.held) (e s here)) (owns_all (Next c s) l (taken-long c s.held n (m s here) (approx s.held)) (λ t i. m t (there i)) f.1 (λ t i a. (later t i a t.held.start (e t (there i) a).0, later t i a (end_of t.held) (e t (there i) a).1)))
  where
    go : (t : Bool) → (t ≡ true → (get_or c s.held.start 0 ≡ suc s.held.start) × (get_or c (end_of s.held) 0 ≡ suc s.held.start)) → owns_ends t c s.held ≡ true
    go false x = refl
    go true x = and_i _ _ (eq-eqb _ _ (x refl).0) (eq-eqb _ _ (x refl).1)

    later : (t : Slot) → In t l → approx t.held ≡ true → (x : ℕ) → get_or c x 0 ≡ suc t.held.start → get_or (Next c s) x 0 ≡ suc t.held.start
    later t i a x q = at (took c s.held n (m s here) (approx s.held) x)
      where
        at : (get_or (Next c s) x 0 ≡ get_or c x 0) ⊎ Took c s.held n (m s here) (approx s.held) x → get_or (Next c s) x 0 ≡ suc t.held.start
        at (inl d) = d ∙ q
        at (inr k) = absurd (f.0 t i (record { one = k.is; other = a; starts = omega (arith, k.named) }))
