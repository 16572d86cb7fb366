-- A record without some of its members: which are left, and that word and intercept stay. Assumes nothing.
use mathlib.Core.Path.{◌≡◌, refl, sym, ◌∙◌, ap}
use mathlib.Core.List.{List, [], ◌∷◌}
use mathlib.Core.Option.{Option, none, some}
use mathlib.Core.Bool.{Bool, true, false, not, ◌&&◌}
use Prim.Native.Nat.{ℕ, ◌+◌, ◌-◌, ◌%◌, ◌≤◌, ◌<◌}
use native.Mathlib.Omega.{arith}
use native.Mathlib.Nat.{mod-eq-zero_of_dvd, dvd_of_mod-eq-zero, dvd-add, dvd-sub}
use lib.Dec.{leb}
use borrow.Author.Tests.{leb-true, eqb-true, eq-eqb, le-leb}
use Rattle.model.specs.Lists.{elem, last_of, select}
use Rattle.model.specs.Record.{Record, Kind, single, accurate, approximate, kind, is_approximate, end, covers, member_as, member}
use Rattle.model.specs.Levels.{shrunk_to, shrunk_to_any, shrink}
use Rattle.model.proofs.Bools.{and_l, and_r, and_i}
use Rattle.model.proofs.Lists.{Picked, picked, Asc, asc_select, asc_head, asc_top, last_elem, elem_here, no_elem}

-- o is on the stride d of r
pub record On (d : ℕ) (r : Record) (o : ℕ) : Type 0 where
  pub low : r.start ≤ o
  pub high : o ≤ end r
  pub step : (o - r.start) % d ≡ 0

pub on_of : (d : ℕ) (r : Record) (o : ℕ) → member_as (accurate d) r o ≡ true → On d r o
unfolding member_as covers
on_of d r o h =
    let c : (leb r.start o && leb o (end r)) ≡ true = and_l (leb r.start o && leb o (end r)) _ h in
    record {
      low = leb-true _ _ (and_l (leb r.start o) _ c);
      high = leb-true _ _ (and_r (leb r.start o) _ c);
      step = eqb-true _ _ (and_r (leb r.start o && leb o (end r)) _ h);
    }

pub of_on : (d : ℕ) (r : Record) (o : ℕ) → On d r o → member_as (accurate d) r o ≡ true
unfolding member_as covers
of_on d r o h = and_i _ _ (and_i _ _ (le-leb _ _ h.low) (le-leb _ _ h.high)) (eq-eqb _ _ h.step)

-- between two members of a stride, the stride from the first is the stride
step_sum : (a b c d : ℕ) → a ≤ b → b ≤ c → (b - a) % d ≡ 0 → (c - b) % d ≡ 0 → (c - a) % d ≡ 0
step_sum a b c d h k p q =
    let e : c - a ≡ (b - a) + (c - b) = omega arith in
    rw e (mod-eq-zero_of_dvd d (dvd-add d (dvd_of_mod-eq-zero d p) (dvd_of_mod-eq-zero d q)))

pub step-sub : (a b c d : ℕ) → a ≤ b → b ≤ c → (b - a) % d ≡ 0 → (c - a) % d ≡ 0 → (c - b) % d ≡ 0
step-sub a b c d h k p q =
    let e : c - b ≡ (c - a) - (b - a) = omega arith in
    rw e (mod-eq-zero_of_dvd d (dvd-sub d (dvd_of_mod-eq-zero d q) (dvd_of_mod-eq-zero d p)))

-- a record's kind is its word's
pub member_as_lem : (r : Record) (k : Kind) (o : ℕ) → kind r ≡ k → member r o ≡ member_as k r o
unfolding member
member_as_lem r k o e = rw e refl

-- the record's range holds its members
abbrev pub Within : Record → Type 0
Within r = (o : ℕ) → member r o ≡ true → (r.start ≤ o) × (o ≤ end r)

-- s is r without the members that pass the test; its ends are members of r that don't
pub record Shrunk (lost : ℕ → Bool) (r s : Record) : Type 0 where
  pub word : s.word ≡ r.word
  pub intercept : s.intercept ≡ r.intercept
  pub sub : (o : ℕ) → member s o ≡ true → member r o ≡ true
  pub rest : (o : ℕ) → o < 256 → member r o ≡ true → lost o ≡ false → member s o ≡ true
  pub range : Within r → (r.start ≤ s.start) × (end s ≤ end r) × Within s
  pub first : (member r s.start ≡ true) × (lost s.start ≡ false) × (s.start < 256)
  pub last : (member r (end s) ≡ true) × (lost (end s) ≡ false) × (end s < 256)

module _ (lost : ℕ → Bool) (r : Record) (f : ℕ) (l : List ℕ) (p : Picked (λ o. member r o && not (lost o)) 256 0 (f ∷ l)) (a : Asc 0 (f ∷ l)) where
  spared : (o : ℕ) (t : Bool) → lost o ≡ t → (member r o && not t) ≡ true → t ≡ false
  spared o true e h = sym (and_r (member r o) false h)
  spared o false e h = refl

  picks : (o : ℕ) → elem o (f ∷ l) ≡ true → (member r o ≡ true) × (lost o ≡ false) × (o < 256)
  picks o h =
      let q = p.only o h in
      (and_l (member r o) _ q.0, spared o (lost o) refl q.0, omega (arith, q.2))

  first_in : (member r f ≡ true) × (lost f ≡ false) × (f < 256)
  first_in = picks f (elem_here f l)

  last_in : (member r (last_of f l) ≡ true) × (lost (last_of f l) ≡ false) × (last_of f l < 256)
  last_in = picks (last_of f l) (last_elem f l)

  ends : f ≤ last_of f l
  ends = asc_head a (last_of f l) (last_elem f l)

  kept : (o : ℕ) → o < 256 → member r o ≡ true → lost o ≡ false → elem o (f ∷ l) ≡ true
  kept o h k n = p.every o (omega arith) (omega arith) (and_i _ _ k (ap not n))

  owned_of_lem : (o c : ℕ) → kind r ≡ approximate c → member (shrunk_to r f l) o ≡ elem o (f ∷ l)
  unfolding shrunk_to member_as is_approximate
  owned_of_lem o c e =
      member_as_lem (shrunk_to r f l) (approximate c) o e ∙ ap (λ (k : Kind). elem o (elim (is_approximate k) [ true ↦ f ∷ l | false ↦ [] ])) e

  sub_of : (o : ℕ) (k : Kind) → kind r ≡ k → member (shrunk_to r f l) o ≡ true → member r o ≡ true
  unfolding shrunk_to member_as
  sub_of o single e h =
      let q : o ≡ f = eqb-true o f (sym (member_as_lem (shrunk_to r f l) single o e) ∙ h) in
      rw q first_in.0
  sub_of o (accurate d) e h =
      let i : On d (shrunk_to r f l) o = on_of d _ o (sym (member_as_lem (shrunk_to r f l) (accurate d) o e) ∙ h) in
      let j : On d r f = on_of d r f (sym (member_as_lem r (accurate d) f e) ∙ first_in.0) in
      let k : On d r (last_of f l) = on_of d r _ (sym (member_as_lem r (accurate d) (last_of f l) e) ∙ last_in.0) in
      let low : f ≤ o = i.low in
      let high : o ≤ f + (last_of f l - f) = i.high in
      member_as_lem r (accurate d) o e ∙ of_on d r o (record {
        low = omega (arith, j.low);
        high = omega (arith, ends, k.high);
        step = step_sum r.start f o d j.low low j.step i.step;
      })
  sub_of o (approximate c) e h = (picks o (sym (owned_of_lem o c e) ∙ h)).0

  rest_of : (o : ℕ) (k : Kind) → kind r ≡ k → o < 256 → member r o ≡ true → lost o ≡ false → member (shrunk_to r f l) o ≡ true
  unfolding shrunk_to member_as
  rest_of o single e b h n =
      let i : o ≡ r.start = eqb-true _ _ (sym (member_as_lem r single o e) ∙ h) in
      let j : f ≡ r.start = eqb-true _ _ (sym (member_as_lem r single f e) ∙ first_in.0) in
      member_as_lem (shrunk_to r f l) single o e ∙ eq-eqb o f (i ∙ sym j)
  rest_of o (accurate d) e b h n =
      let c : elem o (f ∷ l) ≡ true = kept o b h n in
      let i : On d r o = on_of d r o (sym (member_as_lem r (accurate d) o e) ∙ h) in
      let j : On d r f = on_of d r f (sym (member_as_lem r (accurate d) f e) ∙ first_in.0) in
      let u : f ≤ o = asc_head a o c in
      let v : o ≤ last_of f l = asc_top a o c in
      member_as_lem (shrunk_to r f l) (accurate d) o e ∙ of_on d _ o (record { low = u; high = omega arith; step = step-sub r.start f o d j.low u j.step i.step })
  rest_of o (approximate c) e b h n = owned_of_lem o c e ∙ kept o b h n

  within_of : (o : ℕ) (k : Kind) → kind r ≡ k → member (shrunk_to r f l) o ≡ true → (f ≤ o) × (o ≤ f + (last_of f l - f))
  unfolding shrunk_to member_as
  within_of o single e h =
      let q : o ≡ f = eqb-true o f (sym (member_as_lem (shrunk_to r f l) single o e) ∙ h) in
      (omega arith, omega arith)
  within_of o (accurate d) e h =
      let i : On d (shrunk_to r f l) o = on_of d _ o (sym (member_as_lem (shrunk_to r f l) (accurate d) o e) ∙ h) in
      (i.low, i.high)
  within_of o (approximate c) e h =
      let i : elem o (f ∷ l) ≡ true = sym (owned_of_lem o c e) ∙ h in
      let u : f ≤ o = asc_head a o i in
      let v : o ≤ last_of f l = asc_top a o i in
      (u, omega arith)

  shrunk_of : Shrunk lost r (shrunk_to r f l)
  unfolding shrunk_to
  shrunk_of =
      let e : f + (last_of f l - f) ≡ last_of f l = omega (arith, ends) in
      record {
        word = refl;
        intercept = refl;
        sub = λ o h. sub_of o (kind r) refl h;
        rest = λ o h k n. rest_of o (kind r) refl h k n;
        range = λ w. ((w f first_in.0).0, omega (arith, ends, (w (last_of f l) last_in.0).1), λ o h. within_of o (kind r) refl h);
        first = first_in;
        last = rw e last_in;
      }

-- What comes of shrinking: nothing is left, or a shrunk record is.
pub data Outcome (lost : ℕ → Bool) (r : Record) : Option Record → Type 0 where
  gone : ((o : ℕ) → o < 256 → member r o ≡ true → lost o ≡ true) → Outcome lost r none
  left : {s : Record} → Shrunk lost r s → Outcome lost r (some s)

pub shrink-outcome : (lost : ℕ → Bool) (r : Record) → Outcome lost r (shrink lost r)
unfolding shrink shrunk_to_any
shrink-outcome lost r = go (select (λ o. member r o && not (lost o)) 256 0) (picked _ 256 0) (asc_select _ 256 0)
  where
    nothing : (o : ℕ) (t : Bool) → member r o ≡ true → lost o ≡ t → Picked (λ o. member r o && not (lost o)) 256 0 [] → o < 256 → t ≡ true
    nothing o true h q p k = refl
    nothing o false h q p k = no_elem o (p.every o (omega arith) (omega arith) (and_i _ _ h (ap not q)))

    go : (l : List ℕ) → Picked (λ o. member r o && not (lost o)) 256 0 l → Asc 0 l → Outcome lost r (shrunk_to_any r l)
    go [] p a = gone (λ o k h. nothing o (lost o) h refl p k)
    go (f ∷ l) p a = left (shrunk_of lost r f l p a)
