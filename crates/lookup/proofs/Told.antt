-- Some logical pages of two states compared: a lookup that refuses 7, or the answer where none does. Those that are listed are looked up
-- one after the other; the others are settled. Assumes nothing.
use mathlib.Core.Path.{◌≡◌, refl, sym, ap, ◌∙◌}
use mathlib.Core.List.{List}
use mathlib.Core.Logic.{◌⊎◌, inl, inr}
use mathlib.Core.Bool.{Bool, true, false, ◌&&◌, true≢false}
use Prim.Native.Nat.{ℕ, ◌+◌, ◌<◌}
use native.Mathlib.Omega.{arith}
use lib.Dec.{eqb}
use lib.ListN.{get_or}
use borrow.Author.Tests.{eqb-true, eqb-false, eq-eqb}
use Rattle.model.proofs.Bools.{and_i}
use Rattle.calls.specs.Refusals.{not_named}
use Rattle.calls.specs.Outcome.{agreed, refused}
use Rattle.calls.specs.Lookup.{Looked, at, nowhere, unnamed}
use Rattle.calls.specs.Agreement.{each_below, is_named, found_so, missed_so, alike}
use Rattle.calls.proofs.Agreeing.{each_below_lem}
use Rattle.lookup.specs.Agreeing.{compared_from, Listed, Settled, Left}
use Rattle.lookup.proofs.Each.{each_not}

-- a lookup that doesn't refuse 7 is like itself
pub alike_self : (a : Looked) → is_named a ≡ true → alike a a ≡ true
unfolding is_named alike found_so missed_so
alike_self (at p q n) e = and_i _ _ (and_i _ _ (eq-eqb p p refl) (eq-eqb q q refl)) (eq-eqb n n refl)
alike_self (nowhere n) e = eq-eqb n n refl
alike_self unnamed e = absurd (true≢false (sym e))

module _ (p q : ℕ → Looked) (x m : ℕ) where
  abbrev pub alike_from : ℕ → Bool
  alike_from o = alike (p (x + o)) (q (x + o))

  -- a lookup refuses 7 ..
  pub first_refuses : (o : ℕ) → o < m → is_named (p (x + o)) ≡ false → refused not_named ≡ compared_from p q x m
  unfolding compared_from
  first_refuses o h e = rw (each_not m o (λ y. is_named (p (x + y))) h e, compared_from)

  pub second-refuses : (o : ℕ) → o < m → is_named (q (x + o)) ≡ false → refused not_named ≡ compared_from p q x m
  unfolding compared_from
  second-refuses o h e = go (each_below m (λ y. is_named (p (x + y)))) refl
    where
      go : (t : Bool) → each_below m (λ y. is_named (p (x + y))) ≡ t → refused not_named ≡ compared_from p q x m
      go true f = rw (f, each_not m o (λ y. is_named (q (x + y))) h e, compared_from)
      go false f = rw (f, compared_from)

  -- .. or none does
  pub none_refuses : ((o : ℕ) → o < m → is_named (p (x + o)) ≡ true) → ((o : ℕ) → o < m → is_named (q (x + o)) ≡ true) → (t : Bool) → each_below m alike_from ≡ t → agreed t ≡ compared_from p q x m
  unfolding compared_from
  none_refuses e f t g = rw (each_below_lem m (λ o. is_named (p (x + o))) e, each_below_lem m (λ o. is_named (q (x + o))) f, g, compared_from)

  -- the first i of a list are named in both, and `same` says whether they are alike
  pub record ToldSo (l : List ℕ) (i : ℕ) (same : Bool) : Type 0 where
    pub named : (j : ℕ) → j < i → is_named (p (x + get_or l j 0)) ≡ true
    pub named' : (j : ℕ) → j < i → is_named (q (x + get_or l j 0)) ≡ true
    pub like : same ≡ true → (j : ℕ) → j < i → alike_from (get_or l j 0) ≡ true
    pub place : ℕ
    pub apart : same ≡ false → (place < i) × (alike_from (get_or l place 0) ≡ false)

  pub told-start : (l : List ℕ) → ToldSo l 0 true
  told-start l = record {
    named = λ j h. absurd (omega arith);
    named' = λ j h. absurd (omega arith);
    like = λ e j h. absurd (omega arith);
    place = 0;
    apart = λ e. absurd (true≢false e);
  }

  module _ (l : List ℕ) (i : ℕ) where
    -- what holds of those before i and of i holds of those before i + 1
    more : (P : ℕ → Type 0) → ((j : ℕ) → j < i → P j) → P i → (j : ℕ) → j < i + 1 → P j
    more P before here j h = go (eqb j i) refl
      where
        go : (t : Bool) → eqb j i ≡ t → P j
        go true e = let z : j ≡ i = eqb-true j i e in rw z here
        go false e = before j (omega (arith, eqb-false j i e))

    pub told-turn : (same t : Bool) → ToldSo l i same → is_named (p (x + get_or l i 0)) ≡ true → is_named (q (x + get_or l i 0)) ≡ true → t ≡ alike_from (get_or l i 0) → ToldSo l (i + 1) (same && t)
    told-turn true true so e f g = record {
      named = more (λ j. is_named (p (x + get_or l j 0)) ≡ true) so.named e;
      named' = more (λ j. is_named (q (x + get_or l j 0)) ≡ true) so.named' f;
      like = λ r. more (λ j. alike_from (get_or l j 0) ≡ true) (so.like refl) (sym g);
      place = 0;
      apart = λ r. absurd (true≢false r);
    }
    told-turn true false so e f g = record {
      named = more (λ j. is_named (p (x + get_or l j 0)) ≡ true) so.named e;
      named' = more (λ j. is_named (q (x + get_or l j 0)) ≡ true) so.named' f;
      like = λ r. absurd (true≢false (sym r));
      place = i;
      apart = λ r. (omega arith, sym g);
    }
    told-turn false t so e f g = record {
      named = more (λ j. is_named (p (x + get_or l j 0)) ≡ true) so.named e;
      named' = more (λ j. is_named (q (x + get_or l j 0)) ≡ true) so.named' f;
      like = λ r. absurd (true≢false (sym r));
      place = so.place;
      apart = λ r. let a = so.apart refl in (omega (arith, a.0), a.1);
    }

  -- all of the list were looked up
  module _ (l : List ℕ) (n : ℕ) (left : Left p q x m l n) where
    by : (P : ℕ → Type 0) → ((o : ℕ) → Settled (p (x + o)) (q (x + o)) → P o) → ((j : ℕ) → j < n → P (get_or l j 0)) → (o : ℕ) → o < m → P o
    by P settled listed o h = go (left.rest o h)
      where
        go : Settled (p (x + o)) (q (x + o)) ⊎ Listed l n o → P o
        go (inl s) = settled o s
        go (inr y) = rw (← y.is) (listed y.place y.inside)

    pub told-end : (same : Bool) → ToldSo l n same → agreed same ≡ compared_from p q x m
    told-end same so = none_refuses first second same (go same refl)
      where
        first : (o : ℕ) → o < m → is_named (p (x + o)) ≡ true
        first = by (λ o. is_named (p (x + o)) ≡ true) (λ o s. s.named) so.named

        second : (o : ℕ) → o < m → is_named (q (x + o)) ≡ true
        second = by (λ o. is_named (q (x + o)) ≡ true) (λ o s. ap is_named (sym s.same) ∙ s.named) so.named'

        go : (t : Bool) → same ≡ t → each_below m alike_from ≡ t
        go true e = each_below_lem m alike_from (by (λ o. alike_from o ≡ true) (λ o s. ap (alike (p (x + o))) (sym s.same) ∙ alike_self (p (x + o)) s.named) (so.like e))
        go false e = let a = so.apart e in each_not m (get_or l so.place 0) alike_from (left.low so.place a.0) a.1
