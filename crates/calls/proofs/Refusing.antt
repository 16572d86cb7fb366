-- The first refusal that applies: what is known of a call's checks where it is refused, and where it isn't. Assumes nothing.
use mathlib.Core.Path.{◌≡◌, refl, sym, ◌∙◌, ap, subst}
use mathlib.Core.List.{List, [], ◌∷◌, ◌++◌}
use mathlib.Core.Option.{Option, none, some}
use mathlib.Core.Logic.{◌⊎◌, inl, inr}
use mathlib.Core.Bool.{Bool, true, false}
use Prim.Native.Nat.{ℕ, zero, suc}
use native.Mathlib.Omega.{arith}
use lib.Dec.{eqb}
use lib.ListN.{length, drop}
use borrow.Author.Tests.{eq-eqb, ne_eqb, eqb-true, not-false}
use Rattle.model.specs.Lists.{or_else}
use Rattle.calls.specs.Refusals.{Refusal, refusal_number, Check, first_refusal, wrong_length}
use Rattle.calls.specs.Outcome.{Answer, formatted, flushed, found, not_written, discarded, collected, compacted, agreed, listed, explained, refused, number, accepted}

-- no check applies
abbrev pub Clear : List Check → Type 0
Clear [] = Unit
Clear (c ∷ cs) = (c.applies ≡ false) × Clear cs

-- this check is the one that refuses, or none up to it applies and one of the others is
abbrev pub or_later : Bool → Bool → Type 0 → Type 0
or_later true applies others = (applies ≡ true) ⊎ ((applies ≡ false) × others)
or_later false applies others = (applies ≡ false) × others

-- a check for this refusal applies, and none before it
abbrev pub Stopped : Refusal → List Check → Type 0
Stopped r [] = ⊥
Stopped r (c ∷ cs) = or_later (eqb (refusal_number c.refusal) (refusal_number r)) c.applies (Stopped r cs)

-- A check that applies is the answer ..
pub stops : (c : Check) (cs : List Check) → c.applies ≡ true → first_refusal (c ∷ cs) ≡ some c.refusal
unfolding first_refusal or_else
stops c cs e = rw e

-- .. and one that doesn't leaves it to the others.
pub goes_on_lem : (c : Check) (cs : List Check) → c.applies ≡ false → first_refusal (c ∷ cs) ≡ first_refusal cs
unfolding first_refusal or_else
goes_on_lem c cs e = rw e

-- What is refused is not nothing.
pub none_some : {A : Type 0} {B : Type 0} {a : A} → ◌≡◌ {A = Option A} none (some a) → B
none_some e = let z : ◌≡◌ {A = ℕ} 0 1 = cc in absurd (omega arith)

-- The first n checks don't apply.
abbrev pub ClearTo : ℕ → List Check → Type 0
ClearTo zero cs = Unit
ClearTo (suc n) [] = Unit
ClearTo (suc n) (c ∷ cs) = (c.applies ≡ false) × ClearTo n cs

-- The law of a call's checks: behind those that don't apply, the others decide.
pub decides : (n : ℕ) (cs : List Check) → ClearTo n cs → first_refusal cs ≡ first_refusal (drop n cs)
decides zero cs p = refl
decides (suc n) [] p = refl
decides (suc n) (c ∷ cs) p = goes_on_lem c cs p.0 ∙ decides n cs p.1

-- So check n is the answer where it applies ..
pub refuses_at : (n : ℕ) {c : Check} {later : List Check} (cs : List Check) → drop n cs ≡ c ∷ later → ClearTo n cs → c.applies ≡ true → first_refusal cs ≡ some c.refusal
refuses_at n {c = c} {later = later} cs e p a = decides n cs p ∙ ap first_refusal e ∙ stops c later a

-- .. and the checks before are what they are, whatever stands behind them.
pub front-refuses : (cs ds : List Check) {r : Refusal} → first_refusal cs ≡ some r → first_refusal (cs ++ ds) ≡ some r
unfolding first_refusal or_else
front-refuses [] ds e = none_some e
front-refuses (c ∷ cs) ds {r = r} e = go c.applies refl (front-refuses cs ds)
  where
    go : (t : Bool) → c.applies ≡ t → (first_refusal cs ≡ some r → first_refusal (cs ++ ds) ≡ some r) → first_refusal (c ∷ (cs ++ ds)) ≡ some r
    go true q ih = stops c (cs ++ ds) q ∙ sym (stops c cs q) ∙ e
    go false q ih = goes_on_lem c (cs ++ ds) q ∙ ih (sym (goes_on_lem c cs q) ∙ e)

-- Where no check applies, nothing is refused.
pub is_clear : (cs : List Check) → Clear cs → first_refusal cs ≡ none
unfolding first_refusal
is_clear [] p = refl
is_clear (c ∷ cs) p = goes_on_lem c cs p.0 ∙ is_clear cs p.1

-- Where nothing is refused, no check applies.
pub clears : (cs : List Check) → first_refusal cs ≡ none → Clear cs
unfolding first_refusal or_else
clears [] e = tt
clears (c ∷ cs) e = go c.applies refl (clears cs)
  where
    go : (t : Bool) → c.applies ≡ t → (first_refusal cs ≡ none → Clear cs) → Clear (c ∷ cs)
    go true q ih = let z : ◌≡◌ {A = ℕ} 0 1 = (let y : or_else true c.refusal (first_refusal cs) ≡ none = rw q at e in cc) in absurd (omega arith)
    go false q ih = (q, ih (rw q at e))

-- Behind a list of checks none of which applies, another list decides.
pub others_decide : (cs ds : List Check) → first_refusal cs ≡ none → first_refusal (cs ++ ds) ≡ first_refusal ds
others_decide cs ds e = go cs (clears cs e)
  where
    go : (cs : List Check) → Clear cs → first_refusal (cs ++ ds) ≡ first_refusal ds
    go [] p = refl
    go (c ∷ cs) p = goes_on_lem c (cs ++ ds) p.0 ∙ go cs p.1

-- Where this is refused, a check for it applies, and none before that one.
pub stopped : (r : Refusal) (cs : List Check) → first_refusal cs ≡ some r → Stopped r cs
unfolding first_refusal or_else
stopped r [] e = let z : ◌≡◌ {A = ℕ} 0 1 = cc in absurd (omega arith)
stopped r (c ∷ cs) e = go c.applies refl (stopped r cs)
  where
    later : (t : Bool) → c.applies ≡ false → Stopped r cs → or_later t c.applies (Stopped r cs)
    later true q a = inr (q, a)
    later false q a = (q, a)

    go : (t : Bool) → c.applies ≡ t → (first_refusal cs ≡ some r → Stopped r cs) → Stopped r (c ∷ cs)
    go true q ih =
        let y : or_else true c.refusal (first_refusal cs) ≡ some r = rw q at e in
        let z : c.refusal ≡ r = cc in
        subst (λ (t : Bool). or_later t c.applies (Stopped r cs)) (sym (eq-eqb _ _ (ap refusal_number z))) (inl q)
    go false q ih = later (eqb (refusal_number c.refusal) (refusal_number r)) q (ih (rw q at e))

-- A slice of the right length hasn't a wrong one ..
pub right-length : (s : List ℕ) (n : ℕ) → length s ≡ n → wrong_length s n ≡ false
unfolding wrong_length
right-length s n e = rw (eq-eqb (length s) n e)

-- .. any other has ..
pub wrong_length_lem : (s : List ℕ) (n : ℕ) → (length s ≡ n → ⊥) → wrong_length s n ≡ true
unfolding wrong_length
wrong_length_lem s n e = rw (ne_eqb (length s) n e)

-- .. and one that hasn't is right.
pub length_is : (s : List ℕ) (n : ℕ) → wrong_length s n ≡ false → length s ≡ n
unfolding wrong_length
length_is s n e = eqb-true (length s) n (not-false (eqb (length s) n) e)

-- A refused call is not accepted.
pub refused_not_accepted : (r : Refusal) → accepted (refused r) ≡ false
unfolding accepted
refused_not_accepted r = refl

-- A call that answers another number than 0 is not accepted.
pub numbered-refused : (a : Answer) → (number a ≡ 0 → ⊥) → accepted a ≡ false
unfolding accepted number
numbered-refused formatted h = absurd (h refl)
numbered-refused (flushed p n) h = absurd (h refl)
numbered-refused (found p q n) h = absurd (h refl)
numbered-refused (not_written n) h = absurd (h refl)
numbered-refused discarded h = absurd (h refl)
numbered-refused (collected p n e) h = absurd (h refl)
numbered-refused (compacted n) h = absurd (h refl)
numbered-refused (agreed t) h = absurd (h refl)
numbered-refused (listed n) h = absurd (h refl)
numbered-refused (explained n) h = absurd (h refl)
numbered-refused (refused r) h = refl
