-- Lists picked from a row: each next place is written, and kept or not; what is not kept is settled. Assumes nothing.
use mathlib.Core.Path.{◌≡◌, refl, sym, ◌∙◌}
use mathlib.Core.List.{List}
use mathlib.Core.Logic.{◌⊎◌, inl, inr}
use mathlib.Core.Bool.{Bool, true, false, cond, ◌||◌}
use Prim.Native.Nat.{ℕ, zero, suc, ◌+◌, ◌≤◌, ◌<◌}
use native.Mathlib.Omega.{arith}
use lib.Dec.{ltb, eqb}
use lib.ListN.{length, get_or, set, length-set}
use lib.Seq.{get_or-set_same, get_or-set_other}
use borrow.Author.Tests.{ltb-true, ltb-false, eqb-true, eqb-false}
use Rattle.record.proofs.Renewing.{after-set}
use Rattle.model.specs.Device.{Device}
use Rattle.model.proofs.Bools.{or_none}
use Rattle.calls.specs.Lookup.{Looked}
use Rattle.calls.specs.Agreement.{is_named}
use Rattle.state.specs.Telling.{Tells, plainly}
use Rattle.lookup.specs.Agreeing.{ToldFrom, Listed, Picked, Settled}

module _ (settled : ℕ → Type 0) (row : ℕ → ℕ) where
  pub picked_start : (l : List ℕ) → Picked settled row 0 l 0
  picked_start l = record { few = omega arith; source = λ i. i; from = λ i a. absurd (omega arith); rest = λ j a. absurd (omega arith) }

  -- the next of the row is written, and kept if c is 1
  pub picked_turn : (l : List ℕ) (n end v c : ℕ) → Picked settled row end l n → n < length l → v ≡ row end → c ≤ 1 → (c ≡ 0 → settled (row end)) → Picked settled row (end + 1) (set l n v) (n + c)
  picked_turn l n end v c so inside is small left =
      record { few = omega (arith, so.few); source = λ i. cond (eqb i n) end (so.source i); from = λ i a. from i a (eqb i n) refl; rest = λ j a. rest j a (ltb j end) refl }
    where
      from : (i : ℕ) → i < n + c → (t : Bool) → eqb i n ≡ t → (cond t end (so.source i) < end + 1) × (get_or (set l n v) i 0 ≡ row (cond t end (so.source i)))
      from i a true e = let here : i ≡ n = eqb-true i n e in (omega arith, rw (here, get_or-set_same l n v 0 inside) is)
      from i a false e =
          let other = eqb-false i n e in
          let before : i < n = omega (arith, other) in
          (omega (arith, (so.from i before).0), get_or-set_other l n i v 0 other ∙ (so.from i before).1)

      stays : (j : ℕ) → settled (row j) ⊎ Listed l n (row j) → settled (row j) ⊎ Listed (set l n v) (n + c) (row j)
      stays j (inl s) = inl s
      stays j (inr k) = inr (record { place = k.place; inside = omega (arith, k.inside); is = get_or-set_other l n k.place v 0 (λ e. omega (arith, k.inside)) ∙ k.is })

      last : (k : ℕ) → k ≡ c → settled (row end) ⊎ Listed (set l n v) (n + c) (row end)
      last zero e = inl (left (sym e))
      last (suc k) e = inr (record { place = n; inside = omega arith; is = get_or-set_same l n v 0 inside ∙ is })

      rest : (j : ℕ) → j < end + 1 → (t : Bool) → ltb j end ≡ t → settled (row j) ⊎ Listed (set l n v) (n + c) (row j)
      rest j a true e = stays j (so.rest j (ltb-true j end e))
      rest j a false e = let past = ltb-false j end e in let here : j ≡ end = omega (arith, past) in rw here (last c refl)

-- two lookups that come to the page that their forecast says are settled
pub plainly_settled : (f : ℕ) (a b : Looked) → a ≡ plainly f → b ≡ plainly f → Settled a b
unfolding is_named
plainly_settled f a b e k = record { same = e ∙ sym k; named = rw e refl }

-- what a state says of an offset where it doesn't go astray
abbrev pub StraySo : Device → List ℕ → ℕ → List ℕ → ℕ → Bool → Type 0
StraySo d spare x forecasts o s = s ≡ false → (a : Looked) → Tells d spare (x + o) a (get_or forecasts o 0) → a ≡ plainly (get_or forecasts o 0)

module _ (d : Device) (spare : List ℕ) (d' : Device) (spare' : List ℕ) (x : ℕ) (forecasts held : List ℕ) (end : ℕ) where
  -- of the first i held offsets those are listed that go astray on either side, n of them
  pub record AstraySo (l : List ℕ) (n i : ℕ) : Type 0 where
    pub past : i ≤ end
    pub long : length l ≡ 257
    pub few : n ≤ i
    pub low : (j : ℕ) → j < n → get_or l j 0 < 256
    pub picked : (p q : ℕ → Looked) (m : ℕ) → ToldFrom d spare p x m forecasts → ToldFrom d' spare' q x m forecasts → ((j : ℕ) → j < end → get_or held j 0 < m)
        → Picked (λ o. Settled (p (x + o)) (q (x + o))) (λ j. get_or held j 0) i l n

  pub astray_start : (l : List ℕ) → length l ≡ 257 → AstraySo l 0 0
  astray_start l long = record { past = omega arith; long = long; few = omega arith; low = λ j a. absurd (omega arith); picked = λ p q m told told' below. picked_start _ _ l }

  pub astray_turn : (l : List ℕ) (n i c : ℕ) (s t : Bool) → AstraySo l n i → i < end → n < length l → get_or held i 0 < 256 → StraySo d spare x forecasts (get_or held i 0) s → StraySo d' spare' x forecasts (get_or held i 0) t
      → c ≤ 1 → (c ≡ 0 → (s || t) ≡ false) → AstraySo (set l n (get_or held i 0)) (n + c) (i + 1)
  astray_turn l n i c s t so a inside small first second one both = record {
    past = omega arith;
    long = length-set l n _ ∙ so.long;
    few = omega (arith, so.few);
    low = λ j b. after-set (λ v. v < 256) l n j _ 0 inside (λ _. small) (λ other. so.low j (omega (arith, other)));
    picked = λ p q m told told' below.
        let o = get_or held i 0 in
        picked_turn _ _ l n i o c (so.picked p q m told told' below) inside refl one
        (λ e. plainly_settled (get_or forecasts o 0) _ _ (first (or_none s t (both e)).0 (p (x + o)) (told o (below i a))) (second (or_none s t (both e)).1 (q (x + o)) (told' o (below i a))));
  }
