-- What a step of each search among the slots tells: where level 0 ends, which of its records end before an offset, and how many slots
-- are ahead. Assumes nothing.
use mathlib.Core.Path.{◌≡◌, refl, sym, ◌∙◌, ap}
use mathlib.Core.List.{List, [], ◌∷◌}
use mathlib.Core.Bool.{Bool, true, false}
use Prim.Native.Nat.{ℕ, zero, suc, ◌+◌, ◌-◌, ◌≤◌, ◌<◌}
use native.Mathlib.Omega.{arith}
use native.Mathlib.Numerals.{add-one}
use lib.Dec.{leb, ltb, eqb}
use lib.ListN.{length, get_or, take, drop, drop_of_length-le}
use lib.Seq.{drop-cons}
use borrow.Author.Tests.{eqb-true, eqb-false, ltb-true, ltb-false, leb-true, le-leb, lt-ltb, le-ltb, eq-eqb, ne_eqb}
use Rattle.model.specs.Lists.{all}
use Rattle.model.specs.Record as model
use Rattle.model.specs.Record.{end}
use Rattle.model.specs.Levels.{Level, Group, meets}
use Rattle.model.specs.Sound.{ordered}
use Rattle.model.proofs.Bools.{and_l, and_r, all_cons}
use Rattle.record.specs.declared.Record.{Record}
use Rattle.record.specs.Read.{as_record}
use Rattle.group.specs.declared.Slot.{Slot}
use Rattle.group.specs.Cutting.{flat_from}
use Rattle.group.specs.Held.{slot_for, slots_for}
use Rattle.group.specs.Answers.{no_slot}
use Rattle.insertion.specs.Slots as placed
use Rattle.insertion.specs.Searches.{Border, is_early}
use Rattle.insertion.specs.Turns.{ends_before, is_ahead, count_ahead, meets_first}
use Rattle.insertion.proofs.ListWrites.{all_at}
use Rattle.insertion.proofs.Count.{top-length, all_from}

-- a search by halves, from all numbers below n on
pub border_start : (t : ℕ → Bool) (n : ℕ) → Border t n 0 n
border_start t n = record { order = omega arith; inside = omega arith; below = λ h. absurd (let z : ⊥ = omega arith in z); above = λ h. absurd (let z : ⊥ = omega arith in z) }

-- a number in the middle passes the test or fails it
module _ (t : ℕ → Bool) (n low high : ℕ) (so : Border t n low high) (mid : ℕ) (from : low ≤ mid) (to : mid < high) where
  pub border_up : t mid ≡ true → Border t n (mid + 1) high
  border_up e = record { order = omega arith; inside = so.inside; below = λ h. let q : mid + 1 - 1 ≡ mid = omega arith in rw q e; above = so.above }

  pub border_down : t mid ≡ false → Border t n low mid
  border_down e = record { order = from; inside = omega (arith, so.inside); below = so.below; above = λ h. e }

-- level 0 doesn't end before place i, or not behind it
abbrev EndsFrom : List Slot → ℕ → Type 0
EndsFrom k i = (l : Level) (g : Group) → k ≡ slots_for (l ∷ g) → i ≤ length l

abbrev EndsBy : List Slot → ℕ → Type 0
EndsBy k i = (l : Level) (g : Group) → k ≡ slots_for (l ∷ g) → length l ≤ i

-- the slots of level 0 hold its records, and those behind them are of other levels
top-slot : (l : Level) (g : Group) (i : ℕ) → i < length l → get_or (slots_for (l ∷ g)) i no_slot ≡ slot_for (placed.slot 0 (get_or l i (placed.no_slot).item))
unfolding flat_from
top-slot [] g i h = absurd (omega arith)
top-slot (s ∷ l) g zero h = refl
top-slot (s ∷ l) g (suc i) h = top-slot l g i (omega arith)

level_in : (l : Level) (g : Group) (i : ℕ) → i < length (slots_for (l ∷ g)) → (get_or (slots_for (l ∷ g)) i no_slot).level ≡ 0 → i < length l
unfolding flat_from
level_in [] g i h e =
    let deeper : 1 ≤ (get_or (slots_for ([] ∷ g)) i no_slot).level = leb-true _ _ (all_at (λ (s : Slot). leb 1 s.level) (slots_for ([] ∷ g)) i no_slot h (all_from (λ (s : Slot). leb 1 s.level) 1 g (λ m r from to. le-leb 1 m from))) in
    absurd (omega arith)
level_in (s ∷ l) g zero h e = omega arith
level_in (s ∷ l) g (suc i) h e = omega (arith, level_in l g i (omega arith) e)

level_out : (l : Level) (g : Group) (i : ℕ) → ((get_or (slots_for (l ∷ g)) i no_slot).level ≡ 0 → ⊥) → length l ≤ i
unfolding flat_from
level_out [] g i n = omega arith
level_out (s ∷ l) g zero n = absurd (n refl)
level_out (s ∷ l) g (suc i) n = omega (arith, level_out l g i n)

ends-behind : (k : List Slot) (i : ℕ) → i < length k → (get_or k i no_slot).level ≡ 0 → EndsFrom k (i + 1)
ends-behind k i h e l g is = omega (arith, level_in l g i (rw is at h) (rw is at e))

ends_before_lem : (k : List Slot) (i : ℕ) → ((get_or k i no_slot).level ≡ 0 → ⊥) → EndsBy k i
ends_before_lem k i n l g is = level_out l g i (λ e. n (rw is e))

-- the number of slots of level 0 is where the test of their levels turns
pub level_found : (k : List Slot) (r : ℕ) → Border (λ i. eqb (get_or k i no_slot).level 0) (length k) r r → (l : Level) (g : Group) → k ≡ slots_for (l ∷ g) → r ≡ length l
level_found k r so l g is = omega (arith, from r so.below so.inside, by (ltb r (length k)) refl)
  where
    from : (x : ℕ) → (0 < x → eqb (get_or k (x - 1) no_slot).level 0 ≡ true) → x ≤ length k → x ≤ length l
    from zero b h = omega arith
    from (suc i) b h =
        let q : suc i - 1 ≡ i = omega arith in
        omega (arith, ends-behind k i (omega arith) (eqb-true _ _ (rw q at (b (omega arith)))) l g is)

    by : (t : Bool) → ltb r (length k) ≡ t → length l ≤ r
    by true e = ends_before_lem k r (eqb-false _ _ (so.above (ltb-true _ _ e))) l g is
    by false e = omega (arith, ltb-false r (length k) e, top-length l g, ap (λ (m : List Slot). length m) is)

-- in a level in order, records before one that ends before an offset end before it too
starts_from : (o : ℕ) (l : Level) (i : ℕ) (d : model.Record) → ordered o l ≡ true → i < length l → o ≤ (get_or l i d).start
unfolding ordered
starts_from o [] i d e h = absurd (omega arith)
starts_from o (s ∷ l) zero d e h = leb-true _ _ (and_l (leb o s.start) _ e)
starts_from o (s ∷ l) (suc i) d e h =
    let low : o ≤ s.start = leb-true _ _ (and_l (leb o s.start) _ e) in
    let later = starts_from (suc (end s)) l i d (and_r (leb o s.start) _ e) (omega arith) in
    omega arith

end_through : (start o : ℕ) (l : Level) (i : ℕ) (d : model.Record) → ordered o l ≡ true → i < length l → end (get_or l i d) < start → all (ends_before start) (take (suc i) l) ≡ true
unfolding ordered ends_before all
end_through start o [] i d e h k = refl
end_through start o (s ∷ l) zero d e h k = all_cons (ends_before start) s [] (lt-ltb _ _ k) refl
end_through start o (s ∷ l) (suc i) d e h k =
    let later = starts_from (suc (end s)) l i d (and_r (leb o s.start) _ e) (omega arith) in
    let first : end s < start = omega arith in
    all_cons (ends_before start) s (take (suc i) l) (lt-ltb _ _ first) (end_through start (suc (end s)) l i d (and_r (leb o s.start) _ e) (omega arith) k)

-- the first i of level 0's z records end before `start`
abbrev pub Early : List Slot → ℕ → ℕ → ℕ → Type 0
Early k z start i = (l : Level) (g : Group) → k ≡ slots_for (l ∷ g) → z ≡ length l → ordered 0 l ≡ true → all (ends_before start) (take i l) ≡ true

early_through : (k : List Slot) (z start i : ℕ) (s : Slot) → i < z → s ≡ get_or k i no_slot → s.held.start + s.held.span < start → Early k z start (i + 1)
early_through k z start i s inside got h l g is n e =
    let at : s ≡ slot_for (placed.slot 0 (get_or l i (placed.no_slot).item)) = got ∙ ap (λ (m : List Slot). get_or m i no_slot) is ∙ top-slot l g i (omega arith) in
    let ends : end (get_or l i (placed.no_slot).item) < start = rw at at h in
    rw (add-one i) (end_through start 0 l i (placed.no_slot).item e (omega arith) ends)

-- their number is where the test of their ends turns
pub early_found : (k : List Slot) (z start r : ℕ) → Border (λ i. is_early start (get_or k i no_slot)) z r r → Early k z start r
unfolding all
early_found k z start zero so = λ l g is n e. refl
early_found k z start (suc i) so =
    let q : suc i - 1 ≡ i = omega arith in
    rw (← add-one i) (early_through k z start i (get_or k i no_slot) (omega (arith, so.inside)) refl (ltb-true _ _ (rw q at (so.below (omega arith)))))

-- a slot that is there
module _ (k : List Slot) (i : ℕ) (s : Slot) (inside : i < length k) (is : s ≡ get_or k i no_slot) where
  front : drop i k ≡ s ∷ drop (suc i) k
  front = drop-cons k i no_slot inside ∙ ap (λ (x : Slot). x ∷ drop (suc i) k) (sym is)

  -- it is ahead, or of another level, or doesn't end before o
  module _ (o n : ℕ) (so : n ≡ i + count_ahead o (drop i k)) where
    pub ahead_more : s.level ≡ 1 → s.held.start + s.held.span < o → n ≡ i + 1 + count_ahead o (drop (i + 1) k)
    unfolding count_ahead is_ahead
    ahead_more e h =
        let one : count_ahead o (drop i k) ≡ suc (count_ahead o (drop (suc i) k)) = ap (count_ahead o) front ∙ rw (eq-eqb _ _ e, lt-ltb _ _ h, count_ahead) in
        rw (add-one i) (omega arith)

    stops : is_ahead o s ≡ false → i ≡ n
    unfolding count_ahead
    stops e =
        let none : count_ahead o (drop i k) ≡ 0 = ap (count_ahead o) front ∙ rw (e, count_ahead) in
        omega arith

    pub ahead_other : (s.level ≡ 1 → ⊥) → i ≡ n
    unfolding is_ahead
    ahead_other e = stops (rw (ne_eqb _ _ e))

    pub ahead-stop : s.level ≡ 1 → o ≤ s.held.start + s.held.span → i ≡ n
    unfolding is_ahead
    ahead-stop e h = stops (rw (eq-eqb _ _ e, le-ltb _ _ h))

  -- it is of level 1 and may meet u, or is of another
  pub meets_there : (u : Record) (t : Bool) → ((K L : List ℕ) → t ≡ meets (as_record u K) (as_record s.held L)) → s.level ≡ 1 → t ≡ meets_first u (drop i k)
  unfolding meets_first
  meets_there u t meet e = meet [] [] ∙ sym (ap (meets_first u) front ∙ rw (eq-eqb _ _ e))

  pub meets_other : (u : Record) → (s.level ≡ 1 → ⊥) → false ≡ meets_first u (drop i k)
  unfolding meets_first
  meets_other u n = sym (ap (meets_first u) front ∙ rw (ne_eqb _ _ n))

-- no slot is left
module _ (k : List Slot) (i : ℕ) (behind : length k ≤ i) where
  pub ahead_none : (o n : ℕ) → n ≡ i + count_ahead o (drop i k) → i ≡ n
  unfolding count_ahead
  ahead_none o n so = omega (arith, ap (count_ahead o) (drop_of_length-le k behind))

  pub meets_none : (u : Record) → false ≡ meets_first u (drop i k)
  unfolding meets_first
  meets_none u = sym (ap (meets_first u) (drop_of_length-le k behind))
