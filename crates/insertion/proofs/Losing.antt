-- Which approximate records lose offsets to a new one: a record that loses none stays as it is, and one whose number isn't noted loses
-- none. Assumes nothing.
use Rattle.std.specs.Prelude as code
use mathlib.Core.Path.{◌≡◌, refl, sym, ◌∙◌, ap}
use mathlib.Core.List.{List, [], ◌∷◌}
use mathlib.Core.Option.{Option, some}
use mathlib.Core.Bool.{true≢false, Bool, true, false, not, ◌&&◌}
use Prim.Native.Nat.{ℕ, suc, ◌+◌, ◌-◌, ◌≤◌, ◌<◌}
use native.Mathlib.Omega.{arith}
use lib.Dec.{eqb}
use lib.ListN.{length}
use borrow.Author.Tests.{eqb-true, eqb-false}
use Rattle.model.specs.Lists.{all, elem, select, ascending, last_of}
use Rattle.model.specs.Record.{Record, kind, kind_of, is_approximate, end, member}
use Rattle.model.specs.Levels.{shrunk_to, shrunk_to_any, shrink}
use Rattle.model.specs.Sound.{owns_its_ends, sound_record}
use Rattle.model.specs.Totals.{total, owns}
use Rattle.model.proofs.Bools.{and_l, and_r, and_i, is_false, all_head, all_tail}
use Rattle.model.proofs.Lists.{picked, asc_select}
use Rattle.model.proofs.Order.{sound-within}
use Rattle.model.proofs.SoundRecord.{record_parts, sound-ascends, owned-member}
use Rattle.record.specs.Scan.{masked}
use Rattle.record.specs.declared.Record as declared
use Rattle.group.specs.Layout.{slots_of, owner_of}
use Rattle.group.specs.Cutting.{Placed}
use Rattle.group.proofs.Owned.{asc_same}
use Rattle.slots.specs.View.{LeftOf}
use Rattle.slots.specs.Owners.{either, owner_left}
use Rattle.slots.proofs.Owning.{owner-exact, owner-named, owner_other}
use Rattle.insertion.specs.Slots.{held_at, records, keep_slot}
use Rattle.insertion.specs.InsertSlots.{given, Noted, is_loser, give_up_slots}
use Rattle.insertion.specs.Shown.{weight, Shown}
use Rattle.insertion.proofs.Weights.{Weighs, yes, no, weighs, unowned, sound-ends, first_owned}
use Rattle.insertion.proofs.GiveUp.{given_other, given-approximate}
use Rattle.insertion.proofs.Steps.{shown-length}
use Rattle.insertion.proofs.Remaining.{held-sound, held-names}

-- a record shrunk to all that it owns
whole-shrunk : (r : Record) → is_approximate (kind r) ≡ true → (l : List ℕ) → r.owned ≡ l → owns_its_ends r l ≡ true → shrunk_to_any r l ≡ some r
unfolding shrunk_to_any shrunk_to owns_its_ends
whole-shrunk r a [] o e = absurd (true≢false (sym e))
whole-shrunk r a (x ∷ l) o e =
    let first = first_owned r x l e in
    let last : last_of x l ≡ end r = eqb-true _ _ (and_r (ascending (x ∷ l) && eqb x r.start) _ e) in
    let span : last_of x l - x ≡ r.span = omega arith in
    let same : shrunk_to r x l ≡ r = rw (a, shrunk_to, span, sym o) (ap (λ (y : ℕ). record { start = y; span = r.span; word = r.word; intercept = r.intercept; owned = r.owned }) first) in
    ap some same

-- a sound approximate record that loses none of its offsets stays as it is
pub shrink-whole : (lost : ℕ → Bool) (r : Record) → sound_record 256 0 r ≡ true → is_approximate (kind r) ≡ true → ((o : ℕ) → elem o r.owned ≡ true → lost o ≡ false) → shrink lost r ≡ some r
unfolding shrink
shrink-whole lost r sound a keeps = ap (shrunk_to_any r) same ∙ whole-shrunk r a r.owned refl (sound-ends r sound a)
  where
    same : select (λ o. member r o && not (lost o)) 256 0 ≡ r.owned
    same = asc_same (select (λ o. member r o && not (lost o)) 256 0) r.owned (asc_select (λ o. member r o && not (lost o)) 256 0) (sound-ascends 256 0 r sound)
        (λ o e. sym (owned-member r o a) ∙ and_l (member r o) _ ((picked (λ o. member r o && not (lost o)) 256 0).only o e).0)
        (λ o e. let i = owned-member r o a ∙ e in (picked (λ o. member r o && not (lost o)) 256 0).every o (omega arith) (omega (arith, (sound-within 256 0 r sound o i).1, (record_parts 256 0 r sound).byte)) (and_i _ _ i (ap not (keeps o e))))

-- no owner's number is above 256
bounded : (o : ℕ) (l : List Record) → all (sound_record 256 0) l ≡ true → total (owns o) l ≤ 1 → total (weight o) l ≤ 256
unfolding total
bounded o [] a h = omega arith
bounded o (r ∷ l) a h = go (weighs o r) (λ k. bounded o l (all_tail (sound_record 256 0) r l a) k)
  where
    go : Weighs o r → (total (owns o) l ≤ 1 → total (weight o) l ≤ 256) → weight o r + total (weight o) l ≤ 256
    go (yes e w n) ih = let z = unowned o l (omega arith) in omega (arith, (record_parts 256 0 r (all_head (sound_record 256 0) r l a)).byte)
    go (no e w n) ih = omega (arith, ih (omega arith))

module _ (b : List ℕ) (l : List Placed) (shown : Shown b l) where
  pub owner_bounded : (o : ℕ) → o < 256 → owner_of b o ≤ 256
  owner_bounded o h = omega (arith, shown.owners o h, bounded o (records l) shown.sound (shown.once o))

  module _ (taken : List ℕ) where
    -- a record gives up none where none of its offsets is taken
    keeps_all : (i : ℕ) → i < length (slots_of b) → (is_approximate (kind (held_at i l)) ≡ true → (o : ℕ) → o < 256 → owner_of b o ≡ suc (held_at i l).start → masked taken o ≡ false)
        → given (masked taken) (held_at i l) ≡ some (held_at i l)
    keeps_all i h free = go (is_approximate (kind (held_at i l))) refl
      where
        go : (a : Bool) → is_approximate (kind (held_at i l)) ≡ a → given (masked taken) (held_at i l) ≡ some (held_at i l)
        go false a = given_other (masked taken) (held_at i l) a
        go true a =
            let sound = held-sound b l shown i h in
            given-approximate (masked taken) (held_at i l) a ∙ shrink-whole (masked taken) (held_at i l) sound a (λ o e.
            let low : o < 256 = omega (arith, (sound-within 256 0 (held_at i l) sound o (owned-member (held_at i l) o a ∙ e)).1, (record_parts 256 0 (held_at i l) sound).byte) in
            free a o low (eqb-true _ _ (held-names b l shown i h a o low ∙ e)))

    -- one that isn't noted
    pub keeps_unnoted : (losers : List ℕ) → Noted b taken losers → (i : ℕ) → i < length (slots_of b) → is_loser losers (held_at i l) ≡ false → given (masked taken) (held_at i l) ≡ some (held_at i l)
    unfolding is_loser
    keeps_unnoted losers noted i h n = keeps_all i h (λ a o k e. is_false (masked taken o) (λ t.
        let m : masked losers (owner_of b o) ≡ true = noted o k t (omega arith) in
        true≢false (sym (and_i (is_approximate (kind (held_at i l))) _ a (ap (masked losers) (sym e) ∙ m)) ∙ n)))

    -- all of them, where no offset taken has an owner
    pub gives_none : ((o : ℕ) → o < 256 → masked taken o ≡ true → 0 < owner_of b o → ⊥) → give_up_slots (masked taken) l ≡ l
    unfolding give_up_slots keep_slot
    gives_none free = go l (λ i h. keeps_all i (omega (arith, shown-length b l shown)) (λ a o k e. is_false (masked taken o) (λ t. free o k t (omega arith))))
      where
        go : (k : List Placed) → ((i : ℕ) → i < length k → given (masked taken) (held_at i k) ≡ some (held_at i k)) → give_up_slots (masked taken) k ≡ k
        go [] each = refl
        go (s ∷ k) each =
            ap (λ (x : Option Record). keep_slot s.level x (give_up_slots (masked taken) k)) (each 0 (omega arith))
            ∙ ap (λ (m : List Placed). s ∷ m) (go k (λ i h. each (suc i) (omega arith)))

-- offsets taken lose their owner or keep it, so that whoever owns one is still noted
pub still_noted : (b c d taken losers : List ℕ) (r : declared.Record) (x : code.Option declared.Record) → Noted b taken losers → LeftOf b c taken r x → ((o : ℕ) → o < 256 → owner_of d o ≡ owner_of c o) → Noted d taken losers
unfolding either
still_noted b c d taken losers r x noted left same o h t some-owner = go (is_approximate (kind_of r.word)) (eqb (owner_of b o) (suc r.start)) refl refl
  where
    is : owner_of d o ≡ owner_left r x (masked taken o) (owner_of b o)
    is = same o h ∙ left.owners o h

    kept : owner_of d o ≡ owner_of b o → masked losers (owner_of d o) ≡ true
    kept e = ap (masked losers) e ∙ noted o h t (omega arith)

    go : (a n : Bool) → is_approximate (kind_of r.word) ≡ a → eqb (owner_of b o) (suc r.start) ≡ n → masked losers (owner_of d o) ≡ true
    go false n a e = kept (is ∙ owner-exact r x (masked taken o) (owner_of b o) a)
    go true false a e = kept (is ∙ owner_other r x (masked taken o) (owner_of b o) (λ y. eqb-false _ _ e))
    go true true a e =
        let gone : owner_of d o ≡ 0 = is ∙ owner-named r x (masked taken o) (owner_of b o) a (eqb-true _ _ e) ∙ rw (t, either) in
        absurd (let z : ⊥ = omega arith in z)
