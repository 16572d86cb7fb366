-- A record that moves to level 1: a search among level 1's slots, up to the first that doesn't end before it, tells whether it meets
-- one, and its place; by induction on the level, which is in order. Assumes nothing.
use mathlib.Core.Path.{◌≡◌, refl, sym, ◌∙◌, ap}
use mathlib.Core.List.{List, [], ◌∷◌, ◌++◌, map}
use mathlib.Core.Bool.{true≢false, Bool, true, false, ◌&&◌}
use Prim.Native.Nat.{ℕ, suc, ◌≤◌, ◌<◌}
use native.Mathlib.Omega.{arith}
use lib.Dec.{leb, ltb, eqb}
use lib.ListN.{length, drop}
use borrow.Author.Tests.{ne_eqb, leb-true, leb-false, ltb-true, ltb-false, lt-ltb, le-ltb, le-leb}
use Rattle.model.specs.Record as model
use Rattle.model.specs.Record.{end}
use Rattle.model.specs.Levels.{Level, Group, meets, meets_any, into}
use Rattle.model.specs.Sound.{ordered}
use Rattle.model.proofs.Bools.{and_l, and_r}
use Rattle.model.proofs.Ranges.{before-meets, meets-sym}
use Rattle.octets.specs.Slots.{insert_at}
use Rattle.record.specs.Read.{as_record, bare}
use Rattle.group.specs.declared.Slot.{Slot}
use Rattle.group.specs.Cutting.{flat_from}
use Rattle.group.specs.Held.{slot_for}
use Rattle.insertion.specs.Flat.{tag}
use Rattle.insertion.specs.Slots.{slot}
use Rattle.insertion.specs.Turns.{is_ahead, count_ahead, meets_first}

-- whether two records meet is told by their four numbers
meets-bare : (u s : model.Record) → meets (as_record (bare u) []) (as_record (bare s) []) ≡ meets u s
unfolding meets
meets-bare u s = refl

-- one that doesn't end before u and doesn't meet it starts behind it
pub starts-behind : (u s : model.Record) → meets u s ≡ false → u.start ≤ end s → end u < s.start
unfolding meets
starts-behind u s e h = leb-false _ _ (ap (λ (t : Bool). t && leb s.start (end u)) (sym (le-leb u.start (end s) h)) ∙ e)

-- none of a level in order that starts behind u meets it
none_behind : (u : model.Record) (o : ℕ) (l : Level) → end u < o → ordered o l ≡ true → meets_any u l ≡ false
unfolding meets_any ordered
none_behind u o [] h e = refl
none_behind u o (s ∷ l) h e =
    let low : o ≤ s.start = leb-true _ _ (and_l (leb o s.start) _ e) in
    let n : meets u s ≡ false = before-meets u s (omega arith) in
    rw (n, meets_any) (none_behind u (suc (end s)) l (omega arith) (and_r (leb o s.start) _ e))

-- slots of a level below 1 are not ahead, and none meets the record at level 1
module _ (u : model.Record) where
  deeper : (n : ℕ) (g : Group) → (count_ahead u.start (map slot_for (flat_from (suc (suc n)) g)) ≡ 0) × (meets_first (bare u) (map slot_for (flat_from (suc (suc n)) g)) ≡ false)
  unfolding flat_from count_ahead meets_first is_ahead
  deeper n [] = (refl, refl)
  deeper n ([] ∷ g) = deeper (suc n) g
  deeper n ((s ∷ l) ∷ g) =
      let other : eqb (suc (suc n)) 1 ≡ false = ne_eqb (suc (suc n)) 1 (λ e. omega arith) in
      (rw (other, count_ahead), rw other)

  -- what the search finds in level 1
  pub record Found (l : Level) (k : List Slot) : Type 0 where
    pub few : count_ahead u.start k ≤ length l
    pub meet : meets_first (bare u) (drop (count_ahead u.start k) k) ≡ meets_any u l
    pub place : meets_any u l ≡ false → insert_at (count_ahead u.start k) u l ≡ into u l

  pub found : (o : ℕ) (l : Level) (g : Group) → ordered o l ≡ true → Found l (map slot_for (tag 1 l ++ flat_from 2 g))
  unfolding count_ahead meets_first is_ahead meets_any insert_at into ordered
  found o [] g e =
      let d = deeper 0 g in
      record { few = omega (arith, d.0); meet = rw d.0 d.1; place = λ n. rw d.0 }
  found o (s ∷ l) g e = go (ltb (end s) u.start) (meets u s) refl refl (found (suc (end s)) l g (and_r (leb o s.start) _ e))
    where
      rest : List Slot
      rest = map slot_for (tag 1 l ++ flat_from 2 g)

      here : Slot
      here = slot_for (slot 1 s)

      stops : ltb (end s) u.start ≡ false → count_ahead u.start (here ∷ rest) ≡ 0
      stops h = let ahead : is_ahead u.start here ≡ false = h in rw (ahead, count_ahead)

      go : (a t : Bool) → ltb (end s) u.start ≡ a → meets u s ≡ t → Found l rest → Found (s ∷ l) (here ∷ rest)
      go true t h m f =
          let before : end s < u.start = ltb-true (end s) u.start h in
          let ahead : is_ahead u.start here ≡ true = h in
          let count : count_ahead u.start (here ∷ rest) ≡ suc (count_ahead u.start rest) = rw (ahead, count_ahead) in
          let later : ltb u.start s.start ≡ false = le-ltb u.start s.start (omega arith) in
          let same : meets_any u (s ∷ l) ≡ meets_any u l = rw (meets-sym s u (before-meets s u before), meets_any) in
          record {
            few = omega (arith, count, f.few);
            meet = rw (count, same) f.meet;
            place = λ n. rw (count, later, into) (ap (λ (x : Level). s ∷ x) (f.place (sym same ∙ n)));
          }
      go false true h m f =
          let any : meets_any u (s ∷ l) ≡ true = rw (m, meets_any) in
          record { few = omega (arith, stops h); meet = rw (stops h, any) (meets-bare u s ∙ m); place = λ n. absurd (true≢false (sym any ∙ n)) }
      go false false h m f =
          let behind : end u < s.start = starts-behind u s m (ltb-false (end s) u.start h) in
          let none : meets_any u l ≡ false = none_behind u (suc (end s)) l (omega arith) (and_r (leb o s.start) (ordered (suc (end s)) l) e) in
          let earlier : ltb u.start s.start ≡ true = lt-ltb u.start s.start (omega arith) in
          record { few = omega (arith, stops h); meet = rw (stops h, m, meets_any) (meets-bare u s ∙ m ∙ sym none); place = λ n. rw (stops h, earlier, into) }
