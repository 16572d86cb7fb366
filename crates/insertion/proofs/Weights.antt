-- An offset's owner as the sum of what each record adds: who owns it is told by the sum, and what a change of one record does to it. Assumes nothing.
use mathlib.Core.Path.{◌≡◌, refl, sym, ◌∙◌, ap}
use mathlib.Core.List.{List, [], ◌∷◌}
use mathlib.Core.Bool.{true≢false, Bool, true, false, ◌&&◌}
use Prim.Native.Nat.{ℕ, suc, ◌+◌, ◌≤◌}
use native.Mathlib.Omega.{arith}
use lib.Dec.{eqb, leb}
use borrow.Author.Tests.{eqb-true, eq-eqb, ne_eqb}
use Rattle.model.specs.Lists.{all, elem, ascending}
use Rattle.model.specs.Record.{Record, Kind, single, accurate, approximate, kind, is_approximate}
use Rattle.model.specs.Sound.{sound_as, sound_record, owns_its_ends}
use Rattle.model.specs.Totals.{total, indicator, owns}
use Rattle.model.proofs.Bools.{and_l, and_r, all_head, all_tail}
use Rattle.model.proofs.Lists.{elem_here}
use Rattle.model.proofs.SoundRecord.{record_parts, sound-owner}
use Rattle.group.specs.Held.{owner_among}
use Rattle.slots.specs.Owners.{either, taken_by}
use Rattle.insertion.specs.Shown.{weight}

-- Whether r owns o, with what it adds.
pub data Weighs (o : ℕ) (r : Record) : Type 0 where
  yes : elem o r.owned ≡ true → weight o r ≡ suc r.start → owns o r ≡ 1 → Weighs o r
  no : elem o r.owned ≡ false → weight o r ≡ 0 → owns o r ≡ 0 → Weighs o r

pub weighs : (o : ℕ) (r : Record) → Weighs o r
unfolding weight owns
weighs o r = go (elem o r.owned) refl
  where
    go : (t : Bool) → elem o r.owned ≡ t → Weighs o r
    go true e = yes e (rw (e, weight) refl) (ap indicator e)
    go false e = no e (rw (e, weight) refl) (ap indicator e)

-- an offset that no record owns has owner 0
pub unowned : (o : ℕ) (l : List Record) → total (owns o) l ≡ 0 → total (weight o) l ≡ 0
unfolding total
unowned o [] h = refl
unowned o (r ∷ l) h = go (weighs o r) (λ k. unowned o l k)
  where
    go : Weighs o r → (total (owns o) l ≡ 0 → total (weight o) l ≡ 0) → weight o r + total (weight o) l ≡ 0
    go (yes e w n) ih = absurd (omega arith)
    go (no e w n) ih = omega (arith, ih (omega arith))

-- the first owner's start plus 1 is the sum
pub among-total : (o : ℕ) (l : List Record) → total (owns o) l ≤ 1 → owner_among o l ≡ total (weight o) l
unfolding total owner_among
among-total o [] h = refl
among-total o (r ∷ l) h = go (weighs o r) (λ k. among-total o l k)
  where
    go : Weighs o r → (total (owns o) l ≤ 1 → owner_among o l ≡ total (weight o) l) → owner_among o (r ∷ l) ≡ weight o r + total (weight o) l
    go (yes e w n) ih = let z = unowned o l (omega arith) in rw (e, owner_among) (omega arith)
    go (no e w n) ih = rw (e, owner_among) (omega (arith, ih (omega arith)))

-- a sound approximate record owns its ends
pub sound-ends : (r : Record) → sound_record 256 0 r ≡ true → is_approximate (kind r) ≡ true → owns_its_ends r r.owned ≡ true
unfolding sound_as is_approximate
sound-ends r h a = go (kind r) a (record_parts 256 0 r h).shape
  where
    go : (k : Kind) → is_approximate k ≡ true → sound_as k r ≡ true → owns_its_ends r r.owned ≡ true
    go single i s = absurd (true≢false (sym i))
    go (accurate d) i s = absurd (true≢false (sym i))
    go (approximate c) i s = and_r (leb c 256) _ s

pub first_owned : (r : Record) (x : ℕ) (l : List ℕ) → owns_its_ends r (x ∷ l) ≡ true → x ≡ r.start
unfolding owns_its_ends
first_owned r x l e = eqb-true _ _ (and_r (ascending (x ∷ l)) _ (and_l (ascending (x ∷ l) && eqb x r.start) _ e))

owns-start : (r : Record) → sound_record 256 0 r ≡ true → is_approximate (kind r) ≡ true → owns r.start r ≡ 1
unfolding owns_its_ends owns
owns-start r h a = ap indicator (go r.owned (sound-ends r h a))
  where
    go : (l : List ℕ) → owns_its_ends r l ≡ true → elem r.start l ≡ true
    go [] e = absurd (true≢false (sym e))
    go (x ∷ l) e = rw (sym (first_owned r x l e)) (elem_here x l)

-- no sum names a start that no record owns
unnamed : (o x : ℕ) (l : List Record) → all (sound_record 256 0) l ≡ true → total (owns o) l ≤ 1 → total (owns x) l ≡ 0 → total (weight o) l ≡ suc x → ⊥
unfolding total
unnamed o x [] a h z e = omega arith
unnamed o x (r ∷ l) a h z e = go (weighs o r) (λ i j k. unnamed o x l (all_tail (sound_record 256 0) r l a) i j k)
  where
    sound : sound_record 256 0 r ≡ true
    sound = all_head (sound_record 256 0) r l a

    go : Weighs o r → (total (owns o) l ≤ 1 → total (owns x) l ≡ 0 → total (weight o) l ≡ suc x → ⊥) → ⊥
    go (yes i w n) ih =
        let rest = unowned o l (omega arith) in
        let q : r.start ≡ x = omega arith in
        let own : owns x r ≡ 1 = ap (λ (y : ℕ). owns y r) (sym q) ∙ owns-start r sound (sound-owner 256 0 r o sound i) in
        omega arith
    go (no i w n) ih = ih (omega arith) (omega arith) (omega arith)

-- an offset's owner names the start of an approximate record where that owns the offset
pub names-owned : (v : Record) (l : List Record) → sound_record 256 0 v ≡ true → all (sound_record 256 0) l ≡ true → ((o : ℕ) → owns o v + total (owns o) l ≤ 1) → is_approximate (kind v) ≡ true
    → (o : ℕ) → eqb (weight o v + total (weight o) l) (suc v.start) ≡ elem o v.owned
names-owned v l sound others once slope o = go (weighs o v)
  where
    go : Weighs o v → eqb (weight o v + total (weight o) l) (suc v.start) ≡ elem o v.owned
    go (yes i w n) =
        let z = unowned o l (omega (arith, once o)) in
        let q : weight o v + total (weight o) l ≡ suc v.start = omega arith in
        eq-eqb _ _ q ∙ sym i
    go (no i w n) =
        let own = owns-start v sound slope in
        let differ : weight o v + total (weight o) l ≡ suc v.start → ⊥ = λ e. unnamed o v.start l others (omega (arith, once o)) (omega (arith, once v.start)) (omega arith) in
        ne_eqb _ _ differ ∙ sym i

-- a record that owns offsets nobody owned
pub owned_more : (o : ℕ) (v : Record) (l : List Record) → owns o v + total (owns o) l ≤ 1 → taken_by v.start (elem o v.owned) (total (weight o) l) ≡ weight o v + total (weight o) l
unfolding taken_by either
owned_more o v l h = go (weighs o v)
  where
    go : Weighs o v → either (elem o v.owned) (suc v.start) (total (weight o) l) ≡ weight o v + total (weight o) l
    go (yes i w n) = let z = unowned o l (omega arith) in rw (i, either) (omega arith)
    go (no i w n) = rw (i, either) (omega arith)

-- only an approximate record adds to an owner
pub weightless : (o : ℕ) (v : Record) → sound_record 256 0 v ≡ true → is_approximate (kind v) ≡ false → weight o v ≡ 0
weightless o v s a = go (weighs o v)
  where
    go : Weighs o v → weight o v ≡ 0
    go (yes e w n) = absurd (true≢false (sym (sound-owner 256 0 v o s e) ∙ a))
    go (no e w n) = w
