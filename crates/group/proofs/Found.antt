-- The record that a search of a sound group finds is sound, so its word is one of the table's. Assumes nothing.
use mathlib.Core.Path.{◌≡◌, refl, sym, ap, ◌∙◌}
use mathlib.Core.List.{List, [], ◌∷◌}
use mathlib.Core.Option.{Option, none, some, map}
use mathlib.Core.Bool.{Bool, true, false, ◌&&◌}
use Prim.Native.Nat.{ℕ, ◌/◌, ◌%◌, ◌≤◌}
use native.Mathlib.Omega.{arith}
use lib.Dec.{leb, eqb}
use borrow.Author.Tests.{leb-true, eqb-true, eqb-false}
use Rattle.model.specs.Lists.{all, or_else}
use Rattle.model.specs.Record as model
use Rattle.model.specs.Record.{Kind, accurate, approximate, kind, member}
use Rattle.model.specs.Levels.{Group, listing, holder}
use Rattle.model.specs.Sound.{sound_as, sound_record, sound_group}
use Rattle.model.proofs.Bools.{and_l, all_head, all_tail}
use Rattle.model.proofs.SoundRecord.{record_parts}
use Rattle.model.proofs.SoundGroup.{group-parts}
use Rattle.record.specs.declared.Record.{Record}
use Rattle.record.specs.Read.{bare}
use Rattle.record.proofs.Words.{kind_even, kind_odd}

holder-sound : (N k o : ℕ) (l : List model.Record) (r : model.Record) → all (sound_record N k) l ≡ true → holder o l ≡ some r → sound_record N k r ≡ true
unfolding holder or_else
holder-sound N k o [] r h e = let z : ◌≡◌ {A = ℕ} 0 1 = cc in absurd (omega arith)
holder-sound N k o (x ∷ l) r h e = go (member x o) e (holder-sound N k o l r (all_tail (sound_record N k) x l h))
  where
    go : (t : Bool) → or_else t x (holder o l) ≡ some r → (holder o l ≡ some r → sound_record N k r ≡ true) → sound_record N k r ≡ true
    go true q ih = let p : x ≡ r = cc in rw p at (all_head (sound_record N k) x l h)
    go false q ih = ih q

-- the word is at most 2 × 256 + 1
pub sound-word : (N k : ℕ) (r : model.Record) → sound_record N k r ≡ true → r.word ≤ 513
unfolding sound_as
sound-word N k r h = go (eqb r.word 0) (eqb (r.word % 2) 1) refl refl (record_parts N k r h).shape
  where
    go : (z t : Bool) → eqb r.word 0 ≡ z → eqb (r.word % 2) 1 ≡ t → sound_as (kind r) r ≡ true → r.word ≤ 513
    go true t e f s = let q : r.word ≡ 0 = eqb-true _ _ e in omega arith
    go false true e f s =
        let q : sound_as (approximate (r.word / 2)) r ≡ true = ap (λ (c : Kind). sound_as c r) (sym (kind_odd r.word (eqb-true _ _ f))) ∙ s in
        let b : r.word / 2 ≤ 256 = leb-true _ _ (and_l (leb (r.word / 2) 256) _ q) in
        omega arith
    go false false e f s =
        let q : sound_as (accurate (r.word / 2)) r ≡ true = ap (λ (c : Kind). sound_as c r) (sym (kind_even r.word (eqb-false _ _ e) (eqb-false _ _ f))) ∙ s in
        let b : r.word / 2 ≤ 255 = leb-true _ _ (and_l (leb (r.word / 2) 255) _ (and_l (leb (r.word / 2) 255 && eqb (r.span % (r.word / 2)) 0) _ q)) in
        omega arith

-- The record of the group whose four numbers a search found: the first that has the offset, and sound.
pub record Found (N k o : ℕ) (g : Group) (r : Record) : Type 0 where
  pub whole : model.Record
  pub held : holder o (listing g) ≡ some whole
  pub numbers : bare whole ≡ r
  pub sound : sound_record N k whole ≡ true
  pub word : r.word ≤ 513

pub found-whole : (N k o : ℕ) (g : Group) (r : Record) → sound_group N k g ≡ true → some r ≡ map bare (holder o (listing g)) → Found N k o g r
found-whole N k o g r h e = go (holder o (listing g)) refl e
  where
    go : (x : Option model.Record) → holder o (listing g) ≡ x → some r ≡ map bare x → Found N k o g r
    go none q p = let z : ◌≡◌ {A = ℕ} 0 1 = cc in absurd (omega arith)
    go (some a) q p =
        let s : sound_record N k a ≡ true = holder-sound N k o (listing g) a (group-parts N k g h).records q in
        let n : bare a ≡ r = cc in
        record { whole = a; held = q; numbers = n; sound = s; word = rw (← n) (sound-word N k a s) }
