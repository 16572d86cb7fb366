-- A sound record fits its eight bytes. Assumes nothing.
use mathlib.Core.Path.{◌≡◌, refl, sym, ◌∙◌, ap}
use mathlib.Core.Bool.{Bool, true, false, ◌&&◌}
use Prim.Native.Nat.{ℕ, ◌/◌, ◌%◌, ◌≤◌}
use native.Mathlib.Omega.{arith}
use lib.Dec.{leb, eqb}
use borrow.Author.Tests.{leb-true, eqb-true, eqb-false}
use Rattle.model.specs.Record as model
use Rattle.model.specs.Record.{Kind, accurate, approximate, kind_of}
use Rattle.model.specs.Sound.{sound_as, sound_record}
use Rattle.model.proofs.Bools.{and_l}
use Rattle.model.proofs.SoundRecord.{record_parts}
use Rattle.record.specs.Read.{bare}
use Rattle.record.specs.Coding.{InEight}
use Rattle.record.proofs.Words.{kind_even, kind_odd}

-- the stride or slope of a sound record is small
small_word : (w : ℕ) (r : model.Record) → sound_as (kind_of w) r ≡ true → w / 2 ≤ 256
unfolding sound_as
small_word w r h = go (eqb w 0) (eqb (w % 2) 1) refl refl
  where
    sound_as_lem : (k : Kind) → kind_of w ≡ k → sound_as k r ≡ true
    sound_as_lem k e = ap (λ (x : Kind). sound_as x r) (sym e) ∙ h

    go : (z t : Bool) → eqb w 0 ≡ z → eqb (w % 2) 1 ≡ t → w / 2 ≤ 256
    go true t e f = let none : w ≡ 0 = eqb-true _ _ e in omega arith
    go false true e f = leb-true _ _ (and_l (leb (w / 2) 256) _ (sound_as_lem (approximate (w / 2)) (kind_odd w (eqb-true _ _ f))))
    go false false e f =
        let sound = sound_as_lem (accurate (w / 2)) (kind_even w (eqb-false _ _ e) (eqb-false _ _ f)) in
        let stride : w / 2 ≤ 255 = leb-true _ _ (and_l (leb (w / 2) 255) _ (and_l (leb (w / 2) 255 && eqb (r.span % (w / 2)) 0) _ sound)) in
        omega arith

-- A sound record's numbers fit.
pub sound-eight : (r : model.Record) → sound_record 256 0 r ≡ true → InEight (bare r)
sound-eight r h =
    let s = record_parts 256 0 r h in
    (omega (arith, s.byte), omega (arith, s.byte), omega (arith, small_word r.word r s.shape))
