-- The forecasts of a sound record's members: those of a strided record go up by one from member to member, an approximate one's by its
-- slope; the members are the record's own. Assumes nothing.
use mathlib.Core.Path.{◌≡◌, refl, sym, ◌∙◌, ap}
use mathlib.Core.List.{List}
use mathlib.Core.Bool.{Bool, true, false}
use Prim.Native.Nat.{ℕ, suc, ◌+◌, ◌-◌, ◌/◌, ◌%◌, ◌≤◌, ◌<◌}
use native.Mathlib.Omega.{arith}
use native.Mathlib.Nat.{div-le_self}
use lib.Dec.{eqb}
use borrow.Author.Tests.{eqb-true, eqb-false}
use Rattle.model.specs.Record.{Record, kind_of, is_approximate, rise, member}
use Rattle.model.specs.Sound.{sound_record}
use Rattle.model.proofs.SoundRecord.{record_parts}
use Rattle.record.specs.declared.Record as code
use Rattle.record.specs.Scan.{on_stride, Strided}
use Rattle.record.proofs.Words.{odd_of}
use Rattle.record.proofs.Pages.{rise-single, rise-strided, rise_sloped, slope-small}
use Rattle.group.specs.Layout.{flag_of, owner_of}
use Rattle.group.proofs.Cases.{owner_none}
use Rattle.group.proofs.Shapes.{sound-ends}
use Rattle.group.proofs.Found.{sound-word}
use Rattle.slots.specs.Owners.{owning}
use Rattle.slots.proofs.OwnMembers.{owning_none, owned-names}
use Rattle.forecast.specs.Forecast.{Entered}
use Rattle.forecast.proofs.Entering.{names, slope_number, stride_number}

-- two tests that agree, and two numbers where they hold
entered_as : (t u : ℕ → Bool) (f g : ℕ → ℕ) (m n : List ℕ) → ((o : ℕ) → o < 256 → t o ≡ u o) → ((o : ℕ) → o < 256 → t o ≡ true → f o ≡ g o) → Entered t f m n → Entered u g m n
entered_as t u f g m n same is so = record {
  long = so.long;
  into = λ o h e. so.into o h (same o h ∙ e) ∙ is o h (same o h ∙ e);
  kept = λ o h e. so.kept o h (same o h ∙ e);
}

-- what is added at an offset is small
pub rise-small : (w o : ℕ) → w ≤ 513 → o < 256 → rise (kind_of w) o < 1024
rise-small w o h l = go (eqb w 0) (eqb (w % 2) 0) refl refl
  where
    go : (z t : Bool) → eqb w 0 ≡ z → eqb (w % 2) 0 ≡ t → rise (kind_of w) o < 1024
    go true t e f = omega (arith, rise-single w o (eqb-true _ _ e))
    go false true e f = omega (arith, rise-strided w o (eqb-false _ _ e) (eqb-true _ _ f), div-le_self (o + (w / 2 - 1)) (w / 2))
    go false false e f =
        let k : w / 2 ≤ 256 = omega arith in
        omega (arith, rise_sloped w o (eqb-false _ _ f), slope-small (w / 2) o k l)

-- a sound record of the group whose owners are w
module _ (w : ℕ → ℕ) (r : code.Record) (sound : sound_record 256 0 (owning w r) ≡ true) where
  pub word_low : r.word ≤ 513
  word_low = sound-word 256 0 (owning w r) sound

  pub end_low : r.start + r.span ≤ 255
  end_low = (record_parts 256 0 (owning w r) sound).byte

  -- an approximate one: its start is its own
  pub owns-start : is_approximate (kind_of r.word) ≡ true → w r.start ≡ suc r.start
  owns-start slope = (sound-ends w (record { level = 0; held = r }) 256 0 sound slope).first_own

  module _ (first : ℕ) (m n : List ℕ) where
    pub sloped_entered : is_approximate (kind_of r.word) ≡ true → Entered (names w r.start) (slope_number w r.start (r.start + r.span) (r.word / 2) first m) m n
        → Entered (member (owning w r)) (λ o. first + rise (kind_of r.word) o) m n
    sloped_entered slope =
        let odd = odd_of r.word slope in
        entered_as _ _ _ _ m n (λ o h. owned-names w r slope o h) (λ o h e. ap (λ (x : ℕ). first + x) (rise_sloped r.word o (λ q. omega arith)))

    pub strided-entered : is_approximate (kind_of r.word) ≡ false → (d : ℕ) → Strided r d
        → Entered (on_stride r.start d (r.start + r.span)) (stride_number r.start d (r.start + r.span) (first + rise (kind_of r.word) r.start) m) m n
        → Entered (member (owning w r)) (λ o. first + rise (kind_of r.word) o) m n
    strided-entered exact d so =
        entered_as _ _ _ _ m n (λ o h. sym (so.members o h) ∙ ap (λ (x : Record). member x o) (sym (owning_none w r exact)))
        (λ o h e. omega (arith, so.rises o e))

-- where an offset has an owner, owners are read
pub owned-flag : (b : List ℕ) (o x : ℕ) → owner_of b o ≡ suc x → 0 < flag_of b
owned-flag b o x e = go (eqb (flag_of b) 0) refl
  where
    go : (t : Bool) → eqb (flag_of b) 0 ≡ t → 0 < flag_of b
    go true q = let z : flag_of b ≡ 0 = eqb-true _ _ q in absurd (omega (arith, e, owner_none b o z))
    go false q = omega (arith, eqb-false (flag_of b) 0 q)
