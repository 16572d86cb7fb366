-- A run's record fits its eight bytes, and the run takes a page at least and no more than are there. Assumes nothing.
use mathlib.Core.Path.{◌≡◌, refl, sym, ap, ◌∙◌, subst}
use mathlib.Core.List.{List, ◌∷◌}
use mathlib.Core.Bool.{Bool, true, false, ◌&&◌}
use Prim.Native.Nat.{ℕ, ◌+◌, ◌-◌, ◌/◌, ◌%◌, ◌≤◌, ◌<◌}
use native.Mathlib.Omega.{arith}
use native.Mathlib.Numerals.{add-one}
use native.Mathlib.Nat.{le_refl}
use lib.Dec.{leb, eqb}
use lib.ListN.{length, get_or, drop, length-drop}
use lib.Seq.{drop-cons}
use borrow.Author.Tests.{leb-true, eqb-true}
use Rattle.model.specs.Lists.{ascending}
use Rattle.model.specs.Record.{Record, accurate, approximate, kind_of}
use Rattle.model.specs.Learning.{Bounds, Run, runs}
use Rattle.model.specs.Sound.{sound_as, is_empty, owns_its_ends}
use Rattle.model.proofs.Bools.{and_l}
use Rattle.model.proofs.Lists.{asc_of}
use Rattle.model.proofs.Parts.{asc_drop}
use Rattle.model.proofs.Runs.{Part, runs_parted}
use Rattle.record.specs.Read.{bare}
use Rattle.record.specs.Coding.{InEight}
use Rattle.slopes.specs.Places.{ahead_of, offsets_behind}
use Rattle.learn.specs.Runs.{run_at}

pub sound-stride : (d : ℕ) (r : Record) → sound_as (accurate d) r ≡ true → d ≤ 255
unfolding sound_as
sound-stride d r h = leb-true d 255 (and_l (leb d 255) (eqb (r.span % d) 0) (and_l (leb d 255 && eqb (r.span % d) 0) (is_empty r.owned) h))

pub sound-slope : (a : ℕ) (r : Record) → sound_as (approximate a) r ≡ true → a ≤ 256
unfolding sound_as
sound-slope a r h = leb-true a 256 (and_l (leb a 256) (owns_its_ends r r.owned) h)

-- a sound record's word is one of the table's
word_small : (r : Record) → sound_as (kind_of r.word) r ≡ true → r.word < 65536
unfolding kind_of
word_small r h = go (eqb r.word 0) refl (eqb (r.word % 2) 0) refl
  where
    go : (s : Bool) → eqb r.word 0 ≡ s → (t : Bool) → eqb (r.word % 2) 0 ≡ t → r.word < 65536
    go true e t f = omega (arith, eqb-true r.word 0 e)
    go false e true f = omega (arith, sound-stride (r.word / 2) r (rw (e, f, kind_of) at h))
    go false e false f = omega (arith, sound-slope (r.word / 2) r (rw (e, f, kind_of) at h))

-- what a run's record and number are to the batch
pub record Held (n : ℕ) (r : Run) : Type 0 where
  pub filled : 1 ≤ r.taken
  pub inside : r.taken ≤ n
  pub bytes : InEight (bare r.learned)

pub part_held : (b : Bounds) (p : ℕ) (l : List ℕ) (r : Run) → Part b p l r → Held (length l) r
part_held b p l r c = record {
  filled = c.filled;
  inside = c.inside;
  bytes = (omega (arith, c.ends), omega (arith, c.ends), word_small r.learned c.sound);
}

-- The run at a place of the batch.
pub held : (b : Bounds) (w : List ℕ) (i : ℕ) → i < length w → ascending w ≡ true → b.last + 1 ≡ b.first + length w → Held (length w - i) (run_at b w i)
unfolding runs run_at offsets_behind ahead_of
held b w i h a e =
    let q : drop i w ≡ get_or w i 0 ∷ drop (i + 1) w = drop-cons w i 0 h ∙ rw (add-one i) in
    let m : length (get_or w i 0 ∷ drop (i + 1) w) ≡ length w - i = ap length (sym q) ∙ length-drop i w in
    let c = runs_parted b (length (get_or w i 0 ∷ drop (i + 1) w)) (b.first + i) (get_or w i 0 ∷ drop (i + 1) w) {z = 0} (le_refl _)
    (rw q at (asc_drop i w (asc_of w a))) (omega arith) (omega (arith, m, e, h)) in
    subst (λ (n : ℕ). Held n (run_at b w i)) m (part_held b _ _ _ c.0)
