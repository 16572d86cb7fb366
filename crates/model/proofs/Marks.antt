-- The marks of discarded logical pages: what is marked after one is set, or some are cleared; how long they are; what changes nothing.
-- Assumes nothing.
use mathlib.Core.Path.{◌≡◌, refl, sym, ◌∙◌, ap}
use mathlib.Core.List.{List, [], ◌∷◌}
use mathlib.Core.Logic.{◌≢◌}
use mathlib.Core.Bool.{Bool, true, false, not, ◌&&◌, ◌||◌, and-true, and-false}
use Prim.Native.Nat.{ℕ, ◌/◌, ◌%◌, ◌≤◌, ◌<◌}
use native.Mathlib.Omega.{arith}
use native.Mathlib.Nat.{zero-div, pow-le-pow_right}
use lib.Dec.{ltb, eqb}
use lib.ListN.{length, get_or, set, replicate, length-set, get_or-eq_default}
use lib.Seq.{get_or-set_same, get_or-set_other, set_out, set-get_or}
use borrow.Author.Tests.{ltb-true, ltb-false, eqb-true, eqb-false}
use Rattle.model.specs.Lists.{elem}
use Rattle.model.specs.Device.{Device, marks_count}
use Rattle.model.specs.Marks.{mark_byte, mark_value, has_bit, set_bit, clear_bit, is_marked, mark, unmark, unmark_all}
use Rattle.model.proofs.Lists.{replicate_at}
use Rattle.model.proofs.Bits.{set_on, clear_off, Bitwise, set_bitwise, clear_bitwise, bit_here, bit_other, bits_within}

-- two logical pages with marks in one byte have different bits there
bits_apart : (x y : ℕ) → y ≢ x → y / 8 ≡ x / 8 → y % 8 ≢ x % 8
bits_apart x y n e q = n (omega arith)

-- one bit of the marks changed, by either function
module _ (f : ℕ → ℕ → ℕ) (t : Bool) (w : Bitwise f t) (marks : List ℕ) (x : ℕ) where
  abbrev changed : List ℕ
  changed = set marks (mark_byte x) (f (get_or marks (mark_byte x) 0) (mark_value x))

  changed_here : mark_byte x < length marks → is_marked changed x ≡ t
  unfolding is_marked mark_value
  changed_here h =
      ap (λ (b : ℕ). has_bit b (mark_value x)) (get_or-set_same marks (mark_byte x) _ 0 h) ∙ bit_here f t w (get_or marks (mark_byte x) 0) (x % 8)

  changed_other : (y : ℕ) → y ≢ x → is_marked changed y ≡ is_marked marks y
  unfolding is_marked mark_byte mark_value
  changed_other y n = go (eqb (y / 8) (x / 8)) (ltb (x / 8) (length marks)) refl refl
    where
      go : (u o : Bool) → eqb (y / 8) (x / 8) ≡ u → ltb (x / 8) (length marks) ≡ o → is_marked changed y ≡ is_marked marks y
      go false o e h = ap (λ (b : ℕ). has_bit b (mark_value y)) (get_or-set_other marks (x / 8) (y / 8) _ 0 (eqb-false (y / 8) (x / 8) e))
      go true false e h = ap (λ (l : List ℕ). is_marked l y) (set_out marks (x / 8) _ (ltb-false (x / 8) (length marks) h))
      go true true e h =
          let same : y / 8 ≡ x / 8 = eqb-true (y / 8) (x / 8) e in
          ap (λ (i : ℕ). has_bit (get_or changed i 0) (mark_value y)) same
          ∙ ap (λ (b : ℕ). has_bit b (mark_value y)) (get_or-set_same marks (x / 8) _ 0 (ltb-true (x / 8) (length marks) h))
          ∙ bit_other f t w (get_or marks (x / 8) 0) (x % 8) (y % 8) (bits_apart x y n same)
          ∙ ap (λ (i : ℕ). has_bit (get_or marks i 0) (mark_value y)) (sym same)

-- Marks are as many bytes as they were.
pub length-mark : (x : ℕ) (marks : List ℕ) → length (mark x marks) ≡ length marks
unfolding mark
length-mark x marks = length-set marks (mark_byte x) _

length-unmark : (x : ℕ) (marks : List ℕ) → length (unmark x marks) ≡ length marks
unfolding unmark
length-unmark x marks = length-set marks (mark_byte x) _

pub length-unmark_all : (xs marks : List ℕ) → length (unmark_all xs marks) ≡ length marks
unfolding unmark_all
length-unmark_all [] marks = refl
length-unmark_all (x ∷ xs) marks = length-unmark_all xs (unmark x marks) ∙ length-unmark x marks

-- What a bit counts is at most 128, and a byte with one bit more is a byte.
pub value_most : (x : ℕ) → mark_value x ≤ 128
unfolding mark_value
value_most x = pow-le-pow_right {n = 2} (omega arith) (let h : x % 8 ≤ 7 = omega arith in h)

pub set-byte : (b x : ℕ) → b < 256 → set_bit b (mark_value x) < 256
unfolding mark_value
set-byte b x h = bits_within set_bit true set_bitwise 8 b (x % 8) (omega arith) h

-- no page is marked beyond the bytes, nor in bytes that are 0
pub zero_unmarked : (marks : List ℕ) (x : ℕ) → get_or marks (mark_byte x) 0 ≡ 0 → is_marked marks x ≡ false
unfolding is_marked has_bit
zero_unmarked marks x e = ap (λ (b : ℕ). eqb (b / mark_value x % 2) 1) e ∙ ap (λ (q : ℕ). eqb (q % 2) 1) (zero-div (mark_value x))

unmarked_beyond : (marks : List ℕ) (x : ℕ) → length marks ≤ mark_byte x → is_marked marks x ≡ false
unmarked_beyond marks x h = zero_unmarked marks x (get_or-eq_default marks 0 h)

pub none_marked : (n x : ℕ) → is_marked (replicate n 0) x ≡ false
none_marked n x = zero_unmarked (replicate n 0) x (replicate_at n (mark_byte x) 0)

-- A logical page of the device has its mark among the bytes.
pub mark-inside : (d : Device) (x : ℕ) → x < d.N → mark_byte x < marks_count d
unfolding mark_byte marks_count
mark-inside d x h = omega arith

-- Marking x leaves every other mark ..
pub mark_other : (x : ℕ) (marks : List ℕ) (y : ℕ) → y ≢ x → is_marked (mark x marks) y ≡ is_marked marks y
unfolding mark
mark_other x marks = changed_other set_bit true set_bitwise marks x

-- .. and it and those that were are marked.
pub mark-marked : (x : ℕ) (marks : List ℕ) → mark_byte x < length marks → (y : ℕ) → is_marked (mark x marks) y ≡ (eqb y x || is_marked marks y)
unfolding mark
mark-marked x marks h y = go (eqb y x) refl
  where
    go : (t : Bool) → eqb y x ≡ t → is_marked (mark x marks) y ≡ (t || is_marked marks y)
    go true e = ap (is_marked (mark x marks)) (eqb-true y x e) ∙ changed_here set_bit true set_bitwise marks x h
    go false e = mark_other x marks y (eqb-false y x e)

-- Once x is cleared, those that were are, but not it.
unmark-marked : (x : ℕ) (marks : List ℕ) (y : ℕ) → is_marked (unmark x marks) y ≡ (is_marked marks y && not (eqb y x))
unfolding unmark
unmark-marked x marks y = go (eqb y x) refl
  where
    here : (t : Bool) → ltb (mark_byte x) (length marks) ≡ t → is_marked (unmark x marks) x ≡ false
    here true e = changed_here clear_bit false clear_bitwise marks x (ltb-true (mark_byte x) (length marks) e)
    here false e =
        let out : length marks ≤ mark_byte x = ltb-false (mark_byte x) (length marks) e in
        ap (λ (l : List ℕ). is_marked l x) (set_out marks (mark_byte x) _ out) ∙ unmarked_beyond marks x out

    go : (t : Bool) → eqb y x ≡ t → is_marked (unmark x marks) y ≡ (is_marked marks y && not t)
    go true e = ap (is_marked (unmark x marks)) (eqb-true y x e) ∙ here (ltb (mark_byte x) (length marks)) refl ∙ sym (and-false (is_marked marks y))
    go false e = changed_other clear_bit false clear_bitwise marks x y (eqb-false y x e) ∙ sym (and-true (is_marked marks y))

-- So for all that are cleared.
pub unmark_all-marked : (xs marks : List ℕ) (y : ℕ) → is_marked (unmark_all xs marks) y ≡ (is_marked marks y && not (elem y xs))
unfolding unmark_all elem
unmark_all-marked [] marks y = sym (and-true (is_marked marks y))
unmark_all-marked (x ∷ xs) marks y = unmark_all-marked xs (unmark x marks) y ∙ ap (λ (t : Bool). t && not (elem y xs)) (unmark-marked x marks y) ∙ go (is_marked marks y) (eqb y x) refl
  where
    go : (m t : Bool) → eqb y x ≡ t → ((m && not t) && not (elem y xs)) ≡ (m && not (elem y (x ∷ xs)))
    go true true e = rw (e, elem)
    go true false e = rw (e, elem)
    go false t e = refl

-- Setting a mark that is set changes nothing ..
pub mark-again : (x : ℕ) (marks : List ℕ) → is_marked marks x ≡ true → mark x marks ≡ marks
unfolding mark is_marked
mark-again x marks e = ap (set marks (mark_byte x)) (set_on (get_or marks (mark_byte x) 0) (mark_value x) e) ∙ set-get_or marks (mark_byte x) 0

-- .. nor does clearing one that isn't.
pub unmark-again : (x : ℕ) (marks : List ℕ) → is_marked marks x ≡ false → unmark x marks ≡ marks
unfolding unmark is_marked
unmark-again x marks e = ap (set marks (mark_byte x)) (clear_off (get_or marks (mark_byte x) 0) (mark_value x) e) ∙ set-get_or marks (mark_byte x) 0
