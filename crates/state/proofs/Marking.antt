-- The marks of the state as the code changes them: one set, or some cleared one after the other. Assumes nothing.
use mathlib.Core.Path.{◌≡◌, refl, sym, ap, ◌∙◌}
use mathlib.Core.List.{List}
use mathlib.Core.Bool.{Bool, true, false}
use Prim.Native.Nat.{ℕ, suc, ◌+◌, ◌/◌, ◌≤◌, ◌<◌}
use native.Mathlib.Omega.{arith}
use mir.Val.{bool_byte}
use native.Mathlib.Numerals.{add-one}
use lib.ListN.{length, get_or, drop, drop_of_length-le}
use lib.Seq.{drop-cons}
use Rattle.model.specs.Marks.{mark_byte, is_marked, mark, unmark, unmark_all}
use Rattle.model.specs.State.{State, with_marks}
use Rattle.model.proofs.Marks.{zero_unmarked, mark-again, unmark-again}
use Rattle.calls.specs.Flush.{clear_marks}

-- a test is counted as 1 at most, and as 0 where it fails
pub counted : (t : Bool) (n : ℕ) → n ≡ bool_byte t → n ≤ 1
counted true n e = omega arith
counted false n e = omega arith

pub uncounted : (t : Bool) (n : ℕ) → n ≡ bool_byte t → n ≡ 0 → t ≡ false
uncounted true n e z = absurd (omega arith)
uncounted false n e z = refl

-- the same marks are the same state
pub marks_stay : (s : State) (ms : List ℕ) → ms ≡ s.marks → s ≡ with_marks ms s
unfolding with_marks
marks_stay s ms e = ap (λ (l : List ℕ). with_marks l s) (sym e)

-- where nothing is to do, all stays
pub marked-stays : (s : State) (x : ℕ) → is_marked s.marks x ≡ true → s ≡ with_marks (mark x s.marks) s
marked-stays s x e = marks_stay s _ (mark-again x s.marks e)

pub unmarked_stays : (s : State) (x : ℕ) → is_marked s.marks x ≡ false → s ≡ with_marks (unmark x s.marks) s
unmarked_stays s x e = marks_stay s _ (unmark-again x s.marks e)

-- where byte k of the marks is 0, no page with its mark in it is marked
pub byte_unmarked : (ms : List ℕ) (k b : ℕ) → b ≡ get_or ms k 0 → b ≡ 0 → (y : ℕ) → y / 8 ≡ k → is_marked ms y ≡ false
unfolding mark_byte
byte_unmarked ms k b e z y here = zero_unmarked ms y (ap (λ (i : ℕ). get_or ms i 0) here ∙ sym e ∙ z)

-- clearing is no work for a page that isn't marked, at place i
pub unmarked_on : (l ms : List ℕ) (i : ℕ) → i < length l → is_marked ms (get_or l i 0) ≡ false → unmark_all (drop i l) ms ≡ unmark_all (drop (i + 1) l) ms
unfolding unmark_all
unmarked_on l ms i h e = rw (drop-cons l i 0 h, add-one i) (ap (unmark_all (drop (suc i) l)) (unmark-again (get_or l i 0) ms e))

-- nor behind the last
pub unmarked_end : (l ms : List ℕ) (i : ℕ) → length l ≤ i → unmark_all (drop i l) ms ≡ ms
unfolding unmark_all
unmarked_end l ms i h = rw (drop_of_length-le l h)

-- one more page's mark is cleared, of those from place i on
pub cleared_on : (l : List ℕ) (i : ℕ) (w s t : State) → i < length l → w ≡ clear_marks (drop i l) s → t ≡ with_marks (unmark (get_or l i 0) s.marks) s
    → w ≡ clear_marks (drop (i + 1) l) t
unfolding clear_marks unmark_all with_marks
cleared_on l i w s t h so e = so ∙ rw (drop-cons l i 0 h, e, add-one i)

-- all are
pub cleared_all : (l : List ℕ) (i : ℕ) (w s : State) → length l ≤ i → w ≡ clear_marks (drop i l) s → s ≡ w
unfolding clear_marks
cleared_all l i w s h so = marks_stay s _ (unmarked_end l s.marks i h) ∙ sym so
