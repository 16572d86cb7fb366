-- Taking an exported function's number apart gives the answer's values back: no field runs over into the next. Assumes nothing.
use mathlib.Core.Path.{◌≡◌, sym, subst}
use mathlib.Core.List.{List}
use mathlib.Core.Bool.{true, false}
use Prim.Native.Nat.{ℕ, ◌+◌, ◌*◌, ◌/◌, ◌%◌, ◌<◌}
use native.Mathlib.Omega.{arith}
use Rattle.calls.specs.Refusals.{refusal_number}
use Rattle.calls.specs.Outcome.{Answer, formatted, flushed, found, not_written, discarded, collected, compacted, agreed, listed, explained, refused}
use Rattle.calls.specs.History.{Call}
use Rattle.calls.specs.Bounds.{Bounded}
use Rattle.plain.specs.Calls.{Common}
use Rattle.state.specs.Ran.{Slices}
use Rattle.state.proofs.Bounds.{ran_bounded}
use Rattle.plainstate.specs.Ran as plain
use Rattle.plainstate.proofs.Bounds as plainly
use Rattle.export.specs.Packing.{bit20, bit40, bit56, bit60, packed, Packs, page_alone, PlainPacks}

-- The fields of a number, from the highest down.
pub record Fields (r refusal found third second first : ℕ) : Type 0 where
  pub refusal_is : r / bit60 ≡ refusal
  pub found_is : r / bit56 % 16 ≡ found
  pub third_is : r / bit40 % 65536 ≡ third
  pub second_is : r / bit20 % bit20 ≡ second
  pub first_is : r % bit20 ≡ first

-- Values below the widths of their fields are read back.
unpacks : (a b c d e r : ℕ) → b < 16 → c < 65536 → d < bit20 → e < bit20 → r ≡ a * bit60 + b * bit56 + c * bit40 + d * bit20 + e → Fields r a b c d e
unpacks a b c d e r hb hc hd he h = record { refusal_is = omega arith; found_is = omega arith; third_is = omega arith; second_is = omega arith; first_is = omega arith }

-- The fields that an answer's number has.
pub Unpacked : ℕ → Answer → Type 0
Unpacked r formatted = Fields r 0 0 0 0 0
Unpacked r (flushed p n) = Fields r 0 0 0 n p
Unpacked r (found p q n) = Fields r 0 1 n q p
Unpacked r (not_written n) = Fields r 0 0 n 0 0
Unpacked r discarded = Fields r 0 0 0 0 0
Unpacked r (collected p n e) = Fields r 0 0 e n p
Unpacked r (compacted n) = Fields r 0 0 0 0 n
Unpacked r (agreed true) = Fields r 0 0 0 0 1
Unpacked r (agreed false) = Fields r 0 0 0 0 0
Unpacked r (listed n) = Fields r 0 0 0 0 n
Unpacked r (explained n) = Fields r 0 0 0 0 n
Unpacked r (refused x) = Fields r (refusal_number x) 0 0 0 0

answer_unpacked : (a : Answer) → Bounded a → Unpacked (packed a) a
unfolding Unpacked packed Bounded
answer_unpacked formatted h = unpacks 0 0 0 0 0 _ (omega arith) (omega arith) (omega arith) (omega arith) (omega arith)
answer_unpacked (flushed p n) h = unpacks 0 0 0 n p _ (omega arith) (omega arith) (omega arith) (omega arith) (omega arith)
answer_unpacked (found p q n) h = unpacks 0 1 n q p _ (omega arith) (omega arith) (omega arith) (omega arith) (omega arith)
answer_unpacked (not_written n) h = unpacks 0 0 n 0 0 _ (omega arith) (omega arith) (omega arith) (omega arith) (omega arith)
answer_unpacked discarded h = unpacks 0 0 0 0 0 _ (omega arith) (omega arith) (omega arith) (omega arith) (omega arith)
answer_unpacked (collected p n e) h = unpacks 0 0 e n p _ (omega arith) (omega arith) (omega arith) (omega arith) (omega arith)
answer_unpacked (compacted n) h = unpacks 0 0 0 0 n _ (omega arith) (omega arith) (omega arith) (omega arith) (omega arith)
answer_unpacked (agreed true) h = unpacks 0 0 0 0 1 _ (omega arith) (omega arith) (omega arith) (omega arith) (omega arith)
answer_unpacked (agreed false) h = unpacks 0 0 0 0 0 _ (omega arith) (omega arith) (omega arith) (omega arith) (omega arith)
answer_unpacked (listed n) h = unpacks 0 0 0 0 n _ (omega arith) (omega arith) (omega arith) (omega arith) (omega arith)
answer_unpacked (explained n) h = unpacks 0 0 0 0 n _ (omega arith) (omega arith) (omega arith) (omega arith) (omega arith)
answer_unpacked (refused x) h = unpacks (refusal_number x) 0 0 0 0 _ (omega arith) (omega arith) (omega arith) (omega arith) (omega arith)

-- Whatever a call exported answers, its fields are those of document 01's answer.
pub unpacked : {c : Call} {state spare : List ℕ} {r : ℕ} {left : Slices} → (p : Packs c state spare r left) → Unpacked r p.answer
unpacked p = subst (λ (n : ℕ). Unpacked n p.answer) (sym p.is) (answer_unpacked p.answer (ran_bounded p.ran))

bounded_alone : (a : Answer) → Bounded a → Bounded (page_alone a)
unfolding page_alone Bounded
bounded_alone formatted h = h
bounded_alone (flushed p n) h = h
bounded_alone (found p q n) h = (h.0, omega arith, omega arith)
bounded_alone (not_written n) h = omega arith
bounded_alone discarded h = h
bounded_alone (collected p n e) h = h
bounded_alone (compacted n) h = h
bounded_alone (agreed t) h = h
bounded_alone (listed n) h = h
bounded_alone (explained n) h = h
bounded_alone (refused r) h = h

-- So are those of a call of the plain engine, but for the predicted page and the levels, which it hasn't.
pub plain_unpacked : {c : Common} {state : List ℕ} {r : ℕ} {left : plain.Slices} → (p : PlainPacks c state r left) → Unpacked r (page_alone p.answer)
plain_unpacked p =
    subst (λ (n : ℕ). Unpacked n (page_alone p.answer)) (sym p.is)
    (answer_unpacked (page_alone p.answer) (bounded_alone p.answer (plainly.ran_bounded p.ran)))
