-- Integers and the natural numbers added to them: what two sums from one integer say of each other, and which of two integers is
-- smaller. Assumes nothing.
use mathlib.Core.Path.{◌≡◌, sym, ◌∙◌, ap}
use Prim.Native.Nat.{ℕ, ◌+◌, ◌-◌, ◌≤◌}
use native.Mathlib.Omega.{arith}
use native.Mathlib.Nat.{add_comm}
use lib.IntN.{ℤ, pos, ◌+ℤ◌, ◌-ℤ◌, +ℤ_assoc, +ℤ_comm, +ℤ_idl, +ℤ_idr, +ℤ-neg_ℤ_cancel}
use Rattle.model.specs.Demand2.{AtMost}

cancel : (m n k : ℤ) → m +ℤ k ≡ n +ℤ k → m ≡ n
cancel m n k e = sym (+ℤ-neg_ℤ_cancel m k) ∙ ap (λ (z : ℤ). z -ℤ k) e ∙ +ℤ-neg_ℤ_cancel n k

-- Where c more is q, c + k more is q + k.
pub sum_more : (I : ℤ) (c q k : ℕ) → I +ℤ pos c ≡ pos q → I +ℤ pos (c + k) ≡ pos (q + k)
sum_more I c q k e = sym (+ℤ_assoc I (pos c) (pos k)) ∙ ap (λ (z : ℤ). z +ℤ pos k) e

-- Two sums from one integer differ as what was added.
pub two_sums : (I : ℤ) (c d q r : ℕ) → I +ℤ pos c ≡ pos q → I +ℤ pos d ≡ pos r → q + d ≡ r + c
two_sums I c d q r e f =
    let s : pos (q + d) ≡ pos (r + c) = sym (sum_more I c q d e) ∙ ap (λ (n : ℕ). I +ℤ pos n) (add_comm c d) ∙ sum_more I d r c f in
    cc

-- A sum from an integer, of another that is known.
pub other_sum : (I : ℤ) (c d q r : ℕ) → I +ℤ pos c ≡ pos q → q + d ≡ r + c → I +ℤ pos d ≡ pos r
other_sum I c d q r e h = cancel (I +ℤ pos d) (pos r) (pos c)
    (+ℤ_assoc I (pos d) (pos c) ∙ ap (λ (n : ℕ). I +ℤ pos n) (add_comm d c) ∙ sum_more I c q d e ∙ ap pos h)

-- Of two integers the one with the smaller sum is at most the other.
pub at_most : (I J : ℤ) (c q r : ℕ) → I +ℤ pos c ≡ pos q → J +ℤ pos c ≡ pos r → q ≤ r → AtMost I J
at_most I J c q r e f h = record { less = r - q; is = cancel (I +ℤ pos (r - q)) J (pos c) (sums ∙ sym f) }
  where
    sums : I +ℤ pos (r - q) +ℤ pos c ≡ pos r
    sums =
        let u : r - q + c ≡ c + (r - q) = omega arith in
        let v : q + (r - q) ≡ r = omega arith in
        +ℤ_assoc I (pos (r - q)) (pos c) ∙ ap (λ (n : ℕ). I +ℤ pos n) u ∙ sum_more I c q (r - q) e ∙ ap pos v

-- Two integers of which each is at most the other are equal.
pub at_most_both : (I J : ℤ) → AtMost I J → AtMost J I → I ≡ J
at_most_both I J h k =
    let s : pos (h.less + k.less) +ℤ I ≡ pos 0 +ℤ I =
    +ℤ_comm (pos (h.less + k.less)) I ∙ sym (+ℤ_assoc I (pos h.less) (pos k.less)) ∙ ap (λ (z : ℤ). z +ℤ pos k.less) h.is
    ∙ k.is ∙ sym (+ℤ_idl I) in
    let t : pos (h.less + k.less) ≡ pos 0 = cancel (pos (h.less + k.less)) (pos 0) I s in
    let u : h.less + k.less ≡ 0 = cc in
    let v : h.less ≡ 0 = omega arith in
    sym (+ℤ_idr I) ∙ ap (λ (n : ℕ). I +ℤ pos n) (sym v) ∙ h.is
