-- Bytes that two lists have alike, and where a store, a part and a slot leave them: read place by place. Assumes nothing.
use mathlib.Core.Path.{◌≡◌, sym, ◌∙◌}
use mathlib.Core.List.{List}
use Prim.Native.Nat.{ℕ, ◌+◌, ◌≤◌, ◌<◌}
use native.Mathlib.Omega.{arith}
use native.Mathlib.Nat.{zero-add}
use lib.ListN.{length, get_or, take, drop, length-drop}
use lib.Seq.{get_or-take, get_or-drop, length-take-le, ext_get_or}
use Rattle.model.specs.Lists.{store}
use Rattle.model.proofs.Lists.{get_or-store, get_or-store-below, get_or-store-above}

-- The n bytes of s from place p on are those of t from place q on.
pub record Same (n : ℕ) (s : List ℕ) (p : ℕ) (t : List ℕ) (q : ℕ) : Type 0 where
  pub each : (k : ℕ) → k < n → get_or s (p + k) 0 ≡ get_or t (q + k) 0

-- alike one after the other
pub same_then : {n : ℕ} {s t u : List ℕ} {p q r : ℕ} → Same n s p t q → Same n t q u r → Same n s p u r
same_then a b = record { each = λ k h. a.each k h ∙ b.each k h }

-- the first m of the bytes that are alike
pub same_first : {n : ℕ} {s t : List ℕ} {p q : ℕ} (m : ℕ) → m ≤ n → Same n s p t q → Same m s p t q
same_first m h a = record { each = λ k l. a.each k (omega arith) }

-- m of the bytes that are alike, from the k-th on
pub same_inner : {n : ℕ} {s t : List ℕ} {p q : ℕ} (k m : ℕ) → k + m ≤ n → Same n s p t q → Same m s (p + k) t (q + k)
same_inner {s = s} {t = t} {p = p} {q = q} k m h a = record { each = each }
  where
    each : (j : ℕ) → j < m → get_or s (p + k + j) 0 ≡ get_or t (q + k + j) 0
    each j l =
        let e : p + k + j ≡ p + (k + j) = omega arith in
        let f : q + k + j ≡ q + (k + j) = omega arith in
        rw (e, f) (a.each (k + j) (omega arith))

-- below a store, above it, and where it stored
pub stored-below : (n : ℕ) (s : List ℕ) (p : ℕ) (vs : List ℕ) (q : ℕ) → q + n ≤ p → Same n (store s p vs) q s q
stored-below n s p vs q h = record { each = λ k l. get_or-store-below s p vs (q + k) 0 (omega arith) }

pub stored-above : (n : ℕ) (s : List ℕ) (p : ℕ) (vs : List ℕ) (q : ℕ) → p + length vs ≤ q → Same n (store s p vs) q s q
stored-above n s p vs q h = record { each = λ k l. get_or-store-above s p vs (q + k) 0 (omega arith) }

pub stored_at : (s : List ℕ) (p : ℕ) (vs : List ℕ) → p + length vs ≤ length s → Same (length vs) (store s p vs) p vs 0
stored_at s p vs room = record { each = each }
  where
    each : (k : ℕ) → k < length vs → get_or (store s p vs) (p + k) 0 ≡ get_or vs (0 + k) 0
    each k l = rw (zero-add k) (get_or-store s p vs k 0 l (omega arith))

-- in a part of n bytes that starts at a
pub part_at : (n : ℕ) (s : List ℕ) (a : ℕ) → Same n (take n (drop a s)) 0 s a
part_at n s a = record { each = each }
  where
    each : (k : ℕ) → k < n → get_or (take n (drop a s)) (0 + k) 0 ≡ get_or s (a + k) 0
    each k l = rw (zero-add k) (get_or-take n (drop a s) k 0 l ∙ get_or-drop a s k 0)

-- a part inside the list is as long as it says
pub length_part : (s : List ℕ) (a n : ℕ) → a + n ≤ length s → length (take n (drop a s)) ≡ n
length_part s a n h = length-take-le n (drop a s) (rw (length-drop a s) (omega arith))

-- parts whose bytes are alike are equal
pub part_same : {n : ℕ} {s t : List ℕ} {p q : ℕ} → Same n s p t q → p + n ≤ length s → q + n ≤ length t → take n (drop p s) ≡ take n (drop q t)
part_same {n = n} {s = s} {t = t} {p = p} {q = q} a h k =
    ext_get_or 0 (take n (drop p s)) (take n (drop q t)) (length_part s p n h ∙ sym (length_part t q n k)) each
  where
    each : (i : ℕ) → i < length (take n (drop p s)) → get_or (take n (drop p s)) i 0 ≡ get_or (take n (drop q t)) i 0
    each i l =
        let m : i < n = rw (length_part s p n h) at l in
        get_or-take n (drop p s) i 0 m ∙ get_or-drop p s i 0 ∙ a.each i m ∙ sym (get_or-take n (drop q t) i 0 m ∙ get_or-drop q t i 0)
