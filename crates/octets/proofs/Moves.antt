-- Bytes that moved: what each turn of a move does, and which bytes are alike after it, from the laws of stores. Assumes nothing.
use mathlib.Core.Path.{◌≡◌, sym, ap, ◌∙◌}
use mathlib.Core.List.{List, [], ◌∷◌, ◌++◌}
use Prim.Native.Nat.{ℕ, zero, suc, ◌+◌, ◌-◌, ◌*◌, ◌≤◌, ◌<◌}
use native.Mathlib.Omega.{arith}
use lib.ListN.{length, get_or, set, take, drop, length-drop}
use lib.Seq.{take-suc, take-set-le, drop-set-lt, drop-set-add, drop-cons, get_or-drop}
use Rattle.model.specs.Lists.{store}
use Rattle.model.proofs.Lists.{length-store, store_nil, store_first}
use Rattle.octets.specs.Slots.{moved}
use Rattle.octets.proofs.Stores.{store_last}
use Rattle.octets.proofs.Same.{Same, same_first, same_then, length_part, part_at, stored-below, stored-above, stored_at}

module _ (s : List ℕ) (p q : ℕ) where
  -- a move keeps the length
  pub length_moved : (n : ℕ) → length (moved s p q n) ≡ length s
  unfolding moved
  length_moved n = length-store s p (take n (drop q s))

  -- nothing to move
  pub moved_none : moved s p q 0 ≡ s
  unfolding moved
  moved_none = store_nil s p

  -- upward: the last byte, and then those before it
  moved_last : (n : ℕ) → q ≤ p → q + n < length s → moved (set s (p + n) (get_or s (q + n) 0)) p q n ≡ moved s p q (suc n)
  unfolding moved
  moved_last n h l =
      let e : p + n ≡ q + (p - q + n) = omega arith in
      let inside : n < length (drop q s) = rw (length-drop q s) (omega arith) in
      let long : length (take n (drop q s)) ≡ n = length_part s q n (omega arith) in
      let last : take (suc n) (drop q s) ≡ take n (drop q s) ++ (get_or s (q + n) 0 ∷ []) = rw (take-suc (drop q s) n 0 inside, get_or-drop q s n 0) in
      let kept : take n (drop q (set s (p + n) (get_or s (q + n) 0))) ≡ take n (drop q s) = rw (e, drop-set-add q s (p - q + n) (get_or s (q + n) 0)) (take-set-le n (drop q s) (p - q + n) (get_or s (q + n) 0) (omega arith)) in
      ap (store (set s (p + n) (get_or s (q + n) 0)) p) kept
      ∙ ap (λ (k : ℕ). store (set s (p + k) (get_or s (q + n) 0)) p (take n (drop q s))) (sym long)
      ∙ sym (store_last s p (take n (drop q s)) (get_or s (q + n) 0))
      ∙ ap (store s p) (sym last)

  -- downward: the first byte, and then those behind it
  moved_first : (n : ℕ) → p ≤ q → q < length s → moved (set s p (get_or s q 0)) (suc p) (suc q) n ≡ moved s p q (suc n)
  unfolding moved
  moved_first n h l =
      ap (λ (k : List ℕ). store (set s p (get_or s q 0)) (suc p) (take n k)) (drop-set-lt (suc q) s p (get_or s q 0) (omega arith))
      ∙ sym (store_first s p (get_or s q 0) (take n (drop (suc q) s)))
      ∙ rw (drop-cons s q 0 l)

  -- the bytes that moved, those below their new places and those above
  module _ (n : ℕ) where
    pub moved_at : q + n ≤ length s → p + n ≤ length s → Same n (moved s p q n) p s q
    unfolding moved
    moved_at h l =
        let long : length (take n (drop q s)) ≡ n = length_part s q n h in
        same_then (same_first n (omega arith) (stored_at s p (take n (drop q s)) (omega arith))) (part_at n s q)

    pub moved-below : (m x : ℕ) → x + m ≤ p → Same m (moved s p q n) x s x
    unfolding moved
    moved-below m x h = stored-below m s p (take n (drop q s)) x h

    pub moved-above : q + n ≤ length s → (m x : ℕ) → p + n ≤ x → Same m (moved s p q n) x s x
    unfolding moved
    moved-above h m x l = let long : length (take n (drop q s)) ≡ n = length_part s q n h in stored-above m s p (take n (drop q s)) x (omega arith)

-- a turn of the loop upward, with j bytes left, and of the one downward, with j done
module _ (s : List ℕ) (q w : ℕ) where
  pub up_turn : (j : ℕ) → 0 < j → q + j ≤ length s → moved (set s (q + w + (j - 1)) (get_or s (q + (j - 1)) 0)) (q + w) q (j - 1) ≡ moved s (q + w) q j
  up_turn zero h l = absurd (omega arith)
  up_turn (suc j) h l = let e : suc j - 1 ≡ j = omega arith in rw e (moved_last s (q + w) q j (omega arith) (omega arith))

  pub down_start : (n : ℕ) → moved s (q + 0) (q + w + 0) (n - 0) ≡ moved s q (q + w) n
  down_start n =
      let e : q + 0 ≡ q = omega arith in
      let f : q + w + 0 ≡ q + w = omega arith in
      let g : n - 0 ≡ n = omega arith in
      rw (e, f, g)

  pub down_turn : (n j : ℕ) → j < n → q + w + n ≤ length s → moved (set s (q + j) (get_or s (q + w + j) 0)) (q + (j + 1)) (q + w + (j + 1)) (n - (j + 1)) ≡ moved s (q + j) (q + w + j) (n - j)
  down_turn n j h l =
      let e : q + (j + 1) ≡ suc (q + j) = omega arith in
      let f : q + w + (j + 1) ≡ suc (q + w + j) = omega arith in
      let g : n - j ≡ suc (n - (j + 1)) = omega arith in
      rw (e, f, g) (moved_first s (q + j) (q + w + j) (n - (j + 1)) (omega arith) (omega arith))

-- i slots and the n - i behind them
pub slots-width : (i n w : ℕ) → i ≤ n → i * w + (n - i) * w ≡ n * w
slots-width i n w h =
    let e : i + (n - i) ≡ n = omega arith in
    let d : i * w + (n - i) * w ≡ (i + (n - i)) * w = omega arith in
    d ∙ ap (λ (m : ℕ). m * w) e
