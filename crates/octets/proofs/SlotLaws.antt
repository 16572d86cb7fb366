-- An array of slots after bytes of the list changed: slot by slot, by induction on the slots before the change. Assumes nothing.
use mathlib.Core.Path.{◌≡◌, refl, ◌∙◌}
use mathlib.Core.List.{List}
use Prim.Native.Nat.{ℕ, zero, suc, ◌+◌, ◌-◌, ◌*◌, ◌≤◌, ◌<◌}
use native.Mathlib.Omega.{arith}
use native.Mathlib.Numerals.{add-one}
use lib.ListN.{length, set, take, drop}
use lib.Seq.{take_all}
use Rattle.model.specs.Lists.{store}
use Rattle.model.proofs.Lists.{length-store}
use Rattle.octets.specs.Slots.{moved, slot_at, slots, insert_at, remove_at}
use Rattle.octets.proofs.Stores.{part-store}
use Rattle.octets.proofs.Same.{Same, same_first, same_inner, same_then, length_part, part_same, stored-below, stored-above, stored_at}
use Rattle.octets.proofs.Moves.{length_moved, moved_at, moved-below, slots-width}

-- a slot inside the list is as long as its width
pub length-slot_at : (w b : ℕ) (s : List ℕ) (i : ℕ) → b + (i + 1) * w ≤ length s → length (slot_at w b s i) ≡ w
unfolding slot_at
length-slot_at w b s i h = length_part s (b + i * w) w (omega arith)

-- arrays whose bytes are alike are equal
pub slots_same : {s t : List ℕ} {p q : ℕ} (w n : ℕ) → Same (n * w) s p t q → p + n * w ≤ length s → q + n * w ≤ length t → slots w p n s ≡ slots w q n t
unfolding slots slot_at
slots_same w zero a h k = refl
slots_same {s = s} {t = t} {p = p} {q = q} w (suc n) a h k =
    let e : p + 0 * w ≡ p = omega arith in
    let f : q + 0 * w ≡ q = omega arith in
    let first : take w (drop p s) ≡ take w (drop q t) = part_same (same_first w (omega arith) a) (omega arith) (omega arith) in
    let others : slots w (p + w) n s ≡ slots w (q + w) n t = slots_same {p = p + w} {q = q + w} w n (same_inner w (n * w) (omega arith) a) (omega arith) (omega arith) in
    rw (e, f, first, others)

-- a slot opened at place q, the n bytes from it on moved up, and v stored in it
module _ (w : ℕ) (s v : List ℕ) (q m : ℕ) (long : length v ≡ w) (inside : q + m + w ≤ length s) where
  abbrev filled : List ℕ
  filled = store (moved s (q + w) q m) q v

  filled-long : length filled ≡ length s
  filled-long = length-store (moved s (q + w) q m) q v ∙ length_moved s (q + w) q m

  opened-below : (n x : ℕ) → x + n ≤ q → Same n filled x s x
  opened-below n x h = same_then (stored-below n (moved s (q + w) q m) q v x h) (moved-below s (q + w) q m n x (omega arith))

  opened-moved : Same m filled (q + w) s q
  opened-moved = same_then (stored-above m (moved s (q + w) q m) q v (q + w) (omega arith)) (moved_at s (q + w) q m (omega arith) (omega arith))

  opened-new : take w (drop q filled) ≡ v
  opened-new =
      let room : q + length v ≤ length (moved s (q + w) q m) = omega (arith, length_moved s (q + w) q m) in
      let a : Same w filled q v 0 = same_first w (omega arith) (stored_at (moved s (q + w) q m) q v room) in
      part_same a (omega (arith, filled-long)) (omega arith) ∙ take_all w v (omega arith)

  open_from : (i n b : ℕ) → i ≤ n → q ≡ b + i * w → q + m ≡ b + n * w → slots w b (suc n) filled ≡ insert_at i v (slots w b n s)
  unfolding slots slot_at insert_at
  open_from zero n b h e f =
      let d : b ≡ q = omega arith in
      let z : q + 0 * w ≡ q = omega arith in
      let others : slots w (q + w) n filled ≡ slots w q n s = slots_same w n (same_first (n * w) (omega arith) opened-moved) (omega (arith, filled-long)) (omega arith) in
      rw (d, z, opened-new, others)
  open_from (suc i) zero b h e f = absurd (omega arith)
  open_from (suc i) (suc n) b h e f =
      let z : b + 0 * w ≡ b = omega arith in
      let first : take w (drop b filled) ≡ take w (drop b s) = part_same (opened-below w b (omega arith)) (omega (arith, filled-long)) (omega arith) in
      let others : slots w (b + w) (suc n) filled ≡ insert_at i v (slots w (b + w) n s) = open_from i n (b + w) (omega arith) (omega arith) (omega arith) in
      rw (z, first, others)

-- opening slot i of `used` and storing v in it puts v in before slot i
pub slots_open : (w b used : ℕ) (s : List ℕ) (i : ℕ) (v : List ℕ) → length v ≡ w → i ≤ used → b + (used + 1) * w ≤ length s
    → slots w b (used + 1) (store (moved s (b + i * w + w) (b + i * w) ((used - i) * w)) (b + i * w) v) ≡ insert_at i v (slots w b used s)
slots_open w b used s i v long h inside =
    let e = slots-width i used w h in
    rw (add-one used) (open_from w s v (b + i * w) ((used - i) * w) long (omega arith) i used b h refl (omega arith))

-- a slot closed at place q, the m bytes behind it moved down
module _ (w : ℕ) (s : List ℕ) (q m : ℕ) (inside : q + m + w ≤ length s) where
  abbrev closed : List ℕ
  closed = moved s q (q + w) m

  close_from : (i n b : ℕ) → i ≤ n → q ≡ b + i * w → q + m ≡ b + n * w → slots w b n closed ≡ remove_at i (slots w b (suc n) s)
  unfolding slots slot_at remove_at
  close_from zero n b h e f =
      let d : b ≡ q = omega arith in
      rw d (slots_same w n (same_first (n * w) (omega arith) (moved_at s q (q + w) m (omega arith) (omega arith))) (omega (arith, length_moved s q (q + w) m)) (omega arith))
  close_from (suc i) zero b h e f = absurd (omega arith)
  close_from (suc i) (suc n) b h e f =
      let z : b + 0 * w ≡ b = omega arith in
      let first : take w (drop b closed) ≡ take w (drop b s) = part_same (moved-below s q (q + w) m w b (omega arith)) (omega (arith, length_moved s q (q + w) m)) (omega arith) in
      let others : slots w (b + w) n closed ≡ remove_at i (slots w (b + w) (suc n) s) = close_from i n (b + w) (omega arith) (omega arith) (omega arith) in
      rw (z, first, others)

-- closing slot i of `used` takes it out
pub slots_close : (w b used : ℕ) (s : List ℕ) (i : ℕ) → i < used → b + used * w ≤ length s
    → slots w b (used - 1) (moved s (b + i * w) (b + i * w + w) ((used - (i + 1)) * w)) ≡ remove_at i (slots w b used s)
slots_close w b zero s i h inside = absurd (omega arith)
slots_close w b (suc n) s i h inside =
    let d : suc n - 1 ≡ n = omega arith in
    let e : suc n - (i + 1) ≡ n - i = omega arith in
    let k : i ≤ n = omega arith in
    let f = slots-width i n w k in
    rw (d, e) (close_from w s (b + i * w) ((n - i) * w) (omega arith) i n b k refl (omega arith))

-- a store inside one slot
module _ (w : ℕ) (s : List ℕ) (k : ℕ) (vs : List ℕ) (fits : k + length vs ≤ w) where
  change_from : (p i n b : ℕ) → i < n → p ≡ b + i * w → b + n * w ≤ length s → slots w b n (store s (p + k) vs) ≡ set (slots w b n s) i (store (take w (drop p s)) k vs)
  unfolding slots slot_at
  change_from p i zero b h e inside = absurd (omega arith)
  change_from p zero (suc n) b h e inside =
      let d : b ≡ p = omega arith in
      let f : p + 0 * w ≡ p = omega arith in
      let others : slots w (p + w) n (store s (p + k) vs) ≡ slots w (p + w) n s = slots_same w n (stored-above (n * w) s (p + k) vs (p + w) (omega arith)) (omega (arith, length-store s (p + k) vs)) (omega arith) in
      rw (d, f, part-store w p s k vs, others)
  change_from p (suc i) (suc n) b h e inside =
      let f : b + 0 * w ≡ b = omega arith in
      let first : take w (drop b (store s (p + k) vs)) ≡ take w (drop b s) = part_same (stored-below w s (p + k) vs b (omega arith)) (omega (arith, length-store s (p + k) vs)) (omega arith) in
      let others : slots w (b + w) n (store s (p + k) vs) ≡ set (slots w (b + w) n s) i (store (take w (drop p s)) k vs) = change_from p i n (b + w) (omega arith) (omega arith) (omega arith) in
      rw (f, first, others)

-- a store inside slot i changes only that slot
pub slots-store : (w b n : ℕ) (s : List ℕ) (i k : ℕ) (vs : List ℕ) → k + length vs ≤ w → i < n → b + n * w ≤ length s
    → slots w b n (store s (b + i * w + k) vs) ≡ set (slots w b n s) i (store (slot_at w b s i) k vs)
unfolding slot_at
slots-store w b n s i k vs fits h inside = change_from w s k vs fits (b + i * w) i n b h refl inside
