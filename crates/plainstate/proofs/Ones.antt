-- The marked pages of a range, counted: part by part, by a page's bit, by a byte, by a word. Assumes nothing.
use mathlib.Core.Path.{◌≡◌, refl, sym, ap, ◌∙◌}
use mathlib.Core.List.{List}
use mathlib.Core.Bool.{Bool, true, false}
use mathlib.Core.Logic.{◌≢◌}
use Prim.Native.Nat.{ℕ, zero, suc, ◌+◌, ◌-◌, ◌*◌, ◌/◌, ◌%◌, ◌^◌, ◌≤◌, ◌<◌}
use native.Mathlib.Omega.{arith}
use lib.Dec.{eqb}
use lib.Count.{ones, ones_step, ones_cat}
use lib.Pow.{shr-shr}
use lib.ListN.{length, get_or}
use borrow.Author.Tests.{eqb-true, eqb-false}
use Rattle.model.specs.Lists.{select}
use Rattle.model.specs.Marks.{mark_byte, mark_value, has_bit, is_marked}
use Rattle.octets.specs.Little.{le16, le32}

-- Of n numbers no more than n are chosen.
pub select_most : (t : ℕ → Bool) (n x : ℕ) → length (select t n x) ≤ n
unfolding select
select_most t zero x = omega arith
select_most t (suc n) x = go (t x) refl (select_most t n (suc x))
  where
    go : (b : Bool) → t x ≡ b → length (select t n (suc x)) ≤ n → length (select t (suc n) x) ≤ suc n
    go true e ih = rw (e, select) (omega arith)
    go false e ih = rw (e, select) (omega arith)

-- The first and those behind it ..
select_first : (t : ℕ → Bool) (n x : ℕ) → length (select t (suc n) x) ≡ length (select t 1 x) + length (select t n (suc x))
unfolding select
select_first t n x = go (t x) refl
  where
    go : (b : Bool) → t x ≡ b → length (select t (suc n) x) ≡ length (select t 1 x) + length (select t n (suc x))
    go true e = rw (e, select) (omega arith)
    go false e = rw (e, select) (omega arith)

-- .. and so those of one part and those of the part behind it, where w is m + n, and k is x + m.
select-parts : (t : ℕ → Bool) (m n x w k : ℕ) → w ≡ m + n → k ≡ x + m → length (select t w x) ≡ length (select t m x) + length (select t n k)
unfolding select
select-parts t zero n x w k e q =
    let a : w ≡ n = omega arith in
    let b : x ≡ k = omega arith in
    let l : length (select t w x) ≡ length (select t n k) = ap (λ (i : ℕ). length (select t i x)) a ∙ ap (λ (i : ℕ). length (select t n i)) b in
    l ∙ omega arith
select-parts t (suc m) n x w k e q =
    let a : w ≡ suc (m + n) = omega arith in
    let l : length (select t w x) ≡ length (select t (suc (m + n)) x) = ap (λ (i : ℕ). length (select t i x)) a in
    let f = select_first t (m + n) x in
    let g = select_first t m x in
    let r : length (select t (m + n) (suc x)) ≡ length (select t m (suc x)) + length (select t n k) = select-parts t m n (suc x) (m + n) k refl (omega arith) in
    omega (arith, l, f, g, r)

-- Counting from a up to e, in parts: n are those up to p, the others are still to come.
abbrev pub Counted : (t : ℕ → Bool) (a e p n : ℕ) → Type 0
Counted t a e p n = length (select t (e - a) a) ≡ n + length (select t (e - p) p)

module _ (t : ℕ → Bool) (a e : ℕ) where
  -- v of m more; all; those up to p and the rest
  counted_more : (p m n v f : ℕ) → f ≡ p + m → f ≤ e → v ≡ length (select t m p) → Counted t a e p n → Counted t a e f (n + v)
  counted_more p m n v f z h q k =
      let parts = select-parts t m (e - f) p (e - p) f (omega arith) z in
      omega (arith, parts, q, k)

  pub counted_all : (p n : ℕ) → e ≤ p → Counted t a e p n → n ≡ length (select t (e - a) a)
  counted_all p n h k = omega (arith, k, select_most t (e - p) p)

  pub counted-rest : (p n r f : ℕ) → f ≡ p → r ≡ length (select t (e - f) f) → Counted t a e p n → n + r ≡ length (select t (e - a) a)
  counted-rest p n r f z q k = omega (arith, k, q, ap (λ (i : ℕ). length (select t (e - i) i)) z)

  -- no more than there are
  pub counted_most : (p n : ℕ) → Counted t a e p n → n ≤ e
  counted_most p n k = omega (arith, select_most t (e - a) a, k)

  pub count_most : (r : ℕ) → r ≡ length (select t (e - a) a) → r ≤ e
  count_most r q = omega (arith, select_most t (e - a) a, q)

-- Those from a up to m and those from there up to e.
pub counts-joined : (t : ℕ → Bool) (a m e x y : ℕ) → a ≤ m → m ≤ e
    → x ≡ length (select t (m - a) a) → y ≡ length (select t (e - m) m) → x + y ≡ length (select t (e - a) a)
counts-joined t a m e x y l h p q = omega (arith, p, q, select-parts t (m - a) (e - m) a (e - a) m (omega arith) (omega arith))

-- one number, chosen by the lowest bit of v
bit-count : (t : ℕ → Bool) (x v : ℕ) → t x ≡ eqb (v % 2) 1 → length (select t 1 x) ≡ v % 2
unfolding select
bit-count t x v e = go (eqb (v % 2) 1) refl
  where
    go : (b : Bool) → eqb (v % 2) 1 ≡ b → length (select t 1 x) ≡ v % 2
    go true q = let u : t x ≡ true = e ∙ q in let h : v % 2 ≡ 1 = eqb-true (v % 2) 1 q in rw (u, select) (sym h)
    go false q =
        let u : t x ≡ false = e ∙ q in
        let n : v % 2 ≢ 1 = eqb-false (v % 2) 1 q in
        let h : v % 2 ≡ 0 = omega (arith, n) in
        rw (u, select) (sym h)

-- A page by its bit in its byte, b.
page-count : (s : List ℕ) (p b : ℕ) → b ≡ get_or s (p / 8) 0 → length (select (is_marked s) 1 p) ≡ b / 2 ^ (p % 8) % 2
unfolding is_marked mark_byte mark_value has_bit
page-count s p b e = bit-count (is_marked s) p (b / 2 ^ (p % 8)) (ap (λ (c : ℕ). eqb (c / 2 ^ (p % 8) % 2) 1) (sym e))

-- one page more
pub page_more : (s : List ℕ) (a e p n b : ℕ) → p < e → b ≡ get_or s (p / 8) 0 → Counted (is_marked s) a e p n → Counted (is_marked s) a e (p + 1) (n + b / 2 ^ (p % 8) % 2)
page_more s a e p n b l h k = counted_more (is_marked s) a e p 1 n (b / 2 ^ (p % 8) % 2) (p + 1) refl (omega arith) (sym (page-count s p b h)) k

-- pages by byte i, b: by its n highest bits, and by all eight
module _ (s : List ℕ) (i b : ℕ) (e : b ≡ get_or s i 0) (h : b < 256) where
  bits_count : (n k p : ℕ) → n + k ≡ 8 → p ≡ 8 * i + k → length (select (is_marked s) n p) ≡ ones (b / 2 ^ k)
  unfolding select ones
  bits_count zero k p q r =
      let k8 : k ≡ 8 = omega arith in
      let z : b / 256 ≡ 0 = omega arith in
      sym (ap (λ (j : ℕ). ones (b / 2 ^ j)) k8 ∙ ap ones z)
  bits_count (suc n) k p q r =
      let u : p / 8 ≡ i = omega arith in
      let v : p % 8 ≡ k = omega arith in
      let one : length (select (is_marked s) 1 p) ≡ b / 2 ^ k % 2 =
      page-count s p b (e ∙ ap (λ (j : ℕ). get_or s j 0) (sym u)) ∙ ap (λ (j : ℕ). b / 2 ^ j % 2) v in
      let more : length (select (is_marked s) n (suc p)) ≡ ones (b / 2 ^ suc k) = bits_count n (suc k) (suc p) (omega arith) (omega arith) in
      let half : ones (b / 2 ^ k / 2) ≡ ones (b / 2 ^ suc k) = ap ones (shr-shr b k 1 ∙ ap (λ (j : ℕ). b / 2 ^ j) (let z : k + 1 ≡ suc k = omega arith in z)) in
      omega (arith, select_first (is_marked s) n p, one, more, half, ones_step (b / 2 ^ k))

  byte-count : (p : ℕ) → p ≡ 8 * i → length (select (is_marked s) 8 p) ≡ ones b
  byte-count p q = bits_count 8 0 p (omega arith) (omega arith) ∙ ap ones (let z : b / 1 ≡ b = omega arith in z)

-- 16 pages by two bytes, 32 by four.
module _ (s : List ℕ) (small : (i : ℕ) → get_or s i 0 < 256) where
  pair-count : (i p : ℕ) → p ≡ 8 * i → length (select (is_marked s) 16 p) ≡ ones (le16 s i)
  unfolding le16
  pair-count i p e =
      let low = byte-count s i (get_or s i 0) refl (small i) p e in
      let high = byte-count s (i + 1) (get_or s (i + 1) 0) refl (small (i + 1)) (p + 8) (omega arith) in
      let both : ones (get_or s (i + 1) 0 * 256 + get_or s i 0) ≡ ones (get_or s (i + 1) 0) + ones (get_or s i 0) =
      ones_cat 8 (get_or s (i + 1) 0) (get_or s i 0) (small i) in
      let word : ones (get_or s (i + 1) 0 * 256 + get_or s i 0) ≡ ones (le16 s i) = ap ones (let z : get_or s (i + 1) 0 * 256 + get_or s i 0 ≡ le16 s i = omega arith in z) in
      omega (arith, select-parts (is_marked s) 8 8 p 16 (p + 8) refl refl, low, high, both, word)

  pair_small : (i : ℕ) → le16 s i < 65536
  unfolding le16
  pair_small i = omega (arith, small i, small (i + 1))

  word_count : (i p : ℕ) → p ≡ 8 * i → length (select (is_marked s) 32 p) ≡ ones (le32 s i)
  unfolding le32
  word_count i p e =
      let low = pair-count i p e in
      let high = pair-count (i + 2) (p + 16) (omega arith) in
      let both : ones (le16 s (i + 2) * 65536 + le16 s i) ≡ ones (le16 s (i + 2)) + ones (le16 s i) =
      ones_cat 16 (le16 s (i + 2)) (le16 s i) (pair_small i) in
      let word : ones (le16 s (i + 2) * 65536 + le16 s i) ≡ ones (le32 s i) = ap ones (let z : le16 s (i + 2) * 65536 + le16 s i ≡ le32 s i = omega arith in z) in
      omega (arith, select-parts (is_marked s) 16 16 p 32 (p + 16) refl refl, low, high, both, word)

  -- one word more
  pub word_more : (a e i n w : ℕ) → a % 8 ≡ 0 → i < (e - a) / 32 → w ≡ le32 s (a / 8 + 4 * i) → Counted (is_marked s) a e (a + 32 * i) n
      → Counted (is_marked s) a e (a + 32 * (i + 1)) (n + ones w)
  word_more a e i n w z l h k =
      counted_more (is_marked s) a e (a + 32 * i) 32 n (ones w) (a + 32 * (i + 1)) (omega arith) (omega arith)
      (ap ones h ∙ sym (word_count (a / 8 + 4 * i) (a + 32 * i) (omega arith))) k
