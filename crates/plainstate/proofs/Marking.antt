-- Pages marked by whole bytes and by a bit; ranges of pages side by side. Assumes nothing.
use mathlib.Core.Path.{◌≡◌, refl, sym, ap, ◌∙◌}
use mathlib.Core.List.{List, [], ◌∷◌}
use mathlib.Core.Logic.{◌≢◌}
use mathlib.Core.Bool.{Bool, true, false, ◌||◌}
use Prim.Native.Nat.{ℕ, zero, suc, ◌+◌, ◌-◌, ◌*◌, ◌/◌, ◌%◌, ◌^◌, ◌≤◌, ◌<◌}
use native.Mathlib.Omega.{arith}
use native.Mathlib.Nat.{pow-suc}
use lib.Dec.{ltb, eqb}
use lib.ListN.{length, get_or, set, length-set}
use lib.Seq.{get_or-set_same, get_or-set_other}
use lib.Bits.{bit_and, bit_or, or_add_and, and_high}
use borrow.Author.Tests.{ltb-true, ltb-false, eqb-true, eqb-false, lt-ltb, le-ltb, le-leb, lt-leb}
use Rattle.model.specs.Lists.{store}
use Rattle.model.specs.Marks.{mark_byte, mark_value, has_bit, set_bit, is_marked, mark}
use Rattle.model.proofs.Lists.{store_nil, store_first}
use Rattle.model.proofs.Marks.{set-byte}
use Rattle.plainstate.specs.Bits.{inside, Marked, bit_values}

-- a page is inside or not
pub within : (a e p : ℕ) → a ≤ p → p < e → inside a e p ≡ true
unfolding inside
within a e p h l = rw (le-leb a p h, lt-ltb p e l)

pub below : (a e p : ℕ) → p < a → inside a e p ≡ false
unfolding inside
below a e p h = rw (lt-leb a p h)

pub behind : (a e p : ℕ) → a ≤ p → e ≤ p → inside a e p ≡ false
unfolding inside
behind a e p h l = rw (le-leb a p h, le-ltb p e l)

-- one part behind the other
module _ (a b e : ℕ) (l : a ≤ b) (h : b ≤ e) where
  pub joined : (p : ℕ) (t : Bool) → (inside b e p || (inside a b p || t)) ≡ (inside a e p || t)
  joined p t = go (ltb p a) (ltb p b) (ltb p e) refl refl refl
    where
      go : (u v w : Bool) → ltb p a ≡ u → ltb p b ≡ v → ltb p e ≡ w → (inside b e p || (inside a b p || t)) ≡ (inside a e p || t)
      go true v w x y z = let q : p < a = ltb-true p a x in rw (below b e p (omega arith), below a b p q, below a e p q)
      go false true w x y z =
          let q : a ≤ p = ltb-false p a x in
          let r : p < b = ltb-true p b y in
          rw (below b e p r, within a b p q r, within a e p q (omega arith))
      go false false true x y z =
          let q : b ≤ p = ltb-false p b y in
          let r : p < e = ltb-true p e z in
          rw (within b e p q r, within a e p (omega arith) r)
      go false false false x y z =
          let q : b ≤ p = ltb-false p b y in
          let r : e ≤ p = ltb-false p e z in
          rw (behind b e p q r, behind a b p (omega arith) q, behind a e p (omega arith) r)

-- one page
pub one_inside : (p x : ℕ) → eqb x p ≡ inside p (p + 1) x
one_inside p x = go (ltb x p) (eqb x p) refl refl
  where
    go : (u v : Bool) → ltb x p ≡ u → eqb x p ≡ v → v ≡ inside p (p + 1) x
    go true true y z = absurd (let l : x < p = ltb-true x p y in let e : x ≡ p = eqb-true x p z in let c : ⊥ = omega arith in c)
    go true false y z = sym (below p (p + 1) x (ltb-true x p y))
    go false true y z = let e : x ≡ p = eqb-true x p z in sym (within p (p + 1) x (omega arith) (omega arith))
    go false false y z =
        let l : p ≤ x = ltb-false x p y in
        let n : x ≢ p = eqb-false x p z in
        sym (behind p (p + 1) x l (omega (arith, n)))

-- a byte of eight marks has each
full : (i : ℕ) → i < 8 → has_bit 255 (2 ^ i) ≡ true
unfolding has_bit
full zero h = refl
full (suc zero) h = refl
full (suc (suc zero)) h = refl
full (suc (suc (suc zero))) h = refl
full (suc (suc (suc (suc zero)))) h = refl
full (suc (suc (suc (suc (suc zero))))) h = refl
full (suc (suc (suc (suc (suc (suc zero)))))) h = refl
full (suc (suc (suc (suc (suc (suc (suc zero))))))) h = refl
full (suc (suc (suc (suc (suc (suc (suc (suc i)))))))) h = absurd (omega arith)

byte-marked : (k : ℕ) (s : List ℕ) → k < length s → Marked (8 * k) (8 * (k + 1)) s (set s k 255)
unfolding is_marked mark_byte mark_value
byte-marked k s h p = go (eqb (p / 8) k) refl
  where
    go : (t : Bool) → eqb (p / 8) k ≡ t → is_marked (set s k 255) p ≡ (inside (8 * k) (8 * (k + 1)) p || is_marked s p)
    go true e =
        let q : p / 8 ≡ k = eqb-true (p / 8) k e in
        ap (λ (i : ℕ). has_bit (get_or (set s k 255) i 0) (2 ^ (p % 8))) q
        ∙ ap (λ (b : ℕ). has_bit b (2 ^ (p % 8))) (get_or-set_same s k 255 0 h)
        ∙ full (p % 8) (omega arith)
        ∙ sym (ap (λ (v : Bool). v || is_marked s p) (within (8 * k) (8 * (k + 1)) p (omega arith) (omega arith)))
    go false e =
        let n : p / 8 ≢ k = eqb-false (p / 8) k e in
        ap (λ (b : ℕ). has_bit b (2 ^ (p % 8))) (get_or-set_other s k (p / 8) 255 0 n)
        ∙ sym (ap (λ (v : Bool). v || is_marked s p) (outside n (ltb p (8 * k)) refl))
      where
        outside : p / 8 ≢ k → (t : Bool) → ltb p (8 * k) ≡ t → inside (8 * k) (8 * (k + 1)) p ≡ false
        outside n true y = below (8 * k) (8 * (k + 1)) p (ltb-true p (8 * k) y)
        outside n false y = let l : 8 * k ≤ p = ltb-false p (8 * k) y in behind (8 * k) (8 * (k + 1)) p l (omega (arith, n))

-- two bytes, one behind the other
pub two_marked : (k : ℕ) (s : List ℕ) → k + 1 < length s → Marked (8 * k) (8 * (k + 2)) s (set (set s k 255) (k + 1) 255)
two_marked k s h p =
    let z : 8 * ((k + 1) + 1) ≡ 8 * (k + 2) = omega arith in
    byte-marked (k + 1) (set s k 255) (simp length-set (omega arith)) p
    ∙ ap (λ (t : Bool). inside (8 * (k + 1)) (8 * ((k + 1) + 1)) p || t) (byte-marked k s (omega arith) p)
    ∙ joined (8 * k) (8 * (k + 1)) (8 * ((k + 1) + 1)) (omega arith) (omega arith) p (is_marked s p)
    ∙ ap (λ (e : ℕ). inside (8 * k) e p || is_marked s p) z

-- The values of a byte's bits, and a bit set by `|`.
value_at : (p : ℕ) → get_or bit_values (p % 8) 0 ≡ 2 ^ (p % 8)
unfolding bit_values
value_at p = go (p % 8) (omega arith)
  where
    go : (i : ℕ) → i < 8 → get_or (1 ∷ 2 ∷ 4 ∷ 8 ∷ 16 ∷ 32 ∷ 64 ∷ 128 ∷ []) i 0 ≡ 2 ^ i
    go zero h = refl
    go (suc zero) h = refl
    go (suc (suc zero)) h = refl
    go (suc (suc (suc zero))) h = refl
    go (suc (suc (suc (suc zero)))) h = refl
    go (suc (suc (suc (suc (suc zero))))) h = refl
    go (suc (suc (suc (suc (suc (suc zero)))))) h = refl
    go (suc (suc (suc (suc (suc (suc (suc zero))))))) h = refl
    go (suc (suc (suc (suc (suc (suc (suc (suc i)))))))) h = absurd (omega arith)

-- a byte's bit k by itself
and_bit : (b k : ℕ) → bit_and b (2 ^ k) ≡ (b / 2 ^ k % 2) * 2 ^ k
and_bit b k = ap (bit_and b) (one k) ∙ and_high b 1 k
  where
    one : (k : ℕ) → 2 ^ k ≡ 2 ^ (1 + k) - 2 ^ k
    one k = let s : 1 + k ≡ suc k = omega arith in let z : 2 ^ (1 + k) ≡ 2 ^ k * 2 = ap (λ (i : ℕ). 2 ^ i) s ∙ pow-suc 2 k in omega (arith, z)

or_bit : (b k : ℕ) → bit_or b (2 ^ k) ≡ set_bit b (2 ^ k)
unfolding set_bit has_bit
or_bit b k = go (eqb (b / 2 ^ k % 2) 1) refl
  where
    go : (t : Bool) → eqb (b / 2 ^ k % 2) 1 ≡ t → bit_or b (2 ^ k) ≡ set_bit b (2 ^ k)
    go true q =
        let z : b / 2 ^ k % 2 ≡ 1 = eqb-true (b / 2 ^ k % 2) 1 q in
        let a : bit_and b (2 ^ k) ≡ 1 * 2 ^ k = and_bit b k ∙ ap (λ (x : ℕ). x * 2 ^ k) z in
        let s : bit_or b (2 ^ k) + bit_and b (2 ^ k) ≡ b + 2 ^ k = or_add_and b (2 ^ k) in
        rw (q, set_bit, has_bit) (omega (arith, a, s))
    go false q =
        let n : b / 2 ^ k % 2 ≢ 1 = eqb-false (b / 2 ^ k % 2) 1 q in
        let z : b / 2 ^ k % 2 ≡ 0 = omega (arith, n) in
        let a : bit_and b (2 ^ k) ≡ 0 * 2 ^ k = and_bit b k ∙ ap (λ (x : ℕ). x * 2 ^ k) z in
        let s : bit_or b (2 ^ k) + bit_and b (2 ^ k) ≡ b + 2 ^ k = or_add_and b (2 ^ k) in
        rw (q, set_bit, has_bit) (omega (arith, a, s))

module _ (vs : List ℕ) (p b : ℕ) (table : vs ≡ bit_values) where
  pub value-inside : p % 8 < length vs
  unfolding bit_values
  value-inside = let z : length vs ≡ 8 = ap length table in omega (arith, z)

  set_or : bit_or b (get_or vs (p % 8) 0) ≡ set_bit b (mark_value p)
  unfolding mark_value
  set_or = ap (λ (l : List ℕ). bit_or b (get_or l (p % 8) 0)) table ∙ ap (bit_or b) (value_at p) ∙ or_bit b (p % 8)

  pub or_byte : b < 256 → bit_or b (get_or vs (p % 8) 0) < 256
  or_byte l = omega (arith, set_or, set-byte b p l)

  pub or_stored : (s : List ℕ) → b ≡ get_or s (p / 8) 0 → (t : List ℕ) → t ≡ store s (p / 8) (bit_or b (get_or vs (p % 8) 0) ∷ []) → t ≡ mark p s
  unfolding mark mark_byte
  or_stored s e t q =
      q ∙ store_first s (p / 8) _ [] ∙ store_nil (set s (p / 8) (bit_or b (get_or vs (p % 8) 0))) (suc (p / 8))
      ∙ ap (set s (p / 8)) (set_or ∙ ap (λ (x : ℕ). set_bit x (mark_value p)) e)
