-- A mask filled offset by offset: it has 1 where the test holds, before the offset at hand, and 0 from there on. Assumes nothing.
use mathlib.Core.Path.{◌≡◌, refl, sym, ap, ◌∙◌}
use mathlib.Core.List.{List}
use mathlib.Core.Bool.{Bool, true, false, not, ◌&&◌}
use Prim.Native.Nat.{ℕ, ◌+◌, ◌-◌, ◌%◌, ◌≤◌, ◌<◌}
use native.Mathlib.Omega.{arith}
use native.Mathlib.Nat.{mod-eq-zero_of_dvd, dvd-zero}
use lib.Dec.{leb, ltb, eqb}
use lib.ListN.{length, get_or, set, replicate, length-set, length-replicate}
use lib.Seq.{get_or-set_same, get_or-set_other}
use borrow.Author.Tests.{ltb-true, ltb-false, leb-true, eqb-true, eqb-false, le-leb}
use Rattle.std.specs.Int.{from_bool}
use Rattle.model.proofs.Bools.{and_l, and_r, is_false}
use Rattle.record.specs.Scan.{masked, on_stride}
use Rattle.record.proofs.Strides.{on_stride_lem, stride_on, step_up, gap}
use Rattle.group.proofs.Turns.{none_owns}
use Rattle.probe.specs.Groups.{bit, masked_in, Expected}

-- a mask of zeros
pub blank : Expected (λ o. false) (replicate 256 0)
unfolding bit
blank = (length-replicate {A = ℕ} 256 0, λ o h. none_owns o)

-- a test as the code's number
pub bit-from : (t : Bool) → from_bool t ≡ bit t
unfolding bit
bit-from true = refl
bit-from false = refl

-- 0 where a test fails
pub none_from : (t : Bool) → eqb (from_bool (not t)) 0 ≡ t
none_from true = refl
none_from false = refl

pub record Filling (t : ℕ → Bool) (l : List ℕ) (o : ℕ) : Type 0 where
  pub long : length l ≡ 256
  pub done : (k : ℕ) → k < 256 → k < o → get_or l k 0 ≡ bit (t k)
  pub left : (k : ℕ) → k < 256 → o ≤ k → get_or l k 0 ≡ 0

module _ (t : ℕ → Bool) where
  -- where the test fails, 0 is right
  zero_right : (k x : ℕ) → t k ≡ false → x ≡ 0 → x ≡ bit (t k)
  unfolding bit
  zero_right k x e z = z ∙ ap bit (sym e)

  pub filling_start : (l : List ℕ) → Expected (λ o. false) l → (s : ℕ) → ((k : ℕ) → k < s → t k ≡ false) → Filling t l s
  unfolding bit
  filling_start l blank s before = record { long = blank.0; done = λ k h b. zero_right k _ (before k b) (blank.1 k h); left = λ k h a. blank.1 k h }

  module _ (l : List ℕ) (o : ℕ) (so : Filling t l o) where
    -- the byte at o, and no other up to the next
    pub filling_turn : o < 256 → (v : ℕ) → v ≡ bit (t o) → (next : ℕ) → o < next → ((k : ℕ) → o < k → k < next → t k ≡ false) → Filling t (set l o v) next
    filling_turn h v e next up none = record {
      long = length-set l o v ∙ so.long;
      done = λ k b a. done' k b a (ltb k o) refl (eqb k o) refl;
      left = λ k b a. others k (λ j. omega arith) ∙ so.left k b (omega arith);
    }
      where
        others : (k : ℕ) → (k ≡ o → ⊥) → get_or (set l o v) k 0 ≡ get_or l k 0
        others k i = get_or-set_other l o k v 0 i

        done' : (k : ℕ) → k < 256 → k < next → (p : Bool) → ltb k o ≡ p → (q : Bool) → eqb k o ≡ q → get_or (set l o v) k 0 ≡ bit (t k)
        done' k b a true p q w = let i : k < o = ltb-true k o p in others k (λ j. omega arith) ∙ so.done k b i
        done' k b a false p true w = let i : k ≡ o = eqb-true k o w in rw i (get_or-set_same l o v 0 (omega (arith, so.long)) ∙ e)
        done' k b a false p false w =
            let i : k ≡ o → ⊥ = eqb-false k o w in
            let c : o ≤ k = ltb-false k o p in
            zero_right k _ (none k (omega arith) a) (others k i ∙ so.left k b c)

    pub filling_end : ((k : ℕ) → o ≤ k → t k ≡ false) → Expected t l
    filling_end none = (so.long, λ k b. go k b (ltb k o) refl)
      where
        go : (k : ℕ) → k < 256 → (p : Bool) → ltb k o ≡ p → get_or l k 0 ≡ bit (t k)
        go k b true p = so.done k b (ltb-true k o p)
        go k b false p = let a : o ≤ k = ltb-false k o p in zero_right k _ (none k a) (so.left k b a)

-- The offsets of a stride: o is the next of s, s + d, ..
pub record Striding (s d e : ℕ) (l : List ℕ) (o : ℕ) : Type 0 where
  pub filled : Filling (on_stride s d e) l o
  pub low : s ≤ o
  pub step : (o - s) % d ≡ 0

module _ (s d e : ℕ) where
  off : (k : ℕ) → (on_stride s d e k ≡ true → ⊥) → on_stride s d e k ≡ false
  off k = is_false (on_stride s d e k)

  pub striding_start : (l : List ℕ) → Expected (λ o. false) l → Striding s d e l s
  striding_start l z =
      let none : s - s ≡ 0 = omega arith in
      record {
        filled = filling_start (on_stride s d e) l z s (λ k b. off k (λ y. let q = stride_on s d e k y in omega (arith, q.low)));
        low = omega arith;
        step = rw none (mod-eq-zero_of_dvd d (dvd-zero d));
      }

  module _ (l : List ℕ) (o : ℕ) (so : Striding s d e l o) where
    pub striding_turn : o ≤ e → e < 256 → 0 < d → Striding s d e (set l o 1) (o + d)
    unfolding bit
    striding_turn h byte some = record {
      filled = filling_turn (on_stride s d e) l o so.filled (omega arith) 1 (ap bit (sym on)) (o + d) (omega arith) between;
      low = omega (arith, so.low);
      step = step_up s d o so.low so.step;
    }
      where
        on : on_stride s d e o ≡ true
        on = on_stride_lem (record { low = so.low; high = h; step = so.step })

        between : (k : ℕ) → o < k → k < o + d → on_stride s d e k ≡ false
        between k a b = off k (λ y. let q = stride_on s d e k y in omega (arith, gap s d o k so.low (omega arith) b so.step q.step))

    pub striding_end : e < o → Expected (on_stride s d e) l
    striding_end h = filling_end (on_stride s d e) l o so.filled (λ k a. off k (λ y. let q = stride_on s d e k y in omega (arith, q.high)))

-- The offsets of a mask from s to e, one after the other.
module _ (m : List ℕ) (s e : ℕ) where
  outside : (k : ℕ) → ((s ≤ k) × (k ≤ e) → ⊥) → masked_in m s e k ≡ false
  outside k f = is_false _ (λ y. let r = and_l (leb s k && leb k e) _ y in f (leb-true _ _ (and_l (leb s k) _ r), leb-true _ _ (and_r (leb s k) _ r)))

  pub owning-start : (l : List ℕ) → Expected (λ o. false) l → Filling (masked_in m s e) l s
  owning-start l z = filling_start (masked_in m s e) l z s (λ k b. outside k (λ q. omega (arith, q.0)))

  module _ (l : List ℕ) (o : ℕ) (so : Filling (masked_in m s e) l o) where
    pub owning-turn : s ≤ o → o ≤ e → e < 256 → (v : ℕ) → v ≡ bit (masked m o) → Filling (masked_in m s e) (set l o v) (o + 1)
    owning-turn a b byte v is =
        filling_turn (masked_in m s e) l o so (omega arith) v (is ∙ ap bit inside) (o + 1) (omega arith) (λ k c d. absurd (omega arith))
      where
        inside : masked m o ≡ masked_in m s e o
        inside = rw (le-leb s o a, le-leb o e b)

    pub owning-end : e < o → Expected (masked_in m s e) l
    owning-end h = filling_end (masked_in m s e) l o so (λ k a. outside k (λ q. omega (arith, q.1)))
