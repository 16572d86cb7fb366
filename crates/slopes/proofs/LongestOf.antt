-- How many pages the longest of some slopes takes: as many as one does and none exceeds. Assumes nothing.
use mathlib.Core.Path.{◌≡◌, refl, sym, ◌∙◌}
use mathlib.Core.List.{List}
use mathlib.Core.Bool.{Bool, true, false, true≢false}
use Prim.Native.Nat.{ℕ, zero, suc, ◌+◌, ◌-◌, ◌≤◌, ◌<◌, max}
use native.Mathlib.Omega.{arith}
use lib.Dec.{ltb}
use borrow.Author.Tests.{ltb-true, ltb-false}
use Rattle.slopes.specs.Slopes.{takes, reach_of, longest_of, some_of}
use Rattle.slopes.specs.declared.windows.Sought.{Sought}
use Rattle.slopes.proofs.SomeOf.{some_one, some_none}
use Rattle.slopes.proofs.WindowReach.{reach_few, takes_reached, reached_takes}

module _ (g : ℕ) (w : List ℕ) (i : ℕ) where
  -- no slope exceeds m
  pub longest_most : (a n m : ℕ) → ((b : ℕ) → a ≤ b → b ≤ a + n → (reach_of g w i b).size ≤ m) → longest_of g w i a n ≤ m
  unfolding longest_of
  longest_most a zero m h = h a (omega arith) (omega arith)
  longest_most a (suc n) m h =
      let p = h a (omega arith) (omega arith) in
      let q = longest_most (suc a) n m (λ b x y. h b (omega arith) (omega arith)) in
      omega arith

  -- nor the longest
  pub longest_some : (a n b : ℕ) → a ≤ b → b ≤ a + n → (reach_of g w i b).size ≤ longest_of g w i a n
  unfolding longest_of
  longest_some a zero b x y = let e : b ≡ a = omega arith in rw e (omega arith)
  longest_some a (suc n) b x y = go (ltb a b) refl (λ h. longest_some (suc a) n b h (omega arith))
    where
      go : (t : Bool) → ltb a b ≡ t → (a < b → (reach_of g w i b).size ≤ longest_of g w i (suc a) n)
          → (reach_of g w i b).size ≤ max (reach_of g w i a).size (longest_of g w i (suc a) n)
      go true e ih = omega (arith, ih (ltb-true a b e))
      go false e ih = let f : b ≤ a = ltb-false a b e in let same : b ≡ a = omega arith in rw same (omega arith)

module _ (s : Sought) where
  abbrev w : List ℕ
  w = s.written.now

  -- a slope that doesn't take the page behind n takes at most n
  pub reach_most : (a n : ℕ) → a ≤ 256 → (s.place + n < s.end → takes s.g w a s.place n ≡ false) → (reach_of s.g w s.place a).size ≤ n
  reach_most a n h none = go (reach_of s.g w s.place a).size (reach_few s a h).1 (λ k. reached_takes s a n h k) (ltb n _) refl
    where
      go : (r : ℕ) → s.place + r ≤ s.end → (n < r → takes s.g w a s.place n ≡ true) → (t : Bool) → ltb n r ≡ t → r ≤ n
      go r few took true e = let k : n < r = ltb-true n r e in absurd (true≢false (sym (took k) ∙ none (omega arith)))
      go r few took false e = ltb-false n r e

  -- of 32 slopes one takes n pages, and none the one behind them
  pub longest_is : (a n : ℕ) → a ≤ 224 → 1 ≤ n → s.place + n ≤ s.end → some_of (λ k. takes s.g w (a + k) s.place (n - 1)) 32 ≡ true
      → (s.place + n < s.end → some_of (λ k. takes s.g w (a + k) s.place n) 32 ≡ false) → longest_of s.g w s.place a 31 ≡ n
  longest_is a n h some fit one none =
      let (k, b, t) = some_one (λ k. takes s.g w (a + k) s.place (n - 1)) 32 one in
      let p = takes_reached s (a + k) (n - 1) (omega arith) (omega arith) t in
      let q = longest_some s.g w s.place a 31 (a + k) (omega arith) (omega arith) in
      let r = longest_most s.g w s.place a 31 n (λ c x y. reach_most c n (omega arith) (λ i. free c x y (none i))) in
      omega arith
    where
      free : (c : ℕ) → a ≤ c → c ≤ a + 31 → some_of (λ k. takes s.g w (a + k) s.place n) 32 ≡ false → takes s.g w c s.place n ≡ false
      free c x y e =
          let z : a + (c - a) ≡ c = omega arith in
          rw z at (some_none (λ k. takes s.g w (a + k) s.place n) 32 e (c - a) (omega arith))
