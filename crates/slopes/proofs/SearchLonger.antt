-- The search for the longest run: which slopes are known to take no more pages than the longest so far. Assumes nothing.
use mathlib.Core.Path.{◌≡◌, refl}
use mathlib.Core.List.{List}
use mathlib.Core.Bool.{Bool, true, false}
use Prim.Native.Nat.{ℕ, ◌+◌, ◌-◌, ◌≤◌, ◌<◌, min, max}
use native.Mathlib.Omega.{arith}
use lib.Dec.{ltb}
use borrow.Author.Tests.{ltb-true, ltb-false}
use Rattle.model.proofs.Bools.{is_false}
use Rattle.slopes.specs.Slopes.{takes, reach_of, longest_of}
use Rattle.slopes.specs.declared.windows.Sought.{Sought}
use Rattle.slopes.proofs.WindowReach.{reach_few}
use Rattle.slopes.proofs.LongestOf.{longest_most, longest_some, reach_most}

-- the slopes that take the page behind n are from the first to the last
abbrev pub Among : Sought → ℕ → ℕ → ℕ → Type 0
Among s n first last = (a : ℕ) → a ≤ 255 → takes s.g s.written.now a s.place n ≡ true → (first ≤ a) × (a ≤ last)

pub among-behind : (s : Sought) (n first last : ℕ) → Among s (s.place + n - s.place) first last → Among s n first last
among-behind s n first last range = let e : s.place + n - s.place ≡ n = omega arith in rw e at range

-- the slopes from x on and before y are those from `done` on
abbrev pub Done : ℕ → ℕ → ℕ → Type 0
Done done x y = (k : ℕ) → x ≤ k → k < y → (done ≤ k) × (k < done + 32)

-- a slope takes `size` pages, more than n, or they are n; none before `next` takes more
pub record Searched (s : Sought) (n size first last next : ℕ) : Type 0 where
  pub grown : n ≤ size
  pub inside : s.place + size < s.end
  pub taken : size ≤ max n (longest_of s.g s.written.now s.place 0 255)
  pub few : last ≤ 255
  pub among : Among s size first last
  pub before : (a : ℕ) → a ≤ 255 → a < next → (reach_of s.g s.written.now s.place a).size ≤ size

module _ (s : Sought) where
  abbrev w : List ℕ
  w = s.written.now

  abbrev of : ℕ → ℕ
  of a = (reach_of s.g w s.place a).size

  abbrev longest : ℕ → ℕ → ℕ
  longest a m = longest_of s.g w s.place a m

  -- 32 slopes take no more than all, and none more pages than there are
  pub longest-part : (a : ℕ) → a ≤ 224 → longest a 31 ≤ longest 0 255
  longest-part a h = longest_most s.g w s.place a 31 _ (λ b x y. longest_some s.g w s.place 0 255 b (omega arith) (omega arith))

  pub longest-few : (a m : ℕ) → a + m ≤ 256 → s.place + longest a m ≤ s.end
  longest-few a m h =
      omega (arith, longest_most s.g w s.place a m (s.end - s.place) (λ b x y. omega (arith, (reach_few s b (omega arith)).1)), s.seeking.inside)

  outside : (n first last a : ℕ) → Among s n first last → a ≤ 255 → (first ≤ a → a ≤ last → ⊥) → of a ≤ n
  outside n first last a range h out = reach_most s a n (omega arith) (λ i. is_false _ (λ t. out (range a h t).0 (range a h t).1))

  -- no slope takes the page behind n
  pub none_longer : (n first last : ℕ) → Among s n first last → last < first → n ≡ max n (longest 0 255)
  none_longer n first last range h =
      omega (arith, longest_most s.g w s.place 0 255 n (λ b x y. outside n first last b range (omega arith) (λ u v. omega arith)))

  -- all that is left is taken
  pub all_taken : (n m : ℕ) → n ≤ m → m ≤ max n (longest 0 255) → s.place + m ≡ s.end → m ≡ max n (longest 0 255)
  all_taken n m h k e = omega (arith, longest-few 0 255 (omega arith))

  module _ (n done : ℕ) (low : done ≤ 224) (short : longest done 31 ≤ n) where
    pub searched-start : (first last next : ℕ) → s.place + n < s.end → last ≤ 255 → Among s n first last → Done done first next → Searched s n n first last next
    searched-start first last next inside few range skipped = record {
      grown = omega arith;
      inside = inside;
      taken = omega arith;
      few = few;
      among = range;
      before = λ a h b. go a h b (ltb a first) refl;
    }
      where
        go : (a : ℕ) → a ≤ 255 → a < next → (t : Bool) → ltb a first ≡ t → of a ≤ n
        go a h b true e = let k : a < first = ltb-true a first e in outside n first last a range h (λ u v. omega arith)
        go a h b false e =
            let k = skipped a (ltb-false a first e) b in
            omega (arith, longest_some s.g w s.place done 31 a k.0 (omega (arith, k.1)))

    module _ (size first last next : ℕ) (here : Searched s n size first last next) where
      pub searched-end : last < next → size ≡ max n (longest 0 255)
      searched-end h =
          omega (arith, longest_most s.g w s.place 0 255 size (λ b x y. go b (omega arith) (ltb b next) refl), here.grown, here.taken)
        where
          go : (b : ℕ) → b ≤ 255 → (t : Bool) → ltb b next ≡ t → of b ≤ size
          go b k true e = here.before b k (ltb-true b next e)
          go b k false e = let f : next ≤ b = ltb-false b next e in outside size first last b here.among k (λ u v. omega arith)

      -- the 32 slopes from a on are followed
      module _ (a m : ℕ) (is : a ≡ min next 224) (some : next ≤ last) (most : m ≡ max size (longest a 31)) where
        pub searched-taken : (n ≤ m) × (m ≤ max n (longest 0 255)) × (s.place + m ≤ s.end)
        searched-taken =
            (omega (arith, here.grown), omega (arith, here.taken, longest-part a (omega arith)), omega (arith, here.inside, longest-few a 31 (omega arith)))

        pub searched-turn : (first' last' from next' : ℕ) → s.place + m < s.end → last' ≤ 255 → Among s m first' last' → from ≡ max (a + 32) first'
            → Done done from next' → Searched s n m first' last' next'
        searched-turn first' last' from next' inside few range begins skipped = record {
          grown = searched-taken.0;
          inside = inside;
          taken = searched-taken.1;
          few = few;
          among = range;
          before = λ b h k. go b h k (ltb b next) refl (ltb b (a + 32)) refl (ltb b first') refl;
        }
          where
            go : (b : ℕ) → b ≤ 255 → b < next' → (t : Bool) → ltb b next ≡ t → (u : Bool) → ltb b (a + 32) ≡ u → (v : Bool) → ltb b first' ≡ v → of b ≤ m
            go b h k true e u f v p = omega (arith, here.before b h (ltb-true b next e))
            go b h k false e true f v p =
                let x : next ≤ b = ltb-false b next e in
                let y : b < a + 32 = ltb-true b (a + 32) f in
                omega (arith, longest_some s.g w s.place a 31 b (omega arith) (omega arith))
            go b h k false e false f true p = let x : b < first' = ltb-true b first' p in outside m first' last' b range h (λ i j. omega arith)
            go b h k false e false f false p =
                let x : a + 32 ≤ b = ltb-false b (a + 32) f in
                let y : first' ≤ b = ltb-false b first' p in
                let z = skipped b (omega arith) k in
                omega (arith, longest_some s.g w s.place done 31 b z.0 (omega (arith, z.1)), here.grown)
