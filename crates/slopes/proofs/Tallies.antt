-- For 32 slopes it is tallied how often each byte stands in their rows, eight rows at a time. Assumes nothing.
use mathlib.Core.Path.{◌≡◌, refl, ap, ◌∙◌}
use mathlib.Core.Bool.{Bool, true, false}
use mathlib.Core.List.{List}
use Prim.Native.Nat.{ℕ, ◌+◌, ◌*◌, ◌≤◌, ◌<◌}
use native.Mathlib.Omega.{arith}
use lib.Dec.{ltb, eqb}
use lib.ListN.{length, get_or, replicate, length-replicate, get_or-replicate}
use borrow.Author.Tests.{ltb-true, ltb-false, ne_eqb}
use Rattle.slopes.specs.Counting.{how_many, above_at, Rows, hits, tally_of, Tallies}
use Rattle.slopes.proofs.HowMany.{within, within_all, within_most, how_many_add, how_many_same}

module _ (w : List ℕ) (a i n : ℕ) (low : List ℕ) where
  -- c stands for slope k in the row of page j
  abbrev stands : (c k j : ℕ) → Bool
  stands c k j = eqb (above_at w (a + k) (i + j) (get_or low k 0)) c

  -- eight rows from page m on; those behind the last page hold 255
  abbrev Eight : List ℕ → ℕ → Type 0
  Eight rows m = Rows w a i n low m (replicate 256 255) rows

  -- so many of the first m pages' rows have each byte below `top`
  pub record Tallied (top : ℕ) (tally : List ℕ) (m : ℕ) : Type 0 where
    pub long : length tally ≡ 512
    pub each : (c k : ℕ) → c < top → k < 32 → get_or tally (32 * c + k) 0 ≡ how_many (within n (stands c k)) m

  hits_next : (rows : List ℕ) (m : ℕ) → Eight rows m → (c k : ℕ) → c < 16 → k < 32
      → hits rows c k ≡ how_many (λ j. within n (stands c k) (m + j)) 8
  unfolding hits
  hits_next rows m r c k h q = how_many_same _ _ 8 (λ j b. go j b (ltb (m + j) n) refl)
    where
      go : (j : ℕ) → j < 8 → (t : Bool) → ltb (m + j) n ≡ t → eqb (get_or rows (32 * j + k) 0) c ≡ within n (stands c k) (m + j)
      go j b true e = rw (e, (r j k b q).0 (ltb-true (m + j) n e))
      go j b false e =
          let z : get_or rows (32 * j + k) 0 ≡ 255 = (r j k b q).1 (ltb-false (m + j) n e) ∙ get_or-replicate 256 (32 * j + k) 255 0 (omega arith) in
          rw (e, z) (ne_eqb 255 c (λ y. omega arith))

  module _ (top : ℕ) (small : top ≤ 16) where
    pub tallied_start : (tally : List ℕ) → tally ≡ replicate 512 0 → Tallied top tally 0
    unfolding how_many
    tallied_start tally e = record {
      long = ap length e ∙ length-replicate {A = ℕ} 512 0;
      each = λ c k h q. ap (λ (l : List ℕ). get_or l (32 * c + k) 0) e ∙ get_or-replicate 512 (32 * c + k) 0 0 (omega arith);
    }

    module _ (tally rows : List ℕ) (m : ℕ) (t : Tallied top tally m) (r : Eight rows m) where
      next : (c k : ℕ) → c < top → k < 32 → get_or tally (32 * c + k) 0 + hits rows c k ≡ how_many (within n (stands c k)) (m + 8)
      next c k h q =
          omega (arith, t.each c k h q, hits_next rows m r c k (omega arith) q, how_many_add (within n (stands c k)) m 8)

      pub tallied_small : n ≤ 255 → (c k : ℕ) → c < top → k < 32 → get_or tally (32 * c + k) 0 + hits rows c k ≤ 255
      tallied_small f c k h q = omega (arith, next c k h q, within_most n (stands c k) (m + 8))

      pub tallied_turn : (tally' : List ℕ) → length tally' ≡ 512
          → ((c k : ℕ) → c < top → k < 32 → get_or tally' (32 * c + k) 0 ≡ get_or tally (32 * c + k) 0 + hits rows c k)
          → Tallied top tally' (m + 8)
      tallied_turn tally' e f = record { long = e; each = λ c k h q. f c k h q ∙ next c k h q }

    pub tallied_end : (tally : List ℕ) (m : ℕ) → n ≤ m → Tallied top tally m → Tallies w a i n low top tally
    unfolding tally_of
    tallied_end tally m h t c k b q = t.each c k b q ∙ within_all n (stands c k) m h
