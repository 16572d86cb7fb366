-- The runs that are learned are those of the greedy rule, as specs/Demand2.antt says it of the pages. Assumes nothing.
use mathlib.Core.Path.{◌≡◌, refl, sym, ◌∙◌, ap}
use mathlib.Core.List.{List, [], ◌∷◌}
use mathlib.Core.Logic.{◌⊎◌, inl, inr}
use Prim.Native.Nat.{ℕ, zero, suc, ◌+◌, ◌*◌, ◌-◌, ◌≤◌, ◌<◌, suc-le-suc, min, max}
use native.Mathlib.Omega.{arith}
use native.Mathlib.Nat.{le_refl}
use lib.IntN.{ℤ, pos, sub_ℕ, ◌+ℤ◌}
use lib.ListN.{length, get_or, take, drop}
use Rattle.model.specs.Lists.{last_of}
use Rattle.model.specs.Device.{ceil, group_of, offset_of}
use Rattle.model.specs.Learning.{Run, Bounds, Fit, stride_length, accurate_run, suiting, wrongs, fit_of, best_fit, approximate_record, approximate_run, ahead, learn}
use Rattle.model.specs.Demand2.{AccurateRun, Near, ApproximateRun, wrong_predictions, Preferred, stride, offsets, single_of, accurate_of, approximate_of, GreedyRun, Greedy, bounds_of}
use Rattle.model.proofs.Lists.{Asc, next, elem-get_or}
use Rattle.model.proofs.Parts.{take_pred, last_take}
use Rattle.model.proofs.Integers.{sum_more, two_sums, at_most}
use Rattle.model.proofs.Ahead.{Leading, leading, leading_asc, leading_below, leading_group, leading_page, leading_take}
use Rattle.model.proofs.Run.{sub_plus}
use Rattle.model.proofs.Stride.{stride-inside, from_two}
use Rattle.model.proofs.Fewest.{Before}
use Rattle.model.proofs.WrongPredictions.{wrong_is}
use Rattle.model.proofs.Approximation.{Among, SuitsFirst, Fitting, best-fitting, rise-small, suits_near}
use Rattle.model.proofs.Greedy.{Greatest, stride_most, best-greatest, Chosen, accurately, approximately, next_chosen}
use Rattle.model.proofs.Runs.{Part, first_run, Room, first_part, runs_all}

-- The accurate run of the pages l, of which the first two at least lie in one group.
module _ (l : List ℕ) (x y : ℕ) (os : List ℕ) (c : Leading l (x ∷ y ∷ os)) (h : x < y) where
  abbrev count : ℕ
  count = suc (suc (stride_length (y - x) y os))

  count-inside : count ≤ length (x ∷ y ∷ os)
  count-inside = omega (arith, stride-inside (y - x) y os)

  page : (i : ℕ) → i < length (x ∷ y ∷ os) → get_or l i 0 ≡ 256 * group_of (get_or l 0 0) + get_or (x ∷ y ∷ os) i 0
  page = leading_page l (x ∷ y ∷ os) c

  stride_is : y - x ≡ stride l
  stride_is = omega (arith, page 0 (omega arith), page 1 (omega arith))

  stride-accurate : AccurateRun l count
  stride-accurate = record {
    one_group = leading_group l (x ∷ y ∷ os) c count (omega arith) count-inside;
    strided = λ i k.
        let m : suc i < length (x ∷ y ∷ os) = omega (arith, k, count-inside) in
        omega (arith, stride_is, page i (omega arith), page (suc i) m, from_two x y os h i (omega arith), from_two x y os h (suc i) k);
  }

  stride-longest : (m : ℕ) → AccurateRun l m → m ≤ count
  stride-longest zero r = omega arith
  stride-longest (suc zero) r = omega arith
  stride-longest (suc (suc m)) r = suc-le-suc (suc-le-suc (stride_most (y - x) y os m (omega (arith, inside)) on))
    where
      inside : suc (suc m) ≤ length (x ∷ y ∷ os)
      inside = c.most (suc (suc m)) r.one_group

      on : (i : ℕ) → i < m → get_or os i 0 ≡ get_or (y ∷ os) i 0 + (y - x)
      on i k =
          let n : suc (suc i) < length (x ∷ y ∷ os) = omega (arith, inside) in
          omega (arith, stride_is, page (suc i) (omega arith), page (suc (suc i)) n, r.strided (suc i) (omega arith))

  stride_record : (k p : ℕ) → (accurate_run k p x (y ∷ os)).learned ≡ accurate_of p l count
  unfolding accurate_run accurate_of
  stride_record k p =
      let e : count - 1 ≡ suc (stride_length (y - x) y os) = omega arith in
      rw (e, ← stride_is, ← c.offset 0 (omega arith))

-- No accurate run is longer than the one that is computed, ..
accurate-longest : (k p : ℕ) (l : List ℕ) (x : ℕ) (os : List ℕ) {z : ℕ} → Leading l (x ∷ os) → Asc z (x ∷ os) → (m : ℕ) → AccurateRun l m
    → m ≤ (accurate_run k p x os).taken
unfolding accurate_run
accurate-longest k p l x [] c a m r = c.most m r.one_group
accurate-longest k p l x (y ∷ os) c (next _ (next h a)) m r = stride-longest l x y os c h m r

-- .. which is the greedy rule's where no approximate one is longer.
accurate-greedy : (b : Bounds) (k p : ℕ) (l : List ℕ) (x : ℕ) (os : List ℕ) {z : ℕ} → Leading l (x ∷ os) → Asc z (x ∷ os)
    → ((m a : ℕ) (I : ℤ) → ApproximateRun b p l m a I → m ≤ (accurate_run k p x os).taken)
    → GreedyRun b p l (accurate_run k p x os).learned (accurate_run k p x os).taken
unfolding accurate_run single_of
accurate-greedy b k p l x [] c a f = rw (c.offset 0 (omega arith)) (GreedyRun.single one (accurate-longest k p l x [] c a) f)
  where
    one : AccurateRun l 1
    one = record { one_group = leading_group l (x ∷ []) c 1 (omega arith) (omega arith); strided = λ i h. absurd (omega arith) }
accurate-greedy b k p l x (y ∷ os) c (next q (next h a)) f =
    rw (stride_record l x y os c h k p) (GreedyRun.accurate (count l x y os c h) (omega arith) (stride-accurate l x y os c h)
    (accurate-longest k p l x (y ∷ os) c (next q (next h a))) f)

near-arith : (p g first last c u q : ℕ) → u + c ≡ q + 256 → c ≤ 255 → q ≤ p + g → p ≤ q + g → first ≤ q → q ≤ last
    → ((max (p - g) first + 256) - c ≤ u) × (u ≤ (min (p + g) last + 256) - c)
near-arith p g first last c u q e h k m n o = omega arith

-- An intercept that predicts within the bounds, plus 256, suits the offset.
near_suits : (b : Bounds) (a o p u : ℕ) (I : ℤ) → I +ℤ pos 256 ≡ pos u → a ≤ 256 → o < 256 → Near b p (I +ℤ pos (ceil (a * o) 256))
    → Among (suiting b a o p) u
unfolding suiting
near_suits b a o p u I e h k n =
    let c : ℕ = ceil (a * o) 256 in
    near-arith p b.g b.first b.last c u n.page (two_sums I 256 c u n.page e n.is) (rise-small a o h k) n.below
    n.above n.from n.to

-- Approximate runs of the pages l, and fits of the offsets xs.
module _ (b : Bounds) (p : ℕ) (l xs : List ℕ) (c : Leading l xs) where
  below : (i : ℕ) → i < length xs → get_or xs i 0 < 256
  below i h = leading_below l xs c _ (elem-get_or xs i h)

  -- a run's intercept plus 256 is a natural number ..
  biased : (n a : ℕ) (I : ℤ) → ApproximateRun b p l n a I → (u : ℕ) × (I +ℤ pos 256 ≡ pos u)
  biased n a I r =
      let o : ℕ = offset_of (get_or l 0 0) in
      let f : ℕ = ceil (a * o) 256 in
      let s : Near b (p + 0) (I +ℤ pos f) = r.near 0 r.one_group.filled in
      let h : f ≤ 255 = rise-small a o r.slope (omega arith) in
      let e : f + (256 - f) ≡ 256 = omega arith in
      (s.page + (256 - f), rw e at (sum_more I f s.page (256 - f) s.is))

  -- .. that suits each of its offsets
  run_suits : (n a u : ℕ) (I : ℤ) → I +ℤ pos 256 ≡ pos u → ApproximateRun b p l n a I → SuitsFirst b a u p xs n
  run_suits n a u I e r i h =
      let k : i < length xs = omega (arith, c.most n r.one_group) in
      near_suits b a (get_or xs i 0) (p + i) u I e r.slope (below i k) (rw (c.offset i k) (r.near i h))

  -- A fit's intercept less 256 gives an approximate run.
  fit-run : (f : Fit) → 1 ≤ b.g → Fitting b p xs f → ApproximateRun b p l f.size f.slope (sub_ℕ f.intercept 256)
  fit-run f g t = record {
    bound = g;
    slope = t.slope;
    one_group = leading_group l xs c f.size t.filled t.inside;
    near = λ i h.
        let k : i < length xs = omega (arith, h, t.inside) in
        rw (c.offset i k) at (suits_near b f.slope (get_or xs i 0) (p + i) f.intercept t.slope (below i k) (t.suits i h));
  }

  -- No approximate run is longer than the greatest fit ..
  fit-longest : (f : Fit) → Greatest b p xs 0 256 f → (n a : ℕ) (I : ℤ) → ApproximateRun b p l n a I → n ≤ f.size
  unfolding fit_of
  fit-longest f m n a I r =
      let (u, e) = biased n a I r in
      (m a u n (omega arith) r.slope (c.most n r.one_group) (run_suits n a u I e r)).0

  -- .. and it is preferred to one as long.
  fit_preferred : (f : Fit) → Fitting b p xs f → Greatest b p xs 0 256 f → (a : ℕ) (J : ℤ) → ApproximateRun b p l f.size a J
      → Preferred (wrong_predictions f.slope (sub_ℕ f.intercept 256) p (take f.size l)) f.slope (sub_ℕ f.intercept 256)
      (wrong_predictions a J p (take f.size l)) a J
  unfolding fit_of
  fit_preferred f t m a J r =
      let (u, e) = biased f.size a J r in
      go u e _ _ (wrong_is f.slope f.intercept _ own p (take f.size l) ∙ ap (wrongs f.slope f.intercept p) members ∙ sym t.counted)
      (wrong_is a u J e p (take f.size l) ∙ ap (wrongs a u p) members)
      ((m a u f.size (omega arith) r.slope (c.most f.size r.one_group) (run_suits f.size a u J e r)).1 refl)
    where
      own : sub_ℕ f.intercept 256 +ℤ pos 256 ≡ pos f.intercept
      own = sub_plus f.intercept 256 256 (omega arith) ∙ ap pos (omega arith)

      members : offsets (take f.size l) ≡ take f.size xs
      members = leading_take l xs c f.size t.inside

      go : (u : ℕ) → J +ℤ pos 256 ≡ pos u → (w v : ℕ) → w ≡ f.wrong → v ≡ wrongs a u p (take f.size xs)
          → Before f (fit_of p xs f.size a u) → Preferred w f.slope (sub_ℕ f.intercept 256) v a J
      go u e w v h k (Before.fewer q) = Preferred.fewer (omega arith)
      go u e w v h k (Before.flatter q n) = Preferred.flatter (omega arith) n
      go u e w v h k (Before.lower q n o) =
          Preferred.lower (omega arith) n (at_most (sub_ℕ f.intercept 256) J 256 f.intercept u own e o)

fit_record_lem : (l : List ℕ) (x : ℕ) (os : List ℕ) (f : Fit) → Leading l (x ∷ os) → 1 ≤ f.size → f.size ≤ length (x ∷ os)
    → approximate_record f x (take (f.size - 1) os) ≡ approximate_of l f.size f.slope (sub_ℕ f.intercept 256)
unfolding approximate_record approximate_of
fit_record_lem l x os f c h k =
    let n : ℕ = f.size - 1 in
    let e : last_of x (take n os) ≡ offset_of (get_or l n 0) = last_take n x os (omega arith) ∙ c.offset n (omega arith) in
    let o : x ∷ take n os ≡ offsets (take f.size l) = sym (leading_take l (x ∷ os) c f.size k ∙ take_pred f.size x os h) in
    rw (o, e, ← c.offset 0 (omega arith))

-- The approximate run is the greedy rule's where it is longer than every accurate one.
approximate-greedy : (b : Bounds) (k p : ℕ) (l : List ℕ) (x : ℕ) (os : List ℕ) → Leading l (x ∷ os) → b.first ≤ p → p ≤ b.last → 1 ≤ b.g
    → ((m : ℕ) → AccurateRun l m → m < (approximate_run b k p x os).taken)
    → GreedyRun b p l (approximate_run b k p x os).learned (approximate_run b k p x os).taken
unfolding approximate_run
approximate-greedy b k p l x os c s t g h = go (best_fit b p (x ∷ os) 0 256) (best-fitting b p x os 0 256 (omega arith) s t)
    (best-greatest b p x os 0 256) h
  where
    go : (f : Fit) → Fitting b p (x ∷ os) f → Greatest b p (x ∷ os) 0 256 f → ((m : ℕ) → AccurateRun l m → m < f.size)
        → GreedyRun b p l (approximate_record f x (take (f.size - 1) os)) f.size
    go f t m h = rw (fit_record_lem l x os f c t.filled t.inside) (GreedyRun.approximate f.size f.slope (sub_ℕ f.intercept 256)
        (fit-run b p l (x ∷ os) c f g t) h (fit-longest b p l (x ∷ os) c f m) (fit_preferred b p l (x ∷ os) c f t m))

-- The run at a place is the greedy rule's.
first_greedy : (b : Bounds) (p x : ℕ) (l : List ℕ) → Room b p (x ∷ l)
    → GreedyRun b p (x ∷ l) (first_run b p x l).learned (first_run b p x l).taken
unfolding approximate_run
first_greedy b p x l q = go (next_chosen b (group_of x) p o os)
  where
    o : ℕ
    o = offset_of x

    os : List ℕ
    os = ahead (group_of x) l

    acc : Run
    acc = accurate_run (group_of x) p o os

    app : Run
    app = approximate_run b (group_of x) p o os

    accurate_most : (m : ℕ) → AccurateRun (x ∷ l) m → m ≤ acc.taken
    accurate_most = accurate-longest (group_of x) p (x ∷ l) o os (leading x l) (leading_asc x l q.ascends)

    approximate_most : (b.g ≡ 0) ⊎ (app.taken ≤ acc.taken) → (m a : ℕ) (I : ℤ) → ApproximateRun b p (x ∷ l) m a I → m ≤ acc.taken
    approximate_most (inl e) m a I r = absurd (omega (arith, r.bound))
    approximate_most (inr h) m a I r = omega (arith, h, fit-longest b p (x ∷ l) (o ∷ os) (leading x l) _ (best-greatest b p o os 0 256) m a I r)

    go : {r : Run} → Chosen b acc app r → GreedyRun b p (x ∷ l) r.learned r.taken
    go (accurately h) =
        accurate-greedy b (group_of x) p (x ∷ l) o os (leading x l) (leading_asc x l q.ascends) (approximate_most h)
    go (approximately g h) =
        approximate-greedy b (group_of x) p (x ∷ l) o os (leading x l) q.from (omega (arith, q.to)) g
        (λ m r. omega (arith, h, accurate_most m r))

-- The runs that are learned from ascending pages are the greedy rule's.
pub learn-greedy : (g p : ℕ) (written : List ℕ) → Asc 0 written → Greedy (bounds_of g p written) p written (learn g p written)
unfolding learn
learn-greedy g p written a =
    runs_all b (Greedy b) Greedy.end more (length written) p written (le_refl _) (record { ascends = a; from = omega arith; to = omega arith })
  where
    b : Bounds
    b = bounds_of g p written

    more : (p x : ℕ) (l : List ℕ) (rs : List Run) → Room b p (x ∷ l)
        → Greedy b (p + (first_run b p x l).taken) (drop (first_run b p x l).taken (x ∷ l)) rs → Greedy b p (x ∷ l) (first_run b p x l ∷ rs)
    more p x l rs q t =
        let c : Part b p (x ∷ l) (first_run b p x l) = first_part b p x l q in
        Greedy.run p x l (first_run b p x l) rs (sym (c.grouped 0 c.filled)) (first_greedy b p x l q) t
