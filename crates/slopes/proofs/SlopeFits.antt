-- The best fit of a slope that takes all pages, by the tallies of its intercepts. Assumes nothing.
use mathlib.Core.Path.{◌≡◌, refl, sym, ap, ◌∙◌}
use mathlib.Core.Bool.{false}
use mathlib.Core.List.{List}
use Prim.Native.Nat.{ℕ, suc, ◌+◌, ◌-◌, ◌%◌, ◌≤◌, ◌<◌, min}
use native.Mathlib.Omega.{arith}
use native.Mathlib.Nat.{le_refl}
use native.Mathlib.Numerals.{add-one}
use lib.ListN.{length, get_or, take}
use Rattle.model.specs.Learning.{Reach, suiting, wrongs, best_of, fit}
use Rattle.model.proofs.Approximation.{Among, Reaching, reaching}
use Rattle.model.proofs.Greedy.{best-size}
use Rattle.slopes.specs.Places.{page_at, offsets_behind, offsets_from}
use Rattle.slopes.specs.Slopes.{place_bounds, reach_of, fit_of}
use Rattle.slopes.specs.Counting.{how_many, width_of, above_at, tally_of, most_of, choice_of}
use Rattle.slopes.specs.declared.windows.Sought.{Sought}
use Rattle.slopes.proofs.AheadOf.{behind_at}
use Rattle.slopes.proofs.HowMany.{how_many_none}
use Rattle.slopes.proofs.WidthsFound.{width_some}
use Rattle.slopes.proofs.RightPages.{wrongs-others, right_or_wrong, above-right, beyond-wrong}
use Rattle.slopes.proofs.BestChosen.{chosen_of, best-chosen, best-rest}

pub fit-size : (g : ℕ) (w : List ℕ) (i a : ℕ) → (fit_of g w i a).size ≡ (reach_of g w i a).size
unfolding fit_of fit reach_of
fit-size g w i a = best-size i _ _ a _ _

module _ (s : Sought) (a : ℕ) (slope : a ≤ 256) where
  abbrev w : List ℕ
  w = s.written.now

  -- the place, how far the slope goes from there, its least intercept, and the offsets
  abbrev i : ℕ
  i = s.place

  abbrev r : Reach
  r = reach_of s.g w i a

  abbrev low : ℕ
  low = r.suit.least

  abbrev xs : List ℕ
  xs = offsets_from w i

  reached : Reaching (place_bounds s.g w) a i xs r
  unfolding reach_of
  reached = reaching (place_bounds s.g w) a i (page_at w i % 256) (offsets_behind w i) (omega arith) (omega (arith, s.seeking.inside, s.seeking.end))

  -- the least intercept suits each page
  suits : (j : ℕ) → j < r.size → Among (suiting (place_bounds s.g w) a (get_or xs j 0) (i + j)) low
  suits = reached.suits low (le_refl _, reached.some)

  offset : (j : ℕ) → j < r.size → get_or xs j 0 ≡ page_at w (i + j) % 256
  offset j h = (behind_at w i j (omega (arith, reached.inside))).0

  small : (j : ℕ) → j < r.size → get_or xs j 0 < 256
  small j h = rw (offset j h) (omega arith)

  -- its tallies count the right predictions, ..
  tally-right : (c : ℕ) → c ≤ 15 → wrongs a (low + c) i (take r.size xs) + tally_of w a i low r.size c ≡ r.size
  unfolding tally_of above_at
  tally-right c h = wrongs-others a (low + c) i r.size xs _ reached.inside (λ j k.
      let right = above-right s.g (length w - 1) a (get_or xs j 0) (i + j) low s.seeking.bound slope (small j k) (suits j k) c h in
      right_or_wrong a (low + c) (get_or xs j 0) (i + j) _ (rw (← (offset j k)) right))

  -- .. and an intercept beyond g has none
  beyond_none : (c : ℕ) → s.g < c → wrongs a (low + c) i (take r.size xs) ≡ r.size
  beyond_none c h =
      let z : how_many (λ j. false) r.size ≡ 0 = how_many_none (λ j. false) r.size (λ j k. refl) in
      let e : wrongs a (low + c) i (take r.size xs) + how_many (λ j. false) r.size ≡ r.size =
      wrongs-others a (low + c) i r.size xs (λ j. false) reached.inside (λ j k.
      let wrong = beyond-wrong s.g (length w - 1) a (get_or xs j 0) (i + j) low s.seeking.bound slope (small j k) (suits j k) c h in
      right_or_wrong a (low + c) (get_or xs j 0) (i + j) false wrong) in
      omega (arith, z, e)

  -- so the first with the most right predictions is the best
  slope-fit : (t : ℕ → ℕ) (n : ℕ) → n ≡ width_of s.g low r.suit.most → ((c : ℕ) → c < n → t c ≡ tally_of w a i low r.size c)
      → fit_of s.g w i a ≡ chosen_of i xs r.size a low t n
  unfolding fit_of fit reach_of
  slope-fit t n e f =
      let m : ℕ = min (r.suit.most - low) s.g in
      let d : ℕ = r.suit.most - low - m in
      let width : n ≡ suc m = e ∙ sym (width_some s.g low r.suit.most m reached.some refl) ∙ add-one m in
      let all : r.suit.most - low ≡ m + d = omega arith in
      let few : best_of i xs r.size a low m ≡ chosen_of i xs r.size a low t (suc m) =
      best-chosen i xs r.size a low t m (λ c h. rw (f c (omega arith)) (tally-right c (omega (arith, s.seeking.bound)))) in
      let rest : best_of i xs r.size a low (m + d) ≡ best_of i xs r.size a low m =
      best-rest i xs r.size a low m d (best-size i xs r.size a low m) (rw few (omega arith)) (λ c h k. beyond_none c (omega arith)) in
      rw width (ap (best_of i xs r.size a low) all ∙ rest ∙ few)

  -- the same, where its pages and its intercepts are known
  pub slope-fit_of : (n l h : ℕ) → r.size ≡ n → low ≡ l → r.suit.most ≡ h → (t : ℕ → ℕ) (m : ℕ) → m ≡ width_of s.g l h
      → ((c : ℕ) → c < m → t c ≡ tally_of w a i l n c)
      → fit_of s.g w i a ≡ record { slope = a; intercept = l + choice_of t m; size = n; wrong = n - most_of t m }
  slope-fit_of n l h e f k t m p q = rw (← e, ← f) (slope-fit t m (rw (f, k) p) (λ c b. rw (e, f) (q c b)))
