-- What is chosen for 32 slopes is their best fit, where they take all pages. Assumes nothing.
use mathlib.Core.Path.{◌≡◌, refl, sym, ap, ◌∙◌}
use mathlib.Core.Bool.{Bool, true, false, true≢false}
use mathlib.Core.List.{List}
use Prim.Native.Nat.{ℕ, ◌+◌, ◌-◌, ◌≤◌, ◌<◌}
use native.Mathlib.Omega.{arith}
use lib.Dec.{ltb}
use lib.ListN.{get_or}
use borrow.Author.Tests.{ltb-true, ltb-false, le-leb, lt-leb}
use Rattle.model.specs.Learning.{Intercepts, Reach}
use Rattle.slopes.specs.Slopes.{takes, window, reach_of, fit_of, Windows}
use Rattle.slopes.specs.Counting.{Widths, tally_of, Tallies, counts_of, Choices, Chosen}
use Rattle.slopes.specs.declared.windows.Sought.{Sought}
use Rattle.slopes.proofs.WindowReach.{takes_reached, reached_takes, reach-suit}
use Rattle.slopes.proofs.HowMany.{how_many_most}
use Rattle.slopes.proofs.WidthsFound.{width_none, width_some}
use Rattle.slopes.proofs.Choices.{most_few, choice-few}
use Rattle.slopes.proofs.SlopeFits.{fit-size, slope-fit_of}

tally-few : (w : List ℕ) (a i l n c : ℕ) → tally_of w a i l n c ≤ n
unfolding tally_of
tally-few w a i l n c = how_many_most _ n

-- what was found out about the slopes from a on: their windows over n pages, how many intercepts of each may be right, their tallies
-- below `top`, and what was chosen by them
pub record Judged (s : Sought) (n a top : ℕ) (low high widths tally most choice : List ℕ) : Type 0 where
  pub windows : Windows s.g s.written.now a s.place (n - 1) low high
  pub width : Widths s.g low high widths top
  pub tallied : Tallies s.written.now a s.place n low top tally
  pub chose : Choices tally widths most choice

module _ (s : Sought) where
  abbrev w : List ℕ
  w = s.written.now

  -- a slope that doesn't take the last of n pages has a shorter run
  pub shorter : (a n : ℕ) → a ≤ 256 → 1 ≤ n → takes s.g w a s.place (n - 1) ≡ false → (fit_of s.g w s.place a).size < n
  shorter a n h k e = rw (fit-size s.g w s.place a) (go (ltb (n - 1) (reach_of s.g w s.place a).size) refl)
    where
      go : (t : Bool) → ltb (n - 1) (reach_of s.g w s.place a).size ≡ t → (reach_of s.g w s.place a).size < n
      go true q = absurd (true≢false (sym (reached_takes s a (n - 1) h (ltb-true _ _ q)) ∙ e))
      go false q = omega (arith, ltb-false (n - 1) (reach_of s.g w s.place a).size q)

  module _ (n a top : ℕ) (low high widths tally most choice : List ℕ) (j : Judged s n a top low high widths tally most choice)
      (few : a ≤ 224) (some : 1 ≤ n) (inside : s.place + n ≤ s.end) (longest : (k : ℕ) → k < 32 → (reach_of s.g w s.place (a + k)).size ≤ n) where
    pub judged-small : top ≤ 16 → (k : ℕ) → k < 32 → (get_or most k 0 ≤ n) × (get_or choice k 0 ≤ 16)
    judged-small h k b = (
      rw (j.chose k b).0 (most_few _ n (get_or widths k 0) (λ c q.
          let z : c < top = omega (arith, (j.width k b).1) in
          rw (j.tallied c k z b) (tally-few w (a + k) s.place (get_or low k 0) n c))),
      omega (arith, (j.chose k b).1, choice-few (counts_of tally k) (get_or widths k 0), (j.width k b).1),
    )

    -- slope k, its window over the pages, and how far it goes
    module _ (k : ℕ) (b : k < 32) where
      abbrev over : Intercepts
      over = window s.g w (a + k) s.place (n - 1)

      abbrev r : Reach
      r = reach_of s.g w s.place (a + k)

      misses : get_or high k 0 < get_or low k 0 → Chosen s.g w s.place n a low widths most choice k
      unfolding takes
      misses h =
          let win = j.windows k b in
          let z : get_or widths k 0 ≡ 0 = (j.width k b).0 ∙ sym (width_none s.g (get_or low k 0) (get_or high k 0) h) in
          let none : over.most < over.least = omega (arith, win) in
          record { short = λ e. shorter (a + k) n (omega arith) some (lt-leb _ _ none); best = λ e. absurd (e z) }

      goes : get_or low k 0 ≤ get_or high k 0 → Chosen s.g w s.place n a low widths most choice k
      unfolding takes
      goes h =
          let win = j.windows k b in
          let wide : 1 ≤ get_or widths k 0 = omega (arith, (j.width k b).0, width_some s.g (get_or low k 0) (get_or high k 0) _ h refl) in
          let one : over.least ≤ over.most = omega (arith, win) in
          let far : n - 1 < r.size = takes_reached s (a + k) (n - 1) (omega arith) (omega arith) (le-leb _ _ one) in
          let e : r.size ≡ n = omega (arith, longest k b) in
          let suit : r.suit ≡ over = reach-suit s (a + k) (omega arith) ∙ ap (λ (m : ℕ). window s.g w (a + k) s.place (m - 1)) e in
          let least : r.suit.least ≡ get_or low k 0 = ap (λ (i : Intercepts). i.least) suit ∙ sym win.0 in
          let greatest : r.suit.most ≡ get_or high k 0 = ap (λ (i : Intercepts). i.most) suit ∙ sym win.1 in
          record {
            short = λ x. absurd (omega arith);
            best = λ x. rw ((j.chose k b).0, (j.chose k b).1) (slope-fit_of s (a + k) (omega arith) n (get_or low k 0) (get_or high k 0) e least greatest
                (counts_of tally k) (get_or widths k 0) (j.width k b).0 (λ c q. j.tallied c k (omega (arith, (j.width k b).1)) b));
          }

      pub judged-chosen : Chosen s.g w s.place n a low widths most choice k
      judged-chosen = go (ltb (get_or high k 0) (get_or low k 0)) refl
        where
          go : (t : Bool) → ltb (get_or high k 0) (get_or low k 0) ≡ t → Chosen s.g w s.place n a low widths most choice k
          go true q = misses (ltb-true _ _ q)
          go false q = goes (ltb-false _ _ q)
