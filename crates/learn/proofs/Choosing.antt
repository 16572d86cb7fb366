-- The run that is taken at a place: the best fit's if it is longer than the accurate one. Assumes nothing.
use mathlib.Core.Path.{◌≡◌, refl, sym, ap, ◌∙◌}
use mathlib.Core.List.{List, []}
use mathlib.Core.Bool.{true}
use Prim.Native.Nat.{ℕ, zero, suc, ◌+◌, ◌-◌, ◌*◌, ◌/◌, ◌%◌, ◌≤◌, ◌<◌}
use native.Mathlib.Omega.{arith}
use lib.ListN.{length, get_or, take}
use lib.IntN.{ℤ, sub_ℕ}
use borrow.Author.Tests.{lt-ltb, le-ltb, eq-eqb, ne_eqb}
use Rattle.model.specs.Lists.{ascending}
use Rattle.model.specs.Learning.{Bounds, Fit, Run, suiting, approximate_record, approximate_run, next_run, longer_run}
use Rattle.model.specs.Demand2.{bounds_of}
use Rattle.model.proofs.Parts.{last_take}
use Rattle.model.proofs.Approximation.{Fitting, best-fitting}
use Rattle.record.specs.Read.{bare}
use Rattle.slopes.specs.Places.{ahead_of, offsets_behind, offsets_from}
use Rattle.learn.specs.Runs.{GroupEnd, best_at, accurate_at, on_pages, fit_record, run_at}
use Rattle.slopes.specs.Slopes.{place_bounds, longest_of, bettered}
use Rattle.slopes.specs.Counting.{no_fit}
use Rattle.slopes.proofs.AheadOf.{ahead-few, behind_at}
use Rattle.model.proofs.Ascent.{rises}
use Rattle.learn.proofs.AccurateAt.{filled}
use Rattle.learn.proofs.Shifting.{Offsets, best_on}
use Rattle.learn.proofs.LastSlope.{best-short}
use Rattle.learn.proofs.BestOfSlopes.{best_in, best-longest, found_is}

-- the record of a fit, field by field
pub fit_record_lem : (w : List ℕ) (i : ℕ) (f : Fit) (z : ℤ) → z ≡ sub_ℕ f.intercept 256
    → record { start = get_or w i 0 % 256; span = get_or w (i + f.size - 1) 0 % 256 - get_or w i 0 % 256; word = 2 * f.slope + 1; intercept = z }
    ≡ fit_record w i f
unfolding fit_record
fit_record_lem w i f z e = rw e

module _ (b : Bounds) (w : List ℕ) (i : ℕ) where
  abbrev x : ℕ
  x = get_or w i 0

  -- without an error bound
  pub takes-exact : b.g ≡ 0 → accurate_at b w i ≡ run_at b w i
  unfolding accurate_at run_at next_run
  takes-exact e = rw (eq-eqb b.g 0 e, next_run)

  module _ (some : b.g ≡ 0 → ⊥) where
    by_length : run_at b w i ≡ longer_run (accurate_at b w i) (approximate_run b (x / 256) (b.first + i) (x % 256) (offsets_behind w i))
    unfolding accurate_at run_at next_run
    by_length = rw (ne_eqb b.g 0 some, next_run)

    takes-accurate : (best_at b w i).size ≤ (accurate_at b w i).taken → accurate_at b w i ≡ run_at b w i
    unfolding longer_run best_at approximate_run
    takes-accurate h = sym (by_length ∙ rw (le-ltb _ _ h, longer_run))

    takes-approximate : (accurate_at b w i).taken < (best_at b w i).size → approximate_run b (x / 256) (b.first + i) (x % 256) (offsets_behind w i) ≡ run_at b w i
    unfolding longer_run best_at approximate_run
    takes-approximate h = sym (by_length ∙ rw (lt-ltb _ _ h, longer_run))

  record_is : (f : Fit) → 1 ≤ f.size → f.size ≤ length (offsets_from w i)
      → fit_record w i f ≡ bare (approximate_record f (x % 256) (take (f.size - 1) (offsets_behind w i)))
  unfolding fit_record approximate_record
  record_is f h k =
      let e : i + f.size - 1 ≡ i + (f.size - 1) = omega arith in
      let q : f.size - 1 ≤ length (offsets_behind w i) = omega arith in
      rw (e, last_take (f.size - 1) (x % 256) (offsets_behind w i) q, (behind_at w i (f.size - 1) q).0)

  -- the run at place i is that of a fit, whose pages end before place e
  pub record RunBy (f : Fit) (e : ℕ) : Type 0 where
    pub filled : 1 ≤ f.size
    pub room : i + f.size ≤ e
    pub rising : x % 256 ≤ get_or w (i + f.size - 1) 0 % 256
    pub slope : f.slope ≤ 256
    pub intercept : f.intercept ≤ b.last + 256
    pub learned : fit_record w i f ≡ bare (run_at b w i).learned
    pub taken : f.size ≡ (run_at b w i).taken

  suits_least : (p o a l : ℕ) → l ≤ (suiting b a o p).most → l ≤ b.last + 256
  unfolding suiting
  suits_least p o a l h = omega arith

-- At a place of the batch, whose first page is p.
module _ (g p : ℕ) (w : List ℕ) (i : ℕ) (here : i < length w) where
  abbrev b : Bounds
  b = bounds_of g p w

  -- what the best of all slopes is to the pages
  fitting : Fitting b (p + i) (offsets_from w i) (best_at b w i)
  unfolding best_at
  fitting = best-fitting b _ _ _ 0 256 (omega arith) (omega arith) (omega (arith, here))

  inside : (e : ℕ) → i < e → ahead_of w (get_or w i 0 / 256) e ≡ [] → i + (best_at b w i).size ≤ e
  unfolding offsets_behind
  inside e h k = omega (arith, fitting.inside, ahead-few w (get_or w i 0 / 256) (i + 1) e (omega arith) k)

  -- it is the best in places, p added to its intercept
  best_is : best_at b w i ≡ on_pages p (best_in g w i 0 255)
  unfolding best_at
  best_is =
      let o : Offsets (offsets_from w i) = λ j k. let q = (behind_at w i j (omega arith)).0 in omega (arith, q) in
      best_on p g w (omega (arith, here)) i _ _ o 0 256 (omega arith)
      ∙ ap (on_pages p) (best-short (place_bounds g w) i _ _ o (omega arith) (omega (arith, here)) 0 255 refl)

  size_is : (best_at b w i).size ≡ longest_of g w i 0 255
  size_is = ap (λ (f : Fit). f.size) best_is ∙ best-longest g w i 0 255

  module _ (some : 1 ≤ g) where
    bound : g ≡ 0 → ⊥
    bound q = omega (arith, q)

    -- the accurate run takes all pages of the group
    pub takes_all : (n : ℕ) → n ≡ (accurate_at b w i).taken → ahead_of w (get_or w i 0 / 256) (i + n) ≡ [] → accurate_at b w i ≡ run_at b w i
    takes_all n e k = takes-accurate b w i bound (omega (arith, inside (i + n) (omega (arith, filled w i b)) k))

    -- no slope goes farther
    pub stays-accurate : longest_of g w i 0 255 ≤ (accurate_at b w i).taken → accurate_at b w i ≡ run_at b w i
    stays-accurate h = takes-accurate b w i bound (omega (arith, size_is))

    -- Among a group's pages, which end before place e.
    module _ (e : ℕ) (asc : ascending w ≡ true) (ends : GroupEnd w i e) where
      within : i + (best_at b w i).size ≤ e
      within = inside e ends.inside ends.ended

      pub longest-inside : i + longest_of g w i 0 255 ≤ e
      longest-inside = omega (arith, size_is, within)

      rising : (n : ℕ) → n ≤ length (offsets_behind w i) → i + n < length w → get_or w i 0 % 256 ≤ get_or w (i + n) 0 % 256
      rising zero h k = let z : i + 0 ≡ i = omega arith in rw z (omega arith)
      rising (suc n) h k = omega (arith, rises w i (i + suc n) asc (omega arith) k, (behind_at w i (suc n) h).1)

      best-run : (accurate_at b w i).taken < (best_at b w i).size → RunBy b w i (best_at b w i) e
      unfolding best_at approximate_run
      best-run h =
          let n = fitting.inside in
          let m = fitting.filled in
          let z : i + (best_at b w i).size - 1 ≡ i + ((best_at b w i).size - 1) = omega (arith, m) in
          let q = takes-approximate b w i bound h in
          record {
            filled = m;
            room = within;
            rising = rw z (rising ((best_at b w i).size - 1) (omega (arith, n, m)) (omega (arith, m, within, ends.end)));
            slope = fitting.slope;
            intercept = suits_least b w i _ _ _ _ (fitting.suits 0 (omega (arith, m))).1;
            learned = record_is b w i (best_at b w i) m n ∙ ap (λ (r : Run). bare r.learned) q;
            taken = ap (λ (r : Run). r.taken) q;
          }

      -- the best of those that go as far as the longest, which is farther than the accurate run goes
      pub goes-approximate : (f : Fit) (n : ℕ) → n ≡ longest_of g w i 0 255 → f ≡ bettered g w i (no_fit n) 0 256
          → (accurate_at b w i).taken < n → RunBy b w i (on_pages p f) e
      goes-approximate f n long found h =
          let z : on_pages p f ≡ best_at b w i = ap (on_pages p) (found ∙ found_is g w i n here long) ∙ sym best_is in
          rw z (best-run (omega (arith, size_is, long)))
