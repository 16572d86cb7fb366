-- How many records a group gets at most: its pages divided by 2g + 2, rounded up. A greedy run with fewer pages is the last of its group.
-- Assumes nothing.
use mathlib.Core.Path.{◌≡◌, refl, sym, ◌∙◌, ap}
use mathlib.Core.List.{List, [], ◌∷◌, map}
use mathlib.Core.Bool.{Bool, true, false}
use mathlib.Core.Logic.{◌⊎◌, inl, inr, ◌≢◌}
use Prim.Native.Nat.{ℕ, zero, suc, ◌+◌, ◌*◌, ◌≤◌, ◌<◌}
use native.Mathlib.Omega.{arith}
use native.Mathlib.Nat.{le_refl, le-div_iff_mul-le}
use lib.Dec.{ltb, eqb}
use lib.ListN.{length, get_or, drop, length-drop}
use lib.Seq.{get_or-drop}
use borrow.Author.Tests.{ltb-true, ltb-false, eqb-true, ne_eqb}
use Rattle.model.specs.Device.{ceil, group_of}
use Rattle.model.specs.Record.{Record}
use Rattle.model.specs.Learning.{Run, Bounds, learn, records_for}
use Rattle.model.specs.Totals.{indicator}
use Rattle.model.specs.Demand2.{OneGroup, GreedyRun, Greedy, bounds_of}
use Rattle.model.specs.NoShorter.{pages_in, run_start}
use Rattle.model.proofs.Lists.{Asc, end, next, of_asc, le_cases}
use Rattle.model.proofs.Parts.{asc_drop}
use Rattle.model.proofs.Ascent.{rises}
use Rattle.model.proofs.Runs.{Room}
use Rattle.model.proofs.GreedyRuns.{learn-greedy}
use Rattle.model.proofs.Suffix.{any_group}
use Rattle.model.proofs.FewPages.{few-run}
use Rattle.model.proofs.NoShorter.{greedy-run, greedy-longest, run_start_lem, learned-records}

-- the first n pages lie in group j
group-pages : (j k n : ℕ) (l : List ℕ) → n ≤ length l → ((i : ℕ) → i < n → group_of (get_or l i 0) ≡ j)
    → pages_in k l ≡ n * indicator (eqb j k) + pages_in k (drop n l)
unfolding pages_in
group-pages j k zero l h f = omega arith
group-pages j k (suc n) [] h f = absurd (omega arith)
group-pages j k (suc n) (x ∷ l) h f =
    rw (f 0 (omega arith)) (omega (arith, group-pages j k n l (omega arith) (λ i m. f (suc i) (omega arith))))

-- all pages lie in groups above k
none_above : (k : ℕ) {z : ℕ} {l : List ℕ} → Asc z l → 256 * suc k ≤ z → pages_in k l ≡ 0
unfolding pages_in
none_above k end h = refl
none_above k (next {y = y} {l = l} q a) h =
    let e : eqb (group_of y) k ≡ false = ne_eqb (group_of y) k (omega arith) in
    rw e (omega (arith, none_above k a (omega arith)))

-- The first n of the pages are a greedy run.
module _ {b : Bounds} {p x n : ℕ} {l : List ℕ} {r : Record} (q : Room b p (x ∷ l)) (h : GreedyRun b p (x ∷ l) r n) where
  one_group_lem : OneGroup (x ∷ l) n
  one_group_lem = any_group (greedy-run h)

  rest-room : Room b (p + n) (drop n (x ∷ l))
  rest-room = record {
    ascends = asc_drop n (x ∷ l) q.ascends;
    from = omega (arith, q.from);
    to = rw length-drop (omega (arith, q.to, one_group_lem.inside));
  }

  -- If it takes fewer than 2g + 2, the page behind it lies in another group: with it, it would still be a run.
  ends-group : n < 2 * b.g + 2 → n < length (x ∷ l) → group_of (get_or (x ∷ l) n 0) ≢ group_of x
  ends-group m k e =
      absurd (omega (arith, greedy-longest h (suc n) (few-run b p (x ∷ l) (suc n) (of_asc (x ∷ l) q.ascends) more (omega arith) q.from (omega (arith, q.to)))))
    where
      more : OneGroup (x ∷ l) (suc n)
      more = record { filled = omega arith; inside = k; grouped = λ i d. go i (le_cases (suc i) (suc n) d) }
        where
          go : (i : ℕ) → (suc n ≡ suc i) ⊎ (suc (suc i) ≤ suc n) → group_of (get_or (x ∷ l) i 0) ≡ group_of x
          go i (inl d) = let z : i ≡ n = omega arith in rw z e
          go i (inr d) = one_group_lem.grouped i (omega arith)

  -- So no page behind it lies in its group.
  none_behind : n < 2 * b.g + 2 → pages_in (group_of x) (drop n (x ∷ l)) ≡ 0
  unfolding pages_in
  none_behind m = go (drop n (x ∷ l)) refl rest-room.ascends
    where
      go : (d : List ℕ) → drop n (x ∷ l) ≡ d → Asc 0 d → pages_in (group_of x) d ≡ 0
      go [] e a = refl
      go (y ∷ d) e (next _ a) =
          let z : n + 0 ≡ n = omega arith in
          let here : get_or (x ∷ l) n 0 ≡ y = rw z at (sym (get_or-drop n (x ∷ l) 0 0) ∙ ap (λ (w : List ℕ). get_or w 0 0) e) in
          let inside : n < length (x ∷ l) = omega (arith, sym (length-drop n (x ∷ l)) ∙ ap length e) in
          let other : group_of y ≢ group_of x = rw here at (ends-group m inside) in
          let later : x < y = rw here at (rises (x ∷ l) 0 n (of_asc (x ∷ l) q.ascends) one_group_lem.filled inside) in
          none_above (group_of x) (next (le_refl y) a) (omega (arith, other, later))

not_once : (s g : ℕ) → s * (2 * g + 2) ≤ 2 * g + 1 → s ≡ 0
not_once zero g h = refl
not_once (suc s) g h = absurd (omega arith)

-- The greedy runs of a group, but for the last, take 2g + 2 pages at least.
share : {b : Bounds} {p : ℕ} {l : List ℕ} {rs : List Run} (k : ℕ) → Room b p l → Greedy b p l rs
    → pages_in k (map run_start rs) * (2 * b.g + 2) ≤ pages_in k l + (2 * b.g + 1)
unfolding pages_in
share k q (Greedy.end p) = omega arith
share {b} k q (Greedy.run p x l r rs e h t) =
    rw (run_start_lem r e h, group-pages (group_of x) k r.taken (x ∷ l) (one_group_lem q h).inside (one_group_lem q h).grouped)
    (go (eqb (group_of x) k) refl (share k (rest-room q h) t))
  where
    go : (u : Bool) → eqb (group_of x) k ≡ u
        → pages_in k (map run_start rs) * (2 * b.g + 2) ≤ pages_in k (drop r.taken (x ∷ l)) + (2 * b.g + 1)
        → (indicator u + pages_in k (map run_start rs)) * (2 * b.g + 2)
        ≤ r.taken * indicator u + pages_in k (drop r.taken (x ∷ l)) + (2 * b.g + 1)
    go false d ih = omega arith
    go true d ih = on (ltb r.taken (2 * b.g + 2)) refl
      where
        on : (w : Bool) → ltb r.taken (2 * b.g + 2) ≡ w
            → (1 + pages_in k (map run_start rs)) * (2 * b.g + 2) ≤ r.taken * 1 + pages_in k (drop r.taken (x ∷ l)) + (2 * b.g + 1)
        on false w = omega (arith, ltb-false r.taken (2 * b.g + 2) w)
        on true w =
            let z : pages_in k (drop r.taken (x ∷ l)) ≡ 0 = rw (eqb-true (group_of x) k d) at (none_behind q h (ltb-true r.taken (2 * b.g + 2) w)) in
            let o : pages_in k (map run_start rs) ≡ 0 = not_once _ b.g (omega arith) in
            rw (o, z) (omega (arith, (one_group_lem q h).filled))

-- A group gets at most its pages divided by 2g + 2, rounded up.
pub learned_share : (g p k : ℕ) (written : List ℕ) → Asc 0 written → length (records_for k (learn g p written)) ≤ ceil (pages_in k written) (2 * g + 2)
learned_share g p k written a =
    let few : 0 < 2 * g + 2 = omega arith in
    let room : Room (bounds_of g p written) p written = record { ascends = a; from = omega arith; to = omega arith } in
    let most : pages_in k (map run_start (learn g p written)) * (2 * g + 2) ≤ pages_in k written + (2 * g + 1) = share k room (learn-greedy g p written a) in
    rw (learned-records g p k written a) ((le-div_iff_mul-le few).1 (omega arith))
