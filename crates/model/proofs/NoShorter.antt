-- No shorter list of records: the greedy runs stay ahead of every cutting of the same pages. Said in specs/NoShorter.antt. Assumes
-- nothing.
use mathlib.Core.Path.{◌≡◌, refl, sym, ◌∙◌, ap}
use mathlib.Core.List.{List, [], ◌∷◌, map}
use mathlib.Core.Bool.{Bool, true, false}
use Prim.Native.Nat.{ℕ, ◌+◌, ◌-◌, ◌≤◌, ◌<◌}
use native.Mathlib.Omega.{arith}
use lib.Dec.{ltb, eqb}
use lib.IntN.{ℤ}
use lib.ListN.{length, get_or, drop, length-drop, length-map}
use lib.Seq.{drop-drop}
use borrow.Author.Tests.{ltb-true, ltb-false}
use Rattle.model.specs.Device.{group_of, offset_of}
use Rattle.model.specs.Record.{Record}
use Rattle.model.specs.Learning.{Run, Bounds, learn, records_for}
use Rattle.model.specs.Totals.{indicator}
use Rattle.model.specs.Demand2.{AccurateRun, ApproximateRun, single_of, accurate_of, approximate_of, GreedyRun, Greedy, bounds_of}
use Rattle.model.specs.NoShorter.{AnyRun, Cutting, pages_in, run_start, Shortest, NoShorter}
use Rattle.model.proofs.Lists.{Asc}
use Rattle.model.proofs.Sorting.{sort_asc}
use Rattle.model.proofs.GreedyRuns.{learn-greedy}
use Rattle.model.proofs.Suffix.{suffix_run, suffix_first}

module _ {b : Bounds} {p : ℕ} {l : List ℕ} where
  -- The greedy rule's run at a place is a run ..
  pub greedy-run : {r : Record} {n : ℕ} → GreedyRun b p l r n → AnyRun b p l n
  greedy-run (GreedyRun.single c f g) = AnyRun.accurate c
  greedy-run (GreedyRun.accurate n h c f g) = AnyRun.accurate c
  greedy-run (GreedyRun.approximate n a I c f g s) = AnyRun.approximate a I c

  none_longer : {n : ℕ} → ((m : ℕ) → AccurateRun l m → m ≤ n) → ((m a : ℕ) (I : ℤ) → ApproximateRun b p l m a I → m ≤ n)
      → (m : ℕ) → AnyRun b p l m → m ≤ n
  none_longer f g m (AnyRun.accurate c) = f m c
  none_longer f g m (AnyRun.approximate a I c) = g m a I c

  -- .. none there is longer, ..
  pub greedy-longest : {r : Record} {n : ℕ} → GreedyRun b p l r n → (m : ℕ) → AnyRun b p l m → m ≤ n
  greedy-longest (GreedyRun.single c f g) = none_longer f g
  greedy-longest (GreedyRun.accurate n h c f g) = none_longer f g
  greedy-longest (GreedyRun.approximate n a I c f g s) = none_longer (λ m d. omega (arith, f m d)) g

  -- .. and its record starts at the first page.
  greedy-start : {r : Record} {n : ℕ} → GreedyRun b p l r n → r.start ≡ offset_of (get_or l 0 0)
  unfolding single_of accurate_of approximate_of
  greedy-start (GreedyRun.single c f g) = refl
  greedy-start (GreedyRun.accurate n h c f g) = refl
  greedy-start (GreedyRun.approximate n a I c f g s) = refl

pub run_start_lem : {b : Bounds} {p x : ℕ} {l : List ℕ} (r : Run) → r.group ≡ group_of x → GreedyRun b p (x ∷ l) r.learned r.taken → run_start r ≡ x
unfolding run_start
run_start_lem r e h = omega (arith, e, greedy-start h)

-- The greedy runs are a cutting.
greedy-cuts : {b : Bounds} {p : ℕ} {l : List ℕ} {rs : List Run} → Greedy b p l rs → Cutting b p l (map run_start rs)
greedy-cuts (Greedy.end p) = Cutting.end p
greedy-cuts (Greedy.run p x l r rs e h t) =
    rw (run_start_lem r e h) (Cutting.run p r.taken x l (map run_start rs) (greedy-run h) (greedy-cuts t))

-- Pages weighed by their groups: so all of them are counted, or those of one group.
weigh : (ℕ → ℕ) → List ℕ → ℕ
weigh w [] = 0
weigh w (x ∷ l) = w (group_of x) + weigh w l

weigh_all : (l : List ℕ) → weigh (λ k. 1) l ≡ length l
unfolding weigh
weigh_all [] = refl
weigh_all (x ∷ l) = omega (arith, weigh_all l)

weigh_group : (k : ℕ) (l : List ℕ) → weigh (λ j. indicator (eqb j k)) l ≡ pages_in k l
unfolding weigh pages_in
weigh_group k [] = refl
weigh_group k (x ∷ l) = ap (λ (n : ℕ). indicator (eqb (group_of x) k) + n) (weigh_group k l)

module _ (b : Bounds) (w : ℕ → ℕ) where
  -- the greedy runs of these pages weigh at most k
  abbrev Within : ℕ → ℕ → List ℕ → Type 0
  Within k p l = (rs : List Run) → Greedy b p l rs → weigh w (map run_start rs) ≤ k

  -- The first n of the pages l are a run, and the greedy runs from any place behind it on weigh at most k ..
  module _ {p n x k : ℕ} {l : List ℕ} (c : AnyRun b p (x ∷ l) n) (rest : (e : ℕ) → Within k (p + n + e) (drop e (drop n (x ∷ l)))) where
    behind : (e : ℕ) → n ≤ e → Within k (p + e) (drop e (x ∷ l))
    behind e h rs g =
        let u : p + n + (e - n) ≡ p + e = omega arith in
        let v : n + (e - n) ≡ e = omega arith in
        rest (e - n) rs (rw (u, drop-drop (e - n) n (x ∷ l), v) g)

    -- .. so those from a place inside it on weigh at most one of its group more: what is left of the run there is a run, and the first
    -- greedy one, a longest, takes all of it.
    inside : {e q : ℕ} {s : List ℕ} {rs : List Run} → e < n → p + e ≡ q → drop e (x ∷ l) ≡ s → Greedy b q s rs
        → weigh w (map run_start rs) ≤ w (group_of x) + k
    unfolding weigh
    inside h u v (Greedy.end q) = omega arith
    inside {e} h u v (Greedy.run q y s r rs f t g) =
        let far : n - e ≤ r.taken = greedy-longest t (n - e) (rw (u, v) at (suffix_run (x ∷ l) n e h b p c)) in
        let u' : p + (e + r.taken) ≡ q + r.taken = omega arith in
        let v' : drop (e + r.taken) (x ∷ l) ≡ drop r.taken (y ∷ s) = sym (drop-drop r.taken e (x ∷ l)) ∙ ap (drop r.taken) v in
        let more : weigh w (map run_start rs) ≤ k = behind (e + r.taken) (omega arith) rs (rw (u', v') g) in
        let same : group_of y ≡ group_of x = rw v at (suffix_first (x ∷ l) n e h c) in
        rw (run_start_lem r f t, same) (omega arith)

    anywhere : (e : ℕ) → Within (w (group_of x) + k) (p + e) (drop e (x ∷ l))
    anywhere e rs g = go (ltb e n) refl
      where
        go : (t : Bool) → ltb e n ≡ t → weigh w (map run_start rs) ≤ w (group_of x) + k
        go true q = inside (ltb-true e n q) refl refl g
        go false q = omega (arith, behind e (ltb-false e n q) rs g)

  -- where no page is left there is none
  none_left : {p : ℕ} {l : List ℕ} → length l ≤ 0 → Within 0 p l
  unfolding weigh
  none_left h [] (Greedy.end p) = omega arith
  none_left h rs (Greedy.run p x l r rs' e c t) = absurd (omega arith)

  -- The greedy runs from a cutting's first page on, or from any page ahead of it, weigh at most as much as its runs.
  greedy-ahead : {p : ℕ} {l starts : List ℕ} → Cutting b p l starts → (e : ℕ) → Within (weigh w starts) (p + e) (drop e l)
  unfolding weigh
  greedy-ahead (Cutting.end p) e = none_left (omega (arith, length-drop {A = ℕ} e []))
  greedy-ahead (Cutting.run p n x l starts c t) e = anywhere c (λ e'. greedy-ahead t e') e

-- A group's records are as many as the greedy runs that start there.
greedy-records : {b : Bounds} {p : ℕ} {l : List ℕ} {rs : List Run} (k : ℕ) → Greedy b p l rs → length (records_for k rs) ≡ pages_in k (map run_start rs)
unfolding records_for pages_in
greedy-records k (Greedy.end p) = refl
greedy-records k (Greedy.run p x l r rs e h t) = rw (run_start_lem r e h, e) (go (eqb (group_of x) k) (greedy-records k t))
  where
    go : (u : Bool) → length (records_for k rs) ≡ pages_in k (map run_start rs)
        → length {A = Record} (elim u [ true ↦ r.learned ∷ records_for k rs | false ↦ records_for k rs ]) ≡ indicator u + pages_in k (map run_start rs)
    go true ih = omega arith
    go false ih = omega arith

-- A group's records are as many as the runs learned that start there.
pub learned-records : (g p k : ℕ) (written : List ℕ) → Asc 0 written
    → length (records_for k (learn g p written)) ≡ pages_in k (map run_start (learn g p written))
learned-records g p k written a = greedy-records k (learn-greedy g p written a)

-- The runs learned from ascending pages are a cutting, and none has fewer.
pub learned_shortest : (g p : ℕ) (written : List ℕ) → Asc 0 written → Shortest (bounds_of g p written) p written (learn g p written)
learned_shortest g p written a = record {
  cuts = greedy-cuts greedy;
  least = λ starts c. omega (arith, ahead (λ k. 1) c, weigh_all learned, weigh_all starts, length-map (learn g p written) run_start);
  least_in = λ k starts c.
      omega (arith, ahead (λ j. indicator (eqb j k)) c, weigh_group k learned, weigh_group k starts, learned-records g p k written a);
}
  where
    greedy : Greedy (bounds_of g p written) p written (learn g p written)
    greedy = learn-greedy g p written a

    learned : List ℕ
    learned = map run_start (learn g p written)

    ahead : (w : ℕ → ℕ) {starts : List ℕ} → Cutting (bounds_of g p written) p written starts → weigh w learned ≤ weigh w starts
    ahead w c = let e : p + 0 ≡ p = omega arith in greedy-ahead (bounds_of g p written) w c 0 (learn g p written) (rw e greedy)

-- No shorter list of records: what is sorted ascends.
pub no_shorter : NoShorter learn
no_shorter g p ws = learned_shortest g p _ (sort_asc ws)
