-- The runs cut the sorted pages into parts, one after the other, each inside a group. Assumes nothing.
use mathlib.Core.Path.{◌≡◌, refl, sym, ◌∙◌}
use mathlib.Core.List.{List, [], ◌∷◌}
use mathlib.Core.Bool.{true, false}
use Prim.Native.Nat.{ℕ, zero, suc, ◌+◌, ◌-◌, ◌≤◌, ◌<◌}
use native.Mathlib.Omega.{arith}
use lib.ListN.{length, get_or, take, drop, length-drop}
use lib.IntN.{pos}
use Rattle.model.specs.Lists.{elem}
use Rattle.model.specs.Device.{group_of, offset_of}
use Rattle.model.specs.Record.{kind, is_approximate, member, predict}
use Rattle.model.specs.Learning.{Run, Bounds, accurate_run, approximate_run, next_run, ahead, runs}
use Rattle.model.specs.Sound.{sound_as}
use Rattle.model.specs.Demand2.{Near}
use Rattle.model.proofs.Lists.{Asc, asc_lower}
use Rattle.model.proofs.Parts.{Below, drop_pred, asc_drop}
use Rattle.model.proofs.Ahead.{Leading, leading, leading_asc, leading_below, leading_elem}
use Rattle.model.proofs.Run.{RunOf}
use Rattle.model.proofs.Stride.{accurate_run_lem}
use Rattle.model.proofs.Approximation.{approximate_run_lem}
use Rattle.model.proofs.Greedy.{Chosen, accurately, approximately, next_chosen}

-- The run that is taken, accurate or approximate, takes the first offsets and predicts within the bounds.
next_run_lem : (b : Bounds) (k p x : ℕ) (l : List ℕ) {z : ℕ} → Asc z (x ∷ l) → Below 256 (x ∷ l) → b.first ≤ p
    → p + length (x ∷ l) ≤ suc b.last
    → RunOf b k p (x ∷ l) (next_run b k p x l)
next_run_lem b k p x l a s h m = go (next_chosen b k p x l)
  where
    go : {r : Run} → Chosen b (accurate_run k p x l) (approximate_run b k p x l) r → RunOf b k p (x ∷ l) r
    go (accurately q) = accurate_run_lem b k p x l a s h m
    go (approximately q n) = approximate_run_lem b k p x l a s h (omega arith)

-- r is the run of the first of the pages l, written on the flash pages from p on: they lie in its group, are its record's
-- members, and are predicted within the bounds; each exactly, unless the record is approximate.
pub record Part (b : Bounds) (p : ℕ) (l : List ℕ) (r : Run) : Type 0 where
  pub filled : 1 ≤ r.taken
  pub inside : r.taken ≤ length l
  pub grouped : (i : ℕ) → i < r.taken → group_of (get_or l i 0) ≡ r.group
  pub members : (x : ℕ) → group_of x ≡ r.group → member r.learned (offset_of x) ≡ elem x (take r.taken l)
  pub ends : r.learned.start + r.learned.span ≡ offset_of (get_or l (r.taken - 1) 0)
  pub sound : sound_as (kind r.learned) r.learned ≡ true
  pub exact : is_approximate (kind r.learned) ≡ false → (i : ℕ) → i < r.taken
      → predict r.learned (offset_of (get_or l i 0)) ≡ pos (p + i)
  pub near : (i : ℕ) → i < r.taken → Near b (p + i) (predict r.learned (offset_of (get_or l i 0)))

run-part : (b : Bounds) (p x : ℕ) (l xs : List ℕ) (r : Run) → Leading (x ∷ l) xs → RunOf b (group_of x) p xs r → Part b p (x ∷ l) r
run-part b p x l xs r s c = record {
  filled = c.filled;
  inside = omega (arith, c.inside, s.inside);
  grouped = λ i h. s.grouped i (omega (arith, c.inside)) ∙ sym c.group;
  members = λ y h. c.members (offset_of y) ∙ leading_elem (x ∷ l) xs s r.taken y c.inside (h ∙ c.group);
  ends = c.ends ∙ at (r.taken - 1) (omega (arith, c.filled));
  sound = c.sound;
  exact = λ q i h. rw (at i h) at (c.exact q i h);
  near = λ i h. rw (at i h) at (c.near i h);
}
  where
    at : (i : ℕ) → i < r.taken → get_or xs i 0 ≡ offset_of (get_or (x ∷ l) i 0)
    at i h = s.offset i (omega (arith, c.inside))

-- the run of the first of the pages x and l, x on page p
abbrev pub first_run : Bounds → ℕ → ℕ → List ℕ → Run
first_run b p x l = next_run b (group_of x) p (offset_of x) (ahead (group_of x) l)

-- ascending pages, to be written from page p on, that have room in the bounds
pub record Room (b : Bounds) (p : ℕ) (l : List ℕ) : Type 0 where
  pub ascends : Asc 0 l
  pub from : b.first ≤ p
  pub to : p + length l ≤ suc b.last

-- Their first run is that of a part.
pub first_part : (b : Bounds) (p x : ℕ) (l : List ℕ) → Room b p (x ∷ l) → Part b p (x ∷ l) (first_run b p x l)
first_part b p x l q =
    let s : Leading (x ∷ l) (offset_of x ∷ ahead (group_of x) l) = leading x l in
    run-part b p x l _ _ s (next_run_lem b (group_of x) p (offset_of x) (ahead (group_of x) l) (leading_asc x l q.ascends)
    (leading_below _ _ s) q.from (omega (arith, q.to, s.inside)))

-- What holds of no run, and of a run and those behind it, holds of the runs.
pub runs_all : (b : Bounds) (P : ℕ → List ℕ → List Run → Type 0) → ((p : ℕ) → P p [] [])
    → ((p x : ℕ) (l : List ℕ) (rs : List Run) → Room b p (x ∷ l)
    → P (p + (first_run b p x l).taken) (drop (first_run b p x l).taken (x ∷ l)) rs → P p (x ∷ l) (first_run b p x l ∷ rs))
    → (n p : ℕ) (l : List ℕ) → length l ≤ n → Room b p l → P p l (runs b n p l)
unfolding runs
runs_all b P none more zero p [] h q = none p
runs_all b P none more zero p (x ∷ l) h q = absurd (omega arith)
runs_all b P none more (suc n) p [] h q = none p
runs_all b P none more (suc n) p (x ∷ l) h q =
    go (first_run b p x l) (first_part b p x l q) (λ rs. more p x l rs q) (λ p' l'. runs_all b P none more n p' l')
  where
    go : (r : Run) → Part b p (x ∷ l) r → ((rs : List Run) → P (p + r.taken) (drop r.taken (x ∷ l)) rs → P p (x ∷ l) (r ∷ rs))
        → ((p' : ℕ) (l' : List ℕ) → length l' ≤ n → Room b p' l' → P p' l' (runs b n p' l'))
        → P p (x ∷ l) (r ∷ runs b n (p + r.taken) (drop (r.taken - 1) l))
    go r c step ih =
        let e : drop r.taken (x ∷ l) ≡ drop (r.taken - 1) l = drop_pred r.taken x l c.filled in
        let k : length (drop (r.taken - 1) l) + r.taken ≡ length (x ∷ l) = rw length-drop (omega (arith, c.filled, c.inside)) in
        step _ (rw e (ih (p + r.taken) (drop (r.taken - 1) l) (omega (arith, c.filled)) (record {
          ascends = rw e at (asc_drop r.taken (x ∷ l) q.ascends);
          from = omega (arith, q.from);
          to = omega (arith, q.to);
        })))

-- the runs take the pages l, part after part, on the flash pages from p on
abbrev pub Parted : Bounds → ℕ → List ℕ → List Run → Type 0
Parted b p l [] = l ≡ []
Parted b p l (r ∷ rs) = Part b p l r × Parted b (p + r.taken) (drop r.taken l) rs

-- The runs cut ascending pages into parts.
pub runs_parted : (b : Bounds) (n p : ℕ) (l : List ℕ) {z : ℕ} → length l ≤ n → Asc z l → b.first ≤ p → p + length l ≤ suc b.last
    → Parted b p l (runs b n p l)
runs_parted b n p l h a f m =
    runs_all b (Parted b) (λ p. refl) (λ p x l rs q c. (first_part b p x l q, c)) n p l h
    (record { ascends = asc_lower (omega arith) a; from = f; to = m })
