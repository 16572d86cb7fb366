-- The runs one after the other: each run's record and number go behind those stored, and the rest begins where the run ends. Assumes nothing.
use mathlib.Core.Path.{◌≡◌, refl, sym, ap, ◌∙◌}
use mathlib.Core.List.{List, [], ◌∷◌}
use Prim.Native.Nat.{ℕ, zero, suc, ◌+◌, ◌-◌, ◌≤◌, ◌<◌}
use native.Mathlib.Omega.{arith}
use native.Mathlib.Numerals.{add-one}
use lib.ListN.{length, get_or, drop, drop_of_length-le, set, length-set}
use lib.Seq.{drop-cons, drop-drop}
use Rattle.model.specs.Lists.{store}
use Rattle.model.specs.Learning.{Bounds, Run, runs}
use Rattle.model.proofs.Lists.{store_nil, store_first}
use Rattle.record.specs.declared.Record.{Record}
use Rattle.record.specs.Read.{bare}
use Rattle.slopes.specs.Places.{ahead_of, offsets_behind}
use Rattle.learn.specs.Runs.{run_at, records, counts}

module _ (b : Bounds) (w : List ℕ) where
  -- the runs that are left at place i, behind n runs
  unfoldable pub rest : ℕ → ℕ → List Run
  rest i n = runs b (length w - n) (b.first + i) (drop i w)

  pub rest-start : runs b (length w) b.first w ≡ rest 0 0
  unfolding rest
  rest-start =
      let e : length w - 0 ≡ length w = omega arith in
      let f : b.first + 0 ≡ b.first = omega arith in
      rw (e, f)

  pub rest_end : (i n : ℕ) → length w ≤ i → rest i n ≡ []
  unfolding rest runs
  rest_end i n h = ap (runs b (length w - n) (b.first + i)) (drop_of_length-le w h) ∙ none (length w - n)
    where
      none : (m : ℕ) → runs b m (b.first + i) [] ≡ []
      none zero = refl
      none (suc m) = refl

  module _ (i : ℕ) (h : i < length w) where
    pub rest_next : (n : ℕ) → n < length w → 1 ≤ (run_at b w i).taken → rest i n ≡ run_at b w i ∷ rest (i + (run_at b w i).taken) (n + 1)
    unfolding rest runs run_at offsets_behind ahead_of
    rest_next n k f =
        let q : drop i w ≡ get_or w i 0 ∷ drop (i + 1) w = drop-cons w i 0 h ∙ rw (add-one i) in
        let m : length w - n ≡ suc (length w - (n + 1)) = omega arith in
        let t : ℕ = (run_at b w i).taken in
        let p : b.first + i + t ≡ b.first + (i + t) = omega arith in
        let d : drop (t - 1) (drop (i + 1) w) ≡ drop (i + t) w =
        let e : i + 1 + (t - 1) ≡ i + t = omega arith in drop-drop (t - 1) (i + 1) w ∙ ap (λ (j : ℕ). drop j w) e in
        rw (q, m) (ap (λ (j : ℕ). run_at b w i ∷ runs b (length w - (n + 1)) j (drop (t - 1) (drop (i + 1) w))) p
        ∙ ap (λ (l : List ℕ). run_at b w i ∷ runs b (length w - (n + 1)) (b.first + (i + t)) l) d)

-- the record of one run more
records_next : (s : List Record) (n : ℕ) (r : Run) (rs : List Run) → store s n (records (r ∷ rs)) ≡ store (set s n (bare r.learned)) (n + 1) (records rs)
unfolding records
records_next s n r rs = store_first s n (bare r.learned) (records rs) ∙ rw (add-one n)

records_none : (s : List Record) (p : ℕ) (rs : List Run) → rs ≡ [] → store s p (records rs) ≡ s
unfolding records
records_none s p rs e = rw e (store_nil s p)

counts_next : (s : List ℕ) (n : ℕ) (r : Run) (rs : List Run) → store s n (counts (r ∷ rs)) ≡ store (set s n r.taken) (n + 1) (counts rs)
unfolding counts
counts_next s n r rs = store_first s n r.taken (counts rs) ∙ rw (add-one n)

counts_none : (s : List ℕ) (p : ℕ) (rs : List Run) → rs ≡ [] → store s p (counts rs) ≡ s
unfolding counts
counts_none s p rs e = rw e (store_nil s p)

-- all runs of a batch
abbrev pub all : Bounds → List ℕ → List Run
all b w = runs b (length w) b.first w

-- the numbers of pages of n runs are stored, up to place i; what is left to store makes the whole
pub record Stored (b : Bounds) (w taken₀ taken : List ℕ) (i n : ℕ) : Type 0 where
  pub inside : i ≤ length w
  pub few : n ≤ i
  pub kept : length taken ≡ length taken₀
  pub number : length (all b w) ≡ n + length (rest b w i n)
  pub numbers : store taken₀ 0 (counts (all b w)) ≡ store taken n (counts (rest b w i n))

-- so are their records
pub record Listed (b : Bounds) (w : List ℕ) (out₀ out : List Record) (i n : ℕ) : Type 0 where
  pub kept : length out ≡ length out₀
  pub listed : store out₀ 0 (records (all b w)) ≡ store out n (records (rest b w i n))

-- none yet
pub stored-start : (b : Bounds) (w taken : List ℕ) → Stored b w taken taken 0 0
stored-start b w taken =
    let e : all b w ≡ rest b w 0 0 = rest-start b w in
    record {
      inside = omega arith;
      few = omega arith;
      kept = refl;
      number = omega (arith, ap length e);
      numbers = ap (λ (rs : List Run). store taken 0 (counts rs)) e;
    }

pub listed_start : (b : Bounds) (w : List ℕ) (out : List Record) → Listed b w out out 0 0
listed_start b w out = record { kept = refl; listed = ap (λ (rs : List Run). store out 0 (records rs)) (rest-start b w) }

module _ (b : Bounds) (w taken₀ taken : List ℕ) (i n : ℕ) (s : Stored b w taken₀ taken i n) where
  -- one run more, of t pages
  module _ (h : i < length w) (f : 1 ≤ (run_at b w i).taken) (t : ℕ) (et : t ≡ (run_at b w i).taken) where
    pub rest-after : rest b w i n ≡ run_at b w i ∷ rest b w (i + t) (n + 1)
    rest-after = rest_next b w i h n (omega (arith, s.few)) f ∙ ap (λ (m : ℕ). run_at b w i ∷ rest b w (i + m) (n + 1)) (sym et)

    pub stored_next : i + t ≤ length w → Stored b w taken₀ (set taken n t) (i + t) (n + 1)
    stored_next room = record {
      inside = room;
      few = omega (arith, s.few);
      kept = length-set taken n t ∙ s.kept;
      number = omega (arith, s.number, ap length rest-after);
      numbers =
          s.numbers ∙ ap (λ (rs : List Run). store taken n (counts rs)) rest-after ∙ counts_next taken n (run_at b w i) (rest b w (i + t) (n + 1))
          ∙ ap (λ (m : ℕ). store (set taken n m) (n + 1) (counts (rest b w (i + t) (n + 1)))) (sym et);
    }

    -- the code's record r is the run's
    pub listed_next : (out₀ out : List Record) → Listed b w out₀ out i n → (r : Record) → r ≡ bare (run_at b w i).learned → Listed b w out₀ (set out n r) (i + t) (n + 1)
    listed_next out₀ out l r er = record {
      kept = length-set out n r ∙ l.kept;
      listed =
          l.listed ∙ ap (λ (rs : List Run). store out n (records rs)) rest-after ∙ records_next out n (run_at b w i) (rest b w (i + t) (n + 1))
          ∙ ap (λ (x : Record). store (set out n x) (n + 1) (records (rest b w (i + t) (n + 1)))) (sym er);
    }

  -- all of them
  module _ (h : length w ≤ i) where
    pub rest_none : rest b w i n ≡ []
    rest_none = rest_end b w i n h

    pub stored_all : (n ≡ length (all b w)) × (taken ≡ store taken₀ 0 (counts (all b w)))
    stored_all = (omega (arith, s.number, ap length rest_none), sym (s.numbers ∙ counts_none taken n _ rest_none))

    pub listed_all : (out₀ out : List Record) → Listed b w out₀ out i n → out ≡ store out₀ 0 (records (all b w))
    listed_all out₀ out l = sym (l.listed ∙ records_none out n _ rest_none)
