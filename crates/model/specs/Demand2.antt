-- Demand 2, whole: what the records learned from a batch are, and what reading them with the spare area gives. The theorem is
-- `demand_2` (proofs/Demand2.antt), of the type `Demand2` at the end of this file. Assumes nothing.
use Rattle.std.specs.Prelude.{◌≡◌, List, [], ◌∷◌, true, false, ℕ, suc, ◌+◌, ◌*◌, ◌-◌, ◌≤◌, ◌<◌, ltb, eqb, ℤ, pos, negsuc, ◌+ℤ◌, length, get_or, take, drop}
use Rattle.std.proofs.Math.Option.{Option, none, some}
use Rattle.std.proofs.Math.IntN.{sub_ℕ}
use Rattle.model.specs.Lists.{all, elem, ascending}
use Rattle.model.specs.Device.{Device, within_limits, pages, first_page, group_of, offset_of, ceil, names_per_page, spare_length}
use Rattle.model.specs.Record.{Record, predict}
use Rattle.model.specs.Spare.{nobody, entry, entry_rule, program_block, page_named}
use Rattle.model.specs.Learning.{Run, Bounds, sorted, logicals, learn, records_for}
use Rattle.model.specs.Levels.{holder}

-- THE GREEDY RULE. Below, l lists the sorted logical pages that are left, the first of them goes to page p, and a candidate for
-- the next run is a number n: the first n pages of l. None of it computes a run; it says which run is the right one.

-- Runs "stay inside one group"
pub record OneGroup (l : List ℕ) (n : ℕ) : Type 0 where
  pub filled : 1 ≤ n
  pub inside : n ≤ length l
  pub grouped : (i : ℕ) → i < n → group_of (get_or l i 0) ≡ group_of (get_or l 0 0)

-- the stride of the first two
abbrev pub stride : List ℕ → ℕ
stride l = get_or l 1 0 - get_or l 0 0

-- "The accurate run goes on while the stride of its first two holds; one page alone is a single."
pub record AccurateRun (l : List ℕ) (n : ℕ) : Type 0 where
  pub one_group : OneGroup l n
  pub strided : (i : ℕ) → suc i < n → get_or l (suc i) 0 ≡ get_or l i 0 + stride l

-- a prediction z for page p "within g of its page and on a page that this flush wrote"
pub record Near (b : Bounds) (p : ℕ) (z : ℤ) : Type 0 where
  pub page : ℕ
  pub is : z ≡ pos page
  pub below : page ≤ p + b.g
  pub above : p ≤ page + b.g
  pub from : b.first ≤ page
  pub to : page ≤ b.last

-- "If g is at least 1, an approximate run of some slope a and intercept I needs every member's prediction within g of its page
-- and on a page that this flush wrote." The slopes are those of the record's table, "a 0 to 256".
pub record ApproximateRun (b : Bounds) (p : ℕ) (l : List ℕ) (n a : ℕ) (I : ℤ) : Type 0 where
  pub bound : 1 ≤ b.g
  pub slope : a ≤ 256
  pub one_group : OneGroup l n
  pub near : (i : ℕ) → i < n → Near b (p + i) (I +ℤ pos (ceil (a * offset_of (get_or l i 0)) 256))

-- "wrong predictions": how many of the pages, the first of them on page p, get a predicted page that is not theirs
unfoldable pub missed : ℤ → ℕ → ℕ
missed (pos q) p = elim (eqb q p) [ true ↦ 0 | false ↦ 1 ]
missed (negsuc m) p = 1

unfoldable pub wrong_predictions : ℕ → ℤ → ℕ → List ℕ → ℕ
wrong_predictions a I p [] = 0
wrong_predictions a I p (x ∷ l) = missed (I +ℤ pos (ceil (a * offset_of x) 256)) p + wrong_predictions a I (suc p) l

-- an intercept is at most another
pub record AtMost (I J : ℤ) : Type 0 where
  pub less : ℕ
  pub is : I +ℤ pos less ≡ J

-- "fewest wrong predictions", then "smallest a, then smallest I": w wrong ones, slope a and intercept I against v, c and J
pub data Preferred (w a : ℕ) (I : ℤ) (v c : ℕ) (J : ℤ) : Type 0 where
  fewer : w < v → Preferred w a I v c J
  flatter : w ≡ v → a < c → Preferred w a I v c J
  lower : w ≡ v → a ≡ c → AtMost I J → Preferred w a I v c J

-- the records of such runs: "I is the first page less (S / d rounded up)"; an approximate one "owns the offsets of its run"
unfoldable pub offsets : List ℕ → List ℕ
offsets [] = []
offsets (x ∷ l) = offset_of x ∷ offsets l

unfoldable pub single_of : ℕ → List ℕ → Record
single_of p l = record { start = offset_of (get_or l 0 0); span = 0; word = 0; intercept = pos p; owned = [] }

unfoldable pub accurate_of : ℕ → List ℕ → ℕ → Record
accurate_of p l n = record {
  start = offset_of (get_or l 0 0);
  span = (n - 1) * stride l;
  word = 2 * stride l;
  intercept = sub_ℕ p (ceil (offset_of (get_or l 0 0)) (stride l));
  owned = [];
}

unfoldable pub approximate_of : List ℕ → ℕ → ℕ → ℤ → Record
approximate_of l n a I = record {
  start = offset_of (get_or l 0 0);
  span = offset_of (get_or l (n - 1) 0) - offset_of (get_or l 0 0);
  word = 2 * a + 1;
  intercept = I;
  owned = offsets (take n l);
}

-- The run at a place, and how many pages it takes.
pub data GreedyRun (b : Bounds) (p : ℕ) (l : List ℕ) : Record → ℕ → Type 0 where
  -- the accurate run, as far as it goes, where no approximate one is longer: "otherwise the accurate one"
  single : AccurateRun l 1 → ((m : ℕ) → AccurateRun l m → m ≤ 1)
      → ((m a : ℕ) (I : ℤ) → ApproximateRun b p l m a I → m ≤ 1)
      → GreedyRun b p l (single_of p l) 1
  accurate : (n : ℕ) → 2 ≤ n → AccurateRun l n → ((m : ℕ) → AccurateRun l m → m ≤ n)
      → ((m a : ℕ) (I : ℤ) → ApproximateRun b p l m a I → m ≤ n)
      → GreedyRun b p l (accurate_of p l n) n
  -- "The longest approximate run is taken if it is longer than the accurate one": over every slope and every integer intercept;
  -- "Among the longest approximate runs the one with fewest wrong predictions is now taken, ties as before": "smallest a, then
  -- smallest I."
  approximate : (n a : ℕ) (I : ℤ) → ApproximateRun b p l n a I
      → ((m : ℕ) → AccurateRun l m → m < n)
      → ((m a' : ℕ) (J : ℤ) → ApproximateRun b p l m a' J → m ≤ n)
      → ((c : ℕ) (J : ℤ) → ApproximateRun b p l n c J
      → Preferred (wrong_predictions a I p (take n l)) a I (wrong_predictions c J p (take n l)) c J)
      → GreedyRun b p l (approximate_of l n a I) n

-- "Runs are taken from the left": at each place the run there, then the rest from the next place on
pub data Greedy (b : Bounds) : ℕ → List ℕ → List Run → Type 0 where
  end : (p : ℕ) → Greedy b p [] []
  run : (p x : ℕ) (l : List ℕ) (r : Run) (rs : List Run) → r.group ≡ group_of x → GreedyRun b p (x ∷ l) r.learned r.taken
      → Greedy b (p + r.taken) (drop r.taken (x ∷ l)) rs → Greedy b p (x ∷ l) (r ∷ rs)

-- what the predictions keep to where pages are written from page p on: the error bound g, and the pages written
abbrev pub bounds_of : ℕ → ℕ → List ℕ → Bounds
bounds_of g p written = record { g = g; first = p; last = p + length written - 1 }

-- READING BACK. The page that the spare area names for x where this page is predicted, if it exists.
unfoldable pub read_at : Device → List ℕ → ℕ → ℤ → Option ℕ
read_at d spare x (pos q) = elim (ltb q (pages d)) [ true ↦ page_named d spare q x | false ↦ none ]
read_at d spare x (negsuc n) = none

unfoldable pub read_by : Device → List ℕ → ℕ → Option Record → Option ℕ
read_by d spare x none = none
read_by d spare x (some r) = read_at d spare x (predict r (offset_of x))

-- Reading logical page x: the record of its group that has its offset as a member predicts a page, and the spare area there
-- names the page that x is on.
unfoldable pub reads_back : Device → List ℕ → List Run → ℕ → Option ℕ
reads_back d spare rs x = read_by d spare x (holder (offset_of x) (records_for (group_of x) rs))

-- entry j of page i of a block that the written pages are put on: the entry rule's, and "the pages it doesn't use name nobody"
unfoldable pub entry_left : Device → List ℕ → ℕ → ℕ → ℕ
entry_left d written i j = elim (ltb i (length written)) [ true ↦ entry_rule d written i j | false ↦ nobody ]

-- THE CLAIM, for a batch put on block k: what was written, the records learned, and the spare area left.
pub record Demanded (d : Device) (batch : List ℕ) (k : ℕ) (written : List ℕ) (records : List Run) (spare : List ℕ) : Type 0 where
  -- "Repeated logical pages keep their last arrival. The rest are sorted": the batch's logical pages are written, ascending
  pub ascends : ascending written ≡ true
  pub same : (x : ℕ) → elem x written ≡ elem x batch
  -- "The records learned from a batch are exactly those of the greedy rule": they are greedy, and nothing else is
  pub greedy : Greedy (bounds_of d.g (first_page d k) written) (first_page d k) written records
  pub only : (rs : List Run) → Greedy (bounds_of d.g (first_page d k) written) (first_page d k) written rs → rs ≡ records
  -- "and reading those records with the spare area gives back exactly the batch's logical pages, each with its page."
  pub each : (i : ℕ) → i < length written → reads_back d spare records (get_or written i 0) ≡ some (first_page d k + i)
  pub no_other : (x : ℕ) → elem x batch ≡ false → reads_back d spare records x ≡ none
  -- "The spare entries count as much as the records": each entry of each of the block's B pages
  pub entries : (i j : ℕ) → i < d.B → j < names_per_page d → entry d spare (first_page d k + i) j ≡ entry_left d written i j

-- Demand 2: for every device within limits, every batch of at most B logical pages below N, in any order and with repeats, every
-- block, and a spare area of any content.
abbrev pub Demand2 : Type 0
Demand2 = (d : Device) (batch : List ℕ) (k : ℕ) (lent : List ℕ) → within_limits d ≡ true → length batch ≤ d.B
    → all (λ x. ltb x d.N) batch ≡ true → k < d.M → length lent ≡ spare_length d
    → Demanded d batch k (logicals (sorted batch)) (learn d.g (first_page d k) (logicals (sorted batch)))
    (program_block d (logicals (sorted batch)) k lent)
