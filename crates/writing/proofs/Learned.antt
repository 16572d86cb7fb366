-- What learning a batch leaves is handed over: run i is read as the learned run. Assumes nothing.
use mathlib.Core.Path.{◌≡◌, refl, sym, ap, ◌∙◌, subst}
use mathlib.Core.List.{List, [], ◌∷◌}
use mathlib.Core.Bool.{true}
use Prim.Native.Nat.{ℕ, zero, suc, ◌+◌, ◌*◌, ◌≤◌, ◌<◌}
use native.Mathlib.Omega.{arith}
use lib.Dec.{ltb}
use lib.ListN.{length, get_or, take, drop, length-drop}
use lib.Seq.{ext_get_or, get_or-drop, drop-drop}
use lib.IntN.{pos}
use Rattle.model.specs.Lists.{all, elem, ascending, store}
use Rattle.model.specs.Device.{group_of, offset_of}
use Rattle.model.specs.Record.{kind_of, member, Record}
use Rattle.model.specs.Learning.{Run, Bounds, ahead, learn}
use Rattle.model.specs.Sound.{sound_record}
use Rattle.model.specs.Demand2.{bounds_of, stride, offsets, single_of, accurate_of, approximate_of, GreedyRun, single, accurate, approximate, Greedy, run}
use Rattle.model.proofs.Lists.{asc_of, length-store}
use Rattle.model.proofs.Parts.{all_below}
use Rattle.model.proofs.Ahead.{leading, leading_take, leading_elem}
use Rattle.model.proofs.Run.{kind_even, kind_odd}
use Rattle.model.proofs.Runs.{Part, Parted}
use Rattle.model.proofs.Learned.{learn_parted, learn-length, learn-sound, part-members}
use Rattle.model.proofs.GreedyRuns.{learn-greedy}
use Rattle.front.proofs.Tables.{length_from, get_or_from}
use Rattle.record.specs.declared.Record as struct
use Rattle.record.specs.Read.{as_record, bare}
use Rattle.insertion.proofs.ListWrites.{all_at}
use Rattle.learn.specs.Runs.{records, counts}
use Rattle.learn.proofs.RunsReadBack.{record_at_lem, count_at}
use Rattle.writing.specs.Handed.{first_place, offsets_at, owned_of, owning, no_record, learned_at, run_group, handed_run, runs_from, Learned}

-- a run of the first of the pages l, on the pages from p on
abbrev RunHere : Bounds → ℕ → List ℕ → Run → Type 0
RunHere b p l r = Part b p l r × GreedyRun b p l r.learned r.taken

-- the offsets of its pages are the record's members,
members_are : (b : Bounds) (p : ℕ) (l : List ℕ) (r : Run) → Part b p l r → (o : ℕ) → o < 256 → member r.learned o ≡ elem o (offsets (take r.taken l))
members_are b p [] r c o h = absurd (let z : ⊥ = omega (arith, c.filled, c.inside) in z)
members_are b p (x ∷ l) r c o h =
    let y : ℕ = 256 * r.group + o in
    let same : group_of y ≡ group_of x = omega (arith, c.grouped 0 c.filled) in
    let e : offset_of y ≡ o = omega arith in
    let fits : r.taken ≤ length (offset_of x ∷ ahead (group_of x) l) = (leading x l).most r.taken (record { filled = c.filled; inside = c.inside; grouped = λ i b. c.grouped i b ∙ sym (c.grouped 0 c.filled) }) in
    part-members b p (x ∷ l) r c o h ∙ sym (rw e at (leading_elem (x ∷ l) _ (leading x l) r.taken y fits same)) ∙ ap (elem o) (sym (leading_take (x ∷ l) _ (leading x l) r.taken fits))

-- and, if it is approximate, those that it owns
owned_are : (b : Bounds) (p : ℕ) (l : List ℕ) (r : Record) (n : ℕ) → GreedyRun b p l r n → owned_of (kind_of r.word) (offsets (take n l)) ≡ r.owned
unfolding single_of accurate_of approximate_of owned_of kind_of
owned_are b p l r n (single a m f) = refl
owned_are b p l r n (accurate k t a m f) = even (stride l)
  where
    even : (d : ℕ) → owned_of (kind_of (2 * d)) (offsets (take n l)) ≡ []
    even zero = refl
    even (suc d) = rw (kind_even (suc d) (omega arith))
owned_are b p l r n (approximate k a I f m q s) = rw (kind_odd a)

no_run : Run
no_run = record { group = 0; learned = record { start = 0; span = 0; word = 0; intercept = pos 0; owned = [] }; taken = 0 }

-- a run is where run k is read
record Found (w taken : List ℕ) (b : Bounds) (r : Run) (k : ℕ) : Type 0 where
  first : ℕ
  at : RunHere b first (drop (first_place taken k) w) r

-- runs that cut the pages from place a on into parts, the first of them run i
found_at : (w taken : List ℕ) (b : Bounds) (p a i : ℕ) (l : List ℕ) (rs : List Run) → l ≡ drop a w → Parted b p l rs → Greedy b p l rs → first_place taken i ≡ a
    → ((j k : ℕ) → i + j ≡ k → j < length rs → get_or taken k 0 ≡ (get_or rs j no_run).taken) → (j k : ℕ) → i + j ≡ k → j < length rs → Found w taken b (get_or rs j no_run) k
unfolding first_place
found_at w taken b p a i l [] s c g e f j k q h = absurd (let z : ⊥ = omega arith in z)
found_at w taken b p a i l (r ∷ rs) s c (run _ x _ _ _ u v g) e f zero k q h =
    let z : i ≡ k = omega arith in
    record { first = p; at = subst (λ (m : List ℕ). RunHere b p m r) (s ∙ ap (λ (m : ℕ). drop m w) (sym e ∙ ap (first_place taken) z)) (c.0, v) }
found_at w taken b p a i l (r ∷ rs) s c (run _ x _ _ _ u v g) e f (suc j) k q h =
    found_at w taken b (p + r.taken) (a + r.taken) (suc i) _ rs (ap (drop r.taken) s ∙ drop-drop r.taken a w) c.1 g (omega (arith, e, f 0 i (omega arith) (omega arith)))
    (λ m n l b. f (suc m) n (omega arith) (omega arith)) j k (omega arith) (omega arith)

-- A batch that was learned into `out` and `taken`, which held anything before.
module _ (N g p : ℕ) (w : List ℕ) (up : ascending w ≡ true) (below : all (λ x. ltb x N) w ≡ true)
    (o₀ : List struct.Record) (t₀ : List ℕ) (room : length w ≤ length o₀) (places : length w ≤ length t₀)
    (out : List struct.Record) (taken : List ℕ) (stored : out ≡ store o₀ 0 (records (learn g p w))) (counted : taken ≡ store t₀ 0 (counts (learn g p w)))
    (n : ℕ) (size : n ≡ length (learn g p w)) where
  abbrev learnt : ℕ → Run
  learnt j = get_or (learn g p w) j no_run

  few : n ≤ length w
  few = omega (arith, size, learn-length g p w)

  -- what is read of run j is its own: how many pages, record, group
  module _ (j : ℕ) (h : j < n) where
    count_is : get_or taken j 0 ≡ (learnt j).taken
    count_is = ap (λ (l : List ℕ). get_or l j 0) counted ∙ count_at t₀ (learn g p w) j no_run (omega arith) (omega (arith, few))

    sound_is : sound_record N (learnt j).group (learnt j).learned ≡ true
    sound_is = all_at (λ (r : Run). sound_record N r.group r.learned) (learn g p w) j no_run (omega arith) (learn-sound N g p w (asc_of w up) (all_below N w below))

  found : (j : ℕ) → j < n → Found w taken (bounds_of g p w) (learnt j) j
  unfolding first_place
  found j h =
      found_at w taken (bounds_of g p w) p 0 0 w (learn g p w) refl (learn_parted g p w (asc_of w up)) (learn-greedy g p w (asc_of w up)) refl
      (λ m k q l. let z : m ≡ k = omega arith in ap (λ (x : ℕ). get_or taken x 0) (sym z) ∙ count_is m (omega (arith, l))) j j (omega arith) (omega arith)

  module _ (j : ℕ) (h : j < n) where
    learned_is : learned_at w out taken j ≡ (learnt j).learned
    unfolding owning
    learned_is =
        ap (λ (x : struct.Record). as_record x (owned_of (kind_of x.word) (offsets_at w taken j)))
        (ap (λ (l : List struct.Record). get_or l j no_record) stored ∙ record_at_lem o₀ (learn g p w) j no_run no_record (omega arith) (omega (arith, few)))
        ∙ ap (λ (os : List ℕ). as_record (bare (learnt j).learned) os) (rw (count_is j h) (owned_are (bounds_of g p w) (found j h).first _ (learnt j).learned (learnt j).taken (found j h).at.1))

    group_is : run_group w taken j ≡ (learnt j).group
    unfolding run_group
    group_is =
        let z : first_place taken j + 0 ≡ first_place taken j = omega arith in
        ap (λ (x : ℕ). group_of x) (sym (rw z at (get_or-drop (first_place taken j) w 0 0))) ∙ (found j h).at.0.grouped 0 (omega (arith, (found j h).at.0.filled))

  -- The runs that are read are those learned.
  pub runs_are : runs_from w out taken 0 n ≡ learn g p w
  unfolding runs_from handed_run
  runs_are =
      ext_get_or no_run _ _ (length_from (handed_run w out taken) 0 n ∙ size) (λ i h.
      let l : i < n = omega (arith, length_from (handed_run w out taken) 0 n) in
      get_or_from (handed_run w out taken) n i no_run l ∙ rw (group_is i l, learned_is i l, count_is i l) refl)

  place_inside : (m : ℕ) → m ≤ n → first_place taken m ≤ length w
  unfolding first_place
  place_inside zero h = omega arith
  place_inside (suc m) h =
      let c = (found m (omega arith)).at.0 in
      omega (arith, count_is m (omega arith), c.filled, c.inside, length-drop (first_place taken m) w)

  -- They are handed over, and their records are sound.
  pub handed-over : length w ≤ 256 → Learned N w out taken n
  handed-over h = record {
    sorted = record {
      ascends = up;
      below = below;
      few = omega (arith, few);
      counted = record {
        counts = omega (arith, ap (λ (l : List ℕ). length l) counted, length-store t₀ 0 (counts (learn g p w)), few);
        filled = λ i l. omega (arith, count_is i l, (found i l).at.0.filled);
        pages = place_inside n (omega arith);
      };
    };
    records = omega (arith, ap (λ (l : List struct.Record). length l) stored, length-store o₀ 0 (records (learn g p w)), few);
    members = λ i l o lt. rw (learned_is i l, count_is i l) (members_are (bounds_of g p w) (found i l).first _ (learnt i) (found i l).at.0 o lt);
    sound = λ i l. rw (group_is i l, learned_is i l) (sound_is i l);
  }
