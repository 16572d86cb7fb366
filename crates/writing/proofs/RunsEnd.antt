-- Where the runs of a group end: the batch ascends, so they stand together, and no later run lies in the group. Assumes nothing.
use mathlib.Core.Path.{◌≡◌, refl, sym, ap, ◌∙◌}
use mathlib.Core.List.{List}
use mathlib.Core.Bool.{Bool, true, false}
use Prim.Native.Nat.{ℕ, zero, suc, ◌+◌, ◌-◌, ◌/◌, ◌≤◌, ◌<◌}
use native.Mathlib.Omega.{arith}
use native.Mathlib.Nat.{le_refl}
use native.Mathlib.Numerals.{add-one}
use lib.Dec.{ltb, eqb}
use lib.ListN.{length, get_or}
use borrow.Author.Tests.{ltb-true, ltb-false, eqb-true, eqb-false, eq-eqb, ne_eqb}
use Rattle.model.specs.Lists.{ascending}
use Rattle.model.specs.Learning.{records_for}
use Rattle.front.specs.Tables.{list_from}
use Rattle.record.specs.declared.Record.{Record}
use Rattle.model.proofs.Ascent.{rises}
use Rattle.writing.specs.Handed.{first_place, run_group, handed_run, runs_from, end_from, runs_end, Counted}
use Rattle.writing.proofs.Places.{place_le, page-inside}

module _ (w taken : List ℕ) where
  module _ (k : ℕ) where
    -- the end of m runs from run i on lies among them or just behind
    end-within : (i m : ℕ) → (i ≤ end_from w taken k i m) × (end_from w taken k i m ≤ i + m)
    unfolding end_from
    end-within i zero = (omega arith, omega arith)
    end-within i (suc m) = go (eqb (run_group w taken i) k) refl (end-within (suc i) m)
      where
        go : (t : Bool) → eqb (run_group w taken i) k ≡ t → (suc i ≤ end_from w taken k (suc i) m) × (end_from w taken k (suc i) m ≤ suc i + m)
            → (i ≤ end_from w taken k i (suc m)) × (end_from w taken k i (suc m) ≤ i + suc m)
        go true e ih = rw (e, end_from) (omega arith)
        go false e ih = rw (e, end_from) (omega arith)

    -- they go on where run i lies in the group, and end there if it doesn't or is none of them
    pub end_on : (n i : ℕ) → i < n → run_group w taken i ≡ k → end_from w taken k i (n - i) ≡ end_from w taken k (i + 1) (n - (i + 1))
    unfolding end_from
    end_on n i h e = let m : n - i ≡ suc (n - suc i) = omega arith in rw (m, add-one i, eq-eqb (run_group w taken i) k e, end_from)

    pub end_here : (i m : ℕ) → (0 < m → run_group w taken i ≡ k → ⊥) → end_from w taken k i m ≡ i
    unfolding end_from
    end_here i zero f = refl
    end_here i (suc m) f = rw (ne_eqb (run_group w taken i) k (f (omega arith)), end_from)

  -- Run i of n: the end is behind it, and where it isn't just behind, it is the next run's.
  module _ (n i : ℕ) (h : i < n) where
    pub end-behind : (i < runs_end w taken n i) × (runs_end w taken n i ≤ n)
    unfolding runs_end
    end-behind =
        let b = end-within (run_group w taken i) (i + 1) (n - (i + 1)) in
        rw (end_on (run_group w taken i) n i h refl) (omega (arith, b.0), omega (arith, b.1))

    pub end_stays : i + 1 < runs_end w taken n i → runs_end w taken n i ≡ runs_end w taken n (i + 1)
    unfolding runs_end
    end_stays l = end_on (run_group w taken i) n i h refl ∙ go (eqb (run_group w taken (i + 1)) (run_group w taken i)) refl
      where
        go : (t : Bool) → eqb (run_group w taken (i + 1)) (run_group w taken i) ≡ t
            → end_from w taken (run_group w taken i) (i + 1) (n - (i + 1)) ≡ end_from w taken (run_group w taken (i + 1)) (i + 1) (n - (i + 1))
        go true e = ap (λ (k : ℕ). end_from w taken k (i + 1) (n - (i + 1))) (sym (eqb-true _ _ e))
        go false e =
            absurd (let z : ⊥ = omega (arith, end_on (run_group w taken i) n i h refl, end-behind.1, end_here (run_group w taken i) (i + 1) (n - (i + 1)) (λ _. eqb-false _ _ e)) in z)

  module _ (n : ℕ) (c : Counted w taken n) (up : ascending w ≡ true) where
    -- a later run lies in no earlier group
    groups-rise : (a b : ℕ) → a ≤ b → b < n → run_group w taken a ≤ run_group w taken b
    unfolding run_group
    groups-rise a b h l = go (ltb (first_place taken a) (first_place taken b)) refl
      where
        go : (t : Bool) → ltb (first_place taken a) (first_place taken b) ≡ t → get_or w (first_place taken a) 0 / 256 ≤ get_or w (first_place taken b) 0 / 256
        go true q = omega (arith, rises w (first_place taken a) (first_place taken b) up (ltb-true _ _ q) (page-inside taken b _ refl w n c l))
        go false q =
            let s : first_place taken a ≡ first_place taken b = omega (arith, ltb-false (first_place taken a) (first_place taken b) q, place_le taken a b h) in
            rw s (omega arith)

    module _ (out : List Record) (k : ℕ) where
      own_from : (i m : ℕ) → i + m ≤ n → (0 < m → k ≤ run_group w taken i) → length (records_for k (runs_from w out taken i m)) ≡ end_from w taken k i m - i
      unfolding runs_from list_from records_for handed_run end_from
      own_from i zero h f = omega arith
      own_from i (suc m) h f = go (eqb (run_group w taken i) k) refl (own_from (suc i) m (omega arith) (λ l. omega (arith, f (omega arith), groups-rise i (suc i) (omega arith) (omega arith))))
        where
          go : (t : Bool) → eqb (run_group w taken i) k ≡ t → length (records_for k (list_from (handed_run w out taken) (suc i) m)) ≡ end_from w taken k (suc i) m - suc i
              → length (records_for k (list_from (handed_run w out taken) i (suc m))) ≡ end_from w taken k i (suc m) - i
          go true e ih = rw (e, records_for, end_from) (omega (arith, ih, (end-within k (suc i) m).0))
          go false e ih =
              let past : run_group w taken i ≡ k → ⊥ = eqb-false (run_group w taken i) k e in
              rw (e, records_for, end_from) (omega (arith, ih, end_here k (suc i) m (λ l q. past (omega (arith, f (omega arith), groups-rise i (suc i) (omega arith) (omega arith))))))

    -- The records of run i's group, from run i on, are those up to the end.
    pub own-count : (out : List Record) (i : ℕ) → i < n → length (records_for (run_group w taken i) (runs_from w out taken i (n - i))) ≡ runs_end w taken n i - i
    unfolding runs_end
    own-count out i h = own_from out (run_group w taken i) i (n - i) (omega arith) (λ _. le_refl _)
