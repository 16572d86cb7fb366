-- Two tables compared number by number, from the first on. Assumes nothing.
use mathlib.Core.Path.{◌≡◌, refl, sym}
use mathlib.Core.List.{List}
use mathlib.Core.Bool.{Bool, true, false, ◌&&◌, true≢false}
use Prim.Native.Nat.{ℕ, ◌+◌, ◌≤◌, ◌<◌}
use native.Mathlib.Omega.{arith}
use lib.Dec.{ltb, eqb}
use lib.ListN.{get_or}
use borrow.Author.Tests.{ltb-true, ltb-false, eqb-true, eqb-false}
use Rattle.lookup.specs.Passes.{SameBelow}

module _ (l k : List ℕ) where
  pub same_start : SameBelow l k 0 true
  same_start = record { yes = λ e o a. absurd (omega arith); no = λ e. absurd (true≢false e) }

  -- the next two numbers are compared
  pub same_turn : (o : ℕ) (same : Bool) → SameBelow l k o same → SameBelow l k (o + 1) (same && eqb (get_or l o 0) (get_or k o 0))
  same_turn o false so = record {
    yes = λ e. absurd (true≢false (sym e));
    no = λ e. let d = so.no refl in record { place = d.place; inside = omega (arith, d.inside); apart = d.apart };
  }
  same_turn o true so = record {
    yes = λ e i a. go e i a (ltb i o) refl;
    no = λ e. record { place = o; inside = omega arith; apart = eqb-false _ _ e };
  }
    where
      go : eqb (get_or l o 0) (get_or k o 0) ≡ true → (i : ℕ) → i < o + 1 → (t : Bool) → ltb i o ≡ t → get_or l i 0 ≡ get_or k i 0
      go e i a true p = so.yes refl i (ltb-true i o p)
      go e i a false p = let past = ltb-false i o p in let here : i ≡ o = omega (arith, past) in rw here (eqb-true _ _ e)

  pub same_end : (m o : ℕ) (same : Bool) → SameBelow l k o same → o ≤ m → m ≤ o → SameBelow l k m same
  same_end m o same so below past = let e : m ≡ o = omega arith in rw e so
