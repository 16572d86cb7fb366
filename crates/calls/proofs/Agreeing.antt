-- An agreement is not refused exactly where each of the two states with its spare area is comparable: it is opened and sound, and every
-- lookup is named. While the invariant holds of a state, it is. Assumes nothing.
use mathlib.Core.Path.{◌≡◌, refl, ap}
use mathlib.Core.List.{List, [], ◌∷◌, ◌++◌}
use mathlib.Core.Option.{Option, none, some}
use mathlib.Core.Bool.{Bool, true, not, ◌&&◌}
use Prim.Native.Nat.{ℕ, zero, suc, ◌<◌}
use native.Mathlib.Omega.{arith}
use borrow.Author.Tests.{not-false}
use Rattle.model.specs.State.{State}
use Rattle.model.proofs.Bools.{and_l, and_r, and_i}
use Rattle.calls.specs.Refusals.{not_named, Check, ◌when◌, first_refusal}
use Rattle.calls.specs.Lookup.{Looked, seek}
use Rattle.calls.specs.Agreement.{each_below, is_named, all_named, sound_checks, agree_checks}
use Rattle.calls.proofs.Refusing.{Clear, clears, is_clear}
use Rattle.calls.proofs.Invariant.{Inv}
use Rattle.calls.proofs.Found.{seek_found, Missed, marked, unmarked, seek-nowhere}
use Rattle.calls.proofs.Passing.{numbers_there, state-right, spare-right}

-- a test that each number below n passes
pub each_below_lem : (n : ℕ) (t : ℕ → Bool) → ((x : ℕ) → x < n → t x ≡ true) → each_below n t ≡ true
unfolding each_below
each_below_lem zero t h = refl
each_below_lem (suc n) t h = and_i (t n) (each_below n t) (h n (omega arith)) (each_below_lem n t (λ x b. h x (omega arith)))

all_named_lem : (s : State) (spare : List ℕ) (place : ℕ → Option ℕ) → Inv s spare place → all_named s spare ≡ true
unfolding all_named is_named
all_named_lem s spare place v = each_below_lem s.device.N _ (λ x b. go x b (place x) refl)
  where
    missed : (x : ℕ) (o : Looked) → Missed s spare place v x o → is_named o ≡ true
    missed x o (marked e) = refl
    missed x o (unmarked n e) = refl

    go : (x : ℕ) → x < s.device.N → (o : Option ℕ) → place x ≡ o → is_named (seek s spare x) ≡ true
    go x b none e = missed x (seek s spare x) (seek-nowhere s spare place v x b e)
    go x b (some p) e = ap is_named (seek_found s spare place v x p (v.placed x p b e)).sought

-- none of an agreement's checks of this state applies
pub record Comparable (s : State) (spare : List ℕ) : Type 0 where
  pub clear : Clear (sound_checks s spare)
  pub named : all_named s spare ≡ true

pub inv_comparable : (s : State) (spare : List ℕ) (place : ℕ → Option ℕ) → Inv s spare place → Comparable s spare
inv_comparable s spare place v = record {
  clear = (numbers_there s spare place v, (state-right s spare place v, (spare-right s spare place v, (ap not v.sound, tt))));
  named = all_named_lem s spare place v;
}

both-clear : (cs ds : List Check) → Clear cs → Clear ds → Clear (cs ++ ds)
both-clear [] ds c d = d
both-clear (x ∷ cs) ds c d = (c.0, both-clear cs ds c.1 d)

-- An agreement of two such states is not refused ..
pub agree-clear : (s : State) (spare : List ℕ) (s' : State) (spare' : List ℕ) → Comparable s spare → Comparable s' spare'
    → first_refusal (agree_checks s spare s' spare') ≡ none
unfolding agree_checks
agree-clear s spare s' spare' c c' =
    is_clear (agree_checks s spare s' spare')
    (both-clear (sound_checks s spare ++ sound_checks s' spare') (not_named when not (all_named s spare && all_named s' spare') ∷ [])
    (both-clear (sound_checks s spare) (sound_checks s' spare') c.clear c'.clear)
    (ap not (and_i _ _ c.named c'.named), tt))

-- .. and one that isn't refused is of two such states.
pub both_comparable : (s : State) (spare : List ℕ) (s' : State) (spare' : List ℕ) → first_refusal (agree_checks s spare s' spare') ≡ none
    → Comparable s spare × Comparable s' spare'
unfolding agree_checks
both_comparable s spare s' spare' e =
    let c = clears (agree_checks s spare s' spare') e in
    let d = c.1.1.1.1 in
    let named = not-false (all_named s spare && all_named s' spare') d.1.1.1.1.0 in (
      record { clear = (c.0, (c.1.0, (c.1.1.0, (c.1.1.1.0, tt)))); named = and_l _ _ named },
      record { clear = (d.0, (d.1.0, (d.1.1.0, (d.1.1.1.0, tt)))); named = and_r (all_named s spare) _ named },
    )
