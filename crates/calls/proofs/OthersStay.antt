-- A discard changes no other page's lookup, on states of any content. Assumes nothing.
use mathlib.Core.Path.{◌≡◌, refl, ap}
use mathlib.Core.List.{List, []}
use mathlib.Core.Logic.{◌≢◌}
use mathlib.Core.Bool.{Bool, true, false}
use Prim.Native.Nat.{ℕ}
use Rattle.model.specs.State.{State, with_marks, group_at}
use Rattle.model.proofs.Marks.{mark_other}
use Rattle.calls.specs.Refusals.{first_refusal, numbers_missing, wrong_state, wrong_spare}
use Rattle.calls.specs.Outcome.{Outcome}
use Rattle.calls.specs.Lookup.{nowhere, descend, seek, answer_of, lookup_checks, lookup_done}
use Rattle.calls.specs.Discard.{discard_checks, discard_page, discard_done}
use Rattle.calls.specs.History.{lookup_call, lend, lent_to, checks_of, effect, run}
use Rattle.calls.specs.Marked.{OthersStay}
use Rattle.calls.proofs.Decided.{Decided, refuses, accepts, decided, unless-alike}

-- another page's search is the same once x is marked
seek_other : (s : State) (spare : List ℕ) (x y : ℕ) → y ≢ x → seek (discard_page x s) spare y ≡ seek s spare y
unfolding seek descend discard_page with_marks group_at
seek_other s spare x y n = ap (λ (t : Bool). elim t [ true ↦ nowhere 0 | false ↦ descend s spare y ]) (mark_other x s.marks y n)

checks_other : (s : State) (spare : List ℕ) (x y : ℕ) → first_refusal (lookup_checks y (lend (discard_page x s) spare [] [])) ≡ first_refusal (lookup_checks y (lend s spare [] []))
unfolding lookup_checks lend discard_page with_marks group_at numbers_missing wrong_state wrong_spare
checks_other s spare x y = refl

lookup_other : (s : State) (spare : List ℕ) (x y : ℕ) → y ≢ x → (run (lookup_call y) (discard_page x s) spare).answer ≡ (run (lookup_call y) s spare).answer
unfolding run lent_to checks_of effect lookup_done lend
lookup_other s spare x y n = unless-alike _ _ _ _ _ _ (checks_other s spare x y) (ap answer_of (seek_other s spare x y n))

pub others-stay : OthersStay
unfolding run lent_to checks_of effect discard_done lend
others-stay s spare x y n = go _ (decided (discard_checks x (lend s spare [] [])) _ _)
  where
    go : (o : Outcome) → Decided (discard_checks x (lend s spare [] [])) (lend s spare [] []) (discard_done x (lend s spare [] [])) o → (run (lookup_call y) o.after.state spare).answer ≡ (run (lookup_call y) s spare).answer
    go o (refuses r e) = refl
    go o (accepts e) = lookup_other s spare x y n
