-- No page's entries but the predicted one's decide a lookup. Assumes nothing.
use mathlib.Core.Path.{◌≡◌, refl, sym, ◌∙◌, ap}
use mathlib.Core.List.{List, []}
use mathlib.Core.Option.{Option, none, some}
use mathlib.Core.Bool.{Bool, true, false, ◌&&◌}
use Prim.Native.Nat.{ℕ, zero, suc, ◌+◌, ◌-◌, ◌<◌}
use native.Mathlib.Omega.{arith}
use lib.Dec.{ltb, leb, eqb}
use lib.IntN.{ℤ, pos, negsuc}
use lib.ListN.{length}
use Rattle.model.specs.Lists.{or_else}
use Rattle.model.specs.Device.{Device, pages, group_of, offset_of, names_per_page}
use Rattle.model.specs.Record.{Record, predict}
use Rattle.model.specs.Spare.{entry, middle, names, lowest_naming, page_named}
use Rattle.model.specs.Levels.{listing, holder, levels_to}
use Rattle.model.specs.Marks.{is_marked}
use Rattle.model.specs.State.{State, group_at}
use Rattle.calls.specs.Refusals.{first_refusal, wrong_length, wrong_spare}
use Rattle.calls.specs.Lookup.{unnamed, looked_named, looked_at, looked_by, descend, seek, answer_of, lookup_checks, lookup_done}
use Rattle.calls.specs.History.{lend, lent_to, checks_of, effect, run}
use Rattle.calls.specs.Demand3.{Predicted, NoOtherPage}
use Rattle.calls.proofs.Decided.{unless-alike}
use Rattle.calls.proofs.Marked.{seek-marked, seek_unmarked}

module _ (d : Device) (spare spare' : List ℕ) (p x : ℕ) (same : (j : ℕ) → j < names_per_page d → entry d spare p j ≡ entry d spare' p j) where
  lowest_same : (j n : ℕ) → j + n ≡ names_per_page d → lowest_naming d spare p x j n ≡ lowest_naming d spare' p x j n
  unfolding lowest_naming names
  lowest_same j zero e = refl
  lowest_same j (suc n) e =
      ap (λ (y : ℕ). or_else (leb d.g (p + j) && ltb (p + j - d.g) (pages d) && eqb y x) (p + j - d.g) (lowest_naming d spare p x (suc j) n)) (same j (omega arith))
      ∙ ap (or_else (names d spare' p x j) (p + j - d.g)) (lowest_same (suc j) n (omega arith))

  page_same : page_named d spare p x ≡ page_named d spare' p x
  unfolding page_named middle names_per_page
  page_same =
      ap (λ (y : ℕ). or_else (eqb y x) p (lowest_naming d spare p x 0 (names_per_page d))) (same d.g (omega arith))
      ∙ ap (or_else (eqb (middle d spare' p) x) p) (lowest_same 0 (names_per_page d) (omega arith))

-- What is sought depends on the entries of the predicted page alone.
seek_same : (s : State) (spare spare' : List ℕ) (x : ℕ)
    → ((p j : ℕ) → Predicted s x p → j < names_per_page s.device → entry s.device spare p j ≡ entry s.device spare' p j)
    → seek s spare x ≡ seek s spare' x
unfolding descend looked_by looked_at
seek_same s spare spare' x same = marks (is_marked s.marks x) refl
  where
    d : Device
    d = s.device

    n : ℕ
    n = levels_to (offset_of x) (group_at s (group_of x))

    at_page : (r : Record) → holder (offset_of x) (listing (group_at s (group_of x))) ≡ some r → (z : ℤ) → predict r (offset_of x) ≡ z → looked_at d spare x n z ≡ looked_at d spare' x n z
    at_page r e (pos p) q =
        ap (λ (o : Option ℕ). elim (ltb p (pages d)) [ true ↦ looked_named n p o | false ↦ unnamed ])
        (page_same d spare spare' p x (λ j. same p j (record { holding = r; holds = e; predicts = q })))
    at_page r e (negsuc m) q = refl

    go : (o : Option Record) → holder (offset_of x) (listing (group_at s (group_of x))) ≡ o → looked_by d spare x n o ≡ looked_by d spare' x n o
    go none e = refl
    go (some r) e = at_page r e (predict r (offset_of x)) refl

    marks : (t : Bool) → is_marked s.marks x ≡ t → seek s spare x ≡ seek s spare' x
    marks true q = seek-marked s spare x q ∙ sym (seek-marked s spare' x q)
    marks false q = seek_unmarked s spare x q ∙ go (holder (offset_of x) (listing (group_at s (group_of x)))) refl ∙ sym (seek_unmarked s spare' x q)

checks_same : (s : State) (spare spare' : List ℕ) (x : ℕ) → length spare ≡ length spare'
    → first_refusal (lookup_checks x (lend s spare [] [])) ≡ first_refusal (lookup_checks x (lend s spare' [] []))
unfolding lookup_checks lend wrong_spare wrong_length
checks_same s spare spare' x e = rw e refl

-- "no other page's entries may decide the answer"
pub no_other-page : NoOtherPage
unfolding run lent_to checks_of effect lookup_done lend
no_other-page s spare spare' x e same = unless-alike _ _ _ _ _ _ (checks_same s spare spare' x e) (ap answer_of (seek_same s spare spare' x same))
