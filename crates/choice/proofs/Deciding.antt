-- 8 and 6 by whether there is something to gain and by the number of the pages that are taken, and what a decided collection says.
-- Assumes nothing.
use mathlib.Core.Path.{◌≡◌, refl, sym, ap, ◌∙◌}
use mathlib.Core.List.{List, [], ◌∷◌, map}
use mathlib.Core.Option.{Option, none, some}
use mathlib.Core.Bool.{true, false, not, ◌&&◌}
use Prim.Native.Nat.{ℕ}
use Rattle.std.specs.Prelude.{Result, Ok, Err}
use native.Mathlib.Omega.{arith}
use lib.Dec.{eqb}
use lib.ListN.{length}
use borrow.Author.Tests.{eq-eqb, ne_eqb}
use Rattle.model.specs.Lists.{store}
use Rattle.model.specs.Learning.{Write, sort}
use Rattle.model.specs.State.{free_blocks}
use Rattle.model.specs.Sound.{is_empty}
use Rattle.model.proofs.Sorting.{sort-filled}
use Rattle.calls.specs.Refusals.{Refusal, no_free_block, nothing_to_gain, first_refusal}
use Rattle.calls.specs.Choice.{Used, blocks_of, pages_of, no_gain, copy_by, moves_by}
use Rattle.calls.proofs.Refusing.{refuses_at, is_clear}
use Rattle.choice.specs.Taking.{gain_checks, takes, refuses, choice_by, choice, choice_of, listed_by, listed}
use Rattle.answers.specs.declared.Refusal as code
use Rattle.answers.specs.Answers.{refusal_of}

-- a list is empty if 0 is its length
counted-empty : {A : Type 0} (l : List A) (n : ℕ) → n ≡ length l → eqb n 0 ≡ is_empty l
unfolding is_empty
counted-empty [] n e = eq-eqb n 0 e
counted-empty (x ∷ l) n e = ne_eqb n 0 (λ z. omega arith)

-- Something is moved where pages are taken.
pub moves-empty : (name : ℕ → ℕ) (us : List Used) → is_empty (moves_by name us) ≡ is_empty (pages_of us)
unfolding moves_by sort is_empty
moves-empty name us = go (pages_of us)
  where
    filled : (w : Write) (ws : List Write) → is_empty (sort (w ∷ ws)) ≡ false
    filled w ws = sym (counted-empty (sort (w ∷ ws)) _ refl) ∙ ne_eqb (length (sort (w ∷ ws))) 0 (λ e. omega (arith, sort-filled w ws))

    go : (ps : List ℕ) → is_empty (sort (map (copy_by name) ps)) ≡ is_empty ps
    go [] = refl
    go (p ∷ ps) = filled (copy_by name p) (map (copy_by name) ps)

module _ (us : List Used) (counts : List ℕ) where
  -- 8: there is nothing to gain.
  pub gains_nothing : no_gain us ≡ true → first_refusal (gain_checks us counts) ≡ some nothing_to_gain
  gains_nothing e = refuses_at 0 _ refl tt e

  module _ (gain : no_gain us ≡ false) (n free : ℕ) (count : n ≡ length (pages_of us)) (frees : free ≡ length (free_blocks 0 counts)) where
    block_is : (not (is_empty (pages_of us)) && is_empty (free_blocks 0 counts)) ≡ (not (eqb n 0) && eqb free 0)
    block_is = rw (counted-empty (pages_of us) n count, counted-empty (free_blocks 0 counts) free frees)

    -- 6: a free block is needed and none exists.
    pub lacks_block : (not (eqb n 0) && eqb free 0) ≡ true → first_refusal (gain_checks us counts) ≡ some no_free_block
    lacks_block e = refuses_at 1 _ refl (gain, tt) (block_is ∙ e)

    -- Neither.
    pub gains : (not (eqb n 0) && eqb free 0) ≡ false → first_refusal (gain_checks us counts) ≡ none
    gains e = is_clear _ (gain, (block_is ∙ e, tt))

  -- The code's answer is right ..
  pub says-refused : {r : Refusal} → first_refusal (gain_checks us counts) ≡ some r → (erased : List ℕ) → (refuses r ≡ choice us counts) × (erased ≡ listed us counts erased)
  unfolding choice_by listed_by
  says-refused e erased = (rw e, rw e)

  pub says-taken : first_refusal (gain_checks us counts) ≡ none → (c : ℕ) → c ≡ length us → (erased erased' : List ℕ) → erased' ≡ store erased 0 (blocks_of us)
      → (takes c ≡ choice us counts) × (erased' ≡ listed us counts erased)
  unfolding choice_by listed_by
  says-taken e c n erased erased' l = (rw (e, n), rw (e, l))

  -- .. and this is what it says.
  module _ (t : Result ℕ code.Refusal) (h : choice_of t ≡ choice us counts) (erased erased' : List ℕ) (l : erased' ≡ listed us counts erased) where
    refused_as : (r : Refusal) → choice_of t ≡ refuses r → (first_refusal (gain_checks us counts) ≡ some r) × (erased' ≡ erased)
    unfolding choice_by listed_by
    refused_as r e = go (first_refusal (gain_checks us counts)) (sym e ∙ h) l
      where
        go : (f : Option Refusal) → refuses r ≡ choice_by f (length us) → erased' ≡ listed_by f (blocks_of us) erased → (f ≡ some r) × (erased' ≡ erased)
        go none q m = let z : ◌≡◌ {A = ℕ} 0 1 = cc in absurd (omega arith)
        go (some p) q m = (cc, m)

    pub refused_then : (r : code.Refusal) → t ≡ Err r → (first_refusal (gain_checks us counts) ≡ some (refusal_of r)) × (erased' ≡ erased)
    unfolding choice_of
    refused_then r e = refused_as (refusal_of r) (ap choice_of e)

    pub taken_then : (c : ℕ) → t ≡ Ok c
        → (first_refusal (gain_checks us counts) ≡ none) × (c ≡ length us) × (erased' ≡ store erased 0 (blocks_of us))
    unfolding choice_of choice_by listed_by
    taken_then c e = go (first_refusal (gain_checks us counts)) (ap choice_of (sym e) ∙ h) l
      where
        go : (f : Option Refusal) → takes c ≡ choice_by f (length us) → erased' ≡ listed_by f (blocks_of us) erased
            → (f ≡ none) × (c ≡ length us) × (erased' ≡ store erased 0 (blocks_of us))
        go none q m = (refl, cc, m)
        go (some p) q m = let z : ◌≡◌ {A = ℕ} 0 1 = cc in absurd (omega arith)
