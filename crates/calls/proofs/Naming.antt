-- A test of validity and a name for each page that fit a page map: valid are the pages on which a logical page lies, and that is the
-- name. Any two that fit the same map choose and move alike. Assumes nothing.
use mathlib.Core.Path.{◌≡◌, refl, sym, ◌∙◌, ap, ap₂, fun_ext}
use mathlib.Core.List.{List, [], ◌∷◌, map}
use mathlib.Core.Option.{Option, some}
use mathlib.Core.Bool.{Bool, true}
use Prim.Native.Nat.{ℕ, ◌<◌}
use Rattle.model.specs.Lists.{elem}
use Rattle.model.specs.Device.{Device}
use Rattle.model.specs.Learning.{Write, sort}
use Rattle.model.proofs.Bools.{iff_bool}
use Rattle.model.proofs.Lists.{elem_here, elem_there}
use Rattle.calls.specs.Choice.{Used, victims_by, copy_by, moves_by, pages_of}
use Rattle.calls.proofs.Choosing.{page-taken}

-- Valid are exactly the pages on which one of the N logical pages lies; the name is that logical page.
pub record Names (N : ℕ) (place : ℕ → Option ℕ) (valid : ℕ → Bool) (name : ℕ → ℕ) : Type 0 where
  pub only : (p : ℕ) → valid p ≡ true → (name p < N) × (place (name p) ≡ some p)
  pub every : (x p : ℕ) → x < N → place x ≡ some p → (valid p ≡ true) × (name p ≡ x)

copies_same : (name name' : ℕ → ℕ) (ps : List ℕ) → ((p : ℕ) → elem p ps ≡ true → name p ≡ name' p) → map (copy_by name) ps ≡ map (copy_by name') ps
unfolding copy_by
copies_same name name' [] same = refl
copies_same name name' (p ∷ ps) same =
    ap₂ (λ (x : ℕ) (l : List Write). record { logical = x; source = p } ∷ l) (same p (elem_here p ps)) (copies_same name name' ps (λ q h. same q (elem_there q p ps h)))

module _ (N : ℕ) (place : ℕ → Option ℕ) (valid valid' : ℕ → Bool) (name name' : ℕ → ℕ) (n : Names N place valid name) (n' : Names N place valid' name')
    (d : Device) (counts : List ℕ) where
  tests_same : valid ≡ valid'
  tests_same =
      fun_ext λ p. iff_bool (valid p) (valid' p)
      (λ h. let o = n.only p h in (n'.every (name p) p o.0 o.1).0)
      (λ h. let o = n'.only p h in (n.every (name' p) p o.0 o.1).0)

  names_same : (p : ℕ) → valid p ≡ true → name p ≡ name' p
  names_same p h = let o = n.only p h in sym (n'.every (name p) p o.0 o.1).1

  -- They take the same blocks ..
  pub victims_same : victims_by valid d counts ≡ victims_by valid' d counts
  victims_same = ap (λ (t : ℕ → Bool). victims_by t d counts) tests_same

  -- .. and move the same pages.
  pub moves_same : moves_by name (victims_by valid d counts) ≡ moves_by name' (victims_by valid' d counts)
  unfolding moves_by
  moves_same =
      ap sort (copies_same name name' (pages_of (victims_by valid d counts)) (λ p h. names_same p (page-taken valid d counts p h).0))
      ∙ ap (λ (us : List Used). sort (map (copy_by name') (pages_of us))) victims_same
