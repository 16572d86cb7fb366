-- What a collection moves, by any test and name that fit the page map: the logical pages that lie on the blocks taken, each with the
-- page it lies on. Assumes nothing.
use mathlib.Core.Path.{◌≡◌, refl, sym, ◌∙◌, ap}
use mathlib.Core.List.{List, [], ◌∷◌, map}
use mathlib.Core.Option.{Option, none, some}
use mathlib.Core.Logic.{◌⊎◌, inl, inr}
use mathlib.Core.Bool.{true≢false, Bool, true, false}
use Prim.Native.Nat.{ℕ, ◌/◌, ◌≤◌, ◌<◌}
use native.Mathlib.Omega.{arith}
use lib.Dec.{eqb}
use lib.ListN.{length, get_or, length-map}
use borrow.Author.Tests.{eqb-true}
use Rattle.model.specs.Lists.{elem}
use Rattle.model.specs.Device.{Device}
use Rattle.model.specs.Learning.{Write, later, logicals, sources}
use Rattle.model.proofs.Bools.{is_false}
use Rattle.model.proofs.Lists.{Asc, At, elem_cons, elem_here, elem_there, no_elem, elem_at}
use Rattle.model.proofs.Counting.{asc_distinct, distinct-index}
use Rattle.model.proofs.Sorting.{last_source_of, source_of, sort_asc, sort-elem, sort-source, sort-length, source_at, logicals-length}
use Rattle.calls.specs.Choice.{Used, victims_by, copy_by, moves_by, blocks_of, pages_of}
use Rattle.calls.proofs.Choosing.{page-taken, taken-page, pages-fit}
use Rattle.calls.proofs.Naming.{Names}

-- What a block takes: writes that fit it, ascend, and name existing logical pages.
pub record Writable (d : Device) (ws : List Write) : Type 0 where
  pub fits : length ws ≤ d.B
  pub ascends : Asc 0 (logicals ws)
  pub logical : (x : ℕ) → elem x (logicals ws) ≡ true → x < d.N

module _ (name : ℕ → ℕ) where
  copied : (ps : List ℕ) (x p : ℕ) → last_source_of x (map (copy_by name) ps) ≡ some p → (elem p ps ≡ true) × (name p ≡ x)
  unfolding last_source_of copy_by later
  copied [] x p h = let z : ◌≡◌ {A = ℕ} 0 1 = cc in absurd (omega arith)
  copied (q ∷ ps) x p h = go (last_source_of x (map (copy_by name) ps)) (eqb x (name q)) refl h (λ j. copied ps x p j)
    where
      go : (o : Option ℕ) (t : Bool) → eqb x (name q) ≡ t → later t q o ≡ some p → (o ≡ some p → (elem p ps ≡ true) × (name p ≡ x)) → (elem p (q ∷ ps) ≡ true) × (name p ≡ x)
      go (some j) t e k ih = let c = ih k in (elem_there p q ps c.0, c.1)
      go none true e k ih =
          let r : q ≡ p = cc in
          (rw r (elem_here p ps), ap name (sym r) ∙ sym (eqb-true x (name q) e))
      go none false e k ih = let z : ◌≡◌ {A = ℕ} 0 1 = cc in absurd (omega arith)

  copies_named : (ps : List ℕ) (p : ℕ) → elem p ps ≡ true → elem (name p) (logicals (map (copy_by name) ps)) ≡ true
  unfolding copy_by logicals
  copies_named [] p h = no_elem p h
  copies_named (q ∷ ps) p h = go (elem_cons p q ps h) (λ j. copies_named ps p j)
    where
      go : (p ≡ q) ⊎ (elem p ps ≡ true) → (elem p ps ≡ true → elem (name p) (logicals (map (copy_by name) ps)) ≡ true) → elem (name p) (name q ∷ logicals (map (copy_by name) ps)) ≡ true
      go (inl e) ih = rw e (elem_here (name q) _)
      go (inr j) ih = elem_there (name p) (name q) _ (ih j)

module _ (d : Device) (place : ℕ → Option ℕ) (valid : ℕ → Bool) (name : ℕ → ℕ) (n : Names d.N place valid name) (counts : List ℕ) where
  -- the blocks taken and the pages moved
  abbrev vs : List Used
  vs = victims_by valid d counts

  abbrev mv : List Write
  mv = moves_by name vs

  moves_asc : Asc 0 (logicals mv)
  unfolding moves_by
  moves_asc = sort_asc (map (copy_by name) (pages_of vs))

  source_lies : (x p : ℕ) → source_of x mv ≡ some p → (place x ≡ some p) × (elem (p / d.B) (blocks_of vs) ≡ true) × (x < d.N)
  unfolding moves_by
  source_lies x p e =
      let c = copied name (pages_of vs) x p (sym (sort-source x _) ∙ e) in
      let t = page-taken valid d counts p c.0 in
      let l = n.only p t.0 in
      (rw c.1 at l.1, t.1, rw c.1 at l.0)

  -- Move i moves a logical page from the page it lies on, in a block taken.
  pub move_lies : (i : ℕ) → i < length mv
      → (place (get_or (logicals mv) i 0) ≡ some (get_or (sources mv) i 0)) × (elem (get_or (sources mv) i 0 / d.B) (blocks_of vs) ≡ true) × (get_or (logicals mv) i 0 < d.N)
  move_lies i h = source_lies _ _ (source_at mv moves_asc i h)

  -- A logical page that isn't moved lies on no block taken.
  pub not_moved : 0 < d.B → (x p : ℕ) → x < d.N → place x ≡ some p → elem x (logicals mv) ≡ false → elem (p / d.B) (blocks_of vs) ≡ false
  unfolding moves_by
  not_moved b x p h e m = is_false _ (λ t. true≢false (sym (moved t) ∙ m))
    where
      moved : elem (p / d.B) (blocks_of vs) ≡ true → elem x (logicals mv) ≡ true
      moved t =
          let q = n.every x p h e in
          let c = copies_named name (pages_of vs) p (taken-page valid d counts b p q.0 t) in
          sort-elem x _ ∙ (rw q.1 at c)

  -- No more pages are moved than are taken.
  pub moves-taken : length mv ≤ length (pages_of vs)
  unfolding moves_by
  moves-taken = omega (arith, sort-length (map (copy_by name) (pages_of vs)), length-map (pages_of vs) (copy_by name))

  -- A block can take the moves.
  pub moves-ready : Writable d mv
  moves-ready = record {
    fits = omega (arith, moves-taken, pages-fit valid d counts);
    ascends = moves_asc;
    logical = λ x m. below x (elem_at x (logicals mv) m);
  }
    where
      below : (x : ℕ) → At x (logicals mv) → x < d.N
      below x a = rw a.here at (move_lies a.index (omega (arith, a.inside, logicals-length mv))).2

  -- The moves have distinct sources.
  pub sources-distinct : (i j : ℕ) → i < length mv → j < length mv → get_or (sources mv) i 0 ≡ get_or (sources mv) j 0 → i ≡ j
  sources-distinct i j h k e =
      distinct-index (logicals mv) i j (asc_distinct moves_asc) (omega (arith, logicals-length mv)) (omega (arith, logicals-length mv))
      (sym (named i h) ∙ ap name e ∙ named j k)
    where
      named : (i : ℕ) → i < length mv → name (get_or (sources mv) i 0) ≡ get_or (logicals mv) i 0
      named i h = let m = move_lies i h in (n.every _ _ m.2 m.0).1
