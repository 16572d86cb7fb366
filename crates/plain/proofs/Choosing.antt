-- A collection of a table that shows a page map takes the blocks that the map's takes and moves the pages that it moves: the first entry
-- that names a page is the logical page that lies there. Only of 4,294,967,295, which is no page, isn't that so. Assumes nothing.
use mathlib.Core.Path.{◌≡◌, refl, sym, ◌∙◌, ap, ap₂}
use mathlib.Core.List.{List, [], ◌∷◌, map}
use mathlib.Core.Option.{Option}
use mathlib.Core.Logic.{◌≢◌}
use mathlib.Core.Bool.{Bool, true, false}
use Prim.Native.Nat.{ℕ, zero, suc, ◌+◌, ◌-◌, ◌≤◌, ◌<◌}
use native.Mathlib.Omega.{arith}
use lib.Dec.{eqb}
use lib.ListN.{length, get_or}
use borrow.Author.Tests.{eqb-true, eqb-false, eq-eqb, ne_eqb}
use Rattle.model.specs.Lists.{elem, select, or_else}
use Rattle.model.specs.Device.{Device, pages, first_page}
use Rattle.model.specs.State.{used_blocks}
use Rattle.model.proofs.Bools.{iff_bool}
use Rattle.model.proofs.Lists.{elem_here, elem_there}
use Rattle.model.proofs.Blocks.{used_only}
use Rattle.model.proofs.Limits.{page-inside}
use Rattle.calls.specs.Choice.{Used, used_by, ranked, take_while, victims_by, moves_by}
use Rattle.calls.specs.PageMap.{PageMap, is_at, lying_on, logical_on, is_some, or_zero, map_victims, map_moves}
use Rattle.calls.proofs.Naming.{Names, moves_same}
use Rattle.calls.proofs.MapInvariant.{owner-names}
use Rattle.plain.specs.Table.{no_page, page_of, naming}
use Rattle.plain.specs.Calls.{victims, moves}
use Rattle.plain.proofs.Entries.{names_none, names-page}
use Rattle.plain.proofs.Invariant.{table_of, Inv, pages-below, lies_named}

-- an entry is page p where it names it
entry_is : (e p : ℕ) → p ≢ no_page → eqb e p ≡ is_at p (page_of e)
unfolding is_at
entry_is e p n = go (eqb e no_page) refl
  where
    go : (t : Bool) → eqb e no_page ≡ t → eqb e p ≡ is_at p (page_of e)
    go true q = let z : e ≡ no_page = eqb-true e no_page q in ne_eqb e p (λ k. n (sym k ∙ z)) ∙ ap (is_at p) (sym (ap page_of z ∙ names_none))
    go false q =
        iff_bool (eqb e p) (eqb p e) (λ h. eq-eqb p e (sym (eqb-true e p h))) (λ h. eq-eqb e p (sym (eqb-true p e h)))
        ∙ ap (is_at p) (sym (names-page e (eqb-false e no_page q)))

-- the first entry that names a page is the lowest logical page that lies there
naming_lying : (place : ℕ → Option ℕ) (p x : ℕ) (es : List ℕ) → p ≢ no_page
    → ((i : ℕ) → i < length es → page_of (get_or es i no_page) ≡ place (x + i)) → naming p x es ≡ lying_on place p x (length es)
unfolding naming lying_on
naming_lying place p x [] n h = refl
naming_lying place p x (e ∷ es) n h =
    let z : x + 0 ≡ x = omega arith in
    ap₂ (λ (t : Bool) (o : Option ℕ). or_else t x o) (entry_is e p n ∙ ap (is_at p) (h 0 (omega arith) ∙ ap place z))
    (naming_lying place p (suc x) es n (λ i k. let s : x + suc i ≡ suc x + i = omega arith in h (suc i) (omega arith) ∙ ap place s))

-- Tests that agree on the n numbers from x on pick the same of them.
pub select_same : (t u : ℕ → Bool) (n x : ℕ) → ((o : ℕ) → x ≤ o → o < x + n → t o ≡ u o) → select t n x ≡ select u n x
unfolding select
select_same t u zero x h = refl
select_same t u (suc n) x h =
    ap₂ (λ (b : Bool) (l : List ℕ). elim b [ true ↦ x ∷ l | false ↦ l ]) (h x (omega arith) (omega arith)) (select_same t u n (suc x) (λ o a b. h o (omega arith) (omega arith)))

module _ (t u : ℕ → Bool) (d : Device) (same : (p : ℕ) → p < pages d → t p ≡ u p) where
  -- tests that agree on the device's pages find the same valid pages in its blocks ..
  used_same : (ks : List ℕ) → ((k : ℕ) → elem k ks ≡ true → k < d.M) → map (used_by t d) ks ≡ map (used_by u d) ks
  unfolding used_by
  used_same [] b = refl
  used_same (k ∷ ks) b =
      ap₂ (λ (l : List ℕ) (us : List Used). record { block = k; pages = l } ∷ us)
      (select_same t u d.B (first_page d k) (λ o f h. same o (inside k o (b k (elem_here k ks)) f h)))
      (used_same ks (λ j h. b j (elem_there j k ks h)))
    where
      inside : (k o : ℕ) → k < d.M → first_page d k ≤ o → o < first_page d k + d.B → o < pages d
      inside k o h f l = let z : first_page d k + (o - first_page d k) ≡ o = omega arith in rw z at (page-inside d k (o - first_page d k) h (omega arith))

  -- .. and take the same blocks
  taken_same : (counts : List ℕ) → length counts ≡ d.M → victims_by t d counts ≡ victims_by u d counts
  unfolding victims_by
  taken_same counts l = ap (λ (us : List Used). take_while d.B (ranked us)) (used_same (used_blocks 0 counts) (λ k h. omega (arith, (used_only counts k h).0)))

module _ (m : PageMap) (es : List ℕ) (v : Inv m es) where
  -- the entry that names a page
  owner_same : (p : ℕ) → p ≢ no_page → naming p 0 es ≡ logical_on m p
  unfolding logical_on
  owner_same p n =
      naming_lying m.place p 0 es n (λ i h. let z : 0 + i ≡ i = omega arith in v.names i (omega (arith, v.sized)) ∙ ap m.place (sym z))
      ∙ ap (lying_on m.place p 0) v.sized

  -- The blocks taken are the map's ..
  pub same_victims : victims (table_of m es) ≡ map_victims m
  same_victims =
      taken_same _ _ m.device (λ p h. ap is_some (owner_same p (λ q. absurd (omega (arith, pages-below m.device v.map.limits))))) m.counts v.map.counted

  -- the map's test with the entries' name fits the map
  entries_name : Names m.device.N m.place (λ p. is_some (logical_on m p)) (λ p. or_zero (naming p 0 es))
  entries_name = record {
    only = λ p h. let o = own.only p h in rw (ap or_zero (owner_same p (lies_named m v.map _ p o.0 o.1))) o;
    every = λ x p h e. let o = own.every x p h e in (o.0, ap or_zero (owner_same p (lies_named m v.map x p h e)) ∙ o.1);
  }
    where
      own : Names m.device.N m.place (λ p. is_some (logical_on m p)) (λ p. or_zero (logical_on m p))
      own = owner-names m v.map

  -- .. and so are the pages moved.
  pub same_moves : moves (table_of m es) ≡ map_moves m
  same_moves =
      ap (moves_by (λ p. or_zero (naming p 0 es))) same_victims
      ∙ moves_same _ m.place _ _ _ _ entries_name (owner-names m v.map) m.device m.counts
