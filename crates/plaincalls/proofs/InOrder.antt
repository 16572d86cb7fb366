-- What a collection of a sound table moves, in one pass over the entries: those that name a page of a taken block. In their order they
-- are the moves, which are sorted as they stand. Assumes nothing.
use mathlib.Core.Path.{◌≡◌, refl, sym, ◌∙◌, ap}
use mathlib.Core.List.{List, [], ◌∷◌}
use mathlib.Core.Option.{Option, none, some}
use mathlib.Core.Logic.{◌⊎◌, inl, inr}
use mathlib.Core.Bool.{Bool, true, false}
use Prim.Native.Nat.{ℕ, suc, ◌+◌, ◌-◌, ◌/◌, ◌≤◌, ◌<◌}
use native.Mathlib.Omega.{arith}
use native.Mathlib.Nat.{zero-add}
use lib.Dec.{ltb, eqb}
use lib.ListN.{length, get_or, get_or-eq_default}
use borrow.Author.Tests.{ltb-true, ltb-false, eqb-true, eqb-false, eq-eqb, ne_eqb}
use Rattle.model.specs.Lists.{elem, or_else}
use Rattle.model.specs.Device.{pages}
use Rattle.model.specs.Learning.{Write, logicals, sources}
use Rattle.model.proofs.Bools.{is_false}
use Rattle.model.proofs.Lists.{Asc, end, next, asc_elem, elem_at, le_cases}
use Rattle.model.proofs.Limits.{limits}
use Rattle.model.proofs.Sorting.{source_of, no_source, source_at, logicals-length}
use Rattle.calls.specs.Choice.{Used, blocks_of}
use Rattle.calls.specs.PageMap.{PageMap, map_victims, map_moves}
use Rattle.calls.proofs.Refusing.{none_some}
use Rattle.calls.proofs.Moves.{move_lies, not_moved, moves-ready}
use Rattle.calls.proofs.MapInvariant.{owner-names}
use Rattle.plain.specs.Table.{Table, no_page}
use Rattle.plain.specs.Calls.{victims, moves}
use Rattle.plain.proofs.Entries.{names-page}
use Rattle.plain.proofs.Invariant.{Inv, lies_inside}
use Rattle.plain.proofs.Choosing.{same_victims, same_moves}
use Rattle.plain.proofs.Showing.{names_it, map_of}
use Rattle.plaincalls.specs.Passes.{passing}

-- the first of the writes is of logical page x, or x has none
first_source : (w : Write) (ws : List Write) (x : ℕ) → x ≡ w.logical → source_of x (w ∷ ws) ≡ some w.source
unfolding source_of or_else
first_source w ws x e = rw (eq-eqb x w.logical e)

later-source : (w : Write) (ws : List Write) (x : ℕ) → (x ≡ w.logical → ⊥) → source_of x (w ∷ ws) ≡ source_of x ws
unfolding source_of or_else
later-source w ws x n = rw (ne_eqb x w.logical n)

none_before : {z : ℕ} (ws : List Write) → Asc z (logicals ws) → (x : ℕ) → x < z → source_of x ws ≡ none
none_before {z} ws a x h = no_source x ws (is_false _ (λ q. omega (arith, asc_elem a x q)))

no_writes : (x : ℕ) → source_of x [] ≡ none
unfolding source_of
no_writes x = refl

-- the source that an entry gives: itself, where it passes
given : (ℕ → Bool) → ℕ → Option ℕ
given t e = or_else (t e) e none

given_some : (t : ℕ → Bool) (e : ℕ) → t e ≡ true → given t e ≡ some e
unfolding given or_else
given_some t e q = rw q

given_none : (t : ℕ → Bool) (e : ℕ) → t e ≡ false → given t e ≡ none
unfolding given or_else
given_none t e q = rw q

module _ (t : ℕ → Bool) (unnamed : t no_page ≡ false) where
  -- the first entry passes, or it is passed over
  pass : (x e : ℕ) (es : List ℕ) → t e ≡ true → passing t x (e ∷ es) ≡ record { logical = x; source = e } ∷ passing t (suc x) es
  unfolding passing
  pass x e es q = rw (q, passing)

  over : (x e : ℕ) (es : List ℕ) → t e ≡ false → passing t x (e ∷ es) ≡ passing t (suc x) es
  unfolding passing
  over x e es q = rw (q, passing)

  -- each logical page from x on has the source that its entry gives
  abbrev Given : ℕ → List ℕ → List Write → Type 0
  Given x es ws = (i : ℕ) → source_of (x + i) ws ≡ given t (get_or es i no_page)

  -- then so has each one behind it
  given-rest : (x e : ℕ) (es : List ℕ) (ws : List Write) → Given x (e ∷ es) ws → Given (suc x) es ws
  given-rest x e es ws g i = let z : suc x + i ≡ x + suc i = omega arith in ap (λ (y : ℕ). source_of y ws) z ∙ g (suc i)

  given_first : (x e : ℕ) (es : List ℕ) (ws : List Write) → Given x (e ∷ es) ws → source_of x ws ≡ given t e
  given_first x e es ws g = let z : x ≡ x + 0 = omega arith in ap (λ (y : ℕ). source_of y ws) z ∙ g 0

  -- Ascending writes, each with the source that its entry gives, are the entries that pass.
  given-passing : (x : ℕ) (es : List ℕ) (ws : List Write) → Asc x (logicals ws) → Given x es ws → ws ≡ passing t x es
  unfolding passing logicals
  given-passing x [] [] a g = refl
  given-passing x [] (w ∷ ws) (next k a) g =
      let z : x + (w.logical - x) ≡ w.logical = omega arith in
      none_some (sym (given_none t no_page unnamed) ∙ sym (g (w.logical - x)) ∙ first_source w ws _ z)
  given-passing x (e ∷ es) [] a g = go (t e) refl (given-passing (suc x) es [] end (given-rest x e es [] g))
    where
      go : (b : Bool) → t e ≡ b → [] ≡ passing t (suc x) es → [] ≡ passing t x (e ∷ es)
      go true q ih = none_some (sym (no_writes x) ∙ given_first x e es [] g ∙ given_some t e q)
      go false q ih = ih ∙ sym (over x e es q)
  given-passing x (e ∷ es) (w ∷ ws) (next k a) g =
      go (t e) refl (le_cases x w.logical k) (λ q. given-passing (suc x) es ws (rw q at a) (tail q))
      (λ h. given-passing (suc x) es (w ∷ ws) (next h a) (given-rest x e es (w ∷ ws) g))
    where
      tail : w.logical ≡ x → Given (suc x) es ws
      tail q i = sym (later-source w ws (suc x + i) (λ z. omega arith)) ∙ given-rest x e es (w ∷ ws) g i

      first : source_of x (w ∷ ws) ≡ given t e
      first = given_first x e es (w ∷ ws) g

      here : t e ≡ true → w.logical ≡ x → w ≡ record { logical = x; source = e }
      here q r =
          let z : some w.source ≡ some e = sym (first_source w ws x (sym r)) ∙ first ∙ given_some t e q in
          let s : w.source ≡ e = cc in
          rw (sym r, sym s)

      go : (b : Bool) → t e ≡ b → (w.logical ≡ x) ⊎ (suc x ≤ w.logical) → (w.logical ≡ x → ws ≡ passing t (suc x) es)
          → (suc x ≤ w.logical → (w ∷ ws) ≡ passing t (suc x) es) → (w ∷ ws) ≡ passing t x (e ∷ es)
      go true q (inl r) ih _ =
          ap (λ (l : List Write). w ∷ l) (ih r) ∙ ap (λ (v : Write). v ∷ passing t (suc x) es) (here q r) ∙ sym (pass x e es q)
      go true q (inr h) _ _ = none_some (sym (none_before (w ∷ ws) (next h a) x (omega arith)) ∙ first ∙ given_some t e q)
      go false q (inl r) _ _ = none_some (sym (given_none t e q) ∙ sym first ∙ first_source w ws x (sym r))
      go false q (inr h) _ ih = ih h ∙ sym (over x e es q)

  -- of a table that shows a page map, where a page of the device passes if it lies in a block that is taken
  module _ (s : Table) (v : Inv (map_of s) s.entries)
      (lies : (p : ℕ) → p < pages s.device → t p ≡ elem (p / s.device.B) (blocks_of (victims s))) where
    abbrev m : PageMap
    m = map_of s

    abbrev mv : List Write
    mv = map_moves m

    abbrev es : List ℕ
    es = s.entries

    ascends : Asc 0 (logicals mv)
    ascends = (moves-ready m.device m.place _ _ (owner-names m v.map) m.counts).ascends

    -- whether a page that a logical page lies on passes
    lies_as : (x p : ℕ) → x < m.device.N → m.place x ≡ some p → t p ≡ elem (p / m.device.B) (blocks_of (map_victims m))
    lies_as x p h e =
        lies p (lies_inside m v.map x p h e) ∙ ap (λ (us : List Used). elem (p / m.device.B) (blocks_of us)) (same_victims m es v)

    -- a logical page that is moved
    moved : (i : ℕ) → i < length mv → source_of (get_or (logicals mv) i 0) mv ≡ given t (get_or es (get_or (logicals mv) i 0) no_page)
    moved i h =
        let x : ℕ = get_or (logicals mv) i 0 in
        let l = move_lies m.device m.place _ _ (owner-names m v.map) m.counts i h in
        let e = names_it (get_or es x no_page) (get_or (sources mv) i 0) l.0 in
        let q : t (get_or (sources mv) i 0) ≡ true = lies_as x _ l.2 l.0 ∙ l.1 in
        source_at mv ascends i h ∙ sym (ap (given t) e.0 ∙ given_some t _ q)

    -- one that is not
    unmoved : (x : ℕ) → elem x (logicals mv) ≡ false → t (get_or es x no_page) ≡ false
    unmoved x n = go (ltb x m.device.N) refl
      where
        at_page : (b : Bool) → x < m.device.N → eqb (get_or es x no_page) no_page ≡ b → t (get_or es x no_page) ≡ false
        at_page true h q = ap t (eqb-true (get_or es x no_page) no_page q) ∙ unnamed
        at_page false h q =
            let p : m.place x ≡ some (get_or es x no_page) = names-page (get_or es x no_page) (eqb-false (get_or es x no_page) no_page q) in
            let b : 0 < m.device.B = omega (arith, (limits m.device v.map.limits).least_B) in
            lies_as x _ h p ∙ not_moved m.device m.place _ _ (owner-names m v.map) m.counts b x _ h p n

        go : (b : Bool) → ltb x m.device.N ≡ b → t (get_or es x no_page) ≡ false
        go true q = at_page (eqb (get_or es x no_page) no_page) (ltb-true x m.device.N q) refl
        go false q =
            let beyond : length es ≤ x = omega (arith, v.sized, ltb-false x m.device.N q) in
            ap t (get_or-eq_default es no_page beyond) ∙ unnamed

    gives : (x : ℕ) → source_of x mv ≡ given t (get_or es x no_page)
    gives x = go (elem x (logicals mv)) refl
      where
        go : (b : Bool) → elem x (logicals mv) ≡ b → source_of x mv ≡ given t (get_or es x no_page)
        go true q =
            let a = elem_at x (logicals mv) q in
            rw a.here at (moved a.index (omega (arith, a.inside, logicals-length mv)))
        go false q = no_source x mv q ∙ sym (given_none t _ (unmoved x q))

    -- The moves are the entries that pass.
    pub moves_pass : moves s ≡ passing t 0 es
    moves_pass = same_moves m es v ∙ given-passing 0 es mv ascends (λ i. ap (λ (y : ℕ). source_of y mv) (zero-add i) ∙ gives i)
