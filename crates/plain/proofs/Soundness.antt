-- A table that shows a page map is sound: an entry is 4,294,967,295 or a written page, no two name one page, no count is above B. So
-- refusal 3 never occurs from a format. Assumes nothing.
use mathlib.Core.Path.{◌≡◌, refl, sym, ◌∙◌, ap}
use mathlib.Core.List.{List, [], ◌∷◌}
use mathlib.Core.Option.{some}
use mathlib.Core.Logic.{◌≢◌, ◌⊎◌, inl, inr}
use mathlib.Core.Bool.{Bool, true, false, or-true}
use Prim.Native.Nat.{ℕ, suc, ◌<◌}
use native.Mathlib.Omega.{arith}
use lib.Dec.{ltb, eqb}
use lib.ListN.{length, get_or, get_or-eq_default}
use borrow.Author.Tests.{ltb-true, ltb-false, eqb-false}
use Rattle.model.specs.Lists.{elem, distinct}
use Rattle.model.proofs.Bools.{and_i, is_false}
use Rattle.model.proofs.Lists.{elem_cons, no_elem, At, elem_at, all_each, get_or_default}
use Rattle.model.proofs.Counting.{distinct_cons}
use Rattle.calls.specs.PageMap.{PageMap}
use Rattle.plain.specs.Table.{no_page, sound_entry, named_pages, sound_table}
use Rattle.plain.proofs.Entries.{names-page}
use Rattle.plain.proofs.Invariant.{table_of, Inv, lies_written}

-- the entry that names page p
record Names (p : ℕ) (l : List ℕ) : Type 0 where
  index : ℕ
  inside : index < length l
  here : get_or l index no_page ≡ p

names_at : (p : ℕ) (l : List ℕ) → elem p (named_pages l) ≡ true → Names p l
unfolding named_pages
names_at p [] h = no_elem p h
names_at p (e ∷ l) h = go (eqb e no_page) refl (names_at p l)
  where
    later : Names p l → Names p (e ∷ l)
    later n = record { index = suc n.index; inside = omega (arith, n.inside); here = n.here }

    first : (elem p (named_pages l) ≡ true → Names p l) → (p ≡ e) ⊎ (elem p (named_pages l) ≡ true) → Names p (e ∷ l)
    first ih (inl q) = record { index = 0; inside = omega arith; here = sym q }
    first ih (inr q) = later (ih q)

    go : (t : Bool) → eqb e no_page ≡ t → (elem p (named_pages l) ≡ true → Names p l) → Names p (e ∷ l)
    go true q ih = later (ih (rw (q, named_pages) at h))
    go false q ih = first ih (elem_cons p e (named_pages l) (rw (q, named_pages) at h))

-- entries that name different pages
abbrev pub Apart : List ℕ → Type 0
Apart l = (i j : ℕ) → i < length l → j < length l → get_or l i no_page ≢ no_page → get_or l i no_page ≡ get_or l j no_page → i ≡ j

apart_distinct : (l : List ℕ) → Apart l → distinct (named_pages l) ≡ true
unfolding named_pages distinct
apart_distinct [] a = refl
apart_distinct (e ∷ l) a =
    go (eqb e no_page) refl
    (apart_distinct l (λ i j h k n q. let z : suc i ≡ suc j = a (suc i) (suc j) (omega arith) (omega arith) n q in omega arith))
  where
    alone : e ≢ no_page → Names e l → ⊥
    alone n s = let z : 0 ≡ suc s.index = a 0 (suc s.index) (omega arith) (omega (arith, s.inside)) n (sym s.here) in omega arith

    go : (t : Bool) → eqb e no_page ≡ t → distinct (named_pages l) ≡ true → distinct (named_pages (e ∷ l)) ≡ true
    go true q ih = rw (q, named_pages) ih
    go false q ih = rw (q, named_pages) (distinct_cons e (named_pages l) (is_false _ (λ h. alone (eqb-false e no_page q) (names_at e l h))) ih)

module _ (m : PageMap) (es : List ℕ) (v : Inv m es) where
  -- an entry that names a page is that of a logical page, and names where this lies
  entry_lies : (x : ℕ) → get_or es x no_page ≢ no_page → (x < m.device.N) × (m.place x ≡ some (get_or es x no_page))
  entry_lies x n = go (ltb x (length es)) refl
    where
      go : (t : Bool) → ltb x (length es) ≡ t → (x < m.device.N) × (m.place x ≡ some (get_or es x no_page))
      go true e = let h : x < m.device.N = omega (arith, ltb-true x (length es) e, v.sized) in (h, sym (v.names x h) ∙ names-page (get_or es x no_page) n)
      go false e = absurd (n (get_or-eq_default es no_page (ltb-false x (length es) e)))

  -- Every entry is sound, and so is what is read beyond them ..
  pub entry_sound : (x : ℕ) → sound_entry (table_of m es) (get_or es x no_page) ≡ true
  unfolding sound_entry
  entry_sound x = go (eqb (get_or es x no_page) no_page) refl
    where
      go : (t : Bool) → eqb (get_or es x no_page) no_page ≡ t → sound_entry (table_of m es) (get_or es x no_page) ≡ true
      go true q = rw q
      go false q =
          let l = entry_lies x (eqb-false (get_or es x no_page) no_page q) in
          rw (lies_written m v.map x (get_or es x no_page) l.0 l.1 es) (or-true (eqb (get_or es x no_page) no_page))

  -- .. no two name one page ..
  entries-apart : Apart es
  entries-apart i j h k n q =
      let a = entry_lies i n in
      let b = entry_lies j (λ z. n (q ∙ z)) in
      v.map.alone i j (get_or es i no_page) a.0 b.0 a.1 (b.1 ∙ ap (λ (e : ℕ). some e) (sym q))

  -- .. and the table is sound.
  pub table-sound : sound_table (table_of m es) ≡ true
  unfolding sound_table
  table-sound = and_i _ _ (and_i _ _ (all_each (sound_entry (table_of m es)) es (λ e h. sound e (elem_at e es h))) (apart_distinct es entries-apart)) v.full
    where
      sound : (e : ℕ) → At e es → sound_entry (table_of m es) e ≡ true
      sound e a = rw (sym a.here ∙ get_or_default es a.index 0 no_page a.inside) (entry_sound a.index)
