-- A sound table shows a page map: each logical page lies where its entry says. So what is proved of page maps holds of every sound table,
-- not only of those from a format. Assumes nothing.
use mathlib.Core.Path.{◌≡◌, refl, sym, ◌∙◌, ap}
use mathlib.Core.List.{List, [], ◌∷◌}
use mathlib.Core.Option.{some}
use mathlib.Core.Logic.{◌≢◌}
use mathlib.Core.Bool.{true≢false, Bool, true, false, ◌&&◌, ◌||◌}
use Prim.Native.Nat.{ℕ, zero, suc, ◌/◌, ◌%◌, ◌<◌}
use native.Mathlib.Omega.{arith}
use lib.Dec.{ltb, eqb}
use lib.ListN.{length, get_or}
use borrow.Author.Tests.{ltb-true, eqb-true, eqb-false, ne_eqb}
use Rattle.model.specs.Lists.{all, elem, distinct}
use Rattle.model.specs.Device.{pages, within_limits}
use Rattle.model.proofs.Bools.{and_l, and_r}
use Rattle.model.proofs.Lists.{elem_here, elem_there, elem-get_or, each_all, get_or_default}
use Rattle.model.proofs.Counting.{distinct_head, distinct_tail}
use Rattle.calls.specs.PageMap.{PageMap}
use Rattle.calls.proofs.Refusing.{none_some}
use Rattle.plain.specs.Table.{Table, no_page, entry_at, page_of, is_written, sound_entry, named_pages, sound_table}
use Rattle.plain.proofs.Entries.{names_none, names-page}
use Rattle.plain.proofs.Invariant.{Inv}
use Rattle.plain.proofs.Soundness.{Apart}

-- An entry that names a page is that page, and not 4,294,967,295.
pub names_it : (e p : ℕ) → page_of e ≡ some p → (e ≡ p) × (e ≢ no_page)
names_it e p h = go (eqb e no_page) refl
  where
    go : (t : Bool) → eqb e no_page ≡ t → (e ≡ p) × (e ≢ no_page)
    go true q = none_some (sym (ap page_of (eqb-true e no_page q) ∙ names_none) ∙ h)
    go false q =
        let n : e ≢ no_page = eqb-false e no_page q in
        let z : some e ≡ some p = sym (names-page e n) ∙ h in
        (cc, n)

-- an entry that names a page is among those that do
named_in : (l : List ℕ) (i : ℕ) → i < length l → get_or l i no_page ≢ no_page → elem (get_or l i no_page) (named_pages l) ≡ true
unfolding named_pages
named_in [] i h n = absurd (omega arith)
named_in (e ∷ l) zero h n = rw (ne_eqb e no_page n, named_pages) (elem_here e (named_pages l))
named_in (e ∷ l) (suc i) h n = go (eqb e no_page) refl (named_in l i (omega arith) n)
  where
    go : (t : Bool) → eqb e no_page ≡ t → elem (get_or l i no_page) (named_pages l) ≡ true → elem (get_or l i no_page) (named_pages (e ∷ l)) ≡ true
    go true q ih = rw (q, named_pages) ih
    go false q ih = rw (q, named_pages) (elem_there (get_or l i no_page) e (named_pages l) ih)

module _ (e : ℕ) (l : List ℕ) (d : distinct (named_pages (e ∷ l)) ≡ true) where
  -- the pages that the others name are distinct ..
  others-distinct : distinct (named_pages l) ≡ true
  unfolding named_pages
  others-distinct = go (eqb e no_page) refl
    where
      go : (t : Bool) → eqb e no_page ≡ t → distinct (named_pages l) ≡ true
      go true q = rw (q, named_pages) at d
      go false q = distinct_tail e (named_pages l) (rw (q, named_pages) at d)

  -- .. and the first's is not among them
  first_alone : e ≢ no_page → (j : ℕ) → j < length l → get_or l j no_page ≡ e → ⊥
  unfolding named_pages
  first_alone n j h q =
      let apart : distinct (e ∷ named_pages l) ≡ true = rw (ne_eqb e no_page n, named_pages) at d in
      let within : elem (get_or l j no_page) (named_pages l) ≡ true = named_in l j h (λ z. n (sym q ∙ z)) in
      true≢false (sym within ∙ ap (λ (x : ℕ). elem x (named_pages l)) q ∙ distinct_head e (named_pages l) apart)

distinct_apart : (l : List ℕ) → distinct (named_pages l) ≡ true → Apart l
distinct_apart [] d i j h k n q = absurd (omega arith)
distinct_apart (e ∷ l) d zero zero h k n q = refl
distinct_apart (e ∷ l) d zero (suc j) h k n q = absurd (first_alone e l d n j (omega arith) (sym q))
distinct_apart (e ∷ l) d (suc i) zero h k n q = absurd (first_alone e l d (λ z. n (q ∙ z)) i (omega arith) q)
distinct_apart (e ∷ l) d (suc i) (suc j) h k n q = ap suc (distinct_apart l (others-distinct e l d) i j (omega arith) (omega arith) n q)

-- a sound entry that names a page names a written one
sound-written : (t : Table) (e : ℕ) → sound_entry t e ≡ true → e ≢ no_page → is_written t e ≡ true
unfolding sound_entry
sound-written t e h n = let z : (false || is_written t e) ≡ true = rw (ne_eqb e no_page n) at h in z

-- The page map that a table shows.
abbrev pub map_of : Table → PageMap
map_of t = record { device = t.device; counts = t.counts; place = λ x. page_of (entry_at t x); discarded = λ x. false }

module _ (t : Table) (limited : within_limits t.device ≡ true) (counted : length t.counts ≡ t.device.M)
    (sized : length t.entries ≡ t.device.N) (sound : sound_table t ≡ true) where
  every-sound : all (sound_entry t) t.entries ≡ true
  unfolding sound_table
  every-sound = and_l (all (sound_entry t) t.entries) _ (and_l (all (sound_entry t) t.entries && distinct (named_pages t.entries)) _ sound)

  apart : Apart t.entries
  unfolding sound_table
  apart = distinct_apart t.entries (and_r (all (sound_entry t) t.entries) _ (and_l (all (sound_entry t) t.entries && distinct (named_pages t.entries)) _ sound))

  written : (x p : ℕ) → x < t.device.N → page_of (entry_at t x) ≡ some p → p % t.device.B < get_or t.counts (p / t.device.B) 0
  unfolding is_written
  written x p h e =
      let i : x < length t.entries = omega (arith, sized) in
      let n = names_it (entry_at t x) p e in
      let s : sound_entry t (entry_at t x) ≡ true =
      ap (sound_entry t) (sym (get_or_default t.entries x 0 no_page i)) ∙ each_all (sound_entry t) t.entries every-sound _ (elem-get_or t.entries x i) in
      let w : is_written t p ≡ true = rw n.0 at (sound-written t (entry_at t x) s n.1) in
      ltb-true _ _ (and_r (ltb p (pages t.device)) _ w)

  alone : (x y p : ℕ) → x < t.device.N → y < t.device.N → page_of (entry_at t x) ≡ some p → page_of (entry_at t y) ≡ some p → x ≡ y
  alone x y p h k e f =
      let a = names_it (entry_at t x) p e in
      let b = names_it (entry_at t y) p f in
      apart x y (omega (arith, sized)) (omega (arith, sized)) a.1 (a.0 ∙ sym b.0)

  -- It has the invariant of maps and their tables.
  pub sound-shows : Inv (map_of t) t.entries
  unfolding sound_table
  sound-shows = record {
    map = record { limits = limited; counted = counted; written = written; alone = alone };
    full = and_r (all (sound_entry t) t.entries && distinct (named_pages t.entries)) _ sound;
    sized = sized;
    names = λ x h. refl;
  }
