-- What entries name: an entry by itself, and those after writes. Assumes nothing.
use mathlib.Core.Path.{◌≡◌, refl, sym, ◌∙◌, ap}
use mathlib.Core.List.{List, [], ◌∷◌}
use mathlib.Core.Option.{Option, none, some}
use mathlib.Core.Logic.{◌≢◌}
use mathlib.Core.Bool.{true≢false, Bool, true, false}
use Prim.Native.Nat.{ℕ, suc, ◌+◌, ◌≤◌, ◌<◌}
use native.Mathlib.Omega.{arith}
use lib.Dec.{eqb}
use lib.ListN.{length, get_or, set, length-set}
use lib.Seq.{get_or-set_same, get_or-set_other}
use borrow.Author.Tests.{eqb-true, eqb-false, eq-eqb, ne_eqb}
use Rattle.model.specs.Lists.{elem, distinct}
use Rattle.model.proofs.Bools.{is_false}
use Rattle.model.proofs.Lists.{elem_here, elem_there}
use Rattle.model.proofs.Counting.{distinct_head, distinct_tail}
use Rattle.calls.specs.PageMap.{spot}
use Rattle.plain.specs.Table.{no_page, page_of}
use Rattle.plain.specs.Calls.{enter}

-- 4,294,967,295 names no page, ..
pub names_none : page_of no_page ≡ none
unfolding page_of
names_none = rw (eq-eqb no_page no_page refl, page_of)

-- .. every other entry names the page that it is.
pub names-page : (e : ℕ) → e ≢ no_page → page_of e ≡ some e
unfolding page_of
names-page e n = rw (ne_eqb e no_page n, page_of)

-- a logical page that isn't written lies where it lay
spot_other : (x p : ℕ) (l : List ℕ) (old : Option ℕ) → elem x l ≡ false → spot x p l old ≡ old
unfolding spot
spot_other x p [] old n = refl
spot_other x p (y ∷ l) old n =
    let off : x ≢ y = λ e. true≢false (sym (elem_here y l) ∙ ap (λ (z : ℕ). elem z (y ∷ l)) (sym e) ∙ n) in
    rw (ne_eqb x y off, spot) (spot_other x (suc p) l old (is_false _ (λ h. true≢false (sym (elem_there x y l h) ∙ n))))

-- Writes keep the number of entries.
pub enter-length : (p : ℕ) (xs es : List ℕ) → length (enter p xs es) ≡ length es
unfolding enter
enter-length p [] es = refl
enter-length p (x ∷ xs) es = enter-length (suc p) xs (set es x p) ∙ length-set es x p

-- After writes to the pages from p on an entry names where its logical page lies then, if that is where it lay before.
pub enter-names : (p : ℕ) (xs es : List ℕ) → distinct xs ≡ true → ((y : ℕ) → elem y xs ≡ true → y < length es) → p + length xs ≤ no_page
    → (x : ℕ) → page_of (get_or (enter p xs es) x no_page) ≡ spot x p xs (page_of (get_or es x no_page))
unfolding enter spot
enter-names p [] es d b h x = refl
enter-names p (y ∷ xs) es d b h x =
    go (eqb x y) refl
    (enter-names (suc p) xs (set es y p) (distinct_tail y xs d) (λ z m. omega (arith, b z (elem_there z y xs m), length-set es y p)) (omega arith) x)
  where
    go : (t : Bool) → eqb x y ≡ t
        → page_of (get_or (enter (suc p) xs (set es y p)) x no_page) ≡ spot x (suc p) xs (page_of (get_or (set es y p) x no_page))
        → page_of (get_or (enter p (y ∷ xs) es) x no_page) ≡ spot x p (y ∷ xs) (page_of (get_or es x no_page))
    go true e ih =
        let q : x ≡ y = eqb-true x y e in
        let here : get_or (set es y p) x no_page ≡ p = ap (λ (z : ℕ). get_or (set es y p) z no_page) q ∙ get_or-set_same es y p no_page (b y (elem_here y xs)) in
        let n : p ≢ no_page = λ k. absurd (omega arith) in
        let off : elem x xs ≡ false = ap (λ (z : ℕ). elem z xs) q ∙ distinct_head y xs d in
        rw (e, spot) (ih ∙ spot_other x (suc p) xs _ off ∙ ap page_of here ∙ names-page p n)
    go false e ih = rw (e, spot) (ih ∙ ap (λ (f : ℕ). spot x (suc p) xs (page_of f)) (get_or-set_other es y x p no_page (eqb-false x y e)))
