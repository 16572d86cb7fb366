-- The pages that the first entries name, one entry after the other, and sixteen at once. Assumes nothing.
use mathlib.Core.Path.{◌≡◌, refl, sym, ap, subst, ◌∙◌}
use mathlib.Core.List.{List, [], ◌∷◌, ◌++◌}
use mathlib.Core.Logic.{◌≢◌}
use mathlib.Core.Bool.{Bool, true, false, not, ◌||◌}
use Rattle.std.specs.Int.{from_bool}
use Prim.Native.Nat.{ℕ, zero, suc, ◌+◌, ◌*◌, ◌≤◌, ◌<◌}
use native.Mathlib.Omega.{arith}
use native.Mathlib.Numerals.{add-one}
use lib.Dec.{ltb, eqb}
use lib.ListN.{length, get_or, take}
use lib.Seq.{take-suc}
use borrow.Author.Tests.{ltb-true, ltb-false, eq-eqb, ne_eqb, eqb-true, eqb-false}
use Rattle.model.specs.Lists.{elem}
use Rattle.model.specs.Marks.{mark_byte, is_marked, mark}
use Rattle.model.proofs.Marks.{mark-marked}
use Rattle.plain.specs.Table.{no_page, named_pages}
use Rattle.plainstate.specs.Bits.{inside, Marked, names, NamedTo, named_to}
use Rattle.plainstate.proofs.Marking.{below, behind, joined, one_inside}

-- a list with one more at its end
elem_last : (p e : ℕ) (l : List ℕ) → elem p (l ++ (e ∷ [])) ≡ (eqb p e || elem p l)
unfolding elem
elem_last p e [] = go (eqb p e) refl
  where
    go : (t : Bool) → eqb p e ≡ t → elem p (e ∷ []) ≡ (eqb p e || false)
    go true q = rw (q, elem)
    go false q = rw (q, elem)
elem_last p e (f ∷ l) = go (eqb p f) (eqb p e) refl refl (elem_last p e l)
  where
    go : (t u : Bool) → eqb p f ≡ t → eqb p e ≡ u → elem p (l ++ (e ∷ [])) ≡ (eqb p e || elem p l) → elem p (f ∷ (l ++ (e ∷ []))) ≡ (eqb p e || elem p (f ∷ l))
    go true true q r ih = rw (q, r, elem)
    go true false q r ih = rw (q, r, elem)
    go false u q r ih = rw (q, elem) ih

named_last : (e : ℕ) (l : List ℕ) → length (named_pages (l ++ (e ∷ []))) ≡ names e + length (named_pages l)
unfolding named_pages names
named_last e [] = go (eqb e no_page) refl
  where
    go : (t : Bool) → eqb e no_page ≡ t → length (named_pages (e ∷ [])) ≡ names e + 0
    go true q = rw (q, named_pages, names)
    go false q = rw (q, named_pages, names)
named_last e (f ∷ l) = go (eqb f no_page) refl (named_last e l)
  where
    go : (t : Bool) → eqb f no_page ≡ t → length (named_pages (l ++ (e ∷ []))) ≡ names e + length (named_pages l)
        → length (named_pages (f ∷ (l ++ (e ∷ [])))) ≡ names e + length (named_pages (f ∷ l))
    go true q ih = rw (q, named_pages) ih
    go false q ih = rw (q, named_pages) (omega (arith, ih))

pub names_one : (e : ℕ) → e ≢ no_page → names e ≡ 1
unfolding names
names_one e n = rw (ne_eqb e no_page n, names)

pub names_at : (e : ℕ) → e ≡ no_page → names e ≡ 0
unfolding names
names_at e q = rw (eq-eqb e no_page q, names)

pub names_most : (e : ℕ) → names e ≤ 1
unfolding names
names_most e = go (eqb e no_page) refl
  where
    go : (t : Bool) → eqb e no_page ≡ t → names e ≤ 1
    go true q = omega (arith, names_at e (eqb-true e no_page q))
    go false q = omega (arith, names_one e (eqb-false e no_page q))

-- as the code counts them
names_told : (e : ℕ) → from_bool (not (eqb e no_page)) ≡ names e
unfolding names
names_told e = go (eqb e no_page) refl
  where
    go : (t : Bool) → eqb e no_page ≡ t → from_bool (not t) ≡ names e
    go true q = rw (q, names)
    go false q = rw (q, names)

pub told_most : (e : ℕ) → from_bool (not (eqb e no_page)) ≤ 1
told_most e = omega (arith, names_told e, names_most e)

none_inside : (e p : ℕ) → inside e (e + 0) p ≡ false
none_inside e p = go (ltb p e) refl
  where
    go : (t : Bool) → ltb p e ≡ t → inside e (e + 0) p ≡ false
    go true q = below e (e + 0) p (ltb-true p e q)
    go false q = behind e (e + 0) p (ltb-false p e q) (let z : e ≤ p = ltb-false p e q in omega arith)

-- no more entries name a page than there are
named-short : (l : List ℕ) → length (named_pages l) ≤ length l
unfolding named_pages
named-short [] = omega arith
named-short (e ∷ l) = go (eqb e no_page) refl (named-short l)
  where
    go : (t : Bool) → eqb e no_page ≡ t → length (named_pages l) ≤ length l → length (named_pages (e ∷ l)) ≤ suc (length l)
    go true q ih = rw (q, named_pages) (omega arith)
    go false q ih = rw (q, named_pages) (omega arith)

take_short : (x : ℕ) (l : List ℕ) → length (take x l) ≤ x
take_short zero l = omega arith
take_short (suc x) [] = omega arith
take_short (suc x) (e ∷ l) = omega (arith, take_short x l)

pub named-few : (x : ℕ) (l : List ℕ) → named_to x l ≤ x
named-few x l = omega (arith, named-short (take x l), take_short x l)

module _ (es : List ℕ) where
  -- one entry more
  module _ (x e : ℕ) (h : x < length es) (q : e ≡ get_or es x no_page) where
    one_more_lem : take (x + 1) es ≡ take x es ++ (e ∷ [])
    one_more_lem = ap (λ (n : ℕ). take n es) (add-one x) ∙ take-suc es x no_page h ∙ ap (λ (f : ℕ). take x es ++ (f ∷ [])) (sym q)

    elem_next : (p : ℕ) → elem p (take (x + 1) es) ≡ (eqb p e || elem p (take x es))
    elem_next p = ap (elem p) one_more_lem ∙ elem_last p e (take x es)

    named_next : named_to (x + 1) es ≡ names e + named_to x es
    named_next = ap (λ (l : List ℕ). length (named_pages l)) one_more_lem ∙ named_last e (take x es)

    pub named_more : (y : ℕ) → y ≡ x + 1 → named_to y es ≡ from_bool (not (eqb e no_page)) + named_to x es
    named_more y z = ap (λ (i : ℕ). named_to i es) z ∙ named_next ∙ ap (λ (m : ℕ). m + named_to x es) (sym (names_told e))

  module _ (n : ℕ) where
    -- none yet
    pub named_none : (bits : List ℕ) → ((p : ℕ) → is_marked bits p ≡ false) → NamedTo n 0 es bits
    unfolding elem
    named_none bits b p l = b p

    -- the entry's page is marked; or, where it names none of the n pages, another beyond them
    module _ (x e q : ℕ) (h : x < length es) (g : e ≡ get_or es x no_page) (bits : List ℕ) (m : NamedTo n x es bits) (r : q < 8 * length bits) where
      page_named_lem : q ≡ e → NamedTo n (x + 1) es (mark q bits)
      unfolding mark_byte
      page_named_lem z p l =
          mark-marked q bits (omega arith) p ∙ ap (λ (y : ℕ). eqb p y || is_marked bits p) z
          ∙ ap (λ (t : Bool). eqb p e || t) (m p l) ∙ sym (elem_next x e h g p)

      other_named : n ≤ q → n ≤ e → NamedTo n (x + 1) es (mark q bits)
      unfolding mark_byte
      other_named a b p l =
          mark-marked q bits (omega arith) p ∙ ap (λ (t : Bool). t || is_marked bits p) (ne_eqb p q (λ z. omega arith)) ∙ m p l
          ∙ sym (elem_next x e h g p ∙ ap (λ (t : Bool). t || elem p (take x es)) (ne_eqb p e (λ z. omega arith)))

      module _ (y : ℕ) (next : y ≡ x + 1) (after : List ℕ) (a : after ≡ mark q bits) where
        marked_next : NamedTo n (x + 1) es (mark q bits) → NamedTo n y es after
        marked_next k = subst (λ (i : ℕ). NamedTo n i es after) (sym next) (subst (NamedTo n (x + 1) es) (sym a) k)

        pub page_named : q ≡ e → NamedTo n y es after
        page_named z = marked_next (page_named_lem z)

        -- by either way that the code takes
        pub some_named : (other : ℕ) → (e < n → q ≡ e) × (n ≤ e → q ≡ other) → n ≤ other → NamedTo n y es after
        some_named other way h = marked_next (go (ltb e n) refl)
          where
            go : (t : Bool) → ltb e n ≡ t → NamedTo n (x + 1) es (mark q bits)
            go true i = page_named_lem (way.0 (ltb-true e n i))
            go false i = let f : n ≤ e = ltb-false e n i in other_named (omega (arith, way.1 f)) f

    -- SIXTEEN AT ONCE. Entries in a row from page e on: these pages are named ..
    module _ (x e : ℕ) where
      row-elem : (k : ℕ) → x + k ≤ length es → ((j : ℕ) → j < k → get_or es (x + j) no_page ≡ e + j * 1) → (p : ℕ)
          → elem p (take (x + k) es) ≡ (inside e (e + k) p || elem p (take x es))
      row-elem zero h row p =
          let z : x + 0 ≡ x = omega arith in
          ap (λ (i : ℕ). elem p (take i es)) z ∙ sym (ap (λ (t : Bool). t || elem p (take x es)) (none_inside e p))
      row-elem (suc k) h row p =
          let a : x + suc k ≡ (x + k) + 1 = omega arith in
          let b : e + k ≡ e + k * 1 = omega arith in
          let c : (e + k) + 1 ≡ e + suc k = omega arith in
          ap (λ (i : ℕ). elem p (take i es)) a
          ∙ elem_next (x + k) (e + k) (omega arith) (b ∙ sym (row k (omega arith))) p
          ∙ ap (λ (t : Bool). t || elem p (take (x + k) es)) (one_inside (e + k) p)
          ∙ ap (λ (t : Bool). inside (e + k) ((e + k) + 1) p || t) (row-elem k (omega arith) (λ j l. row j (omega arith)) p)
          ∙ joined e (e + k) ((e + k) + 1) (omega arith) (omega arith) p (elem p (take x es))
          ∙ ap (λ (y : ℕ). inside e y p || elem p (take x es)) c

      pub row-marked : (bits after : List ℕ) (i : ℕ) → 8 * i ≡ e → x + 16 ≤ length es → ((j : ℕ) → j < 16 → get_or es (x + j) no_page ≡ e + j * 1)
          → NamedTo n x es bits → Marked (8 * i) (8 * (i + 2)) bits after → NamedTo n (x + 16) es after
      row-marked bits after i q h row m marked p l =
          let r : 8 * (i + 2) ≡ e + 16 = omega arith in
          marked p
          ∙ ap (λ (a : ℕ). inside a (8 * (i + 2)) p || is_marked bits p) q
          ∙ ap (λ (a : ℕ). inside e a p || is_marked bits p) r
          ∙ ap (λ (t : Bool). inside e (e + 16) p || t) (m p l)
          ∙ sym (row-elem 16 h row p)

    -- .. entries that all name one ..
    pub all_named_lem : (x : ℕ) → n ≤ no_page → (k : ℕ) → x + k ≤ length es → ((j : ℕ) → j < k → get_or es (x + j) no_page < n) → named_to (x + k) es ≡ k + named_to x es
    all_named_lem x small zero h all = let z : x + 0 ≡ x = omega arith in omega (arith, ap (λ (i : ℕ). named_to i es) z)
    all_named_lem x small (suc k) h all =
        let a : x + suc k ≡ (x + k) + 1 = omega arith in
        let next = ap (λ (i : ℕ). named_to i es) a ∙ named_next (x + k) (get_or es (x + k) no_page) (omega arith) refl in
        let l : get_or es (x + k) no_page < n = all k (omega arith) in
        omega (arith, next, names_one (get_or es (x + k) no_page) (λ z. omega arith), all_named_lem x small k (omega arith) (λ j i. all j (omega arith)))

    -- .. and entries that name none.
    module _ (x : ℕ) (small : n ≤ no_page) where
      pub none_marked : (k : ℕ) → x + k ≤ length es → ((j : ℕ) → j < k → get_or es (x + j) no_page ≡ no_page) → (bits : List ℕ)
          → NamedTo n x es bits → NamedTo n (x + k) es bits
      none_marked zero h none bits m p l = let z : x ≡ x + 0 = omega arith in m p l ∙ ap (λ (i : ℕ). elem p (take i es)) z
      none_marked (suc k) h none bits m p l =
          let a : (x + k) + 1 ≡ x + suc k = omega arith in
          none_marked k (omega arith) (λ j i. none j (omega arith)) bits m p l
          ∙ sym (ap (λ (t : Bool). t || elem p (take (x + k) es)) (ne_eqb p no_page (λ z. omega arith)))
          ∙ sym (elem_next (x + k) no_page (omega arith) (sym (none k (omega arith))) p)
          ∙ ap (λ (i : ℕ). elem p (take i es)) a

    pub none_named : (x k : ℕ) → x + k ≤ length es → ((j : ℕ) → j < k → get_or es (x + j) no_page ≡ no_page) → named_to (x + k) es ≡ named_to x es
    none_named x zero h none = let z : x + 0 ≡ x = omega arith in ap (λ (i : ℕ). named_to i es) z
    none_named x (suc k) h none =
        let a : x + suc k ≡ (x + k) + 1 = omega arith in
        let next = ap (λ (i : ℕ). named_to i es) a ∙ named_next (x + k) no_page (omega arith) (sym (none k (omega arith))) in
        omega (arith, next, names_at no_page refl, none_named x k (omega arith) (λ j i. none j (omega arith)))
