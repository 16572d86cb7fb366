-- A lookup finds a programmed logical page from a predicted page that is at most g away and in the same batch. Assumes nothing.
use mathlib.Core.Path.{◌≡◌, refl, sym, ◌∙◌, ap}
use mathlib.Core.List.{List}
use mathlib.Core.Option.{some}
use mathlib.Core.Bool.{Bool, true, false}
use Prim.Native.Nat.{ℕ, zero, suc, ◌+◌, ◌-◌, ◌≤◌, ◌<◌}
use native.Mathlib.Omega.{arith}
use lib.Dec.{ltb, leb, eqb}
use lib.ListN.{length, get_or}
use borrow.Author.Tests.{lt-ltb, le-leb, eqb-true, eq-eqb}
use Rattle.model.specs.Lists.{elem, or_else}
use Rattle.model.specs.Device.{Device, pages, first_page, names_per_page}
use Rattle.model.specs.Spare.{nobody, entry, middle, entry_rule, names, lowest_naming, page_named}
use Rattle.model.proofs.Bools.{and_l, and_r, and_i, is_false}
use Rattle.model.proofs.Lists.{Asc, elem-get_or, get_or_default}
use Rattle.model.proofs.Limits.{page-inside, near-inside, g_inside}
use Rattle.model.proofs.Image.{Image, rule_at, rule_only}

-- the lowest entry from j on that names x is the m-th
lowest_at : (d : Device) (spare : List ℕ) (p x j n m : ℕ) → m < n → names d spare p x (j + m) ≡ true → ((y : ℕ) → y < m → names d spare p x (j + y) ≡ false) → lowest_naming d spare p x j n ≡ some (p + (j + m) - d.g)
unfolding lowest_naming or_else
lowest_at d spare p x j zero m h e f = absurd (omega arith)
lowest_at d spare p x j (suc n) zero h e f =
    let z : j + 0 ≡ j = omega arith in
    let t : names d spare p x j ≡ true = rw z at e in
    rw (t, z, or_else)
lowest_at d spare p x j (suc n) (suc m) h e f =
    let z : j + 0 ≡ j = omega arith in
    let s : j + suc m ≡ suc j + m = omega arith in
    let t : names d spare p x j ≡ false = rw z at (f 0 (omega arith)) in
    rw (t, s, or_else) (lowest_at d spare p x (suc j) n m (omega arith) (rw s at e) (λ y k. let u : j + suc y ≡ suc j + y = omega arith in rw u at (f (suc y) (omega arith))))

names-yes : (d : Device) (spare : List ℕ) (p x j : ℕ) → d.g ≤ p + j → p + j - d.g < pages d → entry d spare p j ≡ x → names d spare p x j ≡ true
unfolding names
names-yes d spare p x j h k e =
    let a : leb d.g (p + j) ≡ true = le-leb d.g (p + j) h in
    let b : ltb (p + j - d.g) (pages d) ≡ true = lt-ltb (p + j - d.g) (pages d) k in
    let c : eqb (entry d spare p j) x ≡ true = eq-eqb (entry d spare p j) x e in
    search and_i

names-entry : (d : Device) (spare : List ℕ) (p x j : ℕ) → names d spare p x j ≡ true → entry d spare p j ≡ x
unfolding names
names-entry d spare p x j h = eqb-true (entry d spare p j) x (search (and_l, and_r))

-- entry j of page q names x exactly where it is the entry for page p
record Naming (d : Device) (spare : List ℕ) (x p q : ℕ) : Type 0 where
  exists : p < pages d
  above : p ≤ q + d.g
  below : q ≤ p + d.g
  yes_at : (j : ℕ) → j < names_per_page d → q + j ≡ p + d.g → entry d spare q j ≡ x
  only_at : (j : ℕ) → j < names_per_page d → entry d spare q j ≡ x → q + j ≡ p + d.g

naming-page : (d : Device) (spare : List ℕ) (x p q : ℕ) → Naming d spare x p q → page_named d spare q x ≡ some p
unfolding page_named middle or_else
naming-page d spare x p q n = go (eqb (middle d spare q) x) refl
  where
    go : (t : Bool) → eqb (middle d spare q) x ≡ t → or_else (eqb (middle d spare q) x) q (lowest_naming d spare q x 0 (names_per_page d)) ≡ some p
    go true e =
        let z : q + d.g ≡ p + d.g = n.only_at d.g (g_inside d) (eqb-true _ _ e) in
        let y : q ≡ p = omega arith in
        rw (e, or_else) (ap (λ (v : ℕ). some v) y)
    go false e =
        let m : ℕ = p + d.g - q in
        let a : p ≤ q + d.g = n.above in
        let b : q ≤ p + d.g = n.below in
        let c : p < pages d = n.exists in
        let l : m < names_per_page d = near-inside d m (omega arith) in
        let z : 0 + m ≡ m = omega arith in
        let y : names d spare q x m ≡ true = names-yes d spare q x m (omega arith) (omega arith) (n.yes_at m l (omega arith)) in
        let r : lowest_naming d spare q x 0 (names_per_page d) ≡ some (q + (0 + m) - d.g) =
        lowest_at d spare q x 0 (names_per_page d) m l (rw z y) (λ i k. is_false _ (λ h. absurd (omega (arith, n.only_at (0 + i) (omega arith) (names-entry d spare q x (0 + i) h))))) in
        let s : q + (0 + m) - d.g ≡ p = omega arith in
        rw (e, or_else) (r ∙ ap (λ (v : ℕ). some v) s)

-- x is page i of the list L that block k was programmed with; q, a programmed page of that block, is at most g away.
module _ (d : Device) (spare : List ℕ) (k : ℕ) (L : List ℕ) (n i i' x q : ℕ) (v : Image d spare k L n) (a : Asc 0 L) (b : length L ≤ d.B) (w : n ≤ length L) (s : (o : ℕ) → elem o L ≡ true → o < nobody) (m : k < d.M) (h : i < length L) (e : get_or L i 0 ≡ x) (r : q ≡ first_page d k + i') (h' : i' < n) (c : i ≤ i' + d.g) (c' : i' ≤ i + d.g) where
  named : (j : ℕ) → j < names_per_page d → entry d spare q j ≡ entry_rule d L i' j
  named j l = rw r (v.written i' j h' (omega arith) l)

  naming : Naming d spare x (first_page d k + i) q
  naming = record {
    exists = page-inside d k i m (omega arith);
    above = omega arith;
    below = omega arith;
    yes_at = λ j l z. named j l ∙ rule_at d L i' j i (omega arith) ∙ get_or_default L i nobody 0 h ∙ e;
    only_at = λ j l z. let u : i' + j ≡ i + d.g = rule_only d L i' j i x a h e (s x (rw e at (elem-get_or L i h))) (sym (named j l) ∙ z) in omega arith;
  }

  -- A lookup of x that is predicted on page q finds the page that x was programmed on.
  pub page_named_lem : page_named d spare q x ≡ some (first_page d k + i)
  page_named_lem = naming-page d spare x (first_page d k + i) q naming
