-- The entries that pass a test, gathered one after the other: their logical pages in one list, the pages they name in another.
-- Assumes nothing.
use mathlib.Core.Path.{◌≡◌, refl, sym, ◌∙◌, ap}
use mathlib.Core.List.{List, [], ◌∷◌}
use mathlib.Core.Bool.{Bool, true, false}
use Prim.Native.Nat.{ℕ, suc, ◌+◌, ◌≤◌, ◌<◌}
use native.Mathlib.Omega.{arith}
use native.Mathlib.Nat.{zero-add}
use native.Mathlib.Numerals.{add-one}
use lib.ListN.{length, get_or, set, drop, drop_of_length-le, length-set}
use lib.Seq.{drop-cons}
use Rattle.model.specs.Lists.{store}
use Rattle.model.specs.Learning.{Write, logicals, sources as sources_of_lem}
use Rattle.sorting.proofs.SortStores.{stored_on, stored_all}
use Rattle.plain.specs.Table.{no_page}
use Rattle.plaincalls.specs.Passes.{passing}

-- Writes as they are listed are listed so under another name.
pub listed_as : (ws vs : List Write) → ws ≡ vs → (n : ℕ) (pages₀ pages sources₀ sources : List ℕ)
    → n ≡ length vs → pages ≡ store pages₀ 0 (logicals vs) → sources ≡ store sources₀ 0 (sources_of_lem vs)
    → (n ≡ length ws) × ((pages ≡ store pages₀ 0 (logicals ws)) × (sources ≡ store sources₀ 0 (sources_of_lem ws)))
listed_as ws vs e n pages₀ pages sources₀ sources a b c = rw e (a, (b, c))

module _ (t : ℕ → Bool) (es : List ℕ) where
  -- those from x on
  unfoldable pub passing_from : ℕ → List Write
  passing_from x = passing t x (drop x es)

  module _ (x e : ℕ) (h : x < length es) (read : e ≡ get_or es x no_page) where
    here : drop x es ≡ e ∷ drop (suc x) es
    here = drop-cons es x no_page h ∙ ap (λ (y : ℕ). y ∷ drop (suc x) es) (sym read)

    from_passes : t e ≡ true → passing_from x ≡ record { logical = x; source = e } ∷ passing_from (x + 1)
    unfolding passing_from passing
    from_passes q = rw (add-one x, here, q, passing)

    from_over : t e ≡ false → passing_from x ≡ passing_from (x + 1)
    unfolding passing_from passing
    from_over q = rw (add-one x, here, q, passing)

  from_end : (x : ℕ) → length es ≤ x → passing_from x ≡ []
  unfolding passing_from passing
  from_end x h = ap (passing t x) (drop_of_length-le es h)

  -- Between turns, at logical page x: n are gathered, and those from x on, stored behind them, make the whole.
  pub record Gathering (pages₀ sources₀ pages sources : List ℕ) (n x : ℕ) : Type 0 where
    pub page-long : length pages ≡ length pages₀
    pub source-long : length sources ≡ length sources₀
    pub count : length (passing t 0 es) ≡ n + length (passing_from x)
    pub logical : store pages₀ 0 (logicals (passing t 0 es)) ≡ store pages n (logicals (passing_from x))
    pub source : store sources₀ 0 (sources_of_lem (passing t 0 es)) ≡ store sources n (sources_of_lem (passing_from x))

  pub gather-start : (pages sources : List ℕ) → Gathering pages sources pages sources 0 0
  unfolding passing_from
  gather-start pages sources = record { page-long = refl; source-long = refl; count = sym (zero-add _); logical = refl; source = refl }

  module _ (pages₀ sources₀ pages sources : List ℕ) (n x : ℕ) (g : Gathering pages₀ sources₀ pages sources n x) where
    -- In the end nothing is left.
    pub gather-end : length es ≤ x → (n ≡ length (passing t 0 es))
        × ((pages ≡ store pages₀ 0 (logicals (passing t 0 es))) × (sources ≡ store sources₀ 0 (sources_of_lem (passing t 0 es))))
    unfolding logicals sources_of_lem
    gather-end h =
        let none = from_end x h in (
          uncounted_writes none,
          (stored_all _ _ _ _ g.logical (ap logicals none), stored_all _ _ _ _ g.source (ap sources_of_lem none)),
        )
      where
        uncounted_writes : passing_from x ≡ [] → n ≡ length (passing t 0 es)
        uncounted_writes e = omega (arith, g.count, ap (λ (l : List Write). length l) e)

    module _ (e : ℕ) (h : x < length es) (read : e ≡ get_or es x no_page) where
      -- An entry that passes is the next, for which there is room ..
      pub gather-room : t e ≡ true → n < length (passing t 0 es)
      gather-room q = omega (arith, g.count, ap (λ (l : List Write). length l) (from_passes x e h read q))

      pub gather_next : t e ≡ true → Gathering pages₀ sources₀ (set pages n x) (set sources n e) (n + 1) (x + 1)
      unfolding logicals sources_of_lem
      gather_next q =
          let first = from_passes x e h read q in
          record {
            page-long = length-set pages n x ∙ g.page-long;
            source-long = length-set sources n e ∙ g.source-long;
            count = omega (arith, g.count, ap (λ (l : List Write). length l) first);
            logical = stored_on _ _ _ _ _ _ g.logical (ap logicals first);
            source = stored_on _ _ _ _ _ _ g.source (ap sources_of_lem first);
          }

      -- .. and one that doesn't is passed over.
      pub gather-over : t e ≡ false → Gathering pages₀ sources₀ pages sources n (x + 1)
      gather-over q =
          let same = from_over x e h read q in
          record {
            page-long = g.page-long;
            source-long = g.source-long;
            count = g.count ∙ ap (λ (l : List Write). n + length l) same;
            logical = g.logical ∙ ap (λ (l : List Write). store pages n (logicals l)) same;
            source = g.source ∙ ap (λ (l : List Write). store sources n (sources_of_lem l)) same;
          }
