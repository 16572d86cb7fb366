-- What holds of the page map from a format on: each logical page that lies somewhere lies on a written page, and alone. So whether
-- one lies on a page, and which, is a test and a name that fit the map. Assumes nothing.
use mathlib.Core.Path.{◌≡◌, refl, sym, ◌∙◌, ap}
use mathlib.Core.Option.{Option, none, some}
use mathlib.Core.Logic.{◌⊎◌, inl, inr}
use mathlib.Core.Bool.{true≢false, Bool, true, false}
use Prim.Native.Nat.{ℕ, zero, suc, ◌+◌, ◌/◌, ◌%◌, ◌≤◌, ◌<◌}
use native.Mathlib.Omega.{arith}
use lib.ListN.{length, get_or}
use borrow.Author.Tests.{eqb-true, eq-eqb}
use Rattle.model.specs.Lists.{or_else}
use Rattle.model.specs.Device.{within_limits}
use Rattle.model.proofs.Lists.{le_cases}
use Rattle.calls.specs.PageMap.{PageMap, is_at, lying_on, logical_on, is_some, or_zero}
use Rattle.calls.proofs.Naming.{Names}

-- The invariant: the device is within its limits and has a count for each block; a logical page lies on a page below the count of
-- its block; no two lie on one page.
pub record MapInv (m : PageMap) : Type 0 where
  pub limits : within_limits m.device ≡ true
  pub counted : length m.counts ≡ m.device.M
  pub written : (x p : ℕ) → x < m.device.N → m.place x ≡ some p → p % m.device.B < get_or m.counts (p / m.device.B) 0
  pub alone : (x y p : ℕ) → x < m.device.N → y < m.device.N → m.place x ≡ some p → m.place y ≡ some p → x ≡ y

is_at_lem : (p : ℕ) (o : Option ℕ) → is_at p o ≡ true → o ≡ some p
unfolding is_at
is_at_lem p none h = absurd (true≢false (sym h))
is_at_lem p (some q) h = ap some (sym (eqb-true p q h))

-- who lies on page p, if anyone of the n logical pages from x on does
lying_only : (place : ℕ → Option ℕ) (p x n y : ℕ) → lying_on place p x n ≡ some y → (y < x + n) × (place y ≡ some p)
unfolding lying_on or_else
lying_only place p x zero y h = let z : ◌≡◌ {A = ℕ} 0 1 = cc in absurd (omega arith)
lying_only place p x (suc n) y h = go (is_at p (place x)) refl h (lying_only place p (suc x) n y)
  where
    go : (t : Bool) → is_at p (place x) ≡ t → or_else t x (lying_on place p (suc x) n) ≡ some y → (lying_on place p (suc x) n ≡ some y → (y < suc x + n) × (place y ≡ some p)) → (y < x + suc n) × (place y ≡ some p)
    go true e q ih = let r : x ≡ y = cc in (omega arith, ap place (sym r) ∙ is_at_lem p (place x) e)
    go false e q ih = let i = ih q in (omega (arith, i.0), i.1)

-- that is so where somebody does
lying_every : (place : ℕ → Option ℕ) (p x n y : ℕ) → x ≤ y → y < x + n → place y ≡ some p → is_some (lying_on place p x n) ≡ true
unfolding lying_on or_else is_some is_at
lying_every place p x zero y h k e = absurd (omega arith)
lying_every place p x (suc n) y h k e = go (is_at p (place x)) refl (le_cases x y h) (λ j. lying_every place p (suc x) n y j (omega arith) e)
  where
    go : (t : Bool) → is_at p (place x) ≡ t → (y ≡ x) ⊎ (suc x ≤ y) → (suc x ≤ y → is_some (lying_on place p (suc x) n) ≡ true) → is_some (or_else t x (lying_on place p (suc x) n)) ≡ true
    go true q c ih = refl
    go false q (inl r) ih = absurd (true≢false (sym (ap (is_at p) (ap place (sym r) ∙ e) ∙ eq-eqb p p refl) ∙ q))
    go false q (inr j) ih = ih j

-- The map's own test and name fit it.
pub owner-names : (m : PageMap) → MapInv m → Names m.device.N m.place (λ p. is_some (logical_on m p)) (λ p. or_zero (logical_on m p))
unfolding logical_on is_some or_zero
owner-names m v = record { only = λ p. only p (logical_on m p) refl; every = λ x p h e. every x p h e (logical_on m p) refl }
  where
    only : (p : ℕ) (o : Option ℕ) → logical_on m p ≡ o → is_some o ≡ true → (or_zero o < m.device.N) × (m.place (or_zero o) ≡ some p)
    only p none q h = absurd (true≢false (sym h))
    only p (some y) q h = let l = lying_only m.place p 0 m.device.N y q in (omega (arith, l.0), l.1)

    every : (x p : ℕ) → x < m.device.N → m.place x ≡ some p → (o : Option ℕ) → logical_on m p ≡ o → (is_some o ≡ true) × (or_zero o ≡ x)
    every x p h e none q = absurd (true≢false (sym (lying_every m.place p 0 m.device.N x (omega arith) (omega arith) e) ∙ ap is_some q))
    every x p h e (some y) q = let l = lying_only m.place p 0 m.device.N y q in (refl, v.alone y x p (omega (arith, l.0)) h l.1 e)
