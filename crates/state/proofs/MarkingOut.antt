-- The forecasts of marked logical pages become 0 one after the other, and bytes without marks say that none is. Assumes nothing.
use mathlib.Core.Path.{◌≡◌, refl, ◌∙◌}
use mathlib.Core.List.{List}
use mathlib.Core.Bool.{Bool, true, false}
use Prim.Native.Nat.{ℕ, ◌+◌, ◌/◌, ◌≤◌, ◌<◌}
use native.Mathlib.Omega.{arith}
use lib.Dec.{ltb}
use lib.ListN.{length, get_or, set}
use borrow.Author.Tests.{ltb-true, ltb-false}
use Rattle.model.specs.Marks.{is_marked}
use Rattle.record.proofs.Renewing.{Renewed, renewed_start, renewed_turn}
use Rattle.state.specs.Telling.{MarkedOut}

-- none of the logical pages whose marks are in the bytes from i up to before k is marked
abbrev pub NoneIn : List ℕ → ℕ → ℕ → Type 0
NoneIn ms i k = (y : ℕ) → i ≤ y / 8 → y / 8 < k → is_marked ms y ≡ false

pub in_start : (ms : List ℕ) (i : ℕ) → NoneIn ms i i
in_start ms i y a b = absurd (omega arith)

-- nor is one of the next byte
pub in_on : (ms : List ℕ) (i k : ℕ) → NoneIn ms i k → ((y : ℕ) → y / 8 ≡ k → is_marked ms y ≡ false) → NoneIn ms i (k + 1)
in_on ms i k so here y a b = go (ltb (y / 8) k) refl
  where
    go : (t : Bool) → ltb (y / 8) k ≡ t → is_marked ms y ≡ false
    go true e = so y a (ltb-true (y / 8) k e)
    go false e = let more : k ≤ y / 8 = ltb-false (y / 8) k e in here y (omega arith)

module _ (ms : List ℕ) (x : ℕ) (l : List ℕ) where
  -- what becomes of the forecast of page x + i
  abbrev pub Fits : ℕ → ℕ → Type 0
  Fits i v = (is_marked ms (x + i) ≡ true → v ≡ 0) × (is_marked ms (x + i) ≡ false → v ≡ get_or l i 0)

  -- l became k, which has that of the first o pages
  abbrev pub OutSo : List ℕ → ℕ → Type 0
  OutSo k o = Renewed Fits l k o

  pub out-start : OutSo l 0
  out-start = renewed_start Fits l 0 (λ i a. absurd (omega arith))

  pub out-turn : (k : List ℕ) (o v : ℕ) → OutSo k o → o < length l → (is_marked ms (x + o) ≡ true → v ≡ 0) → (is_marked ms (x + o) ≡ false → v ≡ get_or k o 0) → OutSo (set k o v) (o + 1)
  out-turn k o v so inside marked kept = renewed_turn Fits l k o v 1 so inside (marked, λ e. kept e ∙ so.left o (omega arith)) (λ i a b. absurd (omega arith)) (omega arith)

  pub out-end : (m : ℕ) (k : List ℕ) (o : ℕ) → OutSo k o → m ≤ o → MarkedOut ms x m l k
  out-end m k o so past = record { long = so.long; marked = λ i a. (so.done i (omega arith)).0; kept = λ i a. (so.done i (omega arith)).1 }
