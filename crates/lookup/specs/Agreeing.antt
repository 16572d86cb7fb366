-- What comes of comparing the lookups of two states: of all logical pages, behind the checks of both states; of some of them, which are
-- told by forecasts; of those that are listed, where the rest are settled. Assumes nothing.
use Rattle.std.specs.Prelude.{◌≡◌, List, ◌⊎◌, true, false, ◌&&◌, ℕ, ◌+◌, ◌≤◌, ◌<◌, get_or}
use Rattle.model.specs.Device.{Device}
use Rattle.model.specs.State.{State}
use Rattle.calls.specs.Refusals.{not_named}
use Rattle.calls.specs.Outcome.{Answer, agreed, refused}
use Rattle.calls.specs.Lookup.{Looked}
use Rattle.calls.specs.Agreement.{each_below, is_named, alike, all_named, agrees}
use Rattle.state.specs.Telling.{Tells}

-- "then 7 if any lookup does", else the answer
unfoldable pub compared : State → List ℕ → State → List ℕ → Answer
compared s spare s' spare' = elim (all_named s spare && all_named s' spare') [ true ↦ agreed (agrees s spare s' spare') | false ↦ refused not_named ]

-- the same of the m logical pages from x on, by what their lookups come to
unfoldable pub compared_from : (ℕ → Looked) → (ℕ → Looked) → ℕ → ℕ → Answer
compared_from a b x m =
    elim (each_below m (λ o. is_named (a (x + o))) && each_below m (λ o. is_named (b (x + o))))
    [ true ↦ agreed (each_below m (λ o. alike (a (x + o)) (b (x + o)))) | false ↦ refused not_named ]

-- l has the forecasts of these lookups
abbrev pub ToldFrom : Device → List ℕ → (ℕ → Looked) → ℕ → ℕ → List ℕ → Type 0
ToldFrom d spare a x m l = (o : ℕ) → o < m → Tells d spare (x + o) (a (x + o)) (get_or l o 0)

-- v is one of the first n of a list
pub record Listed (l : List ℕ) (n v : ℕ) : Type 0 where
  pub place : ℕ
  pub inside : place < n
  pub is : get_or l place 0 ≡ v

-- Of the first `end` of a row some were listed, n of them, and each other one is settled.
pub record Picked (settled : ℕ → Type 0) (row : ℕ → ℕ) (end : ℕ) (l : List ℕ) (n : ℕ) : Type 0 where
  pub few : n ≤ end
  pub source : ℕ → ℕ
  pub from : (i : ℕ) → i < n → (source i < end) × (get_or l i 0 ≡ row (source i))
  pub rest : (j : ℕ) → j < end → settled (row j) ⊎ Listed l n (row j)

-- two lookups come to the same, and not to 7
pub record Settled (a b : Looked) : Type 0 where
  pub same : a ≡ b
  pub named : is_named a ≡ true

-- the offsets below m that aren't listed are settled
pub record Left (a b : ℕ → Looked) (x m : ℕ) (l : List ℕ) (n : ℕ) : Type 0 where
  pub low : (i : ℕ) → i < n → get_or l i 0 < m
  pub rest : (o : ℕ) → o < m → Settled (a (x + o)) (b (x + o)) ⊎ Listed l n o
