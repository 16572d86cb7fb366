-- A list given place by place. Assumes nothing.
use Rattle.std.specs.Prelude.{ℕ, zero, suc, List, [], ◌∷◌}

-- f k, f (k + 1), .., n of them
unfoldable pub list_from : {A : Type 0} → (ℕ → A) → ℕ → ℕ → List A
list_from f k zero = []
list_from f k (suc n) = f k ∷ list_from f (suc k) n
