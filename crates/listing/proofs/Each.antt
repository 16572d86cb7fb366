-- A property of each element of a list. Assumes nothing.
use mathlib.Core.List.{List, [], ◌∷◌, ◌++◌}

pub data Each {A : Type 0} (P : A → Type 0) : List A → Type 0 where
  none : Each P []
  more : {x : A} {l : List A} → P x → Each P l → Each P (x ∷ l)

-- one more at the end
pub each_last : {A : Type 0} {P : A → Type 0} {l : List A} {x : A} → Each P l → P x → Each P (l ++ (x ∷ []))
each_last none h = more h none
each_last (more k ks) h = more k (each_last ks h)
