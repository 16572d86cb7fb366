-- What a collection's pass over the entries makes: the list of what is moved. Assumes nothing.
use Rattle.std.specs.Prelude.{List, [], ◌∷◌, Bool, true, false, ℕ, suc, ◌+◌, ◌/◌, eqb, get_or}
use Rattle.model.specs.Learning.{Write}
use Rattle.plain.specs.Table.{no_page}

-- of the entries, the first of which is logical page x's, those that pass a test: each as a write of its logical page, with the page
-- that it names as the source
unfoldable pub passing : (ℕ → Bool) → ℕ → List ℕ → List Write
passing t x [] = []
passing t x (e ∷ es) = elim (t e) [ true ↦ record { logical = x; source = e } ∷ passing t (suc x) es | false ↦ passing t (suc x) es ]

-- whether an entry names a page in a block that is not kept: `kept` has 0 for it
unfoldable pub is_moved : List ℕ → ℕ → ℕ → Bool
is_moved kept b e = elim (eqb e no_page) [ true ↦ false | false ↦ eqb (get_or kept (e / b) 0) 0 ]

-- a number that divides by b where it multiplies and 32 bits are shifted out
abbrev pub reciprocal : ℕ → ℕ
reciprocal b = 4294967296 / b + 1
