-- What the code's values stand for: the struct as document 01's record, and a predicted page as one that there is. Assumes nothing.
use Rattle.std.specs.Prelude.{◌≡◌, List, Bool, true, false, ℕ, ltb, ℤ, pos, negsuc}
use Rattle.std.proofs.Math.Option.{Option, none, some}
use Rattle.model.specs.Lists.{elem}
use Rattle.model.specs.Record as model
use Rattle.record.specs.declared.Record.{Record}

-- the struct, and the offsets that it owns, which it doesn't hold
abbrev pub as_record : Record → List ℕ → model.Record
as_record r owned = record { start = r.start; span = r.span; word = r.word; intercept = r.intercept; owned = owned }

-- a record's four numbers
abbrev pub bare : model.Record → Record
bare r = record { start = r.start; span = r.span; word = r.word; intercept = r.intercept }

-- `owned` says whether offset o is among those that an approximate record owns, which then lies in its range
abbrev pub OwnedAs : Record → ℕ → Bool → List ℕ → Type 0
OwnedAs r o owned L = model.is_approximate (model.kind (as_record r L)) ≡ true → (elem o L ≡ owned) × (owned ≡ true → model.covers (as_record r L) o ≡ true)

-- a predicted page, if it is one of a device's pages
unfoldable pub existing : ℕ → ℤ → Option ℕ
existing pages (pos p) = elim (ltb p pages) [ true ↦ some p | false ↦ none ]
existing pages (negsuc n) = none
