-- Document 01, 'The record': the kinds by the word, members, prediction. Assumes nothing.
use Rattle.std.specs.Prelude.{List, Bool, true, false, ◌&&◌, ℕ, ◌+◌, ◌*◌, ◌-◌, ◌/◌, ◌%◌, leb, eqb, ℤ, pos, ◌+ℤ◌}
use Rattle.model.specs.Lists.{elem}
use Rattle.model.specs.Device.{ceil}

-- "start S (1), span L (1), word (2), intercept I (4). The intercept is a signed 32-bit number and may be negative."
-- With it the offsets that it owns, ascending: an approximate record's; any other owns none.
pub record Record : Type 0 where
  pub start : ℕ
  pub span : ℕ
  pub word : ℕ
  pub intercept : ℤ
  pub owned : List ℕ

-- The table's column 'kind': a single, an accurate record of some stride, an approximate one of some slope in 256ths.
pub data Kind : Type 0 where
  single : Kind
  accurate : ℕ → Kind
  approximate : ℕ → Kind

-- The table's column 'word': 0, or 2d for stride d, or 2a + 1 for slope a.
unfoldable pub kind_of : ℕ → Kind
kind_of w = elim (eqb w 0) [ true ↦ single | false ↦ elim (eqb (w % 2) 0) [ true ↦ accurate (w / 2) | false ↦ approximate (w / 2) ] ]

abbrev pub kind : Record → Kind
kind r = kind_of r.word

unfoldable pub is_approximate : Kind → Bool
is_approximate single = false
is_approximate (accurate d) = false
is_approximate (approximate a) = true

-- the last offset of the range, S + L
abbrev pub end : Record → ℕ
end r = r.start + r.span

-- "A record covers offsets S to S + L."
unfoldable pub covers : Record → ℕ → Bool
covers r o = leb r.start o && leb o (end r)

-- The table's column 'members': S; S, S + d, .. to S + L; the offsets owned by it.
unfoldable pub member_as : Kind → Record → ℕ → Bool
member_as single r o = eqb o r.start
member_as (accurate d) r o = covers r o && eqb ((o - r.start) % d) 0
member_as (approximate a) r o = elem o r.owned

unfoldable pub member : Record → ℕ → Bool
member r o = member_as (kind r) r o

-- What the table's last column adds to I at offset o: nothing; o / d rounded up; a × o / 256 rounded up.
unfoldable pub rise : Kind → ℕ → ℕ
rise single o = 0
rise (accurate d) o = ceil o d
rise (approximate a) o = ceil (a * o) 256

-- the predicted page at offset o; below zero where no page is
unfoldable pub predict : Record → ℕ → ℤ
predict r o = r.intercept +ℤ pos (rise (kind r) o)
