-- Masks of 256 bytes, and what a scan of the members by their stride finds. Assumes nothing.
use Rattle.std.specs.Prelude.{◌≡◌, List, [], Bool, true, false, not, ◌&&◌, ℕ, ◌+◌, ◌-◌, ◌/◌, ◌%◌, ◌≤◌, ◌<◌, leb, eqb, get_or}
use Rattle.std.proofs.Math.Option.{Option, none, some}
use Rattle.model.specs.Record.{kind_of, rise, member}
use Rattle.record.specs.declared.Record.{Record}
use Rattle.record.specs.Read.{as_record}

-- the mask has offset o: its byte is not 0
abbrev pub masked : List ℕ → ℕ → Bool
masked m o = not (eqb (get_or m o 0) 0)

-- offset o stays: the mask, of those taken, doesn't have it
unfoldable pub stays : List ℕ → ℕ → Bool
stays m o = not (masked m o)

-- o is one of s, s + d, .. to e
unfoldable pub on_stride : ℕ → ℕ → ℕ → ℕ → Bool
on_stride s d e o = (leb s o && leb o e) && eqb ((o - s) % d) 0

-- f is one of s, s + d, .., and those before it fail the test
pub record Failed (t : ℕ → Bool) (s d f : ℕ) : Type 0 where
  pub low : s ≤ f
  pub step : (f - s) % d ≡ 0
  pub before : (o : ℕ) → s ≤ o → o < f → (o - s) % d ≡ 0 → t o ≡ false

-- f is the first of s, s + d, .. to e that passes the test, or above e where none does
abbrev pub First : (ℕ → Bool) → ℕ → ℕ → ℕ → ℕ → Type 0
First t s d e f = Failed t s d f × (f ≤ e → t f ≡ true)

-- what a search for it answers: the first, or none
abbrev pub FirstFound : (ℕ → Bool) → ℕ → ℕ → ℕ → Option ℕ → Type 0
FirstFound t s d e found = (f : ℕ) × First t s d e f × (found ≡ elim (leb f e) [ true ↦ some f | false ↦ none ])

-- what a test may answer of each number from s to e is what t says of it
abbrev pub Tells : (ℕ → Bool → Type 0) → (ℕ → Bool) → ℕ → ℕ → Type 0
Tells answers t s e = (o : ℕ) (r : Bool) → s ≤ o → o ≤ e → answers o r → r ≡ t o

-- g is one of f, f + d, .. to e, and those after it fail the test
pub record FailedAfter (t : ℕ → Bool) (f d e g : ℕ) : Type 0 where
  pub low : f ≤ g
  pub high : g ≤ e
  pub step : (g - f) % d ≡ 0
  pub after : (o : ℕ) → g < o → o ≤ e → (o - f) % d ≡ 0 → t o ≡ false

-- g is the last of f, f + d, .. to e that passes the test
abbrev pub Last : (ℕ → Bool) → ℕ → ℕ → ℕ → ℕ → Type 0
Last t f d e g = FailedAfter t f d e g × (t g ≡ true)

-- the members of r are the offsets of its range that lie whole strides d behind its start; its end is one, and the predicted page goes
-- up by one from member to member
pub record Strided (r : Record) (d : ℕ) : Type 0 where
  pub some : 0 < d
  pub low : d ≤ 255
  pub byte : r.start + r.span ≤ 255
  pub whole : r.span % d ≡ 0
  pub members : (o : ℕ) → o < 256 → member (as_record r []) o ≡ on_stride r.start d (r.start + r.span) o
  pub rises : (o : ℕ) → on_stride r.start d (r.start + r.span) o ≡ true → rise (kind_of r.word) r.start + (o - r.start) / d ≡ rise (kind_of r.word) o
