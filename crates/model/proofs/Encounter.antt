-- What is met first in a list of records: over one record, over lists in a row, over a level that a record was put into. Assumes nothing.
use mathlib.Core.Path.{◌≡◌, refl, sym, ◌∙◌, ap}
use mathlib.Core.List.{List, [], ◌∷◌, ◌++◌}
use mathlib.Core.Option.{Option, none, some}
use mathlib.Core.Bool.{true≢false, Bool, true, false}
use Prim.Native.Nat.{ℕ, ◌<◌}
use lib.Dec.{ltb}
use Rattle.model.specs.Lists.{or_else}
use Rattle.model.specs.Record.{Record, member}
use Rattle.model.specs.Levels.{Level, meets_any, keep, into}
use Rattle.model.proofs.Bools.{iff_bool, is_false}
use Rattle.model.proofs.Line.{Line, line_of, met}
use Rattle.model.proofs.Shrink.{Within, Shrunk, Outcome, gone, left}
use Rattle.model.proofs.Ranges.{any_cons, not_both}
use Rattle.model.proofs.Order.{AllWithin}

-- the first that is there
abbrev pub first : Option Line → Option Line → Option Line
first none b = b
first (some x) b = some x

-- with nothing behind it, a stays
pub first_none : (a : Option Line) → first a none ≡ a
first_none none = refl
first_none (some x) = refl

-- of three in a row, either two may be taken first
pub first_assoc : (a b c : Option Line) → first a (first b c) ≡ first (first a b) c
first_assoc none b c = refl
first_assoc (some x) b c = refl

-- a record without the offset is passed over
pub met-skip : (o : ℕ) (r : Record) (l : List Record) → member r o ≡ false → met o (r ∷ l) ≡ met o l
unfolding met or_else
met-skip o r l h = ap (λ (t : Bool). or_else t (line_of r) (met o l)) h

-- a record with it is met
pub met-hit : (o : ℕ) (r : Record) (l : List Record) → member r o ≡ true → met o (r ∷ l) ≡ some (line_of r)
unfolding met or_else
met-hit o r l h = ap (λ (t : Bool). or_else t (line_of r) (met o l)) h

-- behind the same record the same is met
pub met_same : (o : ℕ) (r : Record) (l m : List Record) → met o l ≡ met o m → met o (r ∷ l) ≡ met o (r ∷ m)
unfolding met
met_same o r l m h = ap (or_else (member r o) (line_of r)) h

-- in two lists in a row: in the first, or else in the second
pub met_append : (o : ℕ) (l m : List Record) → met o (l ++ m) ≡ first (met o l) (met o m)
unfolding met or_else
met_append o [] m = refl
met_append o (r ∷ l) m = ap (or_else (member r o) (line_of r)) (met_append o l m) ∙ over (member r o)
  where
    over : (t : Bool) → or_else t (line_of r) (first (met o l) (met o m)) ≡ first (or_else t (line_of r) (met o l)) (met o m)
    over true = refl
    over false = refl

-- a record with the offset meets none of a level: the level has no member there
pub met-apart : (o : ℕ) (r : Record) (l : Level) → Within r → AllWithin l → meets_any r l ≡ false → member r o ≡ true → met o l ≡ none
unfolding met
met-apart o r [] w a h k = refl
met-apart o r (s ∷ l) w a h k =
    let q = any_cons r s l h in
    met-skip o s l (not_both o r s w a.0 q.0 k) ∙ met-apart o r l w a.1 q.1 k

-- a record without the offset, put into a level, changes nothing
pub into-skip : (o : ℕ) (r : Record) (l : Level) → member r o ≡ false → met o (into r l) ≡ met o l
unfolding into
into-skip o r [] h = met-skip o r [] h
into-skip o r (s ∷ l) h = go (ltb r.start s.start) refl (into-skip o r l h)
  where
    go : (t : Bool) → ltb r.start s.start ≡ t → met o (into r l) ≡ met o l → met o (into r (s ∷ l)) ≡ met o (s ∷ l)
    go true e ih = rw (e, into) (met-skip o r (s ∷ l) h)
    go false e ih = rw (e, into) (met_same o s _ _ ih)

-- a record with the offset, put into a level that it doesn't meet, is met there
pub into-hit : (o : ℕ) (r : Record) (l : Level) → Within r → AllWithin l → meets_any r l ≡ false → member r o ≡ true → met o (into r l) ≡ some (line_of r)
unfolding into
into-hit o r [] w a h k = met-hit o r [] k
into-hit o r (s ∷ l) w a h k = go (ltb r.start s.start) refl (into-hit o r l w a.1 (any_cons r s l h).1 k)
  where
    go : (t : Bool) → ltb r.start s.start ≡ t → met o (into r l) ≡ some (line_of r) → met o (into r (s ∷ l)) ≡ some (line_of r)
    go true e ih = rw (e, into) (met-hit o r (s ∷ l) k)
    go false e ih = rw (e, into) (met-skip o s (into r l) (not_both o r s w a.0 (any_cons r s l h).0 k) ∙ ih)

-- a shrunk record keeps its line
pub shrunk-line : {lost : ℕ → Bool} {r s : Record} → Shrunk lost r s → line_of s ≡ line_of r
shrunk-line k = rw (k.word, k.intercept) refl

-- and the members that weren't lost
pub shrunk-member : {lost : ℕ → Bool} {r s : Record} (o : ℕ) → Shrunk lost r s → o < 256 → lost o ≡ false → member s o ≡ member r o
shrunk-member {r = r} {s = s} o k b n = iff_bool (member s o) (member r o) (λ h. k.sub o h) (λ h. k.rest o b h n)

-- a shrunk record is met as the whole one, at an offset that it hasn't lost
pub met-shrunk : {lost : ℕ → Bool} {r s : Record} (o : ℕ) → Shrunk lost r s → o < 256 → lost o ≡ false
    → (l m : List Record) → met o l ≡ met o m → met o (s ∷ l) ≡ met o (r ∷ m)
unfolding met
met-shrunk {r = r} {s = s} o k b n l m h =
    let p : member s o ≡ member r o = shrunk-member o k b n in
    let q : line_of s ≡ line_of r = shrunk-line k in
    rw (p, q, h) refl

-- what is left of a record is met as the whole one, at an offset that it hasn't lost
pub met-keep : (lost : ℕ → Bool) (o : ℕ) → o < 256 → lost o ≡ false → (r : Record) (x : Option Record) → Outcome lost r x
    → (l m : List Record) → met o l ≡ met o m → met o (keep x l) ≡ met o (r ∷ m)
unfolding keep
met-keep lost o b n r none (gone k) l m h = h ∙ sym (met-skip o r m (is_false (member r o) (λ q. true≢false (sym (k o b q) ∙ n))))
met-keep lost o b n r (some s) (left k) l m h = met-shrunk o k b n l m h
