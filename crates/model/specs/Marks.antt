-- Document 02, a: the marks of discarded logical pages, a bit for each, in bytes: logical page x has bit x mod 8, lowest first, of
-- byte x / 8. Setting or clearing one leaves every other bit, those behind the last logical page too. Assumes nothing.
use Rattle.std.specs.Prelude.{List, [], ◌∷◌, Bool, true, false, ℕ, ◌+◌, ◌-◌, ◌/◌, ◌%◌, ◌^◌, eqb, get_or, set}

-- the byte of logical page x's mark, and what the bit counts there
unfoldable pub mark_byte : ℕ → ℕ
mark_byte x = x / 8

unfoldable pub mark_value : ℕ → ℕ
mark_value x = 2 ^ (x % 8)

-- a byte's bit that counts v is set
unfoldable pub has_bit : (byte v : ℕ) → Bool
has_bit byte v = eqb (byte / v % 2) 1

-- the byte with this bit set; with it cleared
unfoldable pub set_bit : (byte v : ℕ) → ℕ
set_bit byte v = elim (has_bit byte v) [ true ↦ byte | false ↦ byte + v ]

unfoldable pub clear_bit : (byte v : ℕ) → ℕ
clear_bit byte v = elim (has_bit byte v) [ true ↦ byte - v | false ↦ byte ]

-- logical page x is marked
unfoldable pub is_marked : List ℕ → ℕ → Bool
is_marked marks x = has_bit (get_or marks (mark_byte x) 0) (mark_value x)

-- the marks with that of x set; with that of x cleared
unfoldable pub mark : ℕ → List ℕ → List ℕ
mark x marks = set marks (mark_byte x) (set_bit (get_or marks (mark_byte x) 0) (mark_value x))

unfoldable pub unmark : ℕ → List ℕ → List ℕ
unmark x marks = set marks (mark_byte x) (clear_bit (get_or marks (mark_byte x) 0) (mark_value x))

-- with those of all these logical pages cleared, one after the other
unfoldable pub unmark_all : List ℕ → List ℕ → List ℕ
unmark_all [] marks = marks
unmark_all (x ∷ xs) marks = unmark_all xs (unmark x marks)
