-- Document 01, 'Cases': the lines that the listing program prints, as ASCII codes, each with its newline. Assumes nothing.
use Rattle.std.specs.Prelude.{◌≡◌, List, [], ◌∷◌, ◌++◌, Bool, true, false, ℕ, zero, suc, ◌+◌, ◌-◌, ◌/◌, ◌%◌, ◌≤◌, ltb, ℤ, pos, negsuc, length, replicate}
use Prim.Native.Char.{code}
use Prim.Native.String.{String}
use Prim.Native.String as string
use Rattle.model.specs.Lists.{store}
use Rattle.record.specs.declared.Record.{Record}

-- n in decimal, where it has at most k digits
unfoldable pub decimal_in : ℕ → ℕ → List ℕ
decimal_in zero n = []
decimal_in (suc k) n = elim (ltb n 10) [ true ↦ (48 + n) ∷ [] | false ↦ decimal_in k (n / 10) ++ ((48 + n % 10) ∷ []) ]

-- n in decimal: it has at most n + 1 digits
unfoldable pub decimal : ℕ → List ℕ
unfolding decimal_in
decimal n = decimal_in (suc n) n

-- digits with a minus sign in front of the first, or without
unfoldable pub signed : Bool → List ℕ → List ℕ
signed true digits = 45 ∷ digits
signed false digits = digits

-- an integer in decimal
unfoldable pub integer : ℤ → List ℕ
unfolding decimal signed
integer (pos n) = signed false (decimal n)
integer (negsuc n) = signed true (decimal (suc n))

-- "right-justified": blanks in front, up to the width; a longer text stays whole
unfoldable pub right : ℕ → List ℕ → List ℕ
right width text = replicate (width - length text) 32 ++ text

-- the ASCII codes of a text
unfoldable pub ascii : String → List ℕ
ascii string.[] = []
ascii (string.◌∷◌ c s) = code c ∷ ascii s

-- "prints the head line"
unfoldable pub head_line : List ℕ
unfolding ascii
head_line = ascii " LEVEL START  SPAN  WORD INTERCEPT\n"

-- a record's line: "levels downward, each ascending, right-justified in widths 6, 6, 6, 6 and 10"
unfoldable pub line_for : ℕ → Record → List ℕ
unfolding decimal integer right ascii
line_for level r =
    right 6 (decimal level)
    ++ (right 6 (decimal r.start)
    ++ (right 6 (decimal r.span)
    ++ (right 6 (decimal r.word)
    ++ (right 10 (integer r.intercept)
    ++ ascii "\n"))))

-- "A refusal prints "refused" and its number."
unfoldable pub refused_line : ℕ → List ℕ
unfolding decimal ascii
refused_line n = ascii "refused " ++ (decimal n ++ ascii "\n")

-- "Other lines print "bad line"."
unfoldable pub bad_line : List ℕ
unfolding ascii
bad_line = ascii "bad line\n"

-- s with the text stored from place p on is t, the text lies inside, and q is the place behind it
pub record Laid (s t : List ℕ) (p q : ℕ) (text : List ℕ) : Type 0 where
  pub stored : t ≡ store s p text
  pub next : q ≡ p + length text
  pub inside : q ≤ length s
