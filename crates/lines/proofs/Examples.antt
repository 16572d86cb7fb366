-- Document 01's script and listing, line by line, and lines that are bad: the definitions computed. Assumes nothing.
use mathlib.Core.Path.{◌≡◌, refl}
use mathlib.Core.List.{[], ◌∷◌, map}
use Prim.Native.String.{String}
use lib.IntN.{pos, negsuc}
use lib.ListN.{replicate}
use Rattle.lines.specs.Script.{is_digit, digits_from, number_in, joined, numbers_from, in_columns, takes, ScriptLine, call, bad, called, line_of}
use Rattle.lines.specs.Printed.{decimal_in, decimal, signed, integer, right, ascii, line_for}

-- what the line of this text is
abbrev line_in : String → ScriptLine
line_in text = line_of (ascii text)

-- lines that are calls; leading zeros are accepted, and a flush without pages is one of an empty batch
pub calls :
    map line_in
    (" 1       9      64     256       1" ∷ " 2      75      78      82" ∷ " 2" ∷ " 3      50" ∷ "0300000050" ∷ " 4" ∷ " 5       0" ∷ " 6       0" ∷ [])
    ≡ call 1 (9 ∷ 64 ∷ 256 ∷ 1 ∷ []) ∷ call 2 (75 ∷ 78 ∷ 82 ∷ []) ∷ call 2 [] ∷ call 3 (50 ∷ []) ∷ call 3 (50 ∷ []) ∷ call 4 [] ∷ call 5 (0 ∷ []) ∷ call 6 (0 ∷ []) ∷ []
unfolding line_of in_columns called takes numbers_from joined number_in digits_from is_digit ascii
calls = refl

-- lines that are bad: no operation or no such operation, cut or empty fields, trailing blanks, other characters, another count of numbers
pub bads :
    map line_in
    ("" ∷ "4" ∷ "4 " ∷ "  " ∷ " 7" ∷ " 3      5" ∷ " 4 " ∷ " 2        " ∷ " 3      5 " ∷ " 3     -50" ∷ " 3\t      5" ∷ " 4\r" ∷ " 3" ∷ " 4       1" ∷ " 1       9      64     256" ∷ [])
    ≡ replicate 15 bad
unfolding line_of in_columns called takes numbers_from joined number_in digits_from is_digit ascii
bads = refl

-- the first and the last line of the listing
pub listed :
    line_for 0 (record { start = 0; span = 15; word = 2; intercept = pos 0 }) ∷ line_for 0 (record { start = 200; span = 55; word = 2; intercept = negsuc 135 }) ∷ []
    ≡ ascii "     0     0    15     2         0\n" ∷ ascii "     0   200    55     2      -136\n" ∷ []
unfolding line_for integer signed right decimal decimal_in ascii
listed = refl
