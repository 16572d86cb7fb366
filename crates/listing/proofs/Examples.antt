-- Document 01's script through the program's definition: it prints document 01's listing. Assumes nothing.
use mathlib.Core.Path.{◌≡◌, refl}
use Rattle.cases.specs.Opens.{everything}
use Rattle.lines.specs.Script.{is_digit, digits_from, number_in, joined, numbers_from, in_columns, takes, called, line_of}
use Rattle.lines.specs.Printed.{decimal_in, decimal, signed, integer, right, ascii, head_line, line_for, refused_line}
use Rattle.listing.specs.Session.{unformatted, takes_device, new_device, format_reply, refusal_print, call_reply, call_of, level_lines, group_lines, list_print, list_reply, operation_reply, reply, in_front, lines_of, printed_by, transcript}

-- "Listing after the script, one line a record"
pub listing-after-the-script :
    transcript (ascii " 1       9      64     256       1\n 2       0       1       2       3       4       5       6       7       8       9      10      11      12      13      14      15      16      17      18      19      20      21      22      23      24      25      26      27      28      29      30      31      32      33      34      35      36      37      38      39      40      41      42      43      44      45      46      47      48      49      50      51      52      53      54      55      56      57      58      59      60      61      62      63\n 2     200     201     202     203     204     205     206     207     208     209     210     211     212     213     214     215     216     217     218     219     220     221     222     223     224     225     226     227     228     229     230     231     232     233     234     235     236     237     238     239     240     241     242     243     244     245     246     247     248     249     250     251     252     253     254     255\n 2      16      17      18      19      20      21      22      23      24      25      26      27      28      29      30      31\n 2      75      78      82\n 2      72      73      80\n 3      50\n 3      78\n 3      82\n 2      32      33      34      35      36      37      38      39      40      41      42      43      44      45      46      47      48      49      50      51      52      53      54      55      56      57      58      59      60      61      62      63      64      65      66      67      68      69      70      71      72      73      74      75      76      77      78      79      80      81      82      83      84      85      86      87      88      89      90\n 3      78\n 5       0\n 6       0\n")
    ≡ ascii " LEVEL START  SPAN  WORD INTERCEPT\n     0     0    15     2         0\n     0    16    15     2       112\n     0    32    58     2       288\n     0   200    55     2      -136\n"
unfolding everything is_digit digits_from number_in joined numbers_from in_columns takes called line_of decimal_in decimal signed integer right ascii head_line line_for refused_line unformatted takes_device new_device format_reply refusal_print call_reply call_of level_lines group_lines list_print list_reply operation_reply reply in_front lines_of printed_by transcript
listing-after-the-script = refl
