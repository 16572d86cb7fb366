-- What calls of the plain engine are lent, and how what they come to is shown. Assumes nothing.
use Rattle.std.specs.Prelude.{List, [], ◌∷◌, ℕ, replicate}
use Rattle.model.specs.Device.{Device}
use Rattle.plain.specs.Table.{Table, table_length}
use Rattle.plain.specs.Calls.{Common, flush, collect, Outcome}
use Rattle.cases.specs.Shown.{Shown, answer}

-- a state of the right length for a device, before its format; what it holds is of no account
unfoldable pub unformatted_table : Device → Table
unformatted_table d = record { bytes = table_length d; device = d; counts = []; entries = [] }

-- a flush and a collection with lists of the right lengths, full of 99, so that the entries that stay are seen
unfoldable pub flush_of : Device → List ℕ → Common
flush_of d batch = flush batch (replicate d.B 99)

unfoldable pub collect_of : Device → Common
collect_of d = collect (replicate d.B 99) (replicate d.M 99)

-- a way of making the plain engine's calls: `run` is the definitions'
abbrev pub PlainWay : Type 0
PlainWay = Common → Table → Outcome

-- the table after these calls, made so
unfoldable pub table_after : PlainWay → List Common → Table → Table
table_after w [] t = t
table_after w (c ∷ cs) t = table_after w cs (w c t).after.table

unfoldable pub show_table : Outcome → Shown
show_table o = answer o.answer o.after.plan o.after.erased
