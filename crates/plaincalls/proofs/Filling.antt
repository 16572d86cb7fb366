-- The lists of the table that a format fills: its counts, its entries. Assumes nothing.
use mathlib.Core.Path.{refl}
use Prim.Native.Nat.{ℕ}
use Rattle.plain.specs.Table.{Table, with_counts, with_entries}
use Rattle.front.proofs.Filling.{Part}

abbrev pub counts : Part Table ℕ
counts = record { of = λ t. t.counts; put = with_counts; same = λ t. refl; back = λ l t. refl; again = λ l m t. refl }

abbrev pub entries : Part Table ℕ
entries = record { of = λ t. t.entries; put = with_entries; same = λ t. refl; back = λ l t. refl; again = λ l m t. refl }
