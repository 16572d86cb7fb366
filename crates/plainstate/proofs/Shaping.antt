-- What is read from bytes whose numbers and length are known: the counts and the entries. Assumes nothing.
use mathlib.Core.Path.{◌≡◌, sym, ap, ◌∙◌}
use mathlib.Core.Bool.{true}
use mathlib.Core.List.{List}
use Prim.Native.Nat.{ℕ, ◌+◌, ◌*◌, ◌≤◌, ◌<◌}
use native.Mathlib.Omega.{arith}
use lib.ListN.{length, get_or}
use Rattle.model.specs.Device.{Device, within_limits}
use Rattle.plain.specs.Table.{Table, with_counts, with_entries, table_length, no_page, entry_at}
use Rattle.octets.specs.Little.{le32}
use Rattle.front.specs.Reading.{numbers_at, read_counts}
use Rattle.front.proofs.Tables.{length_from, get_or_from}
use Rattle.front.proofs.CountsRead.{length-read}
use Rattle.plainstate.specs.Reading.{entry_place, read_entries, read_table}
use Rattle.plainstate.specs.Shaped.{Shaped}
use Rattle.plainstate.proofs.Sizes.{entry_at_lem, end_at}

module _ (d : Device) (s : List ℕ) (h : Shaped d (read_table s)) where
  pub long : length s ≡ table_length d
  unfolding read_table
  long = h.long

  pub numbers_are : numbers_at s ≡ d
  unfolding read_table
  numbers_are = h.numbers

  -- what the front's functions ask for
  pub front_in : (16 + 2 * d.M ≤ length s) × (within_limits d ≡ true)
  front_in = (omega (arith, long, end_at d), h.limits)

  pub counts_are : (read_table s).counts ≡ read_counts d s
  unfolding read_table
  counts_are = ap (λ (e : Device). read_counts e s) numbers_are

  pub entries_are : (read_table s).entries ≡ read_entries d s
  unfolding read_table
  entries_are = ap (λ (e : Device). read_entries e s) numbers_are

  pub length-counts : length (read_table s).counts ≡ d.M
  length-counts = ap length counts_are ∙ length-read d s

  pub length-entries : length (read_table s).entries ≡ d.N
  unfolding read_entries
  length-entries = ap length entries_are ∙ length_from _ 0 d.N

  pub count_is : (k : ℕ) → get_or (read_counts d s) k 0 ≡ get_or (read_table s).counts k 0
  count_is k = ap (λ (cs : List ℕ). get_or cs k 0) (sym counts_are)

  -- an entry lies in the state at its place, p
  pub entry_in : (x p : ℕ) → x < d.N → p ≡ entry_place d x → p + 4 ≤ length s
  entry_in x p l e = omega (arith, e, entry_at_lem d x, long, end_at d)

  pub entry_read : (x p r : ℕ) → x < d.N → p ≡ entry_place d x → r ≡ le32 s p → r ≡ entry_at (read_table s) x
  unfolding read_entries
  entry_read x p r l e f =
      f ∙ ap (le32 s) e ∙ sym (ap (λ (es : List ℕ). get_or es x no_page) entries_are ∙ get_or_from (λ i. le32 s (entry_place d i)) d.N x no_page l)

-- other counts, other entries: the same shape
pub shaped-counts : (d : Device) (cs : List ℕ) (t : Table) → Shaped d t → Shaped d (with_counts cs t)
shaped-counts d cs t h = record { numbers = h.numbers; limits = h.limits; long = h.long }

pub shaped-entries : (d : Device) (es : List ℕ) (t : Table) → Shaped d t → Shaped d (with_entries es t)
shaped-entries d es t h = record { numbers = h.numbers; limits = h.limits; long = h.long }
