-- On a table that shows a page map no call is refused for device numbers, the state's length or soundness: its first refusal is the page
-- map's. Assumes nothing.
use mathlib.Core.Path.{◌≡◌, refl, ap}
use mathlib.Core.List.{List}
use mathlib.Core.Bool.{Bool, true, false, not, ◌||◌}
use Prim.Native.Nat.{ℕ}
use native.Mathlib.Omega.{arith}
use lib.Dec.{ltb, eqb}
use borrow.Author.Tests.{eq-eqb, le-ltb}
use Rattle.model.specs.Lists.{or_else}
use Rattle.model.specs.Device.{Device, within_limits, head_length, regions_length}
use Rattle.model.proofs.Bools.{neither}
use Rattle.calls.specs.Refusals.{first_refusal}
use Rattle.calls.specs.History.{format_call}
use Rattle.calls.specs.PageMap.{PageMap, map_checks}
use Rattle.plain.specs.Table.{Table, table_regions, table_length}
use Rattle.plain.specs.Calls.{Common, format, flush, lookup, discard, collect, as_call, entry_checks, checks_of}
use Rattle.plain.proofs.Invariant.{table_of, Inv}
use Rattle.plain.proofs.Soundness.{entry_sound, table-sound}
use Rattle.plain.proofs.Choosing.{same_victims, same_moves}

-- whether the state has the length that a format's numbers give
unfoldable pub fitting : Common → Table → Bool
fitting (format d) t = eqb t.bytes (table_length d)
fitting (flush batch plan) t = true
fitting (lookup x) t = true
fitting (discard x) t = true
fitting (collect plan erased) t = true

-- A format is refused by the numbers it is given and the state's length, whatever was there before.
pub format_checks_lem : (d : Device) (t : Table) (m : PageMap) → first_refusal (checks_of (format d) t) ≡ first_refusal (map_checks (fitting (format d) t) (format_call d) m)
unfolding checks_of map_checks fitting
format_checks_lem d t m = refl

module _ (m : PageMap) (es : List ℕ) (v : Inv m es) where
  abbrev t : Table
  t = table_of m es

  -- the device numbers are there ..
  numbers_there : (ltb t.bytes head_length || not (within_limits t.device)) ≡ false
  unfolding table_length table_regions regions_length
  numbers_there = neither _ _ (le-ltb t.bytes head_length (omega arith)) (ap not v.map.limits)

  -- .. and the state has the length they give
  length-right : not (eqb t.bytes (table_length t.device)) ≡ false
  length-right = ap not (eq-eqb t.bytes (table_length t.device) refl)

  -- A call refuses first what the map's refuses first.
  pub same_checks : (c : Common) → first_refusal (checks_of c t) ≡ first_refusal (map_checks (fitting c t) (as_call c) m)
  unfolding checks_of entry_checks map_checks as_call first_refusal or_else
  same_checks (format d) = format_checks_lem d t m
  same_checks (flush batch plan) = rw (numbers_there, length-right, table-sound m es v)
  same_checks (lookup x) = rw (numbers_there, length-right, entry_sound m es v x)
  same_checks (discard x) = rw (numbers_there, length-right, entry_sound m es v x)
  same_checks (collect plan erased) = rw (numbers_there, length-right, table-sound m es v, same_moves m es v, same_victims m es v)
