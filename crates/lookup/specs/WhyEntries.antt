-- What the functions that tell why speak of: an entry's twelve bytes, and what a pass along a group's records tells. Assumes nothing.
use Rattle.std.specs.Prelude.{◌≡◌, List, [], ◌∷◌, ◌++◌, map, Bool, true, false, ◌&&◌, ℕ, zero, suc, ◌-◌, eqb, leb, replicate}
use Rattle.std.proofs.Math.Option.{Option, none, some}
use Rattle.model.specs.Record.{covers}
use Rattle.octets.specs.Little.{bytes4}
use Rattle.record.specs.Coding.{eight, InEight}
use Rattle.group.specs.Layout.{slot_of, slots_from, owner_of, levels_at}
use Rattle.group.specs.Cutting.{Placed}
use Rattle.group.specs.Reading.{placed_of}
use Rattle.calls.specs.Why.{Reason, uncovered, reason_of, says_member, up_to, reason_bytes}
use Rattle.lookup.specs.declared.why.Entry.{Entry}

-- an entry's bytes: its record's eight, then the reason, 1 where an owner is given, its start and 0 as one number
unfoldable pub twelve : Entry → List ℕ
twelve e = eight e.held ++ bytes4 e.note

-- the start that an owner names
unfoldable pub start_of : ℕ → Option ℕ
start_of zero = none
start_of (suc start) = some start

-- an entry stands for a reason
pub record Stands (e : Entry) (x : Reason) : Type 0 where
  pub bytes : twelve e ≡ reason_bytes x
  pub said : eqb e.note 3 ≡ says_member x
  pub fits : InEight e.held

-- an entry for each level from k up to before v: no record covers the offset there
abbrev pub gap : ℕ → ℕ → List Reason
gap k v = replicate (v - k) uncovered

-- a record that covers offset o, of level k or below
unfoldable pub met_at : ℕ → ℕ → Placed → Bool
met_at o k p = covers p.item o && leb k p.level

-- What is told from level k on by a pass along these records, n levels behind it: at each that is met, the levels passed over and its own
-- entry, until that says member; at the end the levels that are left.
unfoldable pub pass_from : ℕ → Option ℕ → ℕ → ℕ → List Placed → List Reason
pass_from o w n k [] = gap k n
pass_from o w n k (p ∷ l) =
    elim (met_at o k p) [ true ↦ gap k p.level ++ up_to (reason_of o w p.item) (pass_from o w (suc p.level) (suc p.level) l) | false ↦ pass_from o w (suc p.level) k l ]

-- the record of slot i, with its level
abbrev pub placed_at : List ℕ → ℕ → Placed
placed_at b i = placed_of (owner_of b) (slot_of b i)

-- the records from slot i on, of n
abbrev pub placed_from : List ℕ → ℕ → ℕ → List Placed
placed_from b n i = map (placed_of (owner_of b)) (slots_from b i (n - i))

-- the pass from slot i on, of n
abbrev pub pass_at : List ℕ → ℕ → ℕ → Option ℕ → ℕ → ℕ → List Reason
pass_at b n o w k i = pass_from o w (levels_at b i) k (placed_from b n i)
