-- A list of slots: their records, and what becomes of a slot whose record shrinks or goes. Assumes nothing.
use Rattle.std.specs.Prelude.{List, [], ◌∷◌, map, ℕ, suc, get_or, set, pos}
use Rattle.std.proofs.Math.Option.{Option, none, some}
use Rattle.model.specs.Record.{Record}
use Rattle.group.specs.Cutting.{Placed}
use Rattle.octets.specs.Slots.{remove_at}

-- the slot of a record at level n
abbrev pub slot : ℕ → Record → Placed
slot n r = record { level = n; item = r }

-- what stands beyond the end
abbrev pub no_slot : Placed
no_slot = slot 0 (record { start = 0; span = 0; word = 0; intercept = pos 0; owned = [] })

-- the record in slot i
abbrev pub held_at : ℕ → List Placed → Record
held_at i l = (get_or l i no_slot).item

-- the slots' records
abbrev pub records : List Placed → List Record
records l = map (λ (s : Placed). s.item) l

-- a record that may be gone, in a slot of level n in front of others
unfoldable pub keep_slot : ℕ → Option Record → List Placed → List Placed
keep_slot n none l = l
keep_slot n (some r) l = slot n r ∷ l

-- the same in place: what slot i held became a record at level n or is gone
unfoldable pub keep_at : ℕ → ℕ → Option Record → List Placed → List Placed
keep_at i n none l = remove_at i l
keep_at i n (some r) l = set l i (slot n r)

-- the index of the slot that follows then
unfoldable pub keep_next : ℕ → Option Record → ℕ
keep_next i none = i
keep_next i (some r) = suc i
