-- Document 01, 'Levels': a group, shrinking, insertion, compaction, the limit of 512 records. Assumes nothing.
use mathlib.Core.List.{List, [], ◌∷◌, map, flatten}
use Rattle.std.proofs.Math.Option.{Option, none, some}
use Rattle.std.specs.Prelude.{Bool, true, false, not, ◌&&◌, ◌||◌, ℕ, zero, suc, ◌+◌, ◌-◌, ltb, leb, length}
use Rattle.model.specs.Lists.{last_of, select, or_else}
use Rattle.model.specs.Record.{Record, kind, is_approximate, end, member}
use Rattle.model.specs.Learning.{Run, records_for}

-- "In one level records ascend and their ranges don't meet."
abbrev pub Level : Type 0
Level = List Record

-- "A group has levels, 0 newest."
abbrev pub Group : Type 0
Group = List Level

-- a group's records, "levels downward, each ascending"
abbrev pub listing : Group → List Record
listing g = flatten g

-- how many records a group holds
unfoldable pub record_count : Group → ℕ
record_count g = length (listing g)

-- two records' ranges meet
unfoldable pub meets : Record → Record → Bool
meets r s = leb r.start (end s) && leb s.start (end r)

unfoldable pub meets_any : Record → Level → Bool
meets_any r [] = false
meets_any r (s ∷ l) = elim (meets r s) [ true ↦ true | false ↦ meets_any r l ]

-- a record with x and l, ascending, for its members that remain: "it shrinks to the first and last that remain (an
-- accurate one keeps its stride; an approximate one gives up ownership)"
unfoldable pub shrunk_to : Record → ℕ → List ℕ → Record
shrunk_to r x l = record {
  start = x;
  span = last_of x l - x;
  word = r.word;
  intercept = r.intercept;
  owned = elim (is_approximate (kind r)) [ true ↦ x ∷ l | false ↦ [] ];
}

unfoldable pub shrunk_to_any : Record → List ℕ → Option Record
shrunk_to_any r [] = none
shrunk_to_any r (x ∷ l) = some (shrunk_to r x l)

-- the record without its members that pass the test, "or goes if none is left"
unfoldable pub shrink : (ℕ → Bool) → Record → Option Record
shrink lost r = shrunk_to_any r (select (λ o. member r o && not (lost o)) 256 0)

-- a record that may be gone, in front of a level
unfoldable pub keep : Option Record → Level → Level
keep none l = l
keep (some r) l = r ∷ l

-- "every other approximate record of the group gives up the offsets that r takes": in one level
unfoldable pub give_up : (ℕ → Bool) → Level → Level
give_up lost [] = []
give_up lost (s ∷ l) = elim (is_approximate (kind s)) [ true ↦ keep (shrink lost s) (give_up lost l) | false ↦ s ∷ give_up lost l ]

-- "if r is approximate", in every level
unfoldable pub give_up_all : Record → Group → Group
give_up_all r g = elim (is_approximate (kind r)) [ true ↦ map (give_up (member r)) g | false ↦ g ]

-- "A level other than 0 vanishes as soon as it is empty": the levels that hold a record
unfoldable pub filled : Group → Group
filled [] = []
filled ([] ∷ g) = filled g
filled ((r ∷ l) ∷ g) = (r ∷ l) ∷ filled g

-- r into a level, ascending
unfoldable pub into : Record → Level → Level
into r [] = r ∷ []
into r (s ∷ l) = elim (ltb r.start s.start) [ true ↦ r ∷ s ∷ l | false ↦ s ∷ into r l ]

-- What becomes of a level 0 record under r: it stays there, perhaps shrunk; it sinks a level, shrunk; it goes.
pub data Fate : Type 0 where
  stays : Record → Fate
  sinks : Record → Fate
  goes : Fate

-- "If its range still meets r's, it moves" down
unfoldable pub fate_left : Record → Option Record → Fate
fate_left r none = goes
fate_left r (some s) = elim (meets s r) [ true ↦ sinks s | false ↦ stays s ]

-- "each level 0 record whose range meets r's .. loses the members that r has"
unfoldable pub fate : Record → Record → Fate
fate r s = elim (meets s r) [ true ↦ fate_left r (shrink (member r) s) | false ↦ stays s ]

unfoldable pub staying : Fate → Level → Level
staying (stays s) l = s ∷ l
staying (sinks s) l = l
staying goes l = l

unfoldable pub sinking : Fate → List Record → List Record
sinking (stays s) l = l
sinking (sinks s) l = s ∷ l
sinking goes l = l

-- level 0's records that stay there under r, and those that sink, each ascending
unfoldable pub stayers : Record → Level → Level
stayers r [] = []
stayers r (s ∷ l) = staying (fate r s) (stayers r l)

unfoldable pub sinkers : Record → Level → List Record
sinkers r [] = []
sinkers r (s ∷ l) = sinking (fate r s) (sinkers r l)

-- "it moves to level 1 when it meets nothing there; otherwise a new level holding it goes between": the levels from 1 on
unfoldable pub sink : Record → Group → Group
sink s [] = (s ∷ []) ∷ []
sink s (l ∷ g) = elim (meets_any s l) [ true ↦ (s ∷ []) ∷ l ∷ g | false ↦ into s l ∷ g ]

-- one after the other, so that the second looks at the level that the first may have made
unfoldable pub sink_all : List Record → Group → Group
sink_all [] g = g
sink_all (s ∷ l) g = sink_all l (sink s g)

-- r at level 0, once the approximate records have given up its offsets
unfoldable pub insert_top : Record → Group → Group
insert_top r [] = (r ∷ []) ∷ []
insert_top r (l ∷ g) = into r (stayers r l) ∷ sink_all (sinkers r l) (filled g)

-- "To insert a record r at level 0"
unfoldable pub insert : Record → Group → Group
insert r g = insert_top r (give_up_all r g)

unfoldable pub insert_all : List Record → Group → Group
insert_all [] g = g
insert_all (r ∷ l) g = insert_all l (insert r g)

-- a member of some record of the list
unfoldable pub member_of_any : List Record → ℕ → Bool
member_of_any [] o = false
member_of_any (r ∷ l) o = member r o || member_of_any l o

-- Compaction: "each record shrinks in the same way by all members of records above it, or goes."
unfoldable pub shrink_all : List Record → List Record → List Record
shrink_all above [] = []
shrink_all above (r ∷ l) = keep (shrink (member_of_any above) r) (shrink_all (r ∷ above) l)

-- a level's depth, from that of what lies below it and whether the record meets it
unfoldable pub depth_over : ℕ → Bool → ℕ
depth_over zero true = 1
depth_over zero false = 0
depth_over (suc n) t = suc (suc n)

-- "level 0 if it meets no record already put back, else one below the lowest that it meets"
unfoldable pub depth : Record → Group → ℕ
depth r [] = 0
depth r (l ∷ g) = depth_over (depth r g) (meets_any r l)

unfoldable pub put_at : ℕ → Record → Group → Group
put_at n r [] = (r ∷ []) ∷ []
put_at zero r (l ∷ g) = into r l ∷ g
put_at (suc n) r (l ∷ g) = l ∷ put_at n r g

-- "from the top down and ascending, each gets" its level in g
unfoldable pub put_back : List Record → Group → Group
put_back [] g = g
put_back (r ∷ l) g = put_back l (put_at (depth r g) r g)

unfoldable pub compact : Group → Group
compact g = put_back (shrink_all [] (listing g)) []

-- "A group holds 512 records."
abbrev pub group_limit : ℕ
group_limit = 512

-- "If a group's records and the batch's for it are together more, it is compacted first"
unfoldable pub take_in : List Record → Group → Group
take_in rs g = insert_all rs (elim (ltb group_limit (record_count g + length rs)) [ true ↦ compact g | false ↦ g ])

-- "The learned records are handed to the table as one list": each group, from group k on, takes in its own of them
unfoldable pub take_in_all : ℕ → List Run → List Group → List Group
take_in_all k rs [] = []
take_in_all k rs (g ∷ gs) = take_in (records_for k rs) g ∷ take_in_all (suc k) rs gs

-- What a lookup meets: "the first record having the offset as a member", in listing order
unfoldable pub holder : ℕ → List Record → Option Record
holder o [] = none
holder o (r ∷ l) = or_else (member r o) r (holder o l)

-- "how many levels were looked at": down to the one that holds such a record, or all of them
unfoldable pub levels_to : ℕ → Group → ℕ
levels_to o [] = 0
levels_to o (l ∷ g) = elim (member_of_any l o) [ true ↦ 1 | false ↦ suc (levels_to o g) ]
