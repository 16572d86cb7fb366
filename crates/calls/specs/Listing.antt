-- Listing a group, the listing program's operation 6: "6 takes a group, refuses as compaction and prints the head line, then levels
-- downward, each ascending". What is printed is read from the bytes that the call writes. Assumes nothing.
use Rattle.std.specs.Prelude.{List, [], ◌∷◌, ◌++◌, ℕ, suc, ◌*◌}
use Rattle.model.specs.Lists.{store}
use Rattle.model.specs.Record.{Record}
use Rattle.model.specs.Levels.{Level, Group, group_limit, record_count}
use Rattle.model.specs.State.{group_at}
use Rattle.octets.specs.Little.{bits32, bytes2, bytes4}
use Rattle.calls.specs.Refusals.{Check, ◌when◌, bad_length, wrong_length, opening}
use Rattle.calls.specs.Outcome.{Lent, with_out, listed, Outcome}
use Rattle.calls.specs.Compaction.{group_checks}

-- "Eight bytes, little-endian: start S (1), span L (1), word (2), intercept I (4)"
unfoldable pub record_bytes : Record → List ℕ
record_bytes r = r.start ∷ r.span ∷ (bytes2 r.word ++ bytes4 (bits32 r.intercept))

-- the records of level n, each with its level in two bytes behind it
unfoldable pub level_bytes : ℕ → Level → List ℕ
level_bytes n [] = []
level_bytes n (r ∷ l) = record_bytes r ++ bytes2 n ++ level_bytes n l

-- "levels downward, each ascending", from level n on
unfoldable pub group_bytes : ℕ → Group → List ℕ
group_bytes n [] = []
group_bytes n (l ∷ g) = level_bytes n l ++ group_bytes (suc n) g

-- what is lent for it: ten bytes for each of 512 records
abbrev pub listing_length : ℕ
listing_length = 10 * group_limit

-- "refuses as compaction"
unfoldable pub list_checks : ℕ → Lent → List Check
list_checks k x = opening x.state ++ (bad_length when wrong_length x.out listing_length ∷ group_checks k x.state)

-- how many records there are, and their bytes at the start of what is lent, whose rest stays
unfoldable pub list_done : ℕ → Lent → Outcome
list_done k x = record { answer = listed (record_count (group_at x.state k)); after = with_out (store x.out 0 (group_bytes 0 (group_at x.state k))) x }
