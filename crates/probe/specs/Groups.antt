-- What the functions on one group's bytes answer, where their conditions are met and where they aren't. Assumes nothing.
use Rattle.std.specs.Prelude.{◌≡◌, List, Bool, true, false, not, ◌&&◌, ℕ, zero, suc, ◌+◌, ◌*◌, ◌<◌, ltb, leb, eqb, length, get_or}
use Rattle.std.proofs.Math.Option.{Option, none, some}
use Rattle.model.specs.Device.{group_length}
use Rattle.model.specs.Record as model
use Rattle.model.specs.Record.{covers, member}
use Rattle.model.specs.Levels.{listing, record_count, holder, levels_to, insert, compact, group_limit}
use Rattle.model.specs.Sound.{sound_record, sound_group}
use Rattle.record.specs.declared.Record.{Record}
use Rattle.record.specs.Coding.{record_width, record_at}
use Rattle.record.specs.Scan.{masked}
use Rattle.group.specs.Layout.{offsets}
use Rattle.group.specs.Reading.{read_group, every_from, record_of}
use Rattle.group.specs.Checking.{end_of}

-- the answer to arguments that don't meet a function's condition: 2^64 − 1
abbrev pub outside : ℕ
outside = 18446744073709551615

-- an answer where the condition is met
unfoldable pub answer_if : Bool → ℕ → ℕ
answer_if true n = n
answer_if false n = outside

unfoldable pub bit : Bool → ℕ
bit true = 1
bit false = 0

-- Whether the bytes are a sound group k of n logical pages; asked of a group's bytes, for a k up to 4,096.
unfoldable pub soundness : List ℕ → ℕ → ℕ → ℕ
soundness b n k = answer_if (eqb (length b) group_length && leb k 4096) (bit (sound_group n k (read_group b)))

-- the bytes are a sound group 0, with all its logical pages
unfoldable pub is_sound : List ℕ → Bool
is_sound b = eqb (length b) group_length && sound_group offsets 0 (read_group b)

-- the places of a search's values
abbrev pub bit16 : ℕ
bit16 = 65536

abbrev pub bit40 : ℕ
bit40 = 1099511627776

abbrev pub bit56 : ℕ
bit56 = 72057594037927936

-- what was found: found × 2^56 + levels × 2^40 + start × 2^16 + word
unfoldable pub hit : Option model.Record → ℕ → ℕ
hit none n = n * bit40
hit (some r) n = bit56 + n * bit40 + r.start * bit16 + r.word

-- The first record that has offset o, and the levels looked at; asked of a sound group, for one of its offsets.
unfoldable pub finding : List ℕ → ℕ → ℕ
finding b o = answer_if (is_sound b && ltb o offsets) (hit (holder o (listing (read_group b))) (levels_to o (read_group b)))

-- The group compacted, and its records left; asked of a sound group.
unfoldable pub Compacts : Bool → List ℕ → List ℕ → ℕ → Type 0
Compacts true b b' r = (read_group b' ≡ compact (read_group b)) × (r ≡ record_count (compact (read_group b)))
Compacts false b b' r = (b' ≡ b) × (r ≡ outside)

-- the owners in a group that holds the record alone: itself, at the offsets of the mask
unfoldable pub owner_if : Bool → ℕ → ℕ
owner_if true start = suc start
owner_if false start = 0

abbrev pub owners_by : List ℕ → Record → ℕ → ℕ
owners_by m r o = owner_if (masked m o) r.start

-- the record, an approximate one with the offsets of the mask as its own
abbrev pub record_by : List ℕ → Record → model.Record
record_by m r = record_of (owners_by m r) (record { level = 0; held = r })

-- at offset o the mask is 1 if that is a member of the record, else 0
unfoldable pub masks : List ℕ → Record → ℕ → Bool
masks m r o = eqb (get_or m o 0) (bit (member (record_by m r) o))

-- the record is one that a sound group may have, and the mask has its members
unfoldable pub fitting : List ℕ → Record → Bool
fitting m r = sound_record offsets 0 (record_by m r) && every_from (masks m r) offsets 0

-- a sound group that isn't full
unfoldable pub has_room : List ℕ → Bool
has_room b = is_sound b && ltb (record_count (read_group b)) group_limit

-- a record's bytes and a mask for it
unfoldable pub insertable : List ℕ → List ℕ → List ℕ → Bool
insertable b e m = has_room b && eqb (length e) record_width && eqb (length m) offsets && fitting m (record_at e 0)

-- The record inserted, and the records after; asked of an insertable one.
unfoldable pub Inserts : Bool → List ℕ → List ℕ → List ℕ → List ℕ → ℕ → Type 0
Inserts true b e m b' r =
    (read_group b' ≡ insert (record_by m (record_at e 0)) (read_group b)) × (r ≡ record_count (insert (record_by m (record_at e 0)) (read_group b)))
Inserts false b e m b' r = (b' ≡ b) × (r ≡ outside)

-- How the condition is tested. At offset o, by the mask's byte: 0 and no member, or 1 and a member in the range.
unfoldable pub tested_as : ℕ → Bool → Bool → Bool
tested_as zero is_member isCovered = not is_member
tested_as (suc zero) is_member isCovered = isCovered && is_member
tested_as (suc (suc n)) is_member isCovered = false

abbrev pub tested : List ℕ → Record → ℕ → Bool
tested m r o = tested_as (get_or m o 0) (member (record_by m r) o) (covers (record_by m r) o)

-- the mask has offset o, one of s to e
abbrev pub masked_in : List ℕ → ℕ → ℕ → ℕ → Bool
masked_in m s e o = (leb s o && leb o e) && masked m o

-- a mask with 1 exactly where the test holds
abbrev pub Expected : (ℕ → Bool) → List ℕ → Type 0
Expected t l = (length l ≡ offsets) × ((o : ℕ) → o < offsets → get_or l o 0 ≡ bit (t o))

-- and the mask has the first and last offset of an approximate record
unfoldable pub ends_masked : Bool → List ℕ → Record → Bool
ends_masked false m r = true
ends_masked true m r = masked m r.start && masked m (end_of r)
