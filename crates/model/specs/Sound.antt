-- Document 01, 'Levels', its last paragraph: when a group is sound, and a state. Assumes nothing.
use Rattle.std.specs.Prelude.{List, [], ◌∷◌, ◌++◌, Bool, true, false, ◌&&◌, ℕ, suc, ◌+◌, ◌*◌, ◌%◌, ltb, leb, eqb}
use Rattle.model.specs.Lists.{all, distinct, ascending, last_of}
use Rattle.model.specs.Record.{Record, Kind, single, accurate, approximate, kind, end}
use Rattle.model.specs.Levels.{Level, Group, listing, record_count, group_limit}
use Rattle.model.specs.State.{State}

unfoldable pub is_empty : {A : Type 0} → List A → Bool
is_empty [] = true
is_empty (x ∷ l) = false

unfoldable pub is_filled : {A : Type 0} → List A → Bool
is_filled [] = false
is_filled (x ∷ l) = true

-- "S and S + L are always the first and last members": of the offsets that an approximate record owns
unfoldable pub owns_its_ends : Record → List ℕ → Bool
owns_its_ends r [] = false
owns_its_ends r (x ∷ l) = ascending (x ∷ l) && eqb x r.start && eqb (last_of x l) (end r)

-- "words as tabled, L a multiple of d", a single's L 0; only an approximate record owns offsets
unfoldable pub sound_as : Kind → Record → Bool
sound_as single r = eqb r.span 0 && is_empty r.owned
sound_as (accurate d) r = leb d 255 && eqb (r.span % d) 0 && is_empty r.owned
sound_as (approximate a) r = leb a 256 && owns_its_ends r r.owned

-- "S + L at most 255 and inside N": of a record of group k
unfoldable pub sound_record : ℕ → ℕ → Record → Bool
sound_record N k r = leb (end r) 255 && ltb (256 * k + end r) N && sound_as (kind r) r

-- "levels ordered as above": records ascend from offset o on and their ranges don't meet
unfoldable pub ordered : ℕ → Level → Bool
ordered o [] = true
ordered o (r ∷ l) = leb o r.start && ordered (suc (end r)) l

-- the offsets that records own, one record's after the other's
unfoldable pub owned_offsets : List Record → List ℕ
owned_offsets [] = []
owned_offsets (r ∷ l) = r.owned ++ owned_offsets l

-- "A group is sound if: at most 512 records, no empty level, S + L at most 255 and inside N, words as tabled, L a multiple
-- of d, levels ordered as above, and the ownership rules met": "owned by at most one approximate record".
unfoldable pub sound_group : ℕ → ℕ → Group → Bool
sound_group N k g =
    leb (record_count g) group_limit
    && all is_filled g
    && all (sound_record N k) (listing g)
    && all (ordered 0) g
    && distinct (owned_offsets (listing g))

-- the groups from k on
unfoldable pub sound_groups : ℕ → ℕ → List Group → Bool
sound_groups N k [] = true
sound_groups N k (g ∷ gs) = sound_group N k g && sound_groups N (suc k) gs

-- "A state is sound if all groups are and no block's count exceeds B."
unfoldable pub sound_state : State → Bool
sound_state s = sound_groups s.device.N 0 s.groups && all (λ c. leb c s.device.B) s.counts
