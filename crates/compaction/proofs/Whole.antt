-- A sound group's bytes before and after the pass, and at the end, when they hold the compacted group. Assumes nothing.
use mathlib.Core.Path.{◌≡◌, refl, sym, ◌∙◌, ap}
use mathlib.Core.List.{List, [], ◌∷◌, ◌++◌, map, flatten, append-nil}
use mathlib.Core.Bool.{true≢false, true, not}
use Prim.Native.Nat.{ℕ, zero, suc, ◌+◌, ◌-◌, ◌≤◌, ◌<◌}
use native.Mathlib.Omega.{arith}
use lib.Dec.{eqb}
use lib.ListN.{length, get_or, take, length-map, length-append, get_or-map, replicate, length-replicate, get_or-replicate}
use lib.Seq.{get_or-take, get_or-append-add}
use Rattle.model.specs.Device.{group_length}
use Rattle.model.specs.Lists.{all}
use Rattle.model.specs.Record.{Record}
use Rattle.model.specs.Levels.{Level, Group, listing, record_count, member_of_any, shrink_all, depth, put_back, compact}
use Rattle.model.specs.Sound.{is_filled, sound_record}
use Rattle.model.specs.Totals.{total, owns, OwnedOnce}
use Rattle.model.proofs.Bools.{all_head, all_tail, all_cons}
use Rattle.model.proofs.Total.{total-put_back}
use Rattle.model.proofs.Owners.{once_of}
use Rattle.model.proofs.RecordCount.{compact-count}
use Rattle.model.proofs.SoundRecord.{record_parts, parts_record}
use Rattle.model.proofs.SoundGroup.{SoundGroup, group-parts, sound-levels, compact-sound}
use Rattle.record.specs.Read.{bare}
use Rattle.group.specs.declared.Slot.{Slot}
use Rattle.group.specs.Layout.{offsets, slot_of, slots_from, slots_of, owner_of}
use Rattle.group.specs.Answers.{no_slot}
use Rattle.group.specs.Cutting.{Placed, in_level, flat_from, flat}
use Rattle.group.specs.Held.{slot_for, slots_for, owner_among, Held}
use Rattle.group.specs.Reading.{read_group}
use Rattle.group.proofs.Slots.{length-slots_of}
use Rattle.group.proofs.Holding.{length-slots_for, sound-held, held-read}
use Rattle.slots.specs.View.{Room, Shows}
use Rattle.insertion.specs.Slots as insertion
use Rattle.insertion.specs.Shown.{weight}
use Rattle.insertion.proofs.Weights.{among-total}
use Rattle.insertion.proofs.ListWrites.{all_at}
use Rattle.insertion.proofs.Count.{records-flat, length-flat, levels-few}
use Rattle.compaction.specs.Levels.{point, arrivals}
use Rattle.compaction.specs.Order.{key, rank, keys_ascend}
use Rattle.compaction.specs.Ordering.{Sortable, Orderable, Sorted}
use Rattle.compaction.specs.Passing.{Passing, Starting, Compactable}
use Rattle.compaction.proofs.Ranks.{rank_less, rank_most}
use Rattle.compaction.proofs.Arrivals.{arrival_level, arrival_start, arrivals-length, keys-flat, made-length, ranks_make}
use Rattle.compaction.proofs.Starts.{start_at, starts_differ}
use Rattle.compaction.proofs.OneLevel.{compact-level}

-- the slots from i on, some of them and all
from_length : (b : List ℕ) (i n : ℕ) → length (slots_from b i n) ≡ n
unfolding slots_from
from_length b i zero = refl
from_length b i (suc n) = ap suc (from_length b (suc i) n)

from_take : (b : List ℕ) (i m n : ℕ) → m ≤ n → take m (slots_from b i n) ≡ slots_from b i m
unfolding slots_from
from_take b i zero n h = refl
from_take b i (suc m) zero h = absurd (omega arith)
from_take b i (suc m) (suc n) h = ap (λ (l : List Slot). slot_of b i ∷ l) (from_take b (suc i) m n (omega arith))

-- sound in its group, sound in some group
anywhere : (n k : ℕ) (l : List Record) → all (sound_record n k) l ≡ true → all (sound_record 256 0) l ≡ true
unfolding all
anywhere n k [] h = refl
anywhere n k (r ∷ l) h =
    let p = record_parts n k r (all_head (sound_record n k) r l h) in
    all_cons (sound_record 256 0) r l (parts_record 256 0 r (record { byte = p.byte; inside = omega (arith, p.byte); shape = p.shape })) (anywhere n k l (all_tail (sound_record n k) r l h))

-- the level of a group's last slot
tag-level : (k : ℕ) (l : Level) (q : List Placed) (i : ℕ) → i < length l → (get_or (map (in_level k) l ++ q) i insertion.no_slot).level ≡ k
tag-level k [] q i h = absurd (omega arith)
tag-level k (r ∷ l) q zero h = refl
tag-level k (r ∷ l) q (suc i) h = tag-level k l q i (omega arith)

last_level : (k : ℕ) (g : Group) (i : ℕ) → all is_filled g ≡ true → suc i ≡ length (flat_from k g) → suc (get_or (flat_from k g) i insertion.no_slot).level ≡ k + length g
unfolding flat_from is_filled
last_level k [] i f h = absurd (omega arith)
last_level k (l ∷ []) i f h =
    let n : length (map (in_level k) l ++ []) ≡ length l = omega (arith, length-append (map (in_level k) l) [], length-map l (in_level k)) in
    omega (arith, tag-level k l [] i (omega arith))
last_level k (l ∷ [] ∷ g) i f h = absurd (true≢false (sym (all_head is_filled [] g (all_tail is_filled l ([] ∷ g) f))))
last_level k (l ∷ (r ∷ m) ∷ g) i f h =
    let q : List Placed = flat_from (suc k) ((r ∷ m) ∷ g) in
    let j : ℕ = length (map (in_level (suc k)) m ++ flat_from (suc (suc k)) g) in
    let place : i ≡ length (map (in_level k) l) + j = omega (arith, length-append (map (in_level k) l) q) in
    omega (arith, ap (λ (x : ℕ). (get_or (map (in_level k) l ++ q) x insertion.no_slot).level) place, ap (λ (p : Placed). p.level) (get_or-append-add (map (in_level k) l) q j insertion.no_slot), last_level (suc k) ((r ∷ m) ∷ g) j (all_tail is_filled l ((r ∷ m) ∷ g) f) refl)

-- the bytes b of a group of m records
module _ {b : List ℕ} (ok : Compactable b) {m : ℕ} (used : m ≡ length (slots_of b)) where
  abbrev g : Group
  g = read_group b

  held : Held b g
  held = sound-held ok.N ok.number b ok.sound

  parts : SoundGroup ok.N ok.number g
  parts = group-parts ok.N ok.number g ok.sound

  records-sound : all (sound_record 256 0) (listing g) ≡ true
  records-sound = anywhere ok.N ok.number (listing g) parts.records

  count_is : m ≡ record_count g
  count_is = used ∙ ap (λ (l : List Slot). length l) held.slots ∙ length-map (flat g) slot_for ∙ length-flat g

  slot_at : (i : ℕ) → get_or (slots_of b) i no_slot ≡ slot_for (get_or (flat g) i insertion.no_slot)
  slot_at i = ap (λ (l : List Slot). get_or l i no_slot) held.slots ∙ get_or-map slot_for (flat g) i insertion.no_slot

  -- The last slot is one of them.
  pub last_there : (m ≡ 0 → ⊥) → Room b × (m - 1 < length (slots_of b))
  last_there some = ((ok.size, omega (arith, count_is, parts.limit)), omega arith)

  -- A group of one level, or none, stays.
  one_level : length g ≤ 1 → (length b ≡ group_length) × (g ≡ compact g) × (m ≡ record_count (compact g))
  one_level few =
      let same : g ≡ compact g = sym (compact-level g few (sound-levels ok.N ok.number g ok.sound) parts.filled records-sound) in
      (ok.size, same, count_is ∙ ap record_count same)

  pub none_left : m ≡ 0 → (length b ≡ group_length) × (g ≡ compact g) × (m ≡ record_count (compact g))
  none_left none = one_level (omega (arith, levels-few g parts.filled, count_is, length-flat g))

  pub top_only : (m ≡ 0 → ⊥) → (k : ℕ) → k ≡ (get_or (slots_of b) (m - 1) no_slot).level → k ≡ 0 → (length b ≡ group_length) × (g ≡ compact g) × (m ≡ record_count (compact g))
  top_only some k is none =
      let last : suc (get_or (flat g) (m - 1) insertion.no_slot).level ≡ 0 + length g = last_level 0 g (m - 1) parts.filled (omega (arith, count_is, length-flat g)) in
      let level : (get_or (flat g) (m - 1) insertion.no_slot).level ≡ 0 = ap (λ (s : Slot). s.level) (sym (slot_at (m - 1))) ∙ sym is ∙ none in
      one_level (omega arith)

  -- The bytes c, with all slots read: the pass starts.
  once : OwnedOnce (listing g)
  once = once_of (listing g) parts.owners

  pass_start : (c : List ℕ) → Shows c (slots_from b 0 512) (owner_of b) → Passing g c (replicate 256 0) (replicate 256 0) 0 0
  unfolding arrivals shrink_all member_of_any depth put_back record_count slots_of all
  pass_start c shows = record {
    kept = [];
    passed = [];
    rest = listing g;
    full = (shows.0, ap (λ (l : List Slot). length l) shows.1 ∙ from_length b 0 512);
    first = refl;
    behind = behind';
    place = refl;
    low = omega arith;
    count = omega arith;
    limit = parts.limit;
    owners = λ o h. shows.2 o h ∙ held.owners o h ∙ among-total o (listing g) (once o);
    kept-sound = refl;
    rest-sound = records-sound;
    once = once;
    same = refl;
    mask = length-replicate {A = ℕ} 256 0;
    members = λ o h. ap (λ (x : ℕ). not (eqb x 0)) (get_or-replicate 256 o 0 0 h);
    table = length-replicate {A = ℕ} 256 0;
    deeps = λ o h. get_or-replicate {A = ℕ} 256 o 0 0 h;
  }
    where
      read : take m (slots_from b 0 512) ≡ slots_of b
      read = from_take b 0 m 512 (omega (arith, count_is, parts.limit)) ∙ ap (slots_from b 0) (used ∙ length-slots_of b)

      behind' : (j : ℕ) → j < length (listing g) → (get_or (slots_of c) (0 + j) no_slot).held ≡ bare (get_or (listing g) j (point 0))
      behind' j h =
          let z : 0 + j ≡ j = omega arith in
          let is : get_or (slots_of c) j no_slot ≡ slot_for (get_or (flat g) j insertion.no_slot) =
          ap (λ (l : List Slot). get_or l j no_slot) shows.1
          ∙ sym (get_or-take m (slots_from b 0 512) j no_slot (omega (arith, count_is)))
          ∙ ap (λ (l : List Slot). get_or l j no_slot) read
          ∙ slot_at j in
          let item : (get_or (flat g) j insertion.no_slot).item ≡ get_or (listing g) j (point 0) =
          sym (get_or-map (λ (p : Placed). p.item) (flat g) j insertion.no_slot) ∙ ap (λ (l : List Record). get_or l j (point 0)) (records-flat g) in
          ap (λ (k : ℕ). (get_or (slots_of c) k no_slot).held) z ∙ ap (λ (s : Slot). s.held) is ∙ ap bare item

  pub starting : (c : List ℕ) → Shows c (slots_from b 0 512) (owner_of b) → Starting c (replicate 256 0) (replicate 256 0) m
  starting c shows = record { group = g; so = pass_start c shows; all = count_is }

  -- At the end of the pass the slots can be put in order,
  module _ (c d above deep : List ℕ) (n : ℕ) (shows : Shows c (slots_from b 0 512) (owner_of b))
      (settled : (h : Group) → Passing h c (replicate 256 0) (replicate 256 0) 0 0 → m ≡ record_count h → Passing h d above deep m n) where
    so : Passing g d above deep m n
    so = settled g (pass_start c shows) count_is

    all_passed : so.rest ≡ []
    all_passed = go so.rest so.count
      where
        go : (l : List Record) → m + length l ≡ record_count g → l ≡ []
        go [] e = refl
        go (r ∷ l) e = absurd (omega (arith, count_is))

    kept_is : so.kept ≡ shrink_all [] (listing g)
    unfolding shrink_all
    kept_is = sym (append-nil so.kept) ∙ ap (λ (l : List Record). so.kept ++ shrink_all so.passed l) (sym all_passed) ∙ so.same

    made : compact g ≡ put_back so.kept []
    unfolding compact
    made = ap (λ (l : List Record). put_back l []) (sym kept_is)

    left-count : n ≡ record_count (compact g)
    left-count = sym so.place ∙ sym (made-length so.kept) ∙ ap (λ (x : Group). length (slots_for x)) (sym made) ∙ length-slots_for (compact g)

    left-few : n ≤ 256
    left-few = omega (arith, left-count, compact-count g)

    put-long : length (arrivals [] so.kept) ≡ n
    put-long = arrivals-length so.kept [] ∙ so.place

    left-sortable : Sortable (take n (slots_of d))
    left-sortable = rw so.first (record {
      few = omega (arith, put-long, left-few);
      starts = λ i h. omega (arith, start_is i h, (record_parts 256 0 _ (all_at (sound_record 256 0) so.kept i (point 0) (inside i h) so.kept-sound)).byte);
      levels = λ i h. omega (arith, arrival_level so.kept [] i (inside i h), put-long, left-few);
      apart = λ i j h k e. same i j (inside i h) (inside j k) (sym (start_is i h) ∙ e ∙ start_is j k);
    })
      where
        inside : (i : ℕ) → i < length (arrivals [] so.kept) → i < length so.kept
        inside i h = omega (arith, put-long, so.place)

        start_is : (i : ℕ) → i < length (arrivals [] so.kept) → (get_or (arrivals [] so.kept) i no_slot).held.start ≡ start_at so.kept i
        start_is i h = arrival_start so.kept [] i (inside i h)

        differ : (i j : ℕ) → i < j → j < length so.kept → start_at so.kept i ≡ start_at so.kept j → ⊥
        differ = rw kept_is (starts_differ [] (listing g))

        same : (i j : ℕ) → i < length so.kept → j < length so.kept → start_at so.kept i ≡ start_at so.kept j → i ≡ j
        same i j h k e =
            let before : i < j → ⊥ = λ less. differ i j less k e in
            let behind : j < i → ⊥ = λ less. differ j i less h (sym e) in
            omega arith

    pub left_orderable : Orderable d n
    left_orderable = record { full = so.full; few = left-few; slots = left-sortable }

    pub left-fits : (e : List ℕ) → Sorted d e n → (length e ≡ group_length) × (n ≤ 512)
    left-fits e sorted = (sorted.full.0, omega (arith, left-few))

    -- and then, with those read, they hold the compacted group.
    pub compacted : (e f : List ℕ) → Sorted d e n → Shows f (slots_from e 0 n) (owner_of e) → (length f ≡ group_length) × (read_group f ≡ compact g) × (n ≡ record_count (compact g))
    unfolding slots_of total flatten
    compacted e f sorted shown =
        (shown.0, held-read ok.N ok.number f (compact g) (record { slots = slots'; owners = owners' }) (compact-sound ok.N ok.number g ok.sound), left-count)
      where
        put : List Slot
        put = arrivals [] so.kept

        out_is : slots_of f ≡ take n (slots_of e)
        out_is =
            shown.1
            ∙ sym (from_take e 0 n 512 (omega (arith, left-few)))
            ∙ ap (λ (k : ℕ). take n (slots_from e 0 k)) (sym (sym (length-slots_of e) ∙ sorted.full.1))

        ranked : (i : ℕ) → i < n → get_or (slots_of e) (rank (key (get_or put i no_slot)) put) no_slot ≡ get_or put i no_slot
        ranked = rw so.first at sorted.ranked

        at' : (i : ℕ) → i < length so.kept → get_or (slots_of f) (rank (key (get_or put i no_slot)) put) no_slot ≡ get_or put i no_slot
        at' i h =
            let own : ℕ = key (get_or put i no_slot) in
            let low : rank own put < n = omega (arith, rank_less put i (suc own) (omega (arith, put-long, so.place)) (omega arith), rank_most (suc own) put, put-long) in
            ap (λ (l : List Slot). get_or l (rank own put) no_slot) out_is ∙ get_or-take n (slots_of e) (rank own put) no_slot low ∙ ranked i (omega (arith, so.place))

        asc : keys_ascend 0 (slots_for (put_back so.kept [])) ≡ true
        asc =
            let sound = compact-sound ok.N ok.number g ok.sound in
            ap (λ (x : Group). keys_ascend 0 (slots_for x)) (sym made)
            ∙ keys-flat ok.N ok.number (compact g) (sound-levels ok.N ok.number (compact g) sound) (group-parts ok.N ok.number (compact g) sound).records

        slots' : slots_of f ≡ slots_for (compact g)
        slots' = ranks_make so.kept (slots_of f) (ap (λ (l : List Slot). length l) shown.1 ∙ from_length e 0 n ∙ sym so.place) at' asc ∙ ap slots_for (sym made)

        sum : (f : Record → ℕ) → total f (listing (compact g)) ≡ total f (so.kept ++ so.rest)
        sum f =
            ap (λ (x : Group). total f (listing x)) made
            ∙ total-put_back f so.kept []
            ∙ (let z : total f so.kept + 0 ≡ total f so.kept = omega arith in z)
            ∙ ap (total f) (sym (append-nil so.kept) ∙ ap (λ (l : List Record). so.kept ++ l) (sym all_passed))

        owners' : (o : ℕ) → o < offsets → owner_of f o ≡ owner_among o (listing (compact g))
        owners' o h =
            shown.2 o h
            ∙ sorted.owners o h
            ∙ so.owners o h
            ∙ sym (among-total o (listing (compact g)) (omega (arith, sum (owns o), so.once o)) ∙ sum (weight o))
