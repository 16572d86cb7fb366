-- Insertion and compaction keep a group sound, and so does taking in a batch's records. Assumes nothing.
use mathlib.Core.Path.{◌≡◌, refl, sym}
use mathlib.Core.List.{List, [], ◌∷◌}
use mathlib.Core.Bool.{true≢false, Bool, true, false, ◌&&◌}
use Prim.Native.Nat.{ℕ, zero, suc, ◌+◌, ◌≤◌, ◌<◌}
use native.Mathlib.Omega.{arith}
use lib.Dec.{ltb, leb}
use lib.ListN.{length}
use borrow.Author.Tests.{leb-true, ltb-false, le-leb}
use Rattle.model.specs.Lists.{all, distinct}
use Rattle.model.specs.Record.{Record}
use Rattle.model.specs.Levels.{Level, Group, listing, record_count, group_limit, meets_any, give_up_all, filled, into, stayers, sinkers, sink, sink_all, insert_top, insert, insert_all, shrink_all, depth, put_at, put_back, compact, take_in}
use Rattle.model.specs.Sound.{is_filled, sound_record, ordered, owned_offsets, sound_group}
use Rattle.model.proofs.Bools.{and_i, all_head, all_tail, all_cons}
use Rattle.model.proofs.Order.{Chains, sound-within, sound-chains, chains-ordered, insert-chains, compact-chains}
use Rattle.model.proofs.SoundRecords.{insert-records, compact-records}
use Rattle.model.proofs.Owners.{insert-owners, compact-owners}
use Rattle.model.proofs.RecordCount.{insert-count, compact-count}

into-filled : (r : Record) (l : Level) → is_filled (into r l) ≡ true
unfolding into is_filled
into-filled r [] = refl
into-filled r (s ∷ l) = go (ltb r.start s.start) refl
  where
    go : (t : Bool) → ltb r.start s.start ≡ t → is_filled (into r (s ∷ l)) ≡ true
    go true e = rw (e, into) refl
    go false e = rw (e, into) refl

filled_all : (g : Group) → all is_filled (filled g) ≡ true
unfolding filled all is_filled
filled_all [] = refl
filled_all ([] ∷ g) = filled_all g
filled_all ((r ∷ l) ∷ g) = filled_all g

sink-filled : (s : Record) (g : Group) → all is_filled g ≡ true → all is_filled (sink s g) ≡ true
unfolding sink all is_filled
sink-filled s [] h = refl
sink-filled s (l ∷ g) h = go (meets_any s l) refl
  where
    go : (t : Bool) → meets_any s l ≡ t → all is_filled (sink s (l ∷ g)) ≡ true
    go true e = rw (e, sink) h
    go false e = rw (e, sink) (all_cons is_filled (into s l) g (into-filled s l) (all_tail is_filled l g h))

-- Records that sink leave no level empty.
pub sink_all-filled : (l : List Record) (g : Group) → all is_filled g ≡ true → all is_filled (sink_all l g) ≡ true
unfolding sink_all
sink_all-filled [] g h = h
sink_all-filled (s ∷ l) g h = sink_all-filled l (sink s g) (sink-filled s g h)

insert_top-filled : (r : Record) (g : Group) → all is_filled (insert_top r g) ≡ true
unfolding insert_top all is_filled
insert_top-filled r [] = refl
insert_top-filled r (l ∷ g) =
    all_cons is_filled (into r (stayers r l)) (sink_all (sinkers r l) (filled g)) (into-filled r (stayers r l)) (sink_all-filled (sinkers r l) (filled g) (filled_all g))

-- Insertion leaves no level empty.
pub insert-filled : (r : Record) (g : Group) → all is_filled (insert r g) ≡ true
unfolding insert
insert-filled r g = insert_top-filled r (give_up_all r g)

put_at-filled : (n : ℕ) (r : Record) (g : Group) → all is_filled g ≡ true → all is_filled (put_at n r g) ≡ true
unfolding put_at all is_filled
put_at-filled n r [] h = refl
put_at-filled zero r (l ∷ g) h = all_cons is_filled (into r l) g (into-filled r l) (all_tail is_filled l g h)
put_at-filled (suc n) r (l ∷ g) h =
    all_cons is_filled l (put_at n r g) (all_head is_filled l g h) (put_at-filled n r g (all_tail is_filled l g h))

put_back-filled : (l : List Record) (g : Group) → all is_filled g ≡ true → all is_filled (put_back l g) ≡ true
unfolding put_back
put_back-filled [] g h = h
put_back-filled (r ∷ l) g h = put_back-filled l (put_at (depth r g) r g) (put_at-filled (depth r g) r g h)

-- Compaction leaves no level empty.
pub compact-filled : (g : Group) → all is_filled (compact g) ≡ true
unfolding compact all
compact-filled g = put_back-filled (shrink_all [] (listing g)) [] refl

-- The parts of a group's soundness.
pub record SoundGroup (N k : ℕ) (g : Group) : Type 0 where
  pub limit : record_count g ≤ 512
  pub filled : all is_filled g ≡ true
  pub records : all (sound_record N k) (listing g) ≡ true
  pub ordered : all (ordered 0) g ≡ true
  pub owners : distinct (owned_offsets (listing g)) ≡ true

five : (a b c d e : Bool) → (a && b && c && d && e) ≡ true → (a ≡ true) × (b ≡ true) × (c ≡ true) × (d ≡ true) × (e ≡ true)
five true true true true e h = (refl, refl, refl, refl, h)
five true true true false e h = absurd (true≢false (sym h))
five true true false d e h = absurd (true≢false (sym h))
five true false c d e h = absurd (true≢false (sym h))
five false b c d e h = absurd (true≢false (sym h))

-- A group that passes the test has the parts.
pub group-parts : (N k : ℕ) (g : Group) → sound_group N k g ≡ true → SoundGroup N k g
unfolding sound_group
group-parts N k g h =
    let p = five (leb (record_count g) group_limit) (all is_filled g) (all (sound_record N k) (listing g)) (all (ordered 0) g) (distinct (owned_offsets (listing g))) h in
    record { limit = leb-true _ _ p.0; filled = p.1; records = p.2; ordered = p.3; owners = p.4 }

-- A group that has the parts passes the test.
pub parts-group : (N k : ℕ) (g : Group) → SoundGroup N k g → sound_group N k g ≡ true
unfolding sound_group
parts-group N k g s =
    and_i _ _ (and_i _ _ (and_i _ _ (and_i _ _ (le-leb _ _ s.limit) s.filled) s.records) s.ordered) s.owners

-- The levels of a sound group are in order.
pub sound-levels : (N k : ℕ) (g : Group) → sound_group N k g ≡ true → Chains g
sound-levels N k g h = let s = group-parts N k g h in sound-chains N k g s.ordered s.records

-- Insertion of a sound record keeps a group sound if there is room.
pub insert-sound : (N k : ℕ) (r : Record) (g : Group) → sound_group N k g ≡ true → sound_record N k r ≡ true → record_count g < 512 → sound_group N k (insert r g) ≡ true
insert-sound N k r g h q m =
    let s = group-parts N k g h in
    parts-group N k (insert r g) (record {
      limit = omega (arith, insert-count r g);
      filled = insert-filled r g;
      records = insert-records N k r g q s.records;
      ordered = chains-ordered (insert r g) (insert-chains r g (sound-within N k r q) (sound-levels N k g h));
      owners = insert-owners N k r g q s.records s.owners;
    })

-- Insertion of sound records, one after the other, does if there is room for all.
pub insert_all-sound : (N k : ℕ) (rs : List Record) (g : Group) → sound_group N k g ≡ true → all (sound_record N k) rs ≡ true → record_count g + length rs ≤ 512 → sound_group N k (insert_all rs g) ≡ true
unfolding insert_all
insert_all-sound N k [] g h a m = h
insert_all-sound N k (r ∷ rs) g h a m =
    insert_all-sound N k rs (insert r g) (insert-sound N k r g h (all_head (sound_record N k) r rs a) (omega arith)) (all_tail (sound_record N k) r rs a) (omega (arith, insert-count r g))

-- Compaction keeps a group sound.
pub compact-sound : (N k : ℕ) (g : Group) → sound_group N k g ≡ true → sound_group N k (compact g) ≡ true
compact-sound N k g h =
    let s = group-parts N k g h in
    parts-group N k (compact g) (record {
      limit = omega (arith, compact-count g);
      filled = compact-filled g;
      records = compact-records N k g s.records;
      ordered = chains-ordered (compact g) (compact-chains g (sound-levels N k g h));
      owners = compact-owners N k g s.records s.owners;
    })

-- Taking in at most 256 sound records keeps a group sound.
pub take_in-sound : (N k : ℕ) (rs : List Record) (g : Group) → sound_group N k g ≡ true → all (sound_record N k) rs ≡ true → length rs ≤ 256 → sound_group N k (take_in rs g) ≡ true
unfolding take_in
take_in-sound N k rs g h a m = go (ltb group_limit (record_count g + length rs)) refl
  where
    go : (t : Bool) → ltb group_limit (record_count g + length rs) ≡ t → sound_group N k (take_in rs g) ≡ true
    go true e = rw (e, take_in) (insert_all-sound N k rs (compact g) (compact-sound N k g h) a (omega (arith, compact-count g)))
    go false e = rw (e, take_in) (insert_all-sound N k rs g h a (ltb-false _ _ e))
