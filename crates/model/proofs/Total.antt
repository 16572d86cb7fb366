-- A number for each record, added up over a group's records: what insertion and compaction make of the sum. Assumes nothing.
use mathlib.Core.Path.{◌≡◌, refl, ap}
use mathlib.Core.List.{List, [], ◌∷◌, ◌++◌, map, flatten}
use mathlib.Core.Option.{Option, none, some}
use mathlib.Core.Bool.{Bool, true, false}
use Prim.Native.Nat.{ℕ, zero, suc, ◌+◌, ◌≤◌}
use native.Mathlib.Omega.{arith}
use lib.Dec.{ltb}
use Rattle.model.specs.Record.{Record, kind, is_approximate, member}
use Rattle.model.specs.Levels.{Level, Group, listing, meets, meets_any, shrink, keep, give_up, give_up_all, filled, into, Fate, stays, sinks, goes, fate_left, fate, staying, sinking, stayers, sinkers, sink, sink_all, insert_top, insert, insert_all, member_of_any, shrink_all, depth, put_at, put_back, compact}
use Rattle.model.specs.Totals.{total, indicator}

-- a shrunk record's number is at most the record's
abbrev pub Lessens : (Record → ℕ) → Type 0
Lessens m = (lost : ℕ → Bool) (r s : Record) → shrink lost r ≡ some s → m s ≤ m r

-- a test that implies another has at most its number
pub indicator_le : (a b : Bool) → (a ≡ true → b ≡ true) → indicator a ≤ indicator b
indicator_le true b f = rw (f refl) (omega arith)
indicator_le false b f = omega arith

listing-filled : (g : Group) → listing (filled g) ≡ listing g
unfolding filled flatten
listing-filled [] = refl
listing-filled ([] ∷ g) = listing-filled g
listing-filled ((r ∷ l) ∷ g) = ap (λ (k : List Record). r ∷ (l ++ k)) (listing-filled g)

module _ (m : Record → ℕ) where
  -- the sum over two lists, one behind the other
  pub total_append : (l k : List Record) → total m (l ++ k) ≡ total m l + total m k
  unfolding total
  total_append [] k = omega arith
  total_append (r ∷ l) k = omega (arith, total_append l k)

  -- the order of records and the bounds of levels don't matter
  total-into : (r : Record) (l : Level) → total m (into r l) ≡ m r + total m l
  unfolding into total
  total-into r [] = refl
  total-into r (s ∷ l) = go (ltb r.start s.start) refl (total-into r l)
    where
      go : (t : Bool) → ltb r.start s.start ≡ t → total m (into r l) ≡ m r + total m l → total m (into r (s ∷ l)) ≡ m r + total m (s ∷ l)
      go true e ih = rw (e, into) refl
      go false e ih = rw (e, into) (omega arith)

  into_total : (r : Record) (l : Level) (g : Group) → total m (into r l ++ listing g) ≡ m r + total m (l ++ listing g)
  into_total r l g = omega (arith, total_append (into r l) (listing g), total_append l (listing g), total-into r l)

  total-sink : (s : Record) (g : Group) → total m (listing (sink s g)) ≡ m s + total m (listing g)
  unfolding sink total flatten
  total-sink s [] = refl
  total-sink s (l ∷ g) = go (meets_any s l) refl
    where
      go : (t : Bool) → meets_any s l ≡ t → total m (listing (sink s (l ∷ g))) ≡ m s + total m (l ++ listing g)
      go true e = rw (e, sink) (omega (arith, into_total s l g))
      go false e = rw (e, sink) (into_total s l g)

  total-sink_all : (l : List Record) (g : Group) → total m (listing (sink_all l g)) ≡ total m l + total m (listing g)
  unfolding sink_all total
  total-sink_all [] g = omega arith
  total-sink_all (s ∷ l) g = omega (arith, total-sink_all l (sink s g), total-sink s g)

  total-put_at : (n : ℕ) (r : Record) (g : Group) → total m (listing (put_at n r g)) ≡ m r + total m (listing g)
  unfolding put_at total flatten
  total-put_at n r [] = refl
  total-put_at zero r (l ∷ g) = into_total r l g
  total-put_at (suc n) r (l ∷ g) =
      omega (arith, total_append l (listing (put_at n r g)), total_append l (listing g), total-put_at n r g)

  -- records put back into levels add their sum
  pub total-put_back : (l : List Record) (g : Group) → total m (listing (put_back l g)) ≡ total m l + total m (listing g)
  unfolding put_back total
  total-put_back [] g = omega arith
  total-put_back (r ∷ l) g = omega (arith, total-put_back l (put_at (depth r g) r g), total-put_at (depth r g) r g)

module _ (m : Record → ℕ) (d : Lessens m) where
  total-keep : (lost : ℕ → Bool) (r : Record) (l k : List Record) → total m k ≤ total m l → total m (keep (shrink lost r) k) ≤ m r + total m l
  unfolding keep total
  total-keep lost r l k h = go (shrink lost r) refl
    where
      go : (x : Option Record) → shrink lost r ≡ x → total m (keep x k) ≤ m r + total m l
      go none e = omega arith
      go (some s) e = omega (arith, d lost r s e)

  total-give_up : (lost : ℕ → Bool) (l : Level) → total m (give_up lost l) ≤ total m l
  unfolding give_up total
  total-give_up lost [] = omega arith
  total-give_up lost (s ∷ l) = go (is_approximate (kind s)) refl (total-give_up lost l)
    where
      go : (t : Bool) → is_approximate (kind s) ≡ t → total m (give_up lost l) ≤ total m l → total m (give_up lost (s ∷ l)) ≤ total m (s ∷ l)
      go true e ih = rw (e, give_up) (omega (arith, ih, total-keep lost s l (give_up lost l) ih))
      go false e ih = rw (e, give_up) (omega arith)

  total_give_ups : (lost : ℕ → Bool) (g : Group) → total m (listing (map (give_up lost) g)) ≤ total m (listing g)
  unfolding flatten
  total_give_ups lost [] = omega arith
  total_give_ups lost (l ∷ g) =
      omega (arith, total_append m (give_up lost l) (listing (map (give_up lost) g)), total_append m l (listing g), total-give_up lost l, total_give_ups lost g)

  total-give_up_all : (r : Record) (g : Group) → total m (listing (give_up_all r g)) ≤ total m (listing g)
  unfolding give_up_all
  total-give_up_all r g = go (is_approximate (kind r)) refl
    where
      go : (t : Bool) → is_approximate (kind r) ≡ t → total m (listing (give_up_all r g)) ≤ total m (listing g)
      go true e = rw (e, give_up_all) (total_give_ups (member r) g)
      go false e = rw (e, give_up_all) (omega arith)

  -- the number of what a level 0 record becomes
  worth : Fate → ℕ
  worth (stays s) = m s
  worth (sinks s) = m s
  worth goes = 0

  worth-left : (r s : Record) (x : Option Record) → shrink (member r) s ≡ x → worth (fate_left r x) ≤ m s
  unfolding worth fate_left
  worth-left r s none e = omega arith
  worth-left r s (some u) e = go (meets u r) refl
    where
      go : (t : Bool) → meets u r ≡ t → worth (fate_left r (some u)) ≤ m s
      go true q = rw (q, fate_left) (d (member r) s u e)
      go false q = rw (q, fate_left) (d (member r) s u e)

  worth-fate : (r s : Record) → worth (fate r s) ≤ m s
  unfolding worth fate
  worth-fate r s = go (meets s r) refl
    where
      go : (t : Bool) → meets s r ≡ t → worth (fate r s) ≤ m s
      go true q = rw (q, fate) (worth-left r s (shrink (member r) s) refl)
      go false q = rw (q, fate) (omega arith)

  total-parts : (r : Record) (l : Level) → total m (stayers r l) + total m (sinkers r l) ≤ total m l
  unfolding stayers sinkers staying sinking worth total
  total-parts r [] = omega arith
  total-parts r (s ∷ l) = go (fate r s) (worth-fate r s) (total-parts r l)
    where
      go : (f : Fate) → worth f ≤ m s → total m (stayers r l) + total m (sinkers r l) ≤ total m l
          → total m (staying f (stayers r l)) + total m (sinking f (sinkers r l)) ≤ m s + total m l
      go (stays u) h ih = omega arith
      go (sinks u) h ih = omega arith
      go goes h ih = omega arith

  -- a record put in at level 0 adds at most its own number
  pub total-insert_top : (r : Record) (g : Group) → total m (listing (insert_top r g)) ≤ m r + total m (listing g)
  unfolding insert_top total flatten
  total-insert_top r [] = omega arith
  total-insert_top r (l ∷ g) =
      let e : total m (listing (filled g)) ≡ total m (listing g) = ap (total m) (listing-filled g) in
      omega (
        arith,
        into_total m r (stayers r l) (sink_all (sinkers r l) (filled g)),
        total_append m (stayers r l) (listing (sink_all (sinkers r l) (filled g))),
        total-sink_all m (sinkers r l) (filled g),
        e,
        total-parts r l,
        total_append m l (listing g),
      )

  -- a record inserted does too
  pub total-insert : (r : Record) (g : Group) → total m (listing (insert r g)) ≤ m r + total m (listing g)
  unfolding insert
  total-insert r g = omega (arith, total-insert_top r (give_up_all r g), total-give_up_all r g)

  -- records inserted one after the other add at most their sum
  pub total-insert_all : (l : List Record) (g : Group) → total m (listing (insert_all l g)) ≤ total m l + total m (listing g)
  unfolding insert_all total
  total-insert_all [] g = omega arith
  total-insert_all (r ∷ l) g = omega (arith, total-insert_all l (insert r g), total-insert r g)

  total-shrink_all : (above l : List Record) → total m (shrink_all above l) ≤ total m l
  unfolding shrink_all total
  total-shrink_all above [] = omega arith
  total-shrink_all above (r ∷ l) = total-keep (member_of_any above) r l (shrink_all (r ∷ above) l) (total-shrink_all (r ∷ above) l)

  -- compaction doesn't raise the sum
  pub total-compact : (g : Group) → total m (listing (compact g)) ≤ total m (listing g)
  unfolding compact flatten total
  total-compact g = omega (arith, total-put_back m (shrink_all [] (listing g)) [], total-shrink_all [] (listing g))
