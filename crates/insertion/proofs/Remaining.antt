-- What is left of one of the records that the bytes hold: the offsets' owners are sums, so that whoever owns an offset is
-- told by its owner, and afterwards they are the sums with what is left of the record in its place. Assumes nothing.
use Rattle.std.specs.Prelude as code
use mathlib.Core.Path.{◌≡◌, refl, sym, ◌∙◌, ap, subst}
use mathlib.Core.List.{List, [], ◌∷◌, map}
use mathlib.Core.Option
use mathlib.Core.Option.{Option, none, some}
use mathlib.Core.Bool.{true≢false, Bool, true, false, not}
use Prim.Native.Nat.{ℕ, suc, ◌+◌, ◌≤◌, ◌<◌}
use native.Mathlib.Omega.{arith}
use lib.Dec.{eqb}
use lib.ListN.{length, get_or, set}
use borrow.Author.Tests.{eqb-true, eqb-false, eq-eqb}
use Rattle.model.specs.Options.{as_option}
use Rattle.model.specs.Lists.{all, elem}
use Rattle.model.specs.Record as model
use Rattle.model.specs.Record.{Kind, single, accurate, approximate, kind_of, kind, is_approximate, member}
use Rattle.model.specs.Levels.{shrink}
use Rattle.model.specs.Sound.{sound_record}
use Rattle.model.specs.Totals.{total, indicator, owns}
use Rattle.model.proofs.Lists.{elem_here}
use Rattle.model.proofs.Order.{sound-within}
use Rattle.model.proofs.Shrink.{Outcome, gone, left, shrink-outcome}
use Rattle.model.proofs.Total.{indicator_le}
use Rattle.model.proofs.SoundRecord.{record_parts, sound-ascends, sound-owner, owned-member, shrunk-owned, shrunk-sound}
use Rattle.octets.specs.Slots.{remove_at}
use Rattle.record.specs.declared.Record.{Record}
use Rattle.record.specs.Read.{as_record, bare}
use Rattle.record.specs.Scan.{masked}
use Rattle.record.specs.Coding.{InEight}
use Rattle.group.specs.declared.Slot.{Slot}
use Rattle.group.specs.Layout.{slots_of, owner_of}
use Rattle.group.specs.Cutting.{Placed}
use Rattle.group.specs.Held.{slot_for}
use Rattle.group.specs.Answers as answers
use Rattle.group.specs.Reading.{owned_by, owned_as}
use Rattle.group.proofs.Ends.{owned_in, owned_only, owned_asc}
use Rattle.group.proofs.Owned.{asc_same}
use Rattle.slots.specs.View.{Shows, OwnsInRange, LeftOf}
use Rattle.slots.specs.Owners.{either, start_left, owner_left, owning}
use Rattle.slots.proofs.Owning.{owner-named, owner_other}
use Rattle.slots.proofs.Maps.{map-set, map-remove_at}
use Rattle.insertion.specs.Slots.{no_slot, slot, held_at, records, keep_at}
use Rattle.insertion.specs.Shown.{weight, Shown}
use Rattle.insertion.proofs.Fits.{sound-eight}
use Rattle.insertion.proofs.Weights.{Weighs, yes, no, weighs, unowned, names-owned}
use Rattle.insertion.proofs.Steps.{worth, remove-total, keep-total, count-total, fault, no_fault, faults_none, none_faulty, shown-length, shown-slot}

-- what a record that may be gone adds to the owner of offset o
unfoldable pub weight_left : ℕ → Option model.Record → ℕ
weight_left o x = worth (weight o) x

module _ (lost : ℕ → Bool) (v : model.Record) (o : ℕ) where
  -- an offset that what is left of a record doesn't own
  adds_none : ((u : model.Record) → shrink lost v ≡ some u → elem o u.owned ≡ true → ⊥) → weight_left o (shrink lost v) ≡ 0
  unfolding weight_left
  adds_none n = go (shrink lost v) refl
    where
      at : (u : model.Record) → shrink lost v ≡ some u → Weighs o u → weight o u ≡ 0
      at u e (yes i w k) = absurd (n u e i)
      at u e (no i w k) = w

      go : (y : Option model.Record) → shrink lost v ≡ y → weight_left o y ≡ 0
      go none e = refl
      go (some u) e = at u e (weighs o u)

  -- and one that it owns
  adds-start : o < 256 → is_approximate (kind v) ≡ true → member v o ≡ true → lost o ≡ false → (x : code.Option Record) → as_option x ≡ Option.map bare (shrink lost v) → weight_left o (shrink lost v) ≡ suc (start_left x)
  unfolding weight_left as_option start_left weight
  adds-start h slope e kept x q = go (shrink lost v) (shrink-outcome lost v) x q
    where
      go : (y : Option model.Record) → Outcome lost v y → (x : code.Option Record) → as_option x ≡ Option.map bare y → weight_left o y ≡ suc (start_left x)
      go none (gone all-lost) x q = absurd (true≢false (sym (all-lost o h e) ∙ kept))
      go (some u) (left s) (code.Some w) q =
          let owned : elem o u.owned ≡ true = sym (owned-member u o (ap (λ (k : ℕ). is_approximate (kind_of k)) s.word ∙ slope)) ∙ s.rest o h e kept in
          let same : w ≡ bare u = cc in
          rw (owned, weight, same)
      go (some u) (left s) code.None q = let z : ◌≡◌ {A = ℕ} 0 1 = cc in absurd (omega arith)

-- a sound record among others, whose owners are theirs
module _ (b : List ℕ) (v : model.Record) (others : List model.Record) (sound : sound_record 256 0 v ≡ true) (others-sound : all (sound_record 256 0) others ≡ true)
    (once : (o : ℕ) → owns o v + total (owns o) others ≤ 1) (owner_is_lem : (o : ℕ) → o < 256 → owner_of b o ≡ weight o v + total (weight o) others) where
  pub names : is_approximate (kind v) ≡ true → (o : ℕ) → o < 256 → eqb (owner_of b o) (suc v.start) ≡ elem o v.owned
  names slope o h = ap (λ (w : ℕ). eqb w (suc v.start)) (owner_is_lem o h) ∙ names-owned v others sound others-sound once slope o

  within : is_approximate (kind v) ≡ true → (o : ℕ) → elem o v.owned ≡ true → (v.start ≤ o) × (o ≤ v.start + v.span)
  within slope o e = sound-within 256 0 v sound o (owned-member v o slope ∙ e)

  pub in_range : OwnsInRange (owner_of b) (bare v)
  in_range slope o h e = within slope o (sym (names slope o h) ∙ eq-eqb _ _ e)

  -- the record with the offsets that it owns by the bytes is the record
  pub owning-back : owning (owner_of b) (bare v) ≡ v
  unfolding owned_as is_approximate
  owning-back = ap (as_record (bare v)) (go (kind v) refl)
    where
      nothing : (l : List ℕ) → ((o : ℕ) → elem o l ≡ true → ⊥) → [] ≡ l
      nothing [] f = refl
      nothing (x ∷ l) f = absurd (f x (elem_here x l))

      exact : is_approximate (kind v) ≡ false → [] ≡ v.owned
      exact a = nothing v.owned (λ o e. true≢false (sym (sound-owner 256 0 v o sound e) ∙ a))

      low : is_approximate (kind v) ≡ true → (o : ℕ) → elem o v.owned ≡ true → o < 256
      low a o e = omega (arith, (within a o e).1, (record_parts 256 0 v sound).byte)

      sloped : is_approximate (kind v) ≡ true → owned_by (owner_of b) v.start ≡ v.owned
      sloped a =
          asc_same (owned_by (owner_of b) v.start) v.owned (owned_asc (owner_of b) v.start) (sound-ascends 256 0 v sound)
          (λ o e. let q = owned_only (owner_of b) v.start o e in sym (names a o q.1) ∙ eq-eqb _ _ q.0)
          (λ o e. owned_in (owner_of b) v.start o (low a o e) (eqb-true _ _ (names a o (low a o e) ∙ e)))

      go : (k : Kind) → kind v ≡ k → owned_as k (owner_of b) v.start ≡ v.owned
      go single e = exact (ap is_approximate e)
      go (accurate d) e = exact (ap is_approximate e)
      go (approximate a) e = sloped (ap is_approximate e)

  module _ (c taken : List ℕ) (x : code.Option Record) (left : LeftOf b c taken (bare v) x) where
    pub left_is : as_option x ≡ Option.map bare (shrink (masked taken) v)
    left_is = left.left ∙ ap (λ (r : model.Record). Option.map bare (shrink (masked taken) r)) owning-back

    -- what is left of it takes its part in the owners
    pub owners-after : (o : ℕ) → o < 256 → owner_of c o ≡ weight_left o (shrink (masked taken) v) + total (weight o) others
    unfolding either
    owners-after o h = left.owners o h ∙ go (weighs o v) (masked taken o) refl
      where
        by : (t : Bool) → masked taken o ≡ t → is_approximate (kind v) ≡ true → member v o ≡ true → either (masked taken o) 0 (suc (start_left x)) ≡ weight_left o (shrink (masked taken) v)
        by true q slope e = rw (q, either) (sym (adds_none (masked taken) v o (λ u k i. true≢false (sym q ∙ (shrunk-owned (masked taken) v u k o i).1))))
        by false q slope e = rw (q, either) (sym (adds-start (masked taken) v o h slope e q x left_is))

        go : Weighs o v → (t : Bool) → masked taken o ≡ t → owner_left (bare v) x (masked taken o) (owner_of b o) ≡ weight_left o (shrink (masked taken) v) + total (weight o) others
        go (no e w n) t d =
            let unnamed = owner_other (bare v) x (masked taken o) (owner_of b o) (λ a. eqb-false _ _ (names a o h ∙ e)) in
            omega (arith, unnamed, owner_is_lem o h, adds_none (masked taken) v o (λ u q i. true≢false (sym (shrunk-owned (masked taken) v u q o i).0 ∙ e)))
        go (yes e w n) t d =
            let slope = sound-owner 256 0 v o sound e in
            let alone = unowned o others (omega (arith, once o)) in
            omega (arith, owner-named (bare v) x (masked taken o) (owner_of b o) slope (omega (arith, owner_is_lem o h)), by t d slope (owned-member v o slope ∙ e), alone)

-- what is left of a record, as a record
pub record Rest (lost : ℕ → Bool) (v : model.Record) (u : Record) : Type 0 where
  pub rest : model.Record
  pub is : shrink lost v ≡ some rest
  pub numbers : u ≡ bare rest

-- the record of slot i among the others that the bytes hold
module _ (b : List ℕ) (l : List Placed) (shown : Shown b l) (i : ℕ) (h : i < length (slots_of b)) where
  abbrev v : model.Record
  v = held_at i l

  abbrev others : List model.Record
  others = records (remove_at i l)

  inside : i < length l
  inside = omega (arith, shown-length b l shown)

  sums : (f : model.Record → ℕ) → total f others + f v ≡ total f (records l)
  sums f = remove-total f i l inside

  pub held-sound : sound_record 256 0 v ≡ true
  held-sound = no_fault v (omega (arith, sums fault, faults_none (records l) shown.sound))

  others-sound : all (sound_record 256 0) others ≡ true
  others-sound = none_faulty others (omega (arith, sums fault, faults_none (records l) shown.sound))

  once : (o : ℕ) → owns o v + total (owns o) others ≤ 1
  once o = omega (arith, sums (owns o), shown.once o)

  owner_is_lem : (o : ℕ) → o < 256 → owner_of b o ≡ weight o v + total (weight o) others
  owner_is_lem o k = omega (arith, sums (weight o), shown.owners o k)

  pub held-names : is_approximate (kind v) ≡ true → (o : ℕ) → o < 256 → eqb (owner_of b o) (suc v.start) ≡ elem o v.owned
  held-names = names b v others held-sound others-sound once owner_is_lem

  module _ (s : Slot) (got : s ≡ get_or (slots_of b) i answers.no_slot) where
    pub slot_is : s ≡ slot_for (get_or l i no_slot)
    slot_is = got ∙ shown-slot b l shown i

    pub numbers : s.held ≡ bare v
    numbers = ap (λ (y : Slot). y.held) slot_is

    -- what shrinking asks
    pub slot-short : s.held.start + s.held.span ≤ 255
    slot-short = rw numbers (record_parts 256 0 v held-sound).byte

    pub slot_range : OwnsInRange (owner_of b) s.held
    slot_range = rw numbers (in_range b v others held-sound others-sound once owner_is_lem)

    module _ (c taken : List ℕ) (x : code.Option Record) (left : LeftOf b c taken s.held x) where
      left-bare : LeftOf b c taken (bare v) x
      left-bare = subst (λ (r : Record). LeftOf b c taken r x) numbers left

      is_left : as_option x ≡ Option.map bare (shrink (masked taken) v)
      is_left = left_is b v others held-sound others-sound once owner_is_lem c taken x left-bare

      -- nothing is left of it, or a record, which fits
      pub nothing_left : x ≡ code.None → shrink (masked taken) v ≡ none
      unfolding as_option
      nothing_left q = go (shrink (masked taken) v) (ap as_option (sym q) ∙ is_left)
        where
          go : (y : Option model.Record) → none ≡ Option.map bare y → y ≡ none
          go none e = refl
          go (some w) e = let z : ◌≡◌ {A = ℕ} 0 1 = cc in absurd (omega arith)

      pub record_left : (u : Record) → x ≡ code.Some u → Rest (masked taken) v u
      unfolding as_option
      record_left u q = go (shrink (masked taken) v) refl (ap as_option (sym q) ∙ is_left)
        where
          go : (y : Option model.Record) → shrink (masked taken) v ≡ y → some u ≡ Option.map bare y → Rest (masked taken) v u
          go none e p = let z : ◌≡◌ {A = ℕ} 0 1 = cc in absurd (omega arith)
          go (some w) e p = record { rest = w; is = e; numbers = cc }

      pub left-eight : (u : Record) → x ≡ code.Some u → InEight u
      left-eight u q = let w = record_left u q in rw w.numbers (sound-eight w.rest (shrunk-sound 256 0 (masked taken) v w.rest held-sound w.is))

      -- The bytes that hold the others, and what is left of it wherever that stands.
      pub left-shown : (m : List Placed) (t : List ℕ) → ((f : model.Record → ℕ) → total f (records m) ≡ worth f (shrink (masked taken) v) + total f others)
          → Shows t (map slot_for m) (owner_of c) → Shown t m
      unfolding owns weight_left
      left-shown m t made put = record {
        size = put.0;
        slots = put.1;
        owners = λ o k. put.2 o k ∙ owners-after b v others held-sound others-sound once owner_is_lem c taken x left-bare o k ∙ sym (made (weight o));
        room = omega (arith, count-total m, count-total l, made (λ r. 1), sums (λ r. 1), at_most (λ r. 1) 1 (λ w e. omega arith), shown.room);
        sound = none_faulty (records m) (omega (
          arith,
          made fault,
          sums fault,
          faults_none (records l) shown.sound,
          at_most fault 0 (λ w e. omega (arith, ap (λ (y : Bool). indicator (not y)) (shrunk-sound 256 0 (masked taken) v w held-sound e))),
        ));
        once = λ o. omega (arith, made (owns o), once o, at_most (owns o) (owns o v) (λ w e. indicator_le (elem o w.owned) (elem o v.owned) (λ k. (shrunk-owned (masked taken) v w e o k).0)));
      }
        where
          at_most : (f : model.Record → ℕ) (n : ℕ) → ((w : model.Record) → shrink (masked taken) v ≡ some w → f w ≤ n) → worth f (shrink (masked taken) v) ≤ n
          at_most f n each = go (shrink (masked taken) v) refl
            where
              go : (y : Option model.Record) → shrink (masked taken) v ≡ y → worth f y ≤ n
              go none e = omega arith
              go (some w) e = each w e

      -- It is put in its place, or taken out.
      pub kept-shown : (u : Record) (n : ℕ) (t : List ℕ) → x ≡ code.Some u → Shows t (set (slots_of c) i (record { level = n; held = u })) (owner_of c)
          → Shown t (keep_at i n (shrink (masked taken) v) l)
      unfolding keep_at
      kept-shown u n t q put =
          let w = record_left u q in
          let slots : slots_of t ≡ map slot_for (keep_at i n (shrink (masked taken) v) l) = put.1 ∙ rw (left.slots, shown.slots, w.numbers, w.is) (sym (map-set slot_for l i (slot n w.rest))) in
          left-shown _ t (λ f. keep-total f i n (shrink (masked taken) v) l inside) (put.0, slots, put.2)

      pub gone_shown : (n : ℕ) (t : List ℕ) → x ≡ code.None → Shows t (remove_at i (slots_of c)) (owner_of c) → Shown t (keep_at i n (shrink (masked taken) v) l)
      unfolding keep_at
      gone_shown n t q put =
          let slots : slots_of t ≡ map slot_for (keep_at i n (shrink (masked taken) v) l) = put.1 ∙ rw (left.slots, shown.slots, nothing_left q) (sym (map-remove_at slot_for i l)) in
          left-shown _ t (λ f. keep-total f i n (shrink (masked taken) v) l inside) (put.0, slots, put.2)
