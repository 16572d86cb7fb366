-- The steps of insertion on a group's bytes, put together: the bytes hold the group with the record inserted. Assumes nothing.
use mathlib.Core.Path.{◌≡◌, refl, sym, ◌∙◌, ap, subst}
use mathlib.Core.List.{List, [], ◌∷◌, ◌++◌, map}
use mathlib.Core.Bool.{true≢false, Bool, true, false}
use Prim.Native.Nat.{ℕ, suc, ◌+◌, ◌≤◌, ◌<◌}
use native.Mathlib.Omega.{arith}
use lib.ListN.{length}
use Rattle.model.specs.Device.{group_length}
use Rattle.model.specs.Lists.{all, elem}
use Rattle.model.specs.Record as model
use Rattle.model.specs.Record.{kind, is_approximate, member}
use Rattle.model.specs.Levels.{Level, Group, listing, give_up, give_up_all, filled, into, stayers, sinkers, sink_all, insert_top, insert}
use Rattle.model.specs.Sound.{is_filled, sound_record, sound_group}
use Rattle.model.specs.Totals.{total, owns, OwnedOnce}
use Rattle.model.proofs.Bools.{all_head, all_tail, all_cons}
use Rattle.model.proofs.Owners.{once_of}
use Rattle.model.proofs.RecordCount.{insert-count}
use Rattle.model.proofs.SoundRecord.{record_parts, parts_record, owned-member}
use Rattle.model.proofs.Order.{Chains, sound-within, chains-ordered, give_up_all-chains, filled-chains}
use Rattle.model.proofs.SoundGroup.{SoundGroup, group-parts, sound-levels, insert-sound}
use Rattle.octets.specs.Slots.{insert_at}
use Rattle.record.specs.declared.Record.{Record}
use Rattle.record.specs.Read.{as_record}
use Rattle.record.specs.Scan.{masked}
use Rattle.record.specs.Coding.{InEight}
use Rattle.group.specs.declared.Slot.{Slot}
use Rattle.group.specs.Layout.{slots_of, owner_of}
use Rattle.group.specs.Cutting.{Placed, flat_from, flat}
use Rattle.group.specs.Held.{slot_for, slots_for, Held}
use Rattle.group.specs.Reading.{read_group}
use Rattle.group.proofs.Holding.{held-read}
use Rattle.slots.specs.View.{Room, Shows}
use Rattle.slots.specs.Owners.{taken_by}
use Rattle.slots.proofs.Maps.{map-insert_at}
use Rattle.insertion.specs.Flat.{tag}
use Rattle.insertion.specs.Slots.{slot, records}
use Rattle.insertion.specs.InsertSlots.{Noted, Noting, give_up_slots, settle}
use Rattle.insertion.specs.Shown.{weight, Shown}
use Rattle.insertion.specs.Ready.{Parted, Ready}
use Rattle.insertion.specs.Turns.{MadeWay}
use Rattle.insertion.proofs.Weights.{among-total, owned_more, weightless}
use Rattle.insertion.proofs.Fits.{sound-eight}
use Rattle.insertion.proofs.FlatParts.{insert-tag}
use Rattle.insertion.proofs.Steps.{insert-total, count-total, shown-length}
use Rattle.insertion.proofs.Losing.{gives_none}
use Rattle.insertion.proofs.GiveUp.{gives_same, give_up-flat}
use Rattle.insertion.proofs.Settling.{top_of, rest_of, settle-parts, settled, settled_given}
use Rattle.insertion.proofs.Count.{records-flat, length-flat, slots-count, top-length}

-- a record that is sound in some group
sound_some : (N k : ℕ) (r : model.Record) → sound_record N k r ≡ true → sound_record 256 0 r ≡ true
sound_some N k r h =
    let s = record_parts N k r h in
    parts_record 256 0 r (record { byte = s.byte; inside = omega (arith, s.byte); shape = s.shape })

all_some : (N k : ℕ) (l : List model.Record) → all (sound_record N k) l ≡ true → all (sound_record 256 0) l ≡ true
unfolding all
all_some N k [] h = refl
all_some N k (r ∷ l) h = all_cons (sound_record 256 0) r l (sound_some N k r (all_head (sound_record N k) r l h)) (all_some N k l (all_tail (sound_record N k) r l h))

filled_all : (g : Group) → all is_filled (filled g) ≡ true
unfolding filled all is_filled
filled_all [] = refl
filled_all ([] ∷ g) = filled_all g
filled_all ((r ∷ l) ∷ g) = filled_all g

-- a record among level 0's records that stayed, before those that sank
top_is : (r : model.Record) (g : Group) → flat (into r (stayers r (top_of g)) ∷ sink_all (sinkers r (top_of g)) (filled (rest_of g))) ≡ flat (insert_top r g)
unfolding stayers sinkers sink_all filled insert_top flat_from into
top_is r [] = refl
top_is r (l ∷ g) = refl

-- the levels of a group in order are, and so are those behind level 0 that hold a record
parts-chains : (g : Group) → Chains g → Chains (top_of g ∷ filled (rest_of g))
unfolding filled
parts-chains [] c = (tt, tt)
parts-chains (l ∷ g) c = (c.0, filled-chains g c.1)

module _ (b m : List ℕ) (r : Record) (q : Ready b m r) where
  abbrev R : model.Record
  R = as_record r q.owned

  abbrev inserted : Group
  inserted = insert R q.group

  abbrev pub given_up : Group
  given_up = give_up_all R q.group

  -- level 0 and the others, before the turns; the list behind them
  abbrev top : Level
  top = top_of given_up

  abbrev rest : Group
  rest = filled (rest_of given_up)

  abbrev turned : List Placed
  turned = flat (stayers R top ∷ sink_all (sinkers R top) rest)

  parts : SoundGroup q.N q.number q.group
  parts = group-parts q.N q.number q.group q.sound

  sound_R : sound_record 256 0 R ≡ true
  sound_R = sound_some q.N q.number R q.fits

  sound-inserted : sound_group q.N q.number inserted ≡ true
  sound-inserted = insert-sound q.N q.number R q.group q.sound q.fits q.few

  once-inserted : OwnedOnce (listing inserted)
  once-inserted = once_of (listing inserted) (group-parts q.N q.number inserted sound-inserted).owners

  -- The bytes hold the group.
  pub ready-shown : Shown b (flat q.group)
  ready-shown =
      let once : OwnedOnce (listing q.group) = once_of (listing q.group) parts.owners in
      record {
        size = q.size;
        slots = q.held.slots;
        owners = λ o k. q.held.owners o k ∙ among-total o (listing q.group) (once o) ∙ ap (total (weight o)) (sym (records-flat q.group));
        room = omega (arith, length-flat q.group, q.few);
        sound = ap (all (sound_record 256 0)) (records-flat q.group) ∙ all_some q.N q.number (listing q.group) parts.records;
        once = λ o. omega (arith, ap (total (owns o)) (records-flat q.group), once o);
      }

  -- Nothing is given up where no offset of the mask has an owner,
  pub unowned_settled : ((o : ℕ) → o < 256 → masked m o ≡ true → 0 < owner_of b o → ⊥) → Shown b (settle 0 0 (give_up_slots (masked m) (flat q.group)))
  unowned_settled free = subst (Shown b) (sym (ap (settle 0 0) (gives_none b (flat q.group) ready-shown m free) ∙ settled q.group parts.filled)) ready-shown

  -- and the levels have their numbers where no record went.
  pub kept_settled : (c : List ℕ) (n x : ℕ) → Shown c (give_up_slots (masked m) (flat q.group)) × (x ≡ length (give_up_slots (masked m) (flat q.group))) → n ≡ length (slots_of b) → x ≡ n
      → Shown c (settle 0 0 (give_up_slots (masked m) (flat q.group)))
  kept_settled c n x given e same =
      subst (Shown c) (sym (settled_given (masked m) 0 0 (flat q.group) (settled q.group parts.filled) (sym given.1 ∙ same ∙ e ∙ shown-length b (flat q.group) ready-shown))) given.0

  pub record_short : r.start + r.span ≤ 255
  record_short = (record_parts 256 0 R sound_R).byte

  pub mask_in_range : (o : ℕ) → o < 256 → masked m o ≡ true → (r.start ≤ o) × (o ≤ r.start + r.span)
  mask_in_range o h e = sound-within 256 0 R sound_R o (sym (q.members o h) ∙ e)

  -- the notes made over the record's range are those of all its offsets
  module _ (losers : List ℕ) (t : Bool) (noting : Noting b m losers r.start (r.start + r.span + 1) t) where
    notes_at : (o : ℕ) → o < 256 → masked m o ≡ true → 0 < owner_of b o → (masked losers (owner_of b o) ≡ true) × (t ≡ true)
    notes_at o h e = noting.notes o (mask_in_range o h e).0 (omega (arith, (mask_in_range o h e).1)) e

    pub noting_all : Noted b m losers
    noting_all o h e p = (notes_at o h e p).0

    pub unnoted_unowned : t ≡ false → (o : ℕ) → o < 256 → masked m o ≡ true → 0 < owner_of b o → ⊥
    unnoted_unowned n o h e p = true≢false (sym (notes_at o h e p).1 ∙ n)

  -- A single or accurate record: nothing is given up. An approximate one: the others gave up its offsets.
  pub settled_exact : is_approximate (kind R) ≡ false → Shown b (settle 0 0 (flat given_up))
  unfolding give_up_all
  settled_exact exact =
      let none : given_up ≡ q.group = rw (exact, give_up_all) refl in
      rw none (subst (Shown b) (sym (settled q.group parts.filled)) ready-shown)

  pub settled_slope : is_approximate (kind R) ≡ true → (d : List ℕ) → Shown d (settle 0 0 (give_up_slots (masked m) (flat q.group))) → Shown d (settle 0 0 (flat given_up))
  unfolding give_up_all
  settled_slope slope d =
      let all_give : map (give_up (member R)) q.group ≡ given_up = rw (slope, give_up_all) refl in
      subst (λ (l : List Placed). Shown d (settle 0 0 l)) (gives_same (masked m) (member R) q.members (flat q.group) ∙ give_up-flat (member R) q.group ∙ ap flat all_give)

  -- Level 0 stands before the others, and its records make way.
  pub parted : (d : List ℕ) → Shown d (settle 0 0 (flat given_up)) → Parted d m r
  parted d shown = record {
    top = top;
    rest = rest;
    owned = q.owned;
    shown = subst (Shown d) (settle-parts given_up) shown;
    filled = filled_all (rest_of given_up);
    in_order = chains-ordered (top ∷ rest) (parts-chains given_up (give_up_all-chains R q.group (sound-levels q.N q.number q.group q.sound)));
    members = q.members;
  }

  pub way_made : (d c : List ℕ) (p : ℕ) → Shown d (settle 0 0 (flat given_up)) → ((k : Parted d m r) → MadeWay (as_record r k.owned) k.top k.rest c p) → MadeWay R top rest c p
  unfolding parted
  way_made d c p shown made = made (parted d shown)

  -- the record is put in
  module _ (c : List ℕ) (p : ℕ) (way : MadeWay R top rest c p) where
    put-list : insert_at p (slot 0 R) turned ≡ flat inserted
    unfolding insert flat_from
    put-list =
        let below = flat_from 1 (sink_all (sinkers R top) rest) in
        insert-tag p 0 R (stayers R top) below way.inside ∙ ap (λ (k : Level). tag 0 k ++ below) way.place ∙ top_is R given_up

    sum-inserted : (f : model.Record → ℕ) → total f (listing inserted) ≡ f R + total f (records turned)
    sum-inserted f = ap (total f) (sym (records-flat inserted)) ∙ ap (λ (k : List Placed). total f (records k)) (sym put-list) ∙ insert-total f p (slot 0 R) turned

    -- There is room, and the record fits.
    pub put-ready : (length c ≡ group_length) × (p ≤ length (slots_of c)) × (length (slots_of c) < 512) × InEight r
    put-ready =
        let most : length (flat inserted) ≤ 512 = omega (arith, length-flat inserted, insert-count R q.group, q.few) in
        let one : length (flat inserted) ≡ suc (length turned) = omega (arith, count-total (flat inserted), ap (total (λ y. 1)) (records-flat inserted), sum-inserted (λ y. 1), count-total turned) in
        let slots = ap (λ (k : List Slot). length k) way.shown.slots in
        (way.shown.size, omega (arith, slots, way.inside, top-length (stayers R top) (sink_all (sinkers R top) rest)), omega (arith, shown-length c turned way.shown), sound-eight R sound_R)

    module _ (d : List ℕ) (put : Shows d (insert_at p (record { level = 0; held = r }) (slots_of c)) (owner_of c)) where
      put-slots : slots_of d ≡ slots_for inserted
      put-slots = put.1 ∙ ap (insert_at p (record { level = 0; held = r })) way.shown.slots ∙ sym (map-insert_at slot_for p (slot 0 R) turned) ∙ ap (map slot_for) put-list

      -- The bytes with the record put in have room for their slots.
      pub put-room : Room d
      put-room = (put.0, omega (arith, ap (λ (k : List Slot). length k) put-slots, slots-count inserted, insert-count R q.group, q.few))

      -- They hold the group with it, and are read as such.
      abbrev Inserted : List ℕ → Type 0
      Inserted t = Held t inserted × (read_group t ≡ insert R (read_group b))

      held-inserted : (t : List ℕ) → slots_of t ≡ slots_for inserted → ((o : ℕ) → o < 256 → owner_of t o ≡ weight o R + total (weight o) (records turned)) → Inserted t
      held-inserted t slots owners =
          let held : Held t inserted = record { slots = slots; owners = λ o k. owners o k ∙ sym (sum-inserted (weight o)) ∙ sym (among-total o (listing inserted) (once-inserted o)) } in
          (held, held-read q.N q.number t inserted held sound-inserted ∙ ap (insert R) (sym (held-read q.N q.number b q.group q.held q.sound)))

      pub insert-exact : is_approximate (kind R) ≡ false → Inserted d
      insert-exact exact = held-inserted d put-slots (λ o k. omega (arith, put.2 o k, way.shown.owners o k, weightless o R sound_R exact))

      pub insert-slope : is_approximate (kind R) ≡ true → (t : List ℕ) → Shows t (slots_of d) (λ o. taken_by r.start (masked m o) (owner_of d o)) → Inserted t
      insert-slope slope t own = held-inserted t (own.1 ∙ put-slots) (λ o k.
          own.2 o k ∙ ap (λ (x : Bool). taken_by r.start x (owner_of d o)) (q.members o k ∙ owned-member R o slope)
          ∙ ap (taken_by r.start (elem o q.owned)) (put.2 o k ∙ way.shown.owners o k) ∙ owned_more o R (records turned) (omega (arith, sum-inserted (owns o), once-inserted o)))
