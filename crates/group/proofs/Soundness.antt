-- The passes hold exactly where the group that the slots and owners make is sound: the tests of the slots are its records' shapes
-- and its levels' order, those of the ends and of the owners that are left are its rules of ownership. Assumes nothing.
use mathlib.Core.Path.{◌≡◌, refl, sym, ap, ◌∙◌}
use mathlib.Core.List.{List, [], ◌∷◌, map}
use mathlib.Core.Logic.{inr}
use mathlib.Core.Bool.{true≢false, Bool, true, false, ◌&&◌}
use Prim.Native.Nat.{ℕ, zero, suc, ◌≤◌, ◌<◌}
use native.Mathlib.Omega.{arith}
use lib.ListN.{length, get_or, length-map, length-replicate}
use borrow.Author.Tests.{eqb-true, eq-eqb}
use Rattle.model.specs.Lists.{all}
use Rattle.model.specs.Levels.{Group, record_count}
use Rattle.model.specs.Sound.{is_filled, sound_record, ordered, sound_group}
use Rattle.model.proofs.Bools.{and_l, and_r, and_i, iff_bool, is_false, all_head}
use Rattle.model.proofs.SoundGroup.{SoundGroup, group-parts, parts-group}
use Rattle.group.specs.declared.Slot.{Slot}
use Rattle.group.specs.Layout.{used_of, flag_of, slots_of, entries_of, owner_of}
use Rattle.group.specs.Cutting.{climbs, cut}
use Rattle.group.specs.Reading.{record_of, placed_of, known, coherent, group_or, encodes, read_group}
use Rattle.group.specs.Checking.{approx, end_of, offsets_in, shaped, in_places, own_ends, left_by, slots_pass, unowned, no_owners}
use Rattle.group.proofs.Cutting.{filled-cut}
use Rattle.group.proofs.Slots.{length-slots_of, Coherent, coherent-parts, parts-coherent, listing_placed, few-used}
use Rattle.group.proofs.Cases.{owner_none, owner-entry, length-entries, get_or-entries}
use Rattle.group.proofs.Members.{In, all_in, in_all, all_map, Named, named_of_lem, in_named, every_of, of_every}
use Rattle.group.proofs.Ends.{Ends}
use Rattle.group.proofs.Shapes.{sound-shaped, sound-ends, shaped-below, offsets_most, sound_of}
use Rattle.group.proofs.Steps.{places_split}
use Rattle.group.proofs.Fresh.{Fresh, Small, fresh-distinct, distinct-fresh, same_slot}
use Rattle.group.proofs.Taking.{Taker, fresh_of, ends_of, taken_by_lem, left_none, left_gone, owns_all}
use Rattle.group.proofs.Turns.{none_owns}

-- a group with an empty level is not sound
empty_level_lem : (N k : ℕ) {A : Type 0} → sound_group N k ([] ∷ []) ≡ true → A
unfolding is_filled
empty_level_lem N k h = absurd (true≢false (sym (all_head is_filled [] [] (group-parts N k ([] ∷ []) h).filled)))

-- so bytes that are read as a sound group encode one
pub sound-encodes : (N k : ℕ) (b : List ℕ) → sound_group N k (read_group b) ≡ true → encodes b ≡ true
unfolding read_group group_or
sound-encodes N k b h = go (encodes b) h
  where
    go : (t : Bool) → sound_group N k (group_or t (slots_of b) (owner_of b)) ≡ true → t ≡ true
    go true e = refl
    go false e = empty_level_lem N k e

-- slots that pass have ranges in the group
slots_small : (N k : ℕ) (c : List ℕ) (l : List Slot) → slots_pass (offsets_in N k) 0 0 c l ≡ true → Small l
slots_small N k c l h s i =
    let a = and_l (all (λ s. shaped (offsets_in N k) s.held) l && in_places 0 0 l) _ h in
    omega (arith, shaped-below (offsets_in N k) s.held (all_in (λ s. shaped (offsets_in N k) s.held) (and_l (all (λ s. shaped (offsets_in N k) s.held) l) _ a) i), offsets_most N k)

-- the owners c are those of w
module _ (N k : ℕ) (w : ℕ → ℕ) (c : List ℕ) (l : List Slot) (long : length c ≡ 256) (same : (o : ℕ) → o < 256 → get_or c o 0 ≡ w o) where
  abbrev M : ℕ
  M = offsets_in N k

  abbrev G : Group
  G = cut (map (placed_of w) l)

  -- the passes hold: the group is sound
  module _ (few : length l ≤ 512) (h : slots_pass M 0 0 c l ≡ true) (v : unowned (left_by c l) ≡ true) where
    slots-hold : (all (λ s. shaped M s.held) l && in_places 0 0 l) ≡ true
    slots-hold = and_l (all (λ s. shaped M s.held) l && in_places 0 0 l) _ h

    ends-hold : own_ends c l ≡ true
    ends-hold = and_r (all (λ s. shaped M s.held) l && in_places 0 0 l) _ h

    places_hold : (climbs 0 (map (placed_of w) l) && all (ordered 0) G) ≡ true
    places_hold = sym (places_split w l) ∙ and_r (all (λ s. shaped M s.held) l) _ slots-hold

    shape : (s : Slot) → In s l → shaped M s.held ≡ true
    shape s i = all_in (λ s. shaped M s.held) (and_l (all (λ s. shaped M s.held) l) _ slots-hold) i

    small : Small l
    small s i = omega (arith, shaped-below M s.held (shape s i), offsets_most N k)

    fresh : Fresh l
    fresh = fresh_of c l long small ends-hold

    taker : (x o : ℕ) → o < 256 → w o ≡ suc x → Taker x o l
    taker x o lt e = taken_by_lem c l long small x o (same o lt ∙ e) (eqb-true _ _ (every_of _ 256 0 v o (omega arith) (omega arith)))

    ends : (s : Slot) → In s l → approx s.held ≡ true → Ends w s.held.start (end_of s.held)
    ends s i a =
        let q = ends_of w c l long small (λ x lt. inr (same x lt)) ends-hold s i a in
        record {
          first_own = q.0;
          last_own = q.1;
          within = λ o lt e.
              let t = taker s.held.start o lt e in
              let p : t.slot ≡ s = same_slot l fresh t.among i (record { one = t.kind; other = a; starts = t.starts }) in
              let low : t.slot.held.start ≤ o = t.low in
              let high : o ≤ end_of t.slot.held = t.high in
              (rw p at low, rw p at high);
        }

    owners-known : (o : ℕ) → o < 256 → known l (w o) ≡ true
    unfolding known
    owners-known o lt = go (w o) refl
      where
        go : (x : ℕ) → w o ≡ x → known l x ≡ true
        go zero e = refl
        go (suc start) e = let t = taker start o lt e in rw (← t.starts) (in_named t.among t.kind)

    is_coherent : coherent l w ≡ true
    is_coherent =
        parts-coherent l w
        (record { few = few; climbing = and_l (climbs 0 (map (placed_of w) l)) _ places_hold; owners = of_every _ 256 0 (λ o a lt. owners-known o (omega arith)) })

    sound-cut : sound_group N k G ≡ true
    unfolding record_count
    sound-cut =
        parts-group N k G
        (record {
          limit = omega (arith, ap length (listing_placed w l), length-map l (record_of w));
          filled = filled-cut (map (placed_of w) l);
          records = rw (listing_placed w l) (all_map (sound_record N k) (record_of w) l ∙ in_all (λ s. sound_record N k (record_of w s)) l (λ s i. sound_of w s N k (shape s i) (ends s i)));
          ordered = and_r (climbs 0 (map (placed_of w) l)) _ places_hold;
          owners = rw (listing_placed w l) (fresh-distinct w l fresh);
        })

    sound-passed : sound_group N k (group_or (coherent l w) l w) ≡ true
    unfolding group_or
    sound-passed = rw is_coherent sound-cut

  -- the group is sound: the passes hold
  module _ (d : Coherent l w) (h : sound_group N k (cut (map (placed_of w) l)) ≡ true) where
    parts : SoundGroup N k G
    parts = group-parts N k G h

    each : (s : Slot) → In s l → sound_record N k (record_of w s) ≡ true
    each s i = all_in (λ s. sound_record N k (record_of w s)) (sym (all_map (sound_record N k) (record_of w) l) ∙ (rw (listing_placed w l) at parts.records)) i

    shape' : (s : Slot) → In s l → shaped M s.held ≡ true
    shape' s i = sound-shaped w s N k (each s i)

    small' : Small l
    small' s i = omega (arith, shaped-below M s.held (shape' s i), offsets_most N k)

    ends' : (s : Slot) → In s l → approx s.held ≡ true → Ends w s.held.start (end_of s.held)
    ends' s i a = sound-ends w s N k (each s i) a

    fresh' : Fresh l
    fresh' = distinct-fresh w l (rw (listing_placed w l) at parts.owners) small' (λ t i a. (ends' t i a).first_own)

    ends_pass : own_ends c l ≡ true
    ends_pass =
        owns_all c l long small' fresh'
        (λ t i a. let b = small' t i in (same t.held.start (omega arith) ∙ (ends' t i a).first_own, same (end_of t.held) (omega arith) ∙ (ends' t i a).last_own))

    slots_pass_lem : slots_pass M 0 0 c l ≡ true
    slots_pass_lem = and_i _ _ (and_i _ _ (in_all (λ s. shaped M s.held) l shape') (places_split w l ∙ and_i _ _ d.climbing parts.ordered)) ends_pass

    owners_pass : unowned (left_by c l) ≡ true
    unfolding known
    owners_pass = of_every _ 256 0 (λ o a lt. eq-eqb _ _ (go o (omega arith) (w o) refl (every_of _ 256 0 d.owners o (omega arith) (omega arith))))
      where
        go : (o : ℕ) → o < 256 → (x : ℕ) → w o ≡ x → known l x ≡ true → get_or (left_by c l) o 0 ≡ 0
        go o lt zero e q = left_none c l long small' o (same o lt ∙ e)
        go o lt (suc start) e q =
            let n : Named start l = named_of_lem start l q in
            let u : w o ≡ suc n.slot.held.start = rw n.starts e in
            let b = (ends' n.slot n.among n.kind).within o lt u in
            left_gone c l long small' n.slot n.among n.kind o b.0 b.1 (inr (same o lt ∙ u))

  -- what soundness of the slots' group says
  record Passed : Type 0 where
    slots : slots_pass M 0 0 c l ≡ true
    owners : unowned (left_by c l) ≡ true

  passed-sound : sound_group N k (group_or (coherent l w) l w) ≡ true → Passed
  unfolding group_or
  passed-sound = go (coherent l w) refl
    where
      go : (t : Bool) → coherent l w ≡ t → sound_group N k (group_or t l w) ≡ true → Passed
      go true e h = let d = coherent-parts l w e in record { slots = slots_pass_lem d h; owners = owners_pass d h }
      go false e h = empty_level_lem N k h

  -- so soundness fails where the pass does, and otherwise no owner may be left
  slots_unsound : slots_pass M 0 0 c l ≡ false → sound_group N k (group_or (coherent l w) l w) ≡ false
  slots_unsound h = is_false _ (λ e. true≢false (sym (passed-sound e).slots ∙ h))

  owners_decide : length l ≤ 512 → slots_pass M 0 0 c l ≡ true → unowned (left_by c l) ≡ sound_group N k (group_or (coherent l w) l w)
  owners_decide few h = iff_bool _ _ (λ v. sound-passed few h v) (λ e. (passed-sound e).owners)

-- the same of the group that bytes are read as
module _ (N k : ℕ) (b : List ℕ) where
  pub read-many : 512 < used_of b → false ≡ sound_group N k (read_group b)
  read-many h = sym (is_false _ (λ e. omega (arith, few-used b (sound-encodes N k b e))))

  module _ (m : ℕ) (size : m ≡ offsets_in N k) where
    module _ (c : List ℕ) (long : length c ≡ 256) (same : (o : ℕ) → o < 256 → get_or c o 0 ≡ owner_of b o) (t : Bool) (pass : t ≡ slots_pass m 0 0 c (slots_of b)) where
      passed : t ≡ slots_pass (offsets_in N k) 0 0 c (slots_of b)
      passed = rw size at pass

      unfit : t ≡ false → false ≡ sound_group N k (read_group b)
      unfolding read_group encodes
      unfit h = sym (slots_unsound N k (owner_of b) c (slots_of b) long same (sym passed ∙ h))

      owners : t ≡ true → used_of b ≤ 512 → unowned (left_by c (slots_of b)) ≡ sound_group N k (read_group b)
      unfolding read_group encodes
      owners h few = owners_decide N k (owner_of b) c (slots_of b) long same (omega (arith, length-slots_of b)) (sym passed ∙ h)

      small-slots : t ≡ true → Small (slots_of b)
      small-slots h = slots_small N k c (slots_of b) (sym passed ∙ h)

    -- where the owners are not read, the pass over the slots decides
    module _ (flag : flag_of b ≡ 0) (few : used_of b ≤ 512) where
      none : (o : ℕ) → o < 256 → get_or no_owners o 0 ≡ owner_of b o
      none o lt = none_owns o ∙ sym (owner_none b o flag)

      long : length no_owners ≡ 256
      long = length-replicate {A = ℕ} 256 0

      pub read_plain_lem : (t : Bool) → t ≡ slots_pass m 0 0 no_owners (slots_of b) → t ≡ sound_group N k (read_group b)
      read_plain_lem false e = unfit no_owners long none false e refl
      read_plain_lem true e =
          sym (of_every _ 256 0 (λ o a lt. eq-eqb _ _ (left_none no_owners (slots_of b) long (small-slots no_owners long none true e refl) o (none_owns o))))
          ∙ owners no_owners long none true e refl few

    -- where they are, no entry may be left either
    module _ (flag : flag_of b ≡ 0 → ⊥) (t : Bool) (e : List ℕ) (copied : e ≡ entries_of b) (pass : t ≡ slots_pass m 0 0 e (slots_of b)) where
      long' : length e ≡ 256
      long' = rw copied (length-entries b)

      entries : (o : ℕ) → o < 256 → get_or e o 0 ≡ owner_of b o
      entries o lt = rw copied (get_or-entries b o lt ∙ sym (owner-entry b o flag))

      pub read_unfit : t ≡ false → false ≡ sound_group N k (read_group b)
      read_unfit = unfit e long' entries t pass

      pub read-owners : t ≡ true → used_of b ≤ 512 → (c : List ℕ) → c ≡ left_by e (slots_of b) → (u : Bool) → u ≡ unowned c → u ≡ sound_group N k (read_group b)
      read-owners h few c q u v = v ∙ ap (λ (d : List ℕ). unowned d) q ∙ owners e long' entries t pass h few
