-- The conditions of the functions on a group's bytes, test by test, and their answers. Assumes nothing.
use mathlib.Core.Path.{◌≡◌, refl, sym, ap, ◌∙◌}
use mathlib.Core.List.{List}
use mathlib.Core.Option.{Option, none, some, map}
use mathlib.Core.Bool.{Bool, true, false}
use Prim.Native.Nat.{ℕ, ◌+◌, ◌*◌, ◌≤◌, ◌<◌}
use native.Mathlib.Omega.{arith}
use lib.Dec.{ltb, eqb}
use lib.ListN.{length}
use borrow.Author.Tests.{eqb-true, eq-eqb, ne_eqb, lt-ltb, le-ltb, le-leb, lt-leb}
use Rattle.std.specs.Prelude.{Some, None}
use Rattle.model.specs.Device.{group_length}
use Rattle.model.specs.Options.{as_option}
use Rattle.model.specs.Record as model
use Rattle.model.specs.Levels.{Group, listing, record_count, holder, levels_to, compact, group_limit}
use Rattle.model.specs.Sound.{sound_group}
use Rattle.model.proofs.Bools.{and_l, and_r}
use Rattle.model.proofs.LevelsTo.{levels_to_most}
use Rattle.model.proofs.SoundGroup.{group-parts}
use Rattle.record.specs.declared.Record.{Record}
use Rattle.record.specs.Read.{bare}
use Rattle.group.specs.Reading.{read_group}
use Rattle.group.proofs.Found.{found-whole}
use Rattle.insertion.proofs.Count.{length-flat, levels-few}
use Rattle.probe.specs.Groups.{outside, answer_if, bit, bit16, bit40, bit56, soundness, is_sound, hit, finding, Compacts, has_room}

module _ (b : List ℕ) where
  -- Bytes of another length are not a group's.
  pub other_length : (length b ≡ group_length → ⊥) → false ≡ is_sound b
  unfolding is_sound
  other_length f = rw (ne_eqb (length b) group_length f)

  pub right-size : length b ≡ group_length → (t : Bool) → t ≡ sound_group 256 0 (read_group b) → t ≡ is_sound b
  unfolding is_sound
  right-size e t h = rw (eq-eqb (length b) group_length e) h

  -- What a sound group's bytes are.
  pub size : is_sound b ≡ true → length b ≡ group_length
  unfolding is_sound
  size h = eqb-true _ _ (and_l (eqb (length b) group_length) _ h)

  pub sound : is_sound b ≡ true → sound_group 256 0 (read_group b) ≡ true
  unfolding is_sound
  sound h = and_r (eqb (length b) group_length) _ h

  -- The answers to the question of soundness.
  module _ (n k : ℕ) where
    pub not_long : (length b ≡ group_length → ⊥) → outside ≡ soundness b n k
    unfolding soundness answer_if
    not_long f = rw (ne_eqb (length b) group_length f)

    pub not_low : length b ≡ group_length → 4096 < k → outside ≡ soundness b n k
    unfolding soundness answer_if
    not_low e h = rw (eq-eqb (length b) group_length e, lt-leb k 4096 h)

    pub asked : length b ≡ group_length → k ≤ 4096 → (t : Bool) → t ≡ sound_group n k (read_group b) → bit t ≡ soundness b n k
    unfolding soundness answer_if
    asked e h t q = rw (eq-eqb (length b) group_length e, le-leb k 4096 h) (ap bit q)

  -- Room: fewer than 512 records.
  pub no_room : is_sound b ≡ false → false ≡ has_room b
  unfolding has_room
  no_room e = rw e

  pub room : is_sound b ≡ true → (n : ℕ) → n ≡ record_count (read_group b) → ltb n 512 ≡ has_room b
  unfolding has_room
  room e n q = rw e (ap (λ (m : ℕ). ltb m group_limit) q)

  -- A group compacted, or left as it is.
  pub not_compacted : is_sound b ≡ false → Compacts (is_sound b) b b outside
  unfolding Compacts
  not_compacted e = rw e (refl, refl)

  pub compacted : is_sound b ≡ true → (b' : List ℕ) (r : ℕ) → read_group b' ≡ compact (read_group b) → r ≡ record_count (compact (read_group b)) → Compacts (is_sound b) b b' r
  unfolding Compacts
  compacted e b' r h q = rw e (h, q)

  module _ (o : ℕ) where
    -- The answers to a search.
    pub not_sound_lem : is_sound b ≡ false → outside ≡ finding b o
    unfolding finding answer_if
    not_sound_lem e = rw e

    pub not_below : is_sound b ≡ true → 256 ≤ o → outside ≡ finding b o
    unfolding finding answer_if
    not_below e h = rw (e, le-ltb o 256 h)

    module _ (h : is_sound b ≡ true) (below : o < 256) where
      abbrev g : Group
      g = read_group b

      searched : finding b o ≡ hit (holder o (listing g)) (levels_to o g)
      unfolding finding answer_if
      searched = rw (h, lt-ltb o 256 below)

      -- A sound group has at most 512 levels.
      pub levels_bounded : (n : ℕ) → n ≡ levels_to o g → n ≤ 512
      levels_bounded n e =
          let p = group-parts 256 0 g (sound h) in
          omega (arith, levels_to_most o g, levels-few g p.filled, length-flat g, p.limit)

      pub found_at : (r : Record) (n : ℕ) → as_option (Some r) ≡ map bare (holder o (listing g)) → n ≡ levels_to o g
          → bit56 + n * bit40 + r.start * bit16 + r.word ≡ finding b o
      unfolding as_option hit
      found_at r n e l =
          let w = found-whole 256 0 o g r (sound h) e in
          ap (λ (s : Record). bit56 + n * bit40 + s.start * bit16 + s.word) (sym w.numbers)
          ∙ ap (hit (some w.whole)) l
          ∙ ap (λ (a : Option model.Record). hit a (levels_to o g)) (sym w.held)
          ∙ sym searched

      pub found_nowhere : (n : ℕ) → as_option None ≡ map bare (holder o (listing g)) → n ≡ levels_to o g → n * bit40 ≡ finding b o
      unfolding as_option hit
      found_nowhere n e l =
          ap (hit none) l ∙ ap (λ (a : Option model.Record). hit a (levels_to o g)) (sym (go (holder o (listing g)) e)) ∙ sym searched
        where
          go : (a : Option model.Record) → ◌≡◌ {A = Option Record} none (map bare a) → a ≡ none
          go none k = refl
          go (some a) k = let z : ◌≡◌ {A = ℕ} 0 1 = cc in absurd (omega arith)
