-- Telling why, slot after slot: what is left to tell makes the whole, until a member is told or no slot is left. Assumes nothing.
use mathlib.Core.Path.{◌≡◌, refl, sym, ap, ◌∙◌, subst}
use mathlib.Core.List.{List, [], ◌∷◌, ◌++◌, map, flatten, append_assoc}
use mathlib.Core.Option.{Option}
use mathlib.Core.Bool.{Bool, true, false}
use Prim.Native.Nat.{ℕ, zero, suc, ◌+◌, ◌*◌, ◌-◌, ◌≤◌, ◌<◌, max}
use native.Mathlib.Omega.{arith}
use native.Mathlib.Numerals.{add-one}
use lib.Dec.{eqb, leb}
use lib.ListN.{length, replicate, length-append, length-replicate}
use borrow.Author.Tests.{leb-true}
use Rattle.model.specs.Lists.{store, elem, all, or_else}
use Rattle.model.specs.Record as model
use Rattle.model.specs.Record.{covers}
use Rattle.model.specs.Levels.{listing}
use Rattle.model.specs.Sound.{sound_record}
use Rattle.model.proofs.Bools.{all_head, all_tail, and_r}
use Rattle.model.proofs.Lists.{store_nil, store_append}
use Rattle.model.proofs.SoundGroup.{group-parts}
use Rattle.model.proofs.SoundRecord.{record_parts}
use Rattle.group.specs.declared.Slot.{Slot}
use Rattle.group.specs.Layout.{used_of, slot_of, slots_of, owner_of, levels_at}
use Rattle.group.specs.Cutting.{flat}
use Rattle.group.specs.Reading.{record_of, placed_of, encodes, read_group, SoundBytes}
use Rattle.group.specs.Held.{owner_among}
use Rattle.group.proofs.Cutting.{flat-cut}
use Rattle.group.proofs.Slots.{slots_all, slots-step, slots_end, encoded, read_is}
use Rattle.group.proofs.Soundness.{sound-encodes}
use Rattle.group.proofs.Holding.{sound-held}
use Rattle.calls.specs.Why.{Reason, uncovered, owner_start, reason_of, up_to, reasons_from, reasons_in, owner_bytes, reason_bytes, reasons_bytes}
use Rattle.lookup.specs.declared.why.Entry.{Entry}
use Rattle.lookup.specs.WhyEntries.{twelve, start_of, Stands, gap, met_at, pass_from, placed_at, placed_from, pass_at}
use Rattle.lookup.proofs.WhyEntries.{length-twelve}
use Rattle.lookup.proofs.LevelByLevel.{gap_more, gap_none, met-above, met-bare, met_here, pass_met, pass_over, pass_is}

-- the owner that the bytes name is the owner among the records
start-among : (o : ℕ) (l : List model.Record) → start_of (owner_among o l) ≡ owner_start o l
unfolding start_of owner_among owner_start or_else
start-among o [] = refl
start-among o (r ∷ l) = go (elem o r.owned) refl (start-among o l)
  where
    go : (t : Bool) → elem o r.owned ≡ t → start_of (owner_among o l) ≡ owner_start o l → start_of (owner_among o (r ∷ l)) ≡ or_else t r.start (owner_start o l)
    go true e ih = rw (e, owner_among) refl
    go false e ih = rw (e, owner_among) ih

among-small : (N k o : ℕ) (l : List model.Record) → all (sound_record N k) l ≡ true → owner_among o l ≤ 256
unfolding owner_among
among-small N k o [] s = omega arith
among-small N k o (r ∷ l) s = go (elem o r.owned) refl (among-small N k o l (all_tail (sound_record N k) r l s))
  where
    go : (t : Bool) → elem o r.owned ≡ t → owner_among o l ≤ 256 → owner_among o (r ∷ l) ≤ 256
    go true e ih = rw (e, owner_among) (omega (arith, (record_parts N k r (all_head (sound_record N k) r l s)).byte))
    go false e ih = rw (e, owner_among) ih

module _ (b : List ℕ) (g : SoundBytes b) (o : ℕ) (lt : o < 256) where
  start_is : start_of (owner_of b o) ≡ owner_start o (listing (read_group b))
  start_is = ap start_of ((sound-held g.pages g.number b g.sound).owners o lt) ∙ start-among o (listing (read_group b))

  -- An owner is a start plus 1, at most 256.
  pub owner-small : owner_of b o ≤ 256
  owner-small =
      omega (arith, (sound-held g.pages g.number b g.sound).owners o lt, among-small g.pages g.number o (listing (read_group b)) (group-parts g.pages g.number _ g.sound).records)

-- an entry stands for a record's reason, by either name of the owner
pub stands_by : (e : Entry) (o x y : ℕ) (r : model.Record) → x ≡ y → Stands e (reason_of o (start_of x) r) → Stands e (reason_of o (start_of y) r)
stands_by e o x y r q t = subst (λ (v : ℕ). Stands e (reason_of o (start_of v) r)) q t

-- entries one after the other
bytes_append : (l m : List Reason) → reasons_bytes (l ++ m) ≡ reasons_bytes l ++ reasons_bytes m
unfolding flatten
bytes_append [] m = refl
bytes_append (x ∷ l) m = ap (λ (v : List ℕ). reason_bytes x ++ v) (bytes_append l m) ∙ sym (append_assoc (reason_bytes x) (reasons_bytes l) (reasons_bytes m))

-- the entries of levels passed over are twelve bytes each
length-gap : (m : ℕ) → length (reasons_bytes (replicate m uncovered)) ≡ m * 12
unfolding flatten reason_bytes owner_bytes
length-gap zero = refl
length-gap (suc m) = omega (arith, length-gap m)

-- one of them stored
pub gap_on : (out out' : List ℕ) (v i : ℕ) (e : Entry) → i < v → Stands e uncovered → out' ≡ store out (i * 12) (twelve e)
    → store out (i * 12) (reasons_bytes (gap i v)) ≡ store out' ((i + 1) * 12) (reasons_bytes (gap (i + 1) v))
unfolding flatten
gap_on out out' v i e h t d =
    let p : (i + 1) * 12 ≡ i * 12 + length (twelve e) = omega (arith, length-twelve e) in
    rw (gap_more i v h, ← add-one i, p, d, ← t.bytes) (store_append out (i * 12) (twelve e) (reasons_bytes (gap (i + 1) v)))

-- all of them
pub gap_all : (out : List ℕ) (i v : ℕ) → v ≤ i → out ≡ store out (i * 12) (reasons_bytes (gap i v))
unfolding flatten
gap_all out i v h = rw (gap_none i v h) (sym (store_nil out (i * 12)))

module _ (b : List ℕ) (o : ℕ) where
  -- whether a slot is met, by its record and its level
  pub slot-met : (k i : ℕ) (s : Slot) → s ≡ slot_of b i → covers (record_of (owner_of b) s) o ≡ true → k ≤ s.level → met_at o k (placed_at b i) ≡ true
  slot-met k i s is c l = rw (← is) (met_here o k (placed_of (owner_of b) s) c l)

  pub slot-bare : (k i : ℕ) (s : Slot) → s ≡ slot_of b i → covers (record_of (owner_of b) s) o ≡ false → met_at o k (placed_at b i) ≡ false
  slot-bare k i s is c = rw (← is) (met-bare o k (placed_of (owner_of b) s) c)

  pub slot-above : (k i : ℕ) (s : Slot) → s ≡ slot_of b i → s.level < k → met_at o k (placed_at b i) ≡ false
  slot-above k i s is l = rw (← is) (met-above o k (placed_of (owner_of b) s) l)

module _ (b : List ℕ) (n o : ℕ) where
  abbrev w : Option ℕ
  w = start_of (owner_of b o)

  -- all that is to be told
  abbrev whole : List Reason
  whole = reasons_in o (read_group b)

  -- the pass at slot i, of n, the first of the slots that are left
  placed_step : (i : ℕ) → i < n → placed_from b n i ≡ placed_at b i ∷ placed_from b n (i + 1)
  placed_step i h = ap (map (placed_of (owner_of b))) (slots-step b n i h)

  levels-step : (i : ℕ) → levels_at b (i + 1) ≡ suc (slot_of b i).level
  unfolding levels_at slot_of
  levels-step i = rw (add-one i) refl

  -- where it isn't met ..
  pass_on : (v : Option ℕ) (k i : ℕ) → i < n → met_at o k (placed_at b i) ≡ false → pass_at b n o v k i ≡ pass_at b n o v k (i + 1)
  pass_on v k i h f = rw (placed_step i h, levels-step i) (pass_over o v (levels_at b i) k (placed_at b i) (placed_from b n (i + 1)) f)

  -- .. where it is ..
  pass_here : (k i : ℕ) → i < n → met_at o k (placed_at b i) ≡ true
      → pass_at b n o w k i ≡ gap k (slot_of b i).level ++ up_to (reason_of o w (record_of (owner_of b) (slot_of b i))) (pass_at b n o w ((slot_of b i).level + 1) (i + 1))
  pass_here k i h t = rw (placed_step i h, levels-step i, add-one (slot_of b i).level) (pass_met o w (levels_at b i) k (placed_at b i) (placed_from b n (i + 1)) t)

  -- .. and where none is left.
  pass_end : (k i : ℕ) → n ≤ i → pass_at b n o w k i ≡ gap k (levels_at b i)
  unfolding pass_from
  pass_end k i h = rw (slots_end b n i h) refl

  -- What is left to tell from level k on, by the slots from slot i on, makes the whole.
  pub record Left (out₀ out : List ℕ) (k i : ℕ) : Type 0 where
    pub last : i ≤ n
    pub size : length out ≡ length out₀
    pub bytes : store out₀ 0 (reasons_bytes whole) ≡ store out (k * 12) (reasons_bytes (pass_at b n o w k i))
    pub count : length whole ≡ k + length (pass_at b n o w k i)

  -- At first all is.
  pub left_all : SoundBytes b → o < 256 → n ≡ used_of b → (out : List ℕ) → Left out out 0 0
  unfolding levels_at
  left_all g lt all out =
      let h : encodes b ≡ true = sound-encodes g.pages g.number b g.sound in
      let placed : placed_from b n 0 ≡ flat (read_group b) =
      ap (map (placed_of (owner_of b))) (sym (slots_all b n all))
      ∙ sym (ap flat (read_is b h) ∙ flat-cut (map (placed_of (owner_of b)) (slots_of b)) (encoded b h).climbing) in
      let e : whole ≡ pass_at b n o w 0 0 =
      ap (λ (v : Option ℕ). reasons_from o v (read_group b)) (sym (start_is b g o lt))
      ∙ sym (pass_is o w 0 (read_group b) (group-parts g.pages g.number _ g.sound).filled)
      ∙ ap (pass_from o w 0 0) (sym placed) in
      record { last = omega arith; size = refl; bytes = ap (λ (l : List Reason). store out 0 (reasons_bytes l)) e; count = omega (arith, ap length e) }

  -- A slot that isn't met tells nothing.
  pub left_over : (out₀ out : List ℕ) (k i : ℕ) → i < n → Left out₀ out k i → met_at o k (placed_at b i) ≡ false → Left out₀ out k (i + 1)
  left_over out₀ out k i h l f =
      let e : pass_at b n o w k i ≡ pass_at b n o w k (i + 1) = pass_on w k i h f in record {
        last = omega arith;
        size = l.size;
        bytes = l.bytes ∙ ap (λ (x : List Reason). store out (k * 12) (reasons_bytes x)) e;
        count = l.count ∙ ap (λ (x : List Reason). k + length x) e;
      }

  module _ (out₀ out mid out' : List ℕ) (k i : ℕ) (h : i < n) (l : Left out₀ out k i) (s : Slot) (is : s ≡ slot_of b i)
      (met : met_at o k (placed_at b i) ≡ true)
      (e : Entry) (stands : Stands e (reason_of o w (record_of (owner_of b) s)))
      (passed : mid ≡ store out (k * 12) (reasons_bytes (gap k s.level))) (stored : out' ≡ store mid (s.level * 12) (twelve e)) where
    abbrev reason : Reason
    reason = reason_of o w (record_of (owner_of b) s)

    abbrev later : List Reason
    later = pass_at b n o w (s.level + 1) (i + 1)

    -- no level is told twice
    low : k ≤ s.level
    unfolding met_at
    low = rw is (leb-true k (slot_of b i).level (and_r (covers (record_of (owner_of b) (slot_of b i)) o) (leb k (slot_of b i).level) met))

    left_is : pass_at b n o w k i ≡ gap k s.level ++ up_to reason later
    left_is = rw is (pass_here k i h met)

    told-length : (x : List Reason) → k + length (gap k s.level ++ (reason ∷ x)) ≡ s.level + 1 + length x
    told-length x = omega (arith, low, length-append (gap k s.level) (reason ∷ x), length-replicate (s.level - k) uncovered)

    told-bytes : (x : List Reason) → store out (k * 12) (reasons_bytes (gap k s.level ++ (reason ∷ x))) ≡ store out' ((s.level + 1) * 12) (reasons_bytes x)
    unfolding flatten
    told-bytes x =
        let p : s.level * 12 ≡ k * 12 + length (reasons_bytes (gap k s.level)) = omega (arith, low, length-gap (s.level - k)) in
        let q : (s.level + 1) * 12 ≡ s.level * 12 + length (twelve e) = omega (arith, length-twelve e) in
        ap (store out (k * 12)) (bytes_append (gap k s.level) (reason ∷ x))
        ∙ store_append out (k * 12) (reasons_bytes (gap k s.level)) (reason_bytes reason ++ reasons_bytes x)
        ∙ rw (← passed, ← p, ← stands.bytes, q, stored) (store_append mid (s.level * 12) (twelve e) (reasons_bytes x))

    -- A member ends it ..
    pub left-done : eqb e.note 3 ≡ true → (s.level + 1 ≡ length whole) × (out' ≡ store out₀ 0 (reasons_bytes whole))
    unfolding up_to flatten
    left-done m =
        let u : up_to reason later ≡ reason ∷ [] = ap (λ (t : Bool). reason ∷ elim t [ true ↦ [] | false ↦ later ]) (sym stands.said ∙ m) in
        let v : pass_at b n o w k i ≡ gap k s.level ++ (reason ∷ []) = left_is ∙ ap (λ (x : List Reason). gap k s.level ++ x) u in (
          omega (arith, l.count ∙ ap (λ (x : List Reason). k + length x) v, told-length []),
          sym (l.bytes ∙ ap (λ (x : List Reason). store out (k * 12) (reasons_bytes x)) v ∙ told-bytes [] ∙ store_nil out' ((s.level + 1) * 12)),
        )

    -- .. and any other leaves the levels below.
    pub left_next : eqb e.note 3 ≡ false → length out' ≡ length out → Left out₀ out' (s.level + 1) (i + 1)
    unfolding up_to flatten
    left_next m size =
        let u : up_to reason later ≡ reason ∷ later = ap (λ (t : Bool). reason ∷ elim t [ true ↦ [] | false ↦ later ]) (sym stands.said ∙ m) in
        let v : pass_at b n o w k i ≡ gap k s.level ++ (reason ∷ later) = left_is ∙ ap (λ (x : List Reason). gap k s.level ++ x) u in
        record {
          last = omega arith;
          size = size ∙ l.size;
          bytes = l.bytes ∙ ap (λ (x : List Reason). store out (k * 12) (reasons_bytes x)) v ∙ told-bytes later;
          count = l.count ∙ ap (λ (x : List Reason). k + length x) v ∙ told-length later;
        }

  -- Where no slot is left, the levels are.
  module _ (out₀ out : List ℕ) (k i m : ℕ) (h : n ≤ i) (l : Left out₀ out k i) (levels : m ≡ levels_at b n) where
    rest_is : pass_at b n o w k i ≡ gap k m
    rest_is = let e : i ≡ n = omega (arith, l.last) in rw levels (ap (λ (j : ℕ). pass_at b n o w k j) e ∙ pass_end k n (omega arith))

    pub left-levels : (out' : List ℕ) → out' ≡ store out (k * 12) (reasons_bytes (gap k m)) → (max m k ≡ length whole) × (out' ≡ store out₀ 0 (reasons_bytes whole))
    left-levels out' d = (
      omega (arith, l.count ∙ ap (λ (x : List Reason). k + length x) rest_is, length-replicate (m - k) uncovered),
      d ∙ sym (l.bytes ∙ ap (λ (x : List Reason). store out (k * 12) (reasons_bytes x)) rest_is),
    )
