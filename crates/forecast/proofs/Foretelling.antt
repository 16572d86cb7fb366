-- A table says what a search of the slots from i on comes to, for each offset: with the records put in from the last one up, and once all
-- are in, it has the forecasts of the group. Assumes nothing.
use mathlib.Core.Path.{◌≡◌, refl, sym, ◌∙◌}
use mathlib.Core.List.{List, map}
use mathlib.Core.Option
use mathlib.Core.Option.{Option, none, some}
use mathlib.Core.Bool.{Bool, true, false, ◌||◌}
use Prim.Native.Nat.{ℕ, zero, suc, ◌+◌, ◌-◌, ◌*◌, ◌≤◌, ◌<◌}
use native.Mathlib.Omega.{arith}
use lib.Dec.{eqb}
use lib.ListN.{length, get_or, replicate}
use Rattle.std.proofs.lemmas.List.{length-replicate, get_or-replicate}
use borrow.Author.Tests.{eqb-true}
use Rattle.model.specs.Options.{as_option}
use Rattle.model.specs.Record as model
use Rattle.model.specs.Record.{kind_of, kind, rise, member}
use Rattle.model.specs.Levels.{Group, listing, holder, levels_to}
use Rattle.model.specs.Sound.{sound_record}
use Rattle.model.proofs.Bools.{and_l, and_r}
use Rattle.model.proofs.SoundRecord.{record_parts, parts_record}
use Rattle.record.specs.declared.Record.{Record}
use Rattle.record.specs.Read.{bare}
use Rattle.group.specs.declared.Slot.{Slot}
use Rattle.group.specs.declared.Descent.{Descent}
use Rattle.group.specs.Layout.{used_of, slot_of, slots_from, slots_of, owner_of, levels_at}
use Rattle.group.specs.Cutting.{climbs}
use Rattle.group.specs.Reading.{placed_of, read_group, encodes, SoundBytes}
use Rattle.group.proofs.Slots.{encoded}
use Rattle.group.proofs.SoundSlots.{slot-sound}
use Rattle.group.proofs.Finding.{at, nowhere, hit_from, hit-read, hit-found, hit-missed, hit-top, hit-nowhere}
use Rattle.slots.specs.Owners.{owning}
use Rattle.forecast.specs.Forecast.{level_unit, near, page_forecast, forecast, Forecasts, Entered}
use Rattle.forecast.proofs.Putting.{word_low, rise-small}

-- the number x says what a search for offset o came to
pub data Says (o x : ℕ) : Descent → Type 0 where
  has : (r : Record) (n : ℕ) → x ≡ n * level_unit + (near r.intercept + rise (kind_of r.word) o) → rise (kind_of r.word) o < 1024 → Says o x (at r n)
  lacks : (n : ℕ) → x ≡ n * level_unit → Says o x (nowhere n)

-- the search through the n slots of b from slot i on
abbrev pub searched : List ℕ → ℕ → ℕ → ℕ → Descent
searched b n i o = hit_from (owner_of b) o (levels_at b i) (slots_from b i (n - i))

pub record SaysFrom (b l : List ℕ) (n i : ℕ) : Type 0 where
  pub long : length l ≡ 256
  pub says : (o : ℕ) → o < 256 → Says o (get_or l o 0) (searched b n i o)

-- behind the last slot
pub says_none : (b l : List ℕ) (n v k : ℕ) → v ≡ levels_at b n * level_unit → k ≡ 256 → l ≡ replicate k v → SaysFrom b l n n
says_none b l n v k e q so = record {
  long = rw so (length-replicate k v ∙ q);
  says = λ o h. let z : get_or l o 0 ≡ v = rw so (get_or-replicate k o v 0 (omega arith)) in rw (hit-nowhere b o n n (omega arith)) (lacks (levels_at b n) (z ∙ e));
}

-- sound in its group, sound in some group
anywhere : (n k : ℕ) (r : model.Record) → sound_record n k r ≡ true → sound_record 256 0 r ≡ true
anywhere n k r h = let p = record_parts n k r h in parts_record 256 0 r (record { byte = p.byte; inside = omega (arith, p.byte); shape = p.shape })

-- slot i, whose record is put in before those from i + 1 on
module _ (b : List ℕ) (g : SoundBytes b) (n i : ℕ) (all : n ≡ used_of b) (h : i < n) (s : Slot) (is : s ≡ slot_of b i) where
  pub slot_anywhere : sound_record 256 0 (owning (owner_of b) s.held) ≡ true
  slot_anywhere = anywhere g.pages g.number _ (slot-sound b g n i all h s is)

  pub says_slot : (l m : List ℕ) (first : ℕ) → SaysFrom b l n (i + 1) → first ≡ (s.level + 1) * level_unit + near s.held.intercept
      → Entered (member (owning (owner_of b) s.held)) (λ o. first + rise (kind_of s.held.word) o) l m → SaysFrom b m n i
  says_slot l m first so f put = record { long = put.long; says = λ o k. go o k (member (owning (owner_of b) s.held) o) refl }
    where
      go : (o : ℕ) → o < 256 → (t : Bool) → member (owning (owner_of b) s.held) o ≡ t → Says o (get_or m o 0) (searched b n i o)
      go o k true e =
          rw (hit-found b o n i h true s is (sym e) refl)
          (has s.held (s.level + 1) (omega (arith, f, put.into o k e)) (rise-small s.held.word o (word_low (owner_of b) s.held slot_anywhere) k))
      go o k false e = rw (hit-missed b o n i h false s is (sym e) refl, put.kept o k e) (so.says o k)

-- once all are in
module _ (o x : ℕ) (g : Group) where
  pub record Foretold : Type 0 where
    pub is : x ≡ forecast g o
    pub small : (r : model.Record) → holder o (listing g) ≡ some r → rise (kind r) o < 1024

  by_holder : (h : Descent) (a : Option model.Record) → Says o x h → as_option h.held ≡ Option.map bare a → h.levels ≡ levels_to o g → holder o (listing g) ≡ a → Foretold
  unfolding as_option forecast page_forecast
  by_holder _ none (has r n e low) f l q = let z : ◌≡◌ {A = ℕ} 0 1 = cc in absurd (omega arith)
  by_holder _ (some a) (has r n e low) f l q =
      let k : r ≡ bare a = cc in
      record {
        is = rw (q, ← l) (rw k at e);
        small = λ b p. let z : a ≡ b = cc in rw (← z) (rw k at low);
      }
  by_holder _ none (lacks n e) f l q = record {
    is = rw (q, ← l) (omega (arith, e));
    small = λ b p. let z : ◌≡◌ {A = ℕ} 0 1 = cc in absurd (omega arith);
  }
  by_holder _ (some a) (lacks n e) f l q = let z : ◌≡◌ {A = ℕ} 0 1 = cc in absurd (omega arith)

pub says_all : (b l : List ℕ) (n i : ℕ) → encodes b ≡ true → n ≡ used_of b → i ≡ 0 → SaysFrom b l n i → Forecasts (read_group b) l
says_all b l n i enc all z so = record { long = so.long; each = λ o h. (told o h).is; small = λ o h. (told o h).small }
  where
    told : (o : ℕ) → o < 256 → Foretold o (get_or l o 0) (read_group b)
    told o h =
        let s : Says o (get_or l o 0) (searched b n 0 o) = rw z at (so.says o h) in
        let t = hit-read b o enc (searched b n 0 o) (sym (hit-top b o n 0 all)) in
        by_holder o (get_or l o 0) (read_group b) _ (holder o (listing (read_group b))) s t.0 t.1 refl

-- a slot's level is no more than its number: the levels go up by 0 or 1
level_from : (b : List ℕ) (n i k j : ℕ) → climbs n (map (placed_of (owner_of b)) (slots_from b i k)) ≡ true → j < k → (slot_of b (i + j)).level ≤ n + j
unfolding slots_from climbs
level_from b n i zero j h l = absurd (omega arith)
level_from b n i (suc k) j h l = go j l (λ m r. level_from b (suc (slot_of b i).level) (suc i) k m (and_r (eqb (slot_of b i).level n || eqb (suc (slot_of b i).level) n) _ h) r)
  where
    first : (slot_of b i).level ≤ n
    first = by (eqb (slot_of b i).level n) refl (and_l (eqb (slot_of b i).level n || eqb (suc (slot_of b i).level) n) _ h)
      where
        by : (t : Bool) → eqb (slot_of b i).level n ≡ t → (t || eqb (suc (slot_of b i).level) n) ≡ true → (slot_of b i).level ≤ n
        by true e o = omega (arith, eqb-true (slot_of b i).level n e)
        by false e o = omega (arith, eqb-true (suc (slot_of b i).level) n o)

    go : (j : ℕ) → j < suc k → ((m : ℕ) → m < k → (slot_of b (suc i + m)).level ≤ suc (slot_of b i).level + m) → (slot_of b (i + j)).level ≤ n + j
    go zero r ih = let e : i + 0 ≡ i = omega arith in rw e (omega (arith, first))
    go (suc m) r ih = let e : i + suc m ≡ suc i + m = omega arith in rw e (omega (arith, ih m (omega arith), first))

pub level-low : (b : List ℕ) → encodes b ≡ true → (i : ℕ) → i < used_of b → (slot_of b i).level ≤ i
unfolding slots_of
level-low b h i l = let e : 0 + i ≡ i = omega arith in rw e at (level_from b 0 0 (used_of b) i (encoded b h).climbing l)

pub levels-low : (b : List ℕ) → encodes b ≡ true → (n : ℕ) → n ≡ used_of b → levels_at b n ≤ n
unfolding levels_at slot_of
levels-low b h zero e = omega arith
levels-low b h (suc i) e = omega (arith, level-low b h i (omega arith))
