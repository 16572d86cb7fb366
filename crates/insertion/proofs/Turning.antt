-- A slot of level 0 meets its fate: one law for each way that the turn goes. Assumes nothing.
use Rattle.std.specs.Prelude as code
use mathlib.Core.Path.{◌≡◌, refl, sym, ◌∙◌, ap, subst}
use mathlib.Core.List.{List, [], ◌∷◌, ◌++◌}
use mathlib.Core.Option.{Option, none, some}
use mathlib.Core.Bool.{Bool, true, false}
use Prim.Native.Nat.{ℕ, ◌+◌, ◌<◌}
use native.Mathlib.Omega.{arith}
use lib.ListN.{length, get_or, set}
use Rattle.model.specs.Record as model
use Rattle.model.specs.Record.{member}
use Rattle.model.specs.Levels.{Level, meets, shrink, Fate, stays, sinks, fate_left, fate, staying, sinking, sink, sink_all}
use Rattle.model.specs.Totals.{total}
use Rattle.octets.specs.Slots.{remove_at}
use Rattle.record.specs.declared.Record.{Record}
use Rattle.record.specs.Read.{as_record, bare}
use Rattle.record.specs.Scan.{masked}
use Rattle.group.specs.declared.Slot.{Slot}
use Rattle.group.specs.Layout.{slots_of, owner_of}
use Rattle.group.specs.Cutting.{Placed, flat}
use Rattle.group.specs.Held.{slots_for}
use Rattle.group.specs.Answers as answers
use Rattle.slots.specs.View.{Room, Shows, LeftOf}
use Rattle.insertion.specs.declared.Outcome.{Outcome}
use Rattle.insertion.specs.declared.Outcome.TheVariants.{Taken}
use Rattle.insertion.specs.Slots.{slot, held_at, records, keep_at}
use Rattle.insertion.specs.Shown.{Shown}
use Rattle.insertion.specs.Ready.{Masks}
use Rattle.insertion.specs.Turns.{Laid, Facing, side, outcome}
use Rattle.insertion.proofs.FlatParts.{flat-held, flat-inside, flat-remove, flat_replace}
use Rattle.insertion.proofs.Shrink.{shrink_same}
use Rattle.insertion.proofs.Steps.{shown-length}
use Rattle.insertion.proofs.Remaining.{Rest, numbers, nothing_left, record_left, left-shown, kept-shown, gone_shown}
use Rattle.insertion.proofs.Lowering.{sunk_total}

-- a record beside r stays
pub fate-beside : (r v : model.Record) → meets v r ≡ false → fate r v ≡ stays v
unfolding fate
fate-beside r v h = rw (h, fate) refl

module _ (b : List ℕ) (i z : ℕ) (q : Facing b i z) where
  abbrev l : List Placed
  l = flat ((q.at.before ++ (q.at.item ∷ q.at.behind)) ∷ q.at.below)

  abbrev v : model.Record
  v = held_at i l

  abbrev left_over : Level
  left_over = q.at.before ++ q.at.behind

  pub facing_inside : i < length (slots_of b)
  facing_inside = omega (arith, q.at.index, flat-inside q.at.before q.at.item q.at.behind q.at.below, shown-length b l q.shown)

  held : v ≡ q.at.item
  held = ap (λ (n : ℕ). held_at n l) q.at.index ∙ flat-held q.at.before q.at.item q.at.behind q.at.below

  removed : remove_at i l ≡ flat (left_over ∷ q.at.below)
  removed = ap (λ (n : ℕ). remove_at n l) q.at.index ∙ flat-remove q.at.before q.at.item q.at.behind q.at.below

  -- what sinking asks
  pub facing_laid : (c : List ℕ) → Room c → slots_of c ≡ slots_of b → Laid c i z
  facing_laid c room same = record { at = q.at; room = room; slots = same ∙ q.shown.slots }

  module _ (s : Slot) (got : s ≡ get_or (slots_of b) i answers.no_slot) (r : Record) (L m : List ℕ) (masks : Masks m (as_record r L))
      (t : Bool) (meet : (K M : List ℕ) → t ≡ meets (as_record s.held K) (as_record r M)) where
    abbrev R : model.Record
    R = as_record r L

    -- the bytes and the outcome, by the record's fate
    abbrev Comes : List ℕ → Outcome → Fate → Type 0
    Comes c x f = Shown c (flat ((q.at.before ++ staying f q.at.behind) ∷ sink_all (sinking f []) q.at.below)) × (x ≡ outcome R f)

    fated : (c : List ℕ) (x : Outcome) (f : Fate) → fate R v ≡ f → Comes c x f → Comes c x (fate R q.at.item)
    fated c x f e = subst (Comes c x) (sym e ∙ ap (fate R) held)

    is_held : s.held ≡ bare v
    is_held = numbers b l q.shown i facing_inside s got

    meets_is : meets v R ≡ t
    meets_is = sym (meet v.owned L ∙ ap (λ (y : Record). meets (as_record y v.owned) R) is_held)

    -- it lies beside r, and stays
    pub turn-beside : t ≡ false → (x : Outcome) → ((K M : List ℕ) → x ≡ side (as_record r M) (as_record s.held K)) → Comes b x (fate R q.at.item)
    unfolding staying sinking sink_all outcome
    turn-beside e x on =
        fated b x (stays v) (fate-beside R v (meets_is ∙ e)) (
          subst (λ (w : model.Record). Shown b (flat ((q.at.before ++ (w ∷ q.at.behind)) ∷ q.at.below))) (sym held) q.shown,
          on v.owned L ∙ ap (λ (y : Record). side R (as_record y v.owned)) is_held,
        )

    module _ (meeting : t ≡ true) (c : List ℕ) (x : code.Option Record) (left : LeftOf b c m s.held x) where
      fate_is : (y : Option model.Record) → shrink (masked m) v ≡ y → fate R v ≡ fate_left R y
      unfolding fate
      fate_is y e = rw (meets_is ∙ meeting, fate) (ap (fate_left R) (sym (shrink_same (masked m) (member R) v masks) ∙ e))

      -- nothing is left of it
      pub turn_gone : x ≡ code.None → (d : List ℕ) → Shows d (remove_at i (slots_of c)) (owner_of c) → Comes d Taken (fate R q.at.item)
      unfolding staying sinking sink_all outcome keep_at fate_left
      turn_gone g d put =
          let none_left = nothing_left b l q.shown i facing_inside s got c m x left g in
          fated d Taken _ (fate_is none none_left) (subst (Shown d) (ap (λ (y : Option model.Record). keep_at i 0 y l) none_left ∙ removed) (gone_shown b l q.shown i facing_inside s got c m x left 0 d g put), refl)

      module _ (u : Record) (g : x ≡ code.Some u) (t2 : Bool) (meet2 : (K M : List ℕ) → t2 ≡ meets (as_record u K) (as_record r M)) where
        -- what is left of it, as a record
        remains : Rest (masked m) v u
        remains = record_left b l q.shown i facing_inside s got c m x left u g

        abbrev w : model.Record
        w = remains.rest

        meets2 : meets w R ≡ t2
        meets2 = sym (meet2 w.owned L ∙ ap (λ (y : Record). meets (as_record y w.owned) R) remains.numbers)

        -- what is left of it lies beside r, and stays
        pub turn-left : t2 ≡ false → (d : List ℕ) → Shows d (set (slots_of c) i (record { level = 0; held = u })) (owner_of c)
            → (o : Outcome) → ((K M : List ℕ) → o ≡ side (as_record r M) (as_record u K)) → Comes d o (fate R q.at.item)
        unfolding staying sinking sink_all outcome keep_at fate_left
        turn-left e d put o on =
            let placed : keep_at i 0 (shrink (masked m) v) l ≡ flat ((q.at.before ++ (w ∷ q.at.behind)) ∷ q.at.below) =
            ap (λ (y : Option model.Record). keep_at i 0 y l) remains.is ∙ ap (λ (n : ℕ). set l n (slot 0 w)) q.at.index ∙ flat_replace q.at.before q.at.item q.at.behind q.at.below w in
            fated d o (stays w) (fate_is (some w) remains.is ∙ rw (meets2 ∙ e, fate_left)) (
              subst (Shown d) placed (kept-shown b l q.shown i facing_inside s got c m x left u 0 d g put),
              on w.owned L ∙ ap (λ (y : Record). side R (as_record y w.owned)) remains.numbers,
            )

        -- it still meets r, and sinks
        pub turn-sinks : t2 ≡ true → (d : List ℕ) → ((p : Laid c i z) (K : List ℕ) → Shows d (slots_for ((p.at.before ++ p.at.behind) ∷ sink (as_record u K) p.at.below)) (owner_of c))
            → Comes d Taken (fate R q.at.item)
        unfolding staying sinking sink_all outcome facing_laid fate_left
        turn-sinks e d lowers =
            let after : Shows d (slots_for (left_over ∷ sink w q.at.below)) (owner_of c) =
            subst (λ (y : Record). Shows d (slots_for (left_over ∷ sink (as_record y w.owned) q.at.below)) (owner_of c)) remains.numbers (lowers (facing_laid c left.room left.slots) w.owned) in
            fated d Taken (sinks w) (fate_is (some w) remains.is ∙ rw (meets2 ∙ e, fate_left)) (
              left-shown b l q.shown i facing_inside s got c m x left (flat (left_over ∷ sink w q.at.below)) d (λ f.
                  sunk_total w left_over f q.at.below q.at.in_order ∙ rw remains.is (ap (λ (k : List Placed). f w + total f (records k)) (sym removed))) after,
              refl,
            )
