-- Slot after slot gives up offsets: what a turn gives, and what the list is in between. Assumes nothing.
use Rattle.std.specs.Prelude as code
use mathlib.Core.Path.{◌≡◌, refl, sym, ◌∙◌, ap, subst}
use mathlib.Core.List.{List, [], ◌∷◌}
use mathlib.Core.Option.{Option, none, some}
use mathlib.Core.Bool.{Bool, true, false}
use Prim.Native.Nat.{ℕ, zero, suc, ◌+◌, ◌-◌, ◌<◌, ◌≤◌}
use native.Mathlib.Omega.{arith}
use native.Mathlib.Numerals.{add-one}
use lib.ListN.{length, get_or, set}
use lib.Seq.{set-get_or}
use Rattle.model.specs.Record as model
use Rattle.model.specs.Record.{kind, is_approximate}
use Rattle.model.specs.Levels.{shrink}
use Rattle.model.proofs.Bools.{and_l}
use Rattle.octets.specs.Slots.{remove_at}
use Rattle.record.specs.declared.Record.{Record}
use Rattle.record.specs.Read.{as_record}
use Rattle.record.specs.Scan.{masked}
use Rattle.group.specs.declared.Slot.{Slot}
use Rattle.group.specs.Layout.{slots_of, owner_of}
use Rattle.group.specs.Answers as answers
use Rattle.slots.specs.View.{Shows, LeftOf}
use Rattle.slots.proofs.SlotPass.{behind_first, behind-end}
use Rattle.group.specs.Cutting.{Placed}
use Rattle.insertion.specs.Slots.{no_slot, held_at, keep_slot, keep_at, keep_next}
use Rattle.insertion.specs.InsertSlots.{given, Noted, is_loser, give_up_slots}
use Rattle.insertion.specs.Shown.{Shown}
use Rattle.insertion.proofs.GiveUp.{given-approximate}
use Rattle.insertion.proofs.Steps.{shown-length}
use Rattle.insertion.proofs.Remaining.{slot_is, numbers, nothing_left, record_left, kept-shown, gone_shown}
use Rattle.insertion.proofs.Losing.{keeps_unnoted, still_noted}

-- slot i of the bytes b has its turn: the bytes d hold the list with what is left of it, and slot j is next
abbrev pub Gives : (ℕ → Bool) → List ℕ → List ℕ → ℕ → ℕ → Type 0
Gives lost b d i j = (l : List Placed) → Shown b l → Shown d (keep_at i (get_or l i no_slot).level (given lost (held_at i l)) l) × (j ≡ keep_next i (given lost (held_at i l)))

module _ (b : List ℕ) (i : ℕ) (h : i < length (slots_of b)) (s : Slot) (got : s ≡ get_or (slots_of b) i answers.no_slot) (taken losers : List ℕ)
    (t : Bool) (loses : (K : List ℕ) → t ≡ is_loser losers (as_record s.held K)) (noted : Noted b taken losers) where
  loses_is : (l : List Placed) → Shown b l → is_loser losers (held_at i l) ≡ t
  loses_is l shown = sym (loses (held_at i l).owned ∙ ap (λ (y : Record). is_loser losers (as_record y (held_at i l).owned)) (numbers b l shown i h s got))

  -- A slot that loses nothing stays.
  pub give_none : t ≡ false → Gives (masked taken) b b i (i + 1)
  unfolding keep_at keep_next
  give_none n l shown =
      let e : given (masked taken) (held_at i l) ≡ some (held_at i l) = keeps_unnoted b l shown taken losers noted i h (loses_is l shown ∙ n) in
      rw e (subst (Shown b) (sym (set-get_or l i no_slot)) shown, add-one i)

  module _ (y : t ≡ true) (c : List ℕ) (x : code.Option Record) (left : LeftOf b c taken s.held x) where
    slope : (l : List Placed) → Shown b l → given (masked taken) (held_at i l) ≡ shrink (masked taken) (held_at i l)
    unfolding is_loser
    slope l shown = given-approximate (masked taken) (held_at i l) (and_l (is_approximate (kind (held_at i l))) _ (loses_is l shown ∙ y))

    -- A loser of which something is left.
    pub give_kept : (u : Record) → x ≡ code.Some u → (d : List ℕ) → Shows d (set (slots_of c) i (record { level = s.level; held = u })) (owner_of c) → Noted d taken losers × Gives (masked taken) b d i (i + 1)
    unfolding keep_next
    give_kept u q d put = (
      still_noted b c d taken losers s.held x noted left put.2,
      λ l shown.
          let level : s.level ≡ (get_or l i no_slot).level = ap (λ (z : Slot). z.level) (slot_is b l shown i h s got) in
          let kept = kept-shown b l shown i h s got c taken x left u s.level d q put in
          rw (slope l shown, ← level) (kept, rw (record_left b l shown i h s got c taken x left u q).is (add-one i)),
    )

    -- One of which nothing is left.
    pub give_gone : x ≡ code.None → (d : List ℕ) → Shows d (remove_at i (slots_of c)) (owner_of c) → Noted d taken losers × Gives (masked taken) b d i i
    unfolding keep_next
    give_gone q d put = (
      still_noted b c d taken losers s.held x noted left put.2,
      λ l shown.
          rw (slope l shown) (gone_shown b l shown i h s got c taken x left (get_or l i no_slot).level d q put, rw (nothing_left b l shown i h s got c taken x left q)),
    )

-- the slots before the next one, and what is left of the others, are what they were before the turn
module _ (lost : ℕ → Bool) where
  turn-leaves : (i : ℕ) (l : List Placed) (n : ℕ) (x : Option model.Record) → i < length l → n ≡ (get_or l i no_slot).level → x ≡ given lost (held_at i l)
      → (behind_first (keep_next i x) (give_up_slots lost) (keep_at i n x l) ≡ behind_first i (give_up_slots lost) l) × (keep_next i x + length l ≡ suc i + length (keep_at i n x l))
  unfolding behind_first give_up_slots keep_next keep_at keep_slot remove_at
  turn-leaves i [] n x h e f = absurd (omega arith)
  turn-leaves zero (s ∷ l) n none h e f = (ap (λ (y : Option model.Record). keep_slot s.level y (give_up_slots lost l)) f, omega arith)
  turn-leaves zero (s ∷ l) n (some r) h e f = (rw e (ap (λ (y : Option model.Record). keep_slot s.level y (give_up_slots lost l)) f), refl)
  turn-leaves (suc i) (s ∷ l) n none h e f = let rest = turn-leaves i l n none (omega arith) e f in (ap (λ (m : List Placed). s ∷ m) rest.0, omega (arith, rest.1))
  turn-leaves (suc i) (s ∷ l) n (some r) h e f = let rest = turn-leaves i l n (some r) (omega arith) e f in (ap (λ (m : List Placed). s ∷ m) rest.0, omega (arith, rest.1))

-- k slots have their turn still, from index i on: what is left of them then, behind those before, is what is left of l
pub record GivingUp (lost : ℕ → Bool) (l : List Placed) (t : List ℕ) (k i : ℕ) : Type 0 where
  pub list : List Placed
  pub shown : Shown t list
  pub gives : behind_first i (give_up_slots lost) list ≡ give_up_slots lost l
  pub count : i + k ≡ length list

module _ (lost : ℕ → Bool) (l : List Placed) where
  pub giving_start : (t : List ℕ) (k : ℕ) → Shown t l → k ≡ length (slots_of t) → GivingUp lost l t k 0
  unfolding behind_first
  giving_start t k shown e = record { list = l; shown = shown; gives = refl; count = omega (arith, shown-length t l shown) }

  module _ (t : List ℕ) (k i : ℕ) (g : GivingUp lost l t k i) where
    pub giving_inside : 0 < k → i < length (slots_of t)
    giving_inside h = omega (arith, shown-length t g.list g.shown, g.count)

    pub giving_turn : 0 < k → (u : List ℕ) (j : ℕ) → Gives lost t u i j → GivingUp lost l u (k - 1) j
    giving_turn h u j step =
        let turned = step g.list g.shown in
        let leaves = turn-leaves lost i g.list _ _ (omega (arith, g.count)) refl refl in
        record {
          list = keep_at i (get_or g.list i no_slot).level (given lost (held_at i g.list)) g.list;
          shown = turned.0;
          gives = rw turned.1 (leaves.0 ∙ g.gives);
          count = omega (arith, turned.1, leaves.1, g.count);
        }

    pub giving_end : k ≤ 0 → Shown t (give_up_slots lost l) × (i ≡ length (give_up_slots lost l))
    unfolding give_up_slots
    giving_end h =
        let is : g.list ≡ give_up_slots lost l = sym (behind-end no_slot (give_up_slots lost) i g.list refl (omega (arith, g.count))) ∙ g.gives in
        (subst (Shown t) is g.shown, omega (arith, g.count, ap (λ (m : List Placed). length m) is))
