-- One machine simulates another: what it does, the other can do too, with the same calls, answers and books. So demand 3 of the other
-- is demand 3 of it. Assumes nothing.
use mathlib.Core.Path.{◌≡◌}
use mathlib.Core.List.{List}
use mathlib.Core.Bool.{true}
use Prim.Native.Nat.{ℕ}
use Rattle.model.specs.Device.{Device}
use Rattle.calls.specs.Refusals.{no_free_block}
use Rattle.calls.specs.Outcome.{Answer, refused, accepted}
use Rattle.calls.specs.History.{Call, format_call, flush_call, lookup_call, discard_call}
use Rattle.calls.specs.Demand3 as demands
use Rattle.calls.specs.Demand3.{Machine, Leads, Waits, FromFormat, Helped, Demanded, AfterFormat}

-- Related situations have the same book and as many free blocks. Whatever m does in one of them, n can do in the other, and they stay
-- related. An accepted format of m, wherever it is made, is one of n somewhere, and leads to related situations.
pub record Simulates (m n : Machine) (Related : m.Situation → n.Situation → Type 0) : Type 0 where
  pub books : (h : m.Situation) (k : n.Situation) → Related h k → m.book h ≡ n.book k
  pub frees : (h : m.Situation) (k : n.Situation) → Related h k → m.free h ≡ n.free k
  pub steps : (h : m.Situation) (k : n.Situation) → Related h k → (c : Call) (a : Answer) (h' : m.Situation) → m.Makes h c a h'
      → (k' : n.Situation) × n.Makes k c a k' × Related h' k'
  pub starts : (h : m.Situation) (d : Device) (a : Answer) (h' : m.Situation) → m.Makes h (format_call d) a h' → accepted a ≡ true
      → (k : n.Situation) × (k' : n.Situation) × n.Makes k (format_call d) a k' × Related h' k'

module _ (m n : Machine) (Related : m.Situation → n.Situation → Type 0) (s : Simulates m n Related) where
  leads : (h h' : m.Situation) (k : n.Situation) → Related h k → Leads m h h' → (k' : n.Situation) × Leads n k k' × Related h' k'
  leads h h' k r (demands.nothing _) = (k, demands.nothing k, r)
  leads h h' k r (demands.then _ c a h₁ _ made l) =
      let one = s.steps h k r c a h₁ made in
      let more = leads h₁ h' one.0 one.2 l in
      (more.0, demands.then k c a one.0 more.0 one.1 more.1, more.2)

  waits : (h h' : m.Situation) (k : n.Situation) → Related h k → Waits m h h' → (k' : n.Situation) × Waits n k k' × Related h' k'
  waits h h' k r (demands.nothing _) = (k, demands.nothing k, r)
  waits h h' k r (demands.then _ c a h₁ _ b made w) =
      let one = s.steps h k r c a h₁ made in
      let more = waits h₁ h' one.0 one.2 w in
      (more.0, demands.then k c a one.0 more.0 b one.1 more.1, more.2)

  -- A situation that a list of calls leads to from a format is related to such a one.
  pub from_format : (h : m.Situation) → FromFormat m h → (k : n.Situation) × FromFormat n k × Related h k
  from_format h f =
      let start = s.starts f.start f.device f.answer f.formatted f.makes f.accepts in
      let more = leads f.formatted h start.1 start.3 f.calls in (
        more.0,
        record { start = start.0; device = f.device; answer = f.answer; formatted = start.1; makes = start.2; accepts = f.accepts; calls = more.1 },
        more.2,
      )

  helped : (h : m.Situation) (k : n.Situation) → Related h k → (d : Device) (batch : List ℕ) → Helped n d batch k → Helped m d batch h
  helped h k r d batch help = record {
    collection = λ h₁ w plan erased p e a h₂ made.
        let w' = waits h h₁ k r w in
        let c = s.steps h₁ w'.0 w'.2 _ a h₂ made in
        help.collection w'.0 w'.1 plan erased p e a c.0 c.1;
    again = λ h₁ w plan erased p e a h₂ made h₃ v plan' p' a' h₄ made'.
        let w' = waits h h₁ k r w in
        let c = s.steps h₁ w'.0 w'.2 _ a h₂ made in
        let v' = waits h₂ h₃ c.0 c.2 v in
        let f = s.steps h₃ v'.0 v'.2 _ a' h₄ made' in
        help.again w'.0 w'.1 plan erased p e a c.0 c.1 v'.0 v'.1 plan' p' a' f.0 f.1;
  }

  carried : (h : m.Situation) (k : n.Situation) → Related h k → Demanded n k → Demanded m h
  carried h k r c = record {
    lookups = λ x b a h' made.
        let one = s.steps h k r (lookup_call x) a h' made in
        rw e (c.lookups x (rw (← e) b) a one.0 one.1);
    only = rw e c.only;
    discards = λ x b a h' made. let one = s.steps h k r (discard_call x) a h' made in c.discards x (rw (← e) b) a one.0 one.1;
    flushes = λ batch plan f a h' made.
        let one = s.steps h k r (flush_call batch plan) a h' made in
        rw (s.frees h k r) (c.flushes batch plan (rw (← e) f) a one.0 one.1);
    helps = λ batch plan h' made.
        let one = s.steps h k r (flush_call batch plan) (refused no_free_block) h' made in
        helped h' one.0 one.2 _ batch (rw e (c.helps batch plan one.0 one.1));
    never = λ call a h' o made. let one = s.steps h k r call a h' made in c.never call a one.0 o one.1;
    room = λ plan erased a h' made. let one = s.steps h k r _ a h' made in c.room plan erased a one.0 one.1;
  }
    where
      e : m.book h ≡ n.book k
      e = s.books h k r

  -- A machine that simulates one which meets demand 3 meets it.
  pub carry : AfterFormat n → AfterFormat m
  carry after h f = let k = from_format h f in carried h k.0 k.2 (after k.0 k.1)
