-- The plain engine simulates the page map: each call answers what the map answers, and leaves table and book that show what the map
-- leaves. Assumes nothing.
use mathlib.Core.Path.{◌≡◌, refl, sym, ◌∙◌, ap, ap₂}
use mathlib.Core.List.{List}
use mathlib.Core.Option.{none}
use mathlib.Core.Bool.{true≢false, Bool, true}
use Prim.Native.Nat.{ℕ}
use native.Mathlib.Omega.{arith}
use lib.ListN.{length}
use Rattle.model.specs.Device.{Device}
use Rattle.model.specs.State.{free_blocks}
use Rattle.calls.specs.Refusals.{first_refusal}
use Rattle.calls.specs.Outcome.{Answer, accepted}
use Rattle.calls.specs.Book.{no_entry, enter}
use Rattle.calls.specs.History.{Call, format_call, entry_of}
use Rattle.calls.specs.PageMap as maps
use Rattle.calls.specs.PageMap.{blank_map, map_checks, MapLeft, map_done, MapPast, map_idle, map_after, MapMakes}
use Rattle.calls.specs.Demand3.{page_maps}
use Rattle.calls.proofs.Refusing.{refused_not_accepted}
use Rattle.calls.proofs.Simulation.{Simulates}
use Rattle.plain.specs.Table.{Table}
use Rattle.plain.specs.Calls.{Common, format, flush, lookup, discard, collect, as_call, lent_to, answer_of, leaves, Outcome, run}
use Rattle.plain.specs.Machine.{Past, past_after, Made, made, tables}
use Rattle.plain.proofs.Invariant.{Shown}
use Rattle.plain.proofs.Ending.{Done, Ended, refuses, accepts, format-ends, ends}

-- Table and book show a page map with its book.
pub record Shows (h : Past) (k : MapPast) : Type 0 where
  pub table : Shown h.table k.map
  pub book : h.book ≡ k.book

-- what comes of a call shows what the map makes of it
abbrev Simulated : Call → Answer → Past → MapPast → Type 0
Simulated c a h' k = (k' : MapPast) × MapMakes k c a k' × Shows h' k'

-- A call is lent the table as it is.
pub lent_same : (c : Common) (t : Table) → (lent_to c t).table ≡ t
unfolding lent_to
lent_same (format d) t = refl
lent_same (flush batch plan) t = refl
lent_same (lookup x) t = refl
lent_same (discard x) t = refl
lent_same (collect plan erased) t = refl

-- a call that is accepted: the map accepts it with this answer
worked : (c : Common) (h : Past) (k : MapPast) (sized : Bool) → h.book ≡ k.book → first_refusal (map_checks sized (as_call c) k.map) ≡ none → Done c h.table k.map
    → Simulated (as_call c) (answer_of c h.table) (past_after c (record { answer = answer_of c h.table; after = leaves c h.table }) h.book) k
unfolding past_after map_after
worked c h k sized b e d =
    let a : Answer = answer_of c h.table in
    let l : MapLeft = map_done (as_call c) k.map in (
      map_after (as_call c) a l k.book,
      maps.accepts sized (as_call c) a e d.answers,
      record {
        table = d.shown;
        book =
            ap₂ (λ (p q : List ℕ). enter (entry_of (as_call c) a p q) h.book) d.plan d.erased
            ∙ ap (enter (entry_of (as_call c) a l.plan l.erased)) b;
      },
    )

-- a call, by how it ends
simulated : (c : Common) (h : Past) (k : MapPast) (o : Outcome) → Shows h k → Ended c h.table k.map o → Simulated (as_call c) o.answer (past_after c o h.book) k
unfolding past_after map_idle entry_of accepted
simulated c h k o s (refuses sized r e) = (
  map_idle k,
  maps.refuses sized (as_call c) r e,
  record { table = rw (lent_same c h.table) s.table; book = ap (enter no_entry) s.book },
)
simulated c h k o s (accepts sized e d) = worked c h k sized s.book e d

-- a format that is accepted, whatever was there before
started : (d : Device) (h : Past) (k : MapPast) (o : Outcome) → h.book ≡ k.book → Ended (format d) h.table k.map o → accepted o.answer ≡ true
    → Simulated (as_call (format d)) o.answer (past_after (format d) o h.book) k
started d h k o b (refuses sized r e) t = absurd (true≢false (sym t ∙ refused_not_accepted r))
started d h k o b (accepts sized e w) t = worked (format d) h k sized b e w

-- a call that is a format
starts : (h : Past) (d : Device) (c : Call) (a : Answer) (h' : Past) → Made h c a h' → c ≡ format_call d → accepted a ≡ true
    → (k : MapPast) × Simulated c a h' k
unfolding as_call
starts h d c a h' (made (format d')) e t =
    let k : MapPast = record { map = blank_map d'; book = h.book } in
    (k, started d' h k (run (format d') h.table) refl (format-ends d' h.table (blank_map d')) t)
starts h d c a h' (made (flush batch plan)) e t = let z : ◌≡◌ {A = ℕ} 0 1 = cc in absurd (omega arith)
starts h d c a h' (made (lookup x)) e t = let z : ◌≡◌ {A = ℕ} 0 1 = cc in absurd (omega arith)
starts h d c a h' (made (discard x)) e t = let z : ◌≡◌ {A = ℕ} 0 1 = cc in absurd (omega arith)
starts h d c a h' (made (collect plan erased)) e t = let z : ◌≡◌ {A = ℕ} 0 1 = cc in absurd (omega arith)

steps : (h : Past) (k : MapPast) → Shows h k → (c : Call) (a : Answer) (h' : Past) → Made h c a h' → Simulated c a h' k
steps h k s c a h' (made x) = simulated x h k (run x h.table) s (ends h.table k.map s.table x)

-- The plain engine simulates the page map.
pub refines : Simulates tables page_maps Shows
refines = record {
  books = λ h k s. s.book;
  frees = λ h k s. ap (λ (t : Table). length (free_blocks 0 t.counts)) s.table.is;
  steps = steps;
  starts = λ h d a h' m t. let s = starts h d (format_call d) a h' m refl t in (s.0, s.1.0, s.1.1, s.1.2);
}
