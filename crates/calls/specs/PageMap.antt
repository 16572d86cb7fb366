-- The page map: document 01's device, with document 02's discard, without records and spare area. For each logical page the page that it
-- lies on, if any, and whether it is discarded; and the block counts. Its calls answer all that needs neither records nor spare area:
-- pages, plans, erased lists, refusals but 3 and 7. Demand 3 is proved of it first. Assumes nothing.
use Rattle.std.specs.Prelude.{◌≡◌, List, [], ◌∷◌, Bool, true, false, not, ◌&&◌, ◌||◌, ℕ, zero, suc, ltb, leb, eqb, length, set, replicate}
use Rattle.std.proofs.Math.Option.{Option, none, some}
use Rattle.model.specs.Lists.{all, elem, store, or_else}
use Rattle.model.specs.Device.{Device, within_limits, first_page, group_count}
use Rattle.model.specs.Learning.{Write, sorted, logicals, sources}
use Rattle.model.specs.State.{State, free_blocks, lowest_in}
use Rattle.model.specs.Sound.{is_empty}
use Rattle.calls.specs.Refusals.{Refusal, Check, ◌when◌, first_refusal, bad_numbers, bad_length, out_of_range, bad_batch, no_free_block, nothing_to_gain, wrong_length}
use Rattle.calls.specs.Outcome.{Answer, formatted, flushed, found, not_written, discarded, collected, compacted, agreed, listed, explained, refused}
use Rattle.calls.specs.Choice.{Used, victims_by, blocks_of, moves_by, first_of, no_gain}
use Rattle.calls.specs.Listing.{listing_length}
use Rattle.calls.specs.Why.{why_length}
use Rattle.calls.specs.Book.{Book, no_entry, enter}
use Rattle.calls.specs.History.{Call, format_call, flush_call, lookup_call, discard_call, collect_call, compact_call, agree_call, list_call, why_call, entry_of}

pub record PageMap : Type 0 where
  pub device : Device
  pub counts : List ℕ
  pub place : ℕ → Option ℕ
  pub discarded : ℕ → Bool

-- where logical page x lies when the pages l were written from page p on: there, or else where it lay
unfoldable pub spot : ℕ → ℕ → List ℕ → Option ℕ → Option ℕ
spot x p [] old = old
spot x p (y ∷ l) old = elim (eqb x y) [ true ↦ some p | false ↦ spot x (suc p) l old ]

-- the lowest of the n logical pages from x on that lies on page p
unfoldable pub is_at : ℕ → Option ℕ → Bool
is_at p none = false
is_at p (some q) = eqb p q

unfoldable pub lying_on : (ℕ → Option ℕ) → ℕ → ℕ → ℕ → Option ℕ
lying_on place p x zero = none
lying_on place p x (suc n) = or_else (is_at p (place x)) x (lying_on place p (suc x) n)

unfoldable pub logical_on : PageMap → ℕ → Option ℕ
logical_on m p = lying_on m.place p 0 m.device.N

-- a page is valid if a logical page lies on it, and that is its name
unfoldable pub is_some : Option ℕ → Bool
is_some none = false
is_some (some x) = true

unfoldable pub or_zero : Option ℕ → ℕ
or_zero none = 0
or_zero (some x) = x

abbrev pub map_victims : PageMap → List Used
map_victims m = victims_by (λ p. is_some (logical_on m p)) m.device m.counts

abbrev pub map_moves : PageMap → List Write
map_moves m = moves_by (λ p. or_zero (logical_on m p)) (map_victims m)

-- counts with writes on the lowest-numbered free block (none is needed for none)
unfoldable pub write_counts : List Write → List ℕ → List ℕ
write_counts [] counts = counts
write_counts (w ∷ ws) counts = set counts (lowest_in counts) (length (w ∷ ws))

-- the map with these writes: there they lie, "from the start of" the block on
unfoldable pub map_write : List Write → PageMap → PageMap
map_write ws m = record {
  device = m.device;
  counts = write_counts ws m.counts;
  place = λ x. spot x (first_of ws m.device m.counts) (logicals ws) (m.place x);
  discarded = m.discarded;
}

-- the map with these logical pages no longer discarded: "until a flush writes it again"
unfoldable pub map_clear : List ℕ → PageMap → PageMap
map_clear batch m = record { device = m.device; counts = m.counts; place = m.place; discarded = λ x. m.discarded x && not (elem x batch) }

-- the map with x discarded: it lies nowhere
unfoldable pub place_discard : ℕ → (ℕ → Option ℕ) → ℕ → Option ℕ
place_discard x place y = elim (eqb y x) [ true ↦ none | false ↦ place y ]

unfoldable pub map_discard : ℕ → PageMap → PageMap
map_discard x m = record {
  device = m.device;
  counts = m.counts;
  place = place_discard x m.place;
  discarded = λ y. eqb y x || m.discarded y;
}

-- counts with these blocks erased
unfoldable pub clear_counts : List ℕ → List ℕ → List ℕ
clear_counts [] counts = counts
clear_counts (k ∷ ks) counts = clear_counts ks (set counts k 0)

unfoldable pub map_erase : List ℕ → PageMap → PageMap
map_erase ks m = record { device = m.device; counts = clear_counts ks m.counts; place = m.place; discarded = m.discarded }

unfoldable pub blank_map : Device → PageMap
blank_map d = record { device = d; counts = replicate d.M 0; place = λ x. none; discarded = λ x. false }

-- A call's refusals, in document 01's order. Whether state and spare area have the lengths that a format's numbers give is told:
-- the map has neither.
unfoldable pub map_checks : Bool → Call → PageMap → List Check
map_checks sized (format_call d) m = bad_numbers when not (within_limits d) ∷ bad_length when not sized ∷ []
map_checks sized (flush_call batch plan) m =
    bad_length when wrong_length plan m.device.B
    ∷ bad_batch when (is_empty batch || ltb m.device.B (length batch))
    ∷ out_of_range when not (all (λ y. ltb y m.device.N) batch)
    ∷ no_free_block when ltb (length (free_blocks 0 m.counts)) 2
    ∷ []
map_checks sized (lookup_call x) m = out_of_range when leb m.device.N x ∷ []
map_checks sized (discard_call x) m = out_of_range when leb m.device.N x ∷ []
map_checks sized (collect_call plan erased) m =
    bad_length when wrong_length plan m.device.B
    ∷ bad_length when wrong_length erased m.device.M
    ∷ nothing_to_gain when no_gain (map_victims m)
    ∷ no_free_block when (not (is_empty (map_moves m)) && is_empty (free_blocks 0 m.counts))
    ∷ []
map_checks sized (compact_call k) m = out_of_range when leb (group_count m.device) k ∷ []
map_checks sized (agree_call _ _ _ _) m = []
map_checks sized (list_call k out) m = bad_length when wrong_length out listing_length ∷ out_of_range when leb (group_count m.device) k ∷ []
map_checks sized (why_call x out) m = bad_length when wrong_length out why_length ∷ out_of_range when leb m.device.N x ∷ []

-- What an accepted call answers: all that needs no records. A lookup's predicted page and number of levels (0 of a discarded page), a
-- compaction's records left, a listing's number of records, a telling's of entries, and an agreement's yes or no, of two states that the map doesn't know, may
-- be any.
pub data MapAnswers (m : PageMap) : Call → Answer → Type 0 where
  formats : (d : Device) → MapAnswers m (format_call d) formatted
  flushes : (batch plan : List ℕ)
      → MapAnswers m (flush_call batch plan) (flushed (first_page m.device (lowest_in m.counts)) (length (sorted batch)))
  finds : (x page predicted levels : ℕ) → m.place x ≡ some page → MapAnswers m (lookup_call x) (found page predicted levels)
  misses : (x levels : ℕ) → m.place x ≡ none → m.discarded x ≡ false → MapAnswers m (lookup_call x) (not_written levels)
  skips : (x : ℕ) → m.discarded x ≡ true → MapAnswers m (lookup_call x) (not_written 0)
  discards : (x : ℕ) → MapAnswers m (discard_call x) discarded
  collects : (plan erased : List ℕ)
      → MapAnswers m (collect_call plan erased) (collected (first_of (map_moves m) m.device m.counts) (length (map_moves m)) (length (blocks_of (map_victims m))))
  compacts : (k left : ℕ) → MapAnswers m (compact_call k) (compacted left)
  agrees : (s : State) (spare : List ℕ) (s' : State) (spare' : List ℕ) (t : Bool) → MapAnswers m (agree_call s spare s' spare') (agreed t)
  lists : (k : ℕ) (out : List ℕ) (records : ℕ) → MapAnswers m (list_call k out) (listed records)
  explains : (x : ℕ) (out : List ℕ) (entries : ℕ) → MapAnswers m (why_call x out) (explained entries)

-- What an accepted call leaves: the map and its lists.
pub record MapLeft : Type 0 where
  pub map : PageMap
  pub plan : List ℕ
  pub erased : List ℕ

-- .. of a call that is lent no lists
unfoldable pub no_lists : PageMap → MapLeft
no_lists m = record { map = m; plan = []; erased = [] }

unfoldable pub map_done : Call → PageMap → MapLeft
map_done (format_call d) m = no_lists (blank_map d)
map_done (flush_call batch plan) m = record { map = map_write (sorted batch) (map_clear batch m); plan = store plan 0 (sources (sorted batch)); erased = [] }
map_done (lookup_call x) m = no_lists m
map_done (discard_call x) m = no_lists (map_discard x m)
map_done (collect_call plan erased) m = record {
  map = map_erase (blocks_of (map_victims m)) (map_write (map_moves m) m);
  plan = store plan 0 (sources (map_moves m));
  erased = store erased 0 (blocks_of (map_victims m));
}
map_done (compact_call k) m = no_lists m
map_done (agree_call _ _ _ _) m = no_lists m
map_done (list_call _ _) m = no_lists m
map_done (why_call _ _) m = no_lists m

-- The map between two calls, and the book so far.
pub record MapPast : Type 0 where
  pub map : PageMap
  pub book : Book

-- the book is fed nothing of the call, and the map stays
unfoldable pub map_idle : MapPast → MapPast
map_idle h = record { map = h.map; book = enter no_entry h.book }

-- the book is fed the call's arguments and answer, plan and erased list included
unfoldable pub map_after : Call → Answer → MapLeft → Book → MapPast
map_after c a l b = record { map = l.map; book = enter (entry_of c a l.plan l.erased) b }

-- What a call on the map comes to: it is refused by its first check that applies; or it is accepted; or it is an agreement, of two
-- states that the map doesn't know, and they are refused.
pub data MapMakes (h : MapPast) : Call → Answer → MapPast → Type 0 where
  refuses : (sized : Bool) (c : Call) (r : Refusal) → first_refusal (map_checks sized c h.map) ≡ some r → MapMakes h c (refused r) (map_idle h)
  accepts : (sized : Bool) (c : Call) (a : Answer) → first_refusal (map_checks sized c h.map) ≡ none → MapAnswers h.map c a
      → MapMakes h c a (map_after c a (map_done c h.map) h.book)
  others : (s : State) (spare : List ℕ) (s' : State) (spare' : List ℕ) (r : Refusal) → MapMakes h (agree_call s spare s' spare') (refused r) (map_idle h)
