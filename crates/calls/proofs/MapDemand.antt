-- Demand 3 on the page map: what holds of map and book makes lookups right, flushes accepted or helped by one collection, and refusals
-- 3, 7 and a collection's 6 impossible. Assumes nothing.
use mathlib.Core.Path.{◌≡◌, refl, sym, ◌∙◌, ap, subst}
use mathlib.Core.List.{List, [], ◌∷◌}
use mathlib.Core.Option.{none, some}
use mathlib.Core.Logic.{◌≢◌, ◌⊎◌, inl, inr}
use mathlib.Core.Bool.{true≢false, Bool, true, false, not, ◌&&◌}
use Prim.Native.Nat.{ℕ, ◌≤◌, ◌<◌}
use native.Mathlib.Omega.{arith}
use lib.Dec.{ltb}
use lib.ListN.{length}
use borrow.Author.Tests.{ltb-true, le-ltb, lt-leb}
use Rattle.model.specs.Device.{Device}
use Rattle.model.specs.State.{free_blocks}
use Rattle.model.specs.Sound.{is_empty}
use Rattle.model.proofs.Bools.{and_r, is_false}
use Rattle.calls.specs.Refusals.{Refusal, not_sound, not_named, no_free_block, refusal_number, ◌when◌, first_refusal}
use Rattle.calls.specs.Outcome.{Answer, refused, accepted}
use Rattle.calls.specs.Choice.{no_gain}
use Rattle.calls.specs.History.{Call, format_call, flush_call, lookup_call, discard_call, collect_call, compact_call, agree_call, list_call, why_call}
use Rattle.calls.specs.PageMap.{PageMap, map_victims, map_moves, map_write, map_discard, map_erase, map_checks, MapAnswers, formats, flushes, finds, misses, skips, discards, collects, compacts, agrees, lists, explains, no_lists, map_done, MapPast, map_idle, map_after, MapMakes, refuses, accepts, others}
use Rattle.calls.specs.Demand3 as demands
use Rattle.calls.specs.Demand3.{page_maps, Right, unwritten, discarded_last, written, Fits, Between, a_lookup, a_discard, a_compaction, an_agreement, a_listing, a_telling, a_refusal, on_device, Leads, Waits, FromFormat, Helped, AfterFormat}
use Rattle.calls.proofs.Refusing.{Stopped, stops, is_clear, stopped, none_some, right-length, refused_not_accepted}
use Rattle.calls.proofs.Gain.{gain}
use Rattle.calls.proofs.MapInvariant.{owner-names}
use Rattle.calls.proofs.MapCollecting.{collect-free}
use Rattle.calls.proofs.Fitting.{some_left, fits_of, fits_decides}
use Rattle.calls.proofs.MapHolding.{MapHolds, makes-holds, starts-hold}

-- The answers of accepted calls are accepted.
pub answers-accepted : (m : PageMap) (c : Call) (a : Answer) → MapAnswers m c a → accepted a ≡ true
unfolding accepted
answers-accepted m c a (formats d) = refl
answers-accepted m c a (flushes batch plan) = refl
answers-accepted m c a (finds x p q n e) = refl
answers-accepted m c a (misses x n e d) = refl
answers-accepted m c a (skips x d) = refl
answers-accepted m c a (discards x) = refl
answers-accepted m c a (collects plan erased) = refl
answers-accepted m c a (compacts k n) = refl
answers-accepted m c a (agrees s spare s' spare' t) = refl
answers-accepted m c a (lists k out n) = refl
answers-accepted m c a (explains x out n) = refl

-- no refusal is such an answer
no_refusal : (m : PageMap) (c : Call) (a : Answer) (r : Refusal) → MapAnswers m c a → a ≡ refused r → ⊥
no_refusal m c a r p e = true≢false (sym (answers-accepted m c a p) ∙ ap accepted e ∙ refused_not_accepted r)

-- a call on the device that no check refuses is accepted and does its work
works : (h : MapPast) (c : Call) (a : Answer) (h' : MapPast) → on_device c ≡ true → ((sized : Bool) → first_refusal (map_checks sized c h.map) ≡ none) → MapMakes h c a h'
    → (accepted a ≡ true) × (h'.map ≡ (map_done c h.map).map)
unfolding map_after on_device
works h c a h' o n (refuses sized _ r e) = none_some (sym (n sized) ∙ e)
works h c a h' o n (accepts sized _ _ e p) = (answers-accepted h.map c a p, refl)
works h c a h' o n (others s spare s' spare' r) = absurd (true≢false (sym o))

-- a call that may come between leaves the map's device and counts
abbrev Leaves : PageMap → PageMap → Type 0
Leaves m m' = (m'.device ≡ m.device) × (m'.counts ≡ m.counts)

idles : (m : PageMap) (c : Call) (a : Answer) → Between c a → accepted a ≡ true → Leaves m (map_done c m).map
unfolding map_done map_discard no_lists
idles m c a (a_lookup x _) t = (refl, refl)
idles m c a (a_discard x _) t = (refl, refl)
idles m c a (a_compaction k _) t = (refl, refl)
idles m c a (an_agreement s spare s' spare' _) t = (refl, refl)
idles m c a (a_listing k out _) t = (refl, refl)
idles m c a (a_telling x out _) t = (refl, refl)
idles m c a (a_refusal _ _ r) t = absurd (true≢false (sym t ∙ r))

between_same : (h : MapPast) (c : Call) (a : Answer) (h' : MapPast) → Between c a → MapMakes h c a h' → Leaves h.map h'.map
unfolding map_idle map_after
between_same h c a h' b (refuses sized _ r e) = (refl, refl)
between_same h c a h' b (accepts sized _ _ e p) = idles h.map c a b (answers-accepted h.map c a p)
between_same h c a h' b (others s spare s' spare' r) = (refl, refl)

-- calls that come between keep all, and leave device and counts
waited : (h h' : MapPast) → Waits page_maps h h' → MapHolds h → MapHolds h' × Leaves h.map h'.map
waited h h' (demands.nothing _) v = (v, (refl, refl))
waited h h' (demands.then _ c a h₁ _ b k w) v =
    let r = waited h₁ h' w (makes-holds h c a h₁ v k) in
    let s = between_same h c a h₁ b k in
    (r.0, (r.1.0 ∙ s.0, r.1.1 ∙ s.1))

leads_hold : (h h' : MapPast) → Leads page_maps h h' → MapHolds h → MapHolds h'
leads_hold h h' (demands.nothing _) v = v
leads_hold h h' (demands.then _ c a h₁ _ k l) v = leads_hold h₁ h' l (makes-holds h c a h₁ v k)

from_format : (h : MapPast) → FromFormat page_maps h → MapHolds h
from_format h f = leads_hold f.formatted h f.calls (starts-hold f.start f.device f.answer f.formatted f.accepts f.makes)

module _ (h : MapPast) (v : MapHolds h) where
  abbrev m : PageMap
  m = h.map

  abbrev free : ℕ
  free = length (free_blocks 0 h.map.counts)

  -- a lookup of a logical page is right
  right : (x : ℕ) → x < h.book.device.N → (a : Answer) (h' : MapPast) → MapMakes h (lookup_call x) a h' → Right h.book x a
  unfolding map_checks
  right x b a h' (refuses sized _ r e) = none_some (sym (is_clear _ (lt-leb m.device.N x (rw (← v.kept.device) b), tt)) ∙ e)
  right x b a h' (accepts sized _ _ e (misses _ n f d)) = unwritten n (v.kept.missing x (rw (← v.kept.device) b) f d)
  right x b a h' (accepts sized _ _ e (skips _ d)) = discarded_last (v.kept.gone x (rw (← v.kept.device) b) d)
  right x b a h' (accepts sized _ _ e (finds _ p q n f)) =
      let c = v.kept.present x p (rw (← v.kept.device) b) f in
      written p q n c.0 c.1 c.2 (λ g. v.kept.once q p c.0 g c.2) (λ g. ap h.book.carried g ∙ c.2)

  -- a discard of one is accepted
  discards_all : (x : ℕ) → x < h.book.device.N → (a : Answer) (h' : MapPast) → MapMakes h (discard_call x) a h' → accepted a ≡ true
  unfolding map_checks on_device
  discards_all x b a h' k = (works h (discard_call x) a h' refl (λ sized. is_clear _ (lt-leb m.device.N x (rw (← v.kept.device) b), tt)) k).0

  -- a collection has room for what it moves
  has_room_lem : (not (is_empty (map_moves m)) && is_empty (free_blocks 0 m.counts)) ≡ false
  has_room_lem = is_false _ (λ t. true≢false (sym (and_r (not (is_empty (map_moves m))) _ t) ∙ some_left (free_blocks 0 m.counts) v.free))

  -- where one block is free, there is something to gain
  gains : free ≡ 1 → no_gain (map_victims m) ≡ false
  gains = gain m.device m.place _ _ (owner-names m v.inv) m.counts v.inv.limits v.inv.counted

  -- .. and a collection with lists of the right lengths is refused for nothing
  collect-passes : (plan erased : List ℕ) → length plan ≡ m.device.B → length erased ≡ m.device.M → free ≡ 1 → (sized : Bool) → first_refusal (map_checks sized (collect_call plan erased) m) ≡ none
  unfolding map_checks
  collect-passes plan erased p e n sized =
      is_clear _ (right-length plan m.device.B p, (right-length erased m.device.M e, (gains n, (has_room_lem, tt))))

  -- where two are free, a flush that fits is
  flush-passes : (batch plan : List ℕ) → Fits m.device batch plan → 2 ≤ free → (sized : Bool) → first_refusal (map_checks sized (flush_call batch plan) m) ≡ none
  flush-passes batch plan f n sized = fits_decides m sized batch plan f ∙ is_clear _ (le-ltb free 2 n, tt)

  -- a flush that fits is accepted, or refused for want of a free block
  flush-answers : (batch plan : List ℕ) → Fits h.book.device batch plan → (a : Answer) (h' : MapPast) → MapMakes h (flush_call batch plan) a h' → (accepted a ≡ true) ⊎ ((a ≡ refused no_free_block) × (free < 2))
  flush-answers batch plan f a h' (accepts sized _ _ e p) = inl (answers-accepted m _ a p)
  flush-answers batch plan f a h' (refuses sized _ r e) = go (ltb free 2) refl (sym (fits_decides m sized batch plan (subst (λ (d : Device). Fits d batch plan) v.kept.device f)) ∙ e)
    where
      go : (t : Bool) → ltb free 2 ≡ t → first_refusal (no_free_block when ltb free 2 ∷ []) ≡ some r → (accepted (refused r) ≡ true) ⊎ ((refused r ≡ refused no_free_block) × (free < 2))
      go true t q = inr ((let s : some no_free_block ≡ some r = sym (stops _ _ t) ∙ q in cc), ltb-true free 2 t)
      go false t q = none_some (sym (is_clear _ (t, tt)) ∙ q)

  -- one that is refused so fits, and fewer than two blocks are free
  wants : (batch plan : List ℕ) (h' : MapPast) → MapMakes h (flush_call batch plan) (refused no_free_block) h' → Fits m.device batch plan × (free < 2)
  unfolding map_checks refusal_number
  wants batch plan h' (accepts sized _ _ e p) = absurd (no_refusal m _ _ no_free_block p refl)
  wants batch plan h' (refuses sized _ _ e) = let s = stopped no_free_block _ e in (fits_of m.device batch plan s.0 s.1.0 s.1.1.0, few s.1.1.1)
    where
      few : (ltb free 2 ≡ true) ⊎ ((ltb free 2 ≡ false) × ⊥) → free < 2
      few (inl t) = ltb-true free 2 t
      few (inr t) = absurd t.1

  -- 3 and 7 never occur: no check is for them
  unchecked : (sized : Bool) (c : Call) → (Stopped not_sound (map_checks sized c m) → ⊥) × (Stopped not_named (map_checks sized c m) → ⊥)
  unfolding map_checks refusal_number
  unchecked sized (format_call d) = (λ s. s.1.1, λ s. s.1.1)
  unchecked sized (flush_call batch plan) = (λ s. s.1.1.1.1, λ s. s.1.1.1.1)
  unchecked sized (lookup_call x) = (λ s. s.1, λ s. s.1)
  unchecked sized (discard_call x) = (λ s. s.1, λ s. s.1)
  unchecked sized (collect_call plan erased) = (λ s. s.1.1.1.1, λ s. s.1.1.1.1)
  unchecked sized (compact_call k) = (λ s. s.1, λ s. s.1)
  unchecked sized (agree_call s spare s' spare') = (λ s. s, λ s. s)
  unchecked sized (list_call k out) = (λ s. s.1.1, λ s. s.1.1)
  unchecked sized (why_call x out) = (λ s. s.1.1, λ s. s.1.1)

  never : (c : Call) (a : Answer) (h' : MapPast) → on_device c ≡ true → MapMakes h c a h' → (a ≢ refused not_sound) × (a ≢ refused not_named)
  unfolding on_device
  never c a h' o (refuses sized _ r e) =
      (λ q. let z : r ≡ not_sound = cc in (unchecked sized c).0 (stopped not_sound _ (rw z at e)), λ q. let z : r ≡ not_named = cc in (unchecked sized c).1 (stopped not_named _ (rw z at e)))
  never c a h' o (accepts sized _ _ e p) = (no_refusal m c a not_sound p, no_refusal m c a not_named p)
  never c a h' o (others s spare s' spare' r) = absurd (true≢false (sym o))

  -- nor a collection's 6: a block is always free
  room : (plan erased : List ℕ) (a : Answer) (h' : MapPast) → MapMakes h (collect_call plan erased) a h' → a ≢ refused no_free_block
  unfolding map_checks refusal_number
  room plan erased a h' (accepts sized _ _ e p) q = no_refusal m _ a no_free_block p q
  room plan erased a h' (refuses sized _ r e) q = let z : r ≡ no_free_block = cc in full (stopped no_free_block _ (rw z at e)).1.1.1
    where
      full : ((not (is_empty (map_moves m)) && is_empty (free_blocks 0 m.counts)) ≡ true) ⊎ (((not (is_empty (map_moves m)) && is_empty (free_blocks 0 m.counts)) ≡ false) × ⊥) → ⊥
      full (inl t) = true≢false (sym t ∙ has_room_lem)
      full (inr t) = t.1

module _ (h : MapPast) (v : MapHolds h) (batch plan : List ℕ) (h' : MapPast) (k : MapMakes h (flush_call batch plan) (refused no_free_block) h') where
  -- when the collection comes, device and counts are the same
  before : (h₁ : MapPast) → Waits page_maps h' h₁ → MapHolds h₁ × Leaves h.map h₁.map
  before h₁ w = waited h h₁ (demands.then h _ _ h' h₁ (a_refusal _ _ (refused_not_accepted no_free_block)) k w) v

  -- it is accepted, leaves two free blocks and the device
  collected : (h₁ : MapPast) → Waits page_maps h' h₁ → (plan' erased : List ℕ) → length plan' ≡ h.book.device.B → length erased ≡ h.book.device.M
      → (a : Answer) (h₂ : MapPast) → MapMakes h₁ (collect_call plan' erased) a h₂
      → (accepted a ≡ true) × (2 ≤ length (free_blocks 0 h₂.map.counts)) × (h₂.map.device ≡ h.map.device)
  unfolding on_device map_done map_erase map_write
  collected h₁ w plan' erased p e a h₂ c =
      let q = before h₁ w in
      let one : length (free_blocks 0 h₁.map.counts) ≡ 1 = ap (λ (l : List ℕ). length (free_blocks 0 l)) q.1.1 ∙ omega (arith, v.free, (wants h v batch plan h' k).1) in
      let same : h.book.device ≡ h₁.map.device = v.kept.device ∙ sym q.1.0 in
      let r = works h₁ (collect_call plan' erased) a h₂ refl (collect-passes h₁ q.0 plan' erased (p ∙ ap (λ (d : Device). d.B) same) (e ∙ ap (λ (d : Device). d.M) same) one) c in
      (r.0, rw r.1 (collect-free h₁.map q.0.inv (λ n. q.0.free) q.0.free (gains h₁ q.0 one)), ap (λ (m : PageMap). m.device) r.1 ∙ q.1.0)

  -- One collection helps.
  helped : Helped page_maps h.book.device batch h'
  unfolding on_device
  helped = record {
    collection = λ h₁ w plan' erased p e a h₂ c. (collected h₁ w plan' erased p e a h₂ c).0;
    again = λ h₁ w plan' erased p e a h₂ c h₃ w' plan'' p'' a' h₄ l.
        let r = collected h₁ w plan' erased p e a h₂ c in
        let q = waited h₂ h₃ w' (makes-holds h₁ _ _ h₂ (before h₁ w).0 c) in
        let same : h₃.map.device ≡ h.map.device = q.1.0 ∙ r.2 in
        let w = (wants h v batch plan h' k).0 in
        let f : Fits h.map.device batch plan'' = record { filled = w.filled; short = w.short; logical = w.logical; planned = p'' ∙ ap (λ (d : Device). d.B) v.kept.device } in
        (works h₃ (flush_call batch plan'') a' h₄ refl (flush-passes h₃ q.0 batch plan'' (subst (λ (d : Device). Fits d batch plan'') (sym same) f) (rw q.1.1 r.1)) l).0;
  }

-- The page map meets demand 3.
pub map_demand : AfterFormat page_maps
map_demand h f =
    let v : MapHolds h = from_format h f in
    record {
      lookups = right h v;
      only = λ x p q w e i j. v.kept.once p q w i j;
      discards = discards_all h v;
      flushes = flush-answers h v;
      helps = helped h v;
      never = never h v;
      room = room h v;
    }
