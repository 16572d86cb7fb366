-- The book beside the page map, through a collection: what is copied is carried by the new page, the erased blocks carry nothing,
-- and so each write is still carried once. Assumes nothing.
use mathlib.Core.Path.{◌≡◌, refl, sym, ◌∙◌, ap}
use mathlib.Core.List.{List, [], ◌∷◌}
use mathlib.Core.Option.{Option, none, some}
use mathlib.Core.Bool.{true≢false, Bool, true, false}
use Prim.Native.Nat.{ℕ, suc, ◌+◌, ◌-◌, ◌/◌, ◌≤◌, ◌<◌}
use native.Mathlib.Omega.{arith}
use lib.Dec.{leb}
use lib.ListN.{length, get_or}
use borrow.Author.Tests.{ltb-true, leb-true}
use Rattle.model.specs.Lists.{elem, store}
use Rattle.model.specs.Device.{Device}
use Rattle.model.specs.Learning.{Write, logicals, sources}
use Rattle.model.specs.State.{free_blocks, lowest_in}
use Rattle.model.proofs.Bools.{and_l, and_r, is_false}
use Rattle.model.proofs.Blocks.{lowest_free_lem}
use Rattle.model.proofs.Limits.{limits}
use Rattle.model.proofs.Sorting.{logicals-length}
use Rattle.calls.specs.Choice.{blocks_of, first_of}
use Rattle.calls.specs.Book.{Arrival, nothing, Book, last_write, collect_entry, among, carried_copy, carried_erased, enter}
use Rattle.calls.specs.PageMap.{PageMap, map_victims, map_moves, map_write, map_erase}
use Rattle.calls.proofs.Moves.{move_lies, not_moved, sources-distinct}
use Rattle.calls.proofs.Placing.{Spot, elsewhere, there, spot_view}
use Rattle.calls.proofs.MapInvariant.{MapInv, owner-names}
use Rattle.calls.proofs.MapWriting.{off_free}
use Rattle.calls.proofs.MapCollecting.{moves-fit, taken-used}
use Rattle.calls.proofs.Carrying.{Kept, plan_at, among-block, among_here}

-- a page among those that are written is in the block that was the lowest free one
among-moved : (d : Device) (counts : List ℕ) (ws : List Write) (q : ℕ) → length ws ≤ d.B → among (first_of ws d counts) (length ws) q ≡ true
    → (q / d.B ≡ lowest_in counts) × (first_of ws d counts ≤ q) × (q < first_of ws d counts + length ws)
unfolding first_of among
among-moved d counts [] q h e = absurd (omega (arith, leb-true 0 q (and_l (leb 0 q) _ e), ltb-true q (0 + 0) (and_r (leb 0 q) _ e)))
among-moved d counts (w ∷ ws) q h e = among-block d (lowest_in counts) (length (w ∷ ws)) q h e

module _ (m : PageMap) (v : MapInv m) (b : Book) (c : Kept b m) (plan : List ℕ) (f : 1 ≤ length (free_blocks 0 m.counts)) (l : length plan ≡ m.device.B) where
  abbrev d : Device
  d = m.device

  abbrev ws : List Write
  ws = map_moves m

  abbrev ks : List ℕ
  ks = blocks_of (map_victims m)

  abbrev first : ℕ
  first = first_of ws d m.counts

  abbrev plan' : List ℕ
  plan' = store plan 0 (sources ws)

  -- what a page carries once the valid pages are copied, and once the blocks are erased
  abbrev copied : ℕ → Option Arrival
  copied = carried_copy first (length ws) plan' b.carried

  abbrev left : ℕ → Option Arrival
  left = carried_erased b.device.B ks copied

  -- move i: its logical page lies on its source, which is in a block taken
  lies : (i : ℕ) → i < length ws → (m.place (get_or (logicals ws) i 0) ≡ some (get_or (sources ws) i 0)) × (elem (get_or (sources ws) i 0 / d.B) ks ≡ true) × (get_or (logicals ws) i 0 < d.N)
  lies = move_lies d m.place _ _ (owner-names m v) m.counts

  -- a page written is in no block taken, and nothing lay there
  target : (q : ℕ) → among first (length ws) q ≡ true → (elem (q / d.B) ks ≡ false) × (first ≤ q) × (q < first + length ws)
  target q t =
      let a = among-moved d m.counts ws q (moves-fit m v).fits t in
      (is_false _ (λ e. (taken-used m v (q / d.B) e).1 (ap (λ (k : ℕ). get_or m.counts k 0) a.0 ∙ (lowest_free_lem m.counts f).1)), a.1, a.2)

  unused : (x p : ℕ) → x < d.N → m.place x ≡ some p → among first (length ws) p ≡ false
  unused x p h e = is_false _ (λ t. off_free m v (lowest_in m.counts) (lowest_free_lem m.counts f).1 x p h e (among-moved d m.counts ws p (moves-fit m v).fits t).0)

  same_block : (q : ℕ) → q / b.device.B ≡ q / d.B
  same_block q = ap (λ (e : Device). q / e.B) c.device

  left_of_lem : (q : ℕ) → elem (q / d.B) ks ≡ false → left q ≡ copied q
  unfolding carried_erased
  left_of_lem q e =
      let g : elem (q / b.device.B) ks ≡ false = ap (λ (k : ℕ). elem k ks) (same_block q) ∙ e in
      rw (g, carried_erased) refl

  -- a page that carries something is in no erased block
  unerased : (q : ℕ) (a : Arrival) (t : Bool) → elem (q / d.B) ks ≡ t → left q ≡ some a → t ≡ false
  unfolding carried_erased
  unerased q a false t e = refl
  unerased q a true t e =
      let g : elem (q / b.device.B) ks ≡ true = ap (λ (k : ℕ). elem k ks) (same_block q) ∙ t in
      let n : left q ≡ none = rw (g, carried_erased) refl in
      let z : ◌≡◌ {A = ℕ} 0 1 = (let h : none ≡ some a = sym n ∙ e in cc) in
      absurd (omega arith)

  copied-new : (i : ℕ) → i < length ws → copied (first + i) ≡ b.carried (get_or (sources ws) i 0)
  unfolding carried_copy
  copied-new i h =
      let z : first + i - first ≡ i = omega arith in
      let t : among first (length ws) (first + i) ≡ true = among_here first (length ws) i h in
      let e : copied (first + i) ≡ b.carried (get_or plan' (first + i - first) 0) = rw (t, carried_copy) refl in
      e ∙ ap (λ (j : ℕ). b.carried (get_or plan' j 0)) z ∙ ap b.carried (plan_at plan ws i (omega (arith, (moves-fit m v).fits)) h)

  copied_old : (q : ℕ) → among first (length ws) q ≡ false → copied q ≡ b.carried q
  unfolding carried_copy
  copied_old q e = rw (e, carried_copy) refl

  -- the two kinds of pages that carry something afterwards
  data Origin (q : ℕ) (a : Arrival) : Type 0 where
    moved : (i : ℕ) → i < length ws → q ≡ first + i → b.carried (get_or (sources ws) i 0) ≡ some a → Origin q a
    kept : elem (q / d.B) ks ≡ false → b.carried q ≡ some a → Origin q a

  origin : (q : ℕ) (a : Arrival) → left q ≡ some a → Origin q a
  origin q a e = go (among first (length ws) q) refl
    where
      out : elem (q / d.B) ks ≡ false
      out = unerased q a (elem (q / d.B) ks) refl e

      go : (t : Bool) → among first (length ws) q ≡ t → Origin q a
      go true t =
          let r = target q t in
          let n : q ≡ first + (q - first) = omega (arith, r.1) in
          let h : q - first < length ws = omega (arith, r.1, r.2) in
          moved (q - first) h n (sym (copied-new (q - first) h) ∙ ap copied (sym n) ∙ sym (left_of_lem q out) ∙ e)
      go false t = kept out (sym (copied_old q t) ∙ sym (left_of_lem q out) ∙ e)

  -- a source is in a block taken, so it is no page that stays
  apart : (i q : ℕ) (a : Arrival) → i < length ws → b.carried (get_or (sources ws) i 0) ≡ some a → elem (q / d.B) ks ≡ false → b.carried q ≡ some a → ⊥
  apart i q a h e n g = true≢false (sym (lies i h).1 ∙ ap (λ (y : ℕ). elem (y / d.B) ks) (c.once _ _ a e g) ∙ n)

  same_origin : (p q : ℕ) (a : Arrival) → Origin p a → Origin q a → p ≡ q
  same_origin p q a (moved i h e g) (moved j k n o) =
      e ∙ ap (λ (y : ℕ). first + y) (sources-distinct d m.place _ _ (owner-names m v) m.counts i j h k (c.once _ _ a g o)) ∙ sym n
  same_origin p q a (moved i h e g) (kept n o) = absurd (apart i q a h g n o)
  same_origin p q a (kept n o) (moved i h e g) = absurd (apart i p a h g n o)
  same_origin p q a (kept n o) (kept i k) = c.once p q a o k

  origin_past : (q : ℕ) (a : Arrival) → Origin q a → a.call < suc b.calls
  origin_past q a (moved i h e g) = omega (arith, c.past _ a g)
  origin_past q a (kept n o) = omega (arith, c.past q a o)

  -- The book agrees with the page map after the collection.
  pub collect-kept : Kept (enter (collect_entry first (length ws) plan' ks) b) (map_erase ks (map_write ws m))
  unfolding enter map_write map_erase
  collect-kept = record {
    device = c.device;
    missing = λ x h e. missing x h _ (spot_view x first (logicals ws) (m.place x)) e;
    gone = c.gone;
    present = λ x p h e. present x p h _ (spot_view x first (logicals ws) (m.place x)) e;
    once = λ p q a e g. same_origin p q a (origin p a e) (origin q a g);
    past = λ p a e. origin_past p a (origin p a e);
  }
    where
      missing : (x : ℕ) → x < d.N → (o : Option ℕ) → Spot x first (logicals ws) (m.place x) o → o ≡ none → m.discarded x ≡ false → b.last x ≡ nothing
      missing x h o (elsewhere n) e q = c.missing x h e q
      missing x h o (there i g n) e q = let z : ◌≡◌ {A = ℕ} 0 1 = cc in absurd (omega arith)

      present : (x p : ℕ) → x < d.N → (o : Option ℕ) → Spot x first (logicals ws) (m.place x) o → o ≡ some p → (a : Arrival) × (last_write b x ≡ some a) × (left p ≡ some a)
      present x p h o (elsewhere n) e =
          let a = c.present x p h e in
          let off = not_moved d m.place _ _ (owner-names m v) m.counts (omega (arith, (limits d v.limits).least_B)) x p h e n in
          (a.0, a.1, left_of_lem p off ∙ copied_old p (unused x p h e) ∙ a.2)
      present x p h o (there i g n) e =
          let j : i < length ws = omega (arith, g, logicals-length ws) in
          let r : first + i ≡ p = cc in
          let a = c.present x (get_or (sources ws) i 0) h (ap m.place (sym n) ∙ (lies i j).0) in
          (a.0, a.1, ap left (sym r) ∙ left_of_lem (first + i) (target (first + i) (among_here first (length ws) i j)).0 ∙ copied-new i j ∙ a.2)
