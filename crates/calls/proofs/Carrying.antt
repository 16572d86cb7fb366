-- The book beside the page map: a logical page lies where the page carries its last write, one that is discarded has a discard as its
-- last event, and each write is carried once. A flush keeps this: its pages carry this call's arrivals, by the plan. Assumes nothing.
use mathlib.Core.Path.{◌≡◌, refl, sym, ◌∙◌, ap, subst}
use mathlib.Core.List.{List, [], ◌∷◌}
use mathlib.Core.Option.{Option, none, some}
use mathlib.Core.Bool.{Bool, true, false, not, ◌&&◌, and-true}
use Prim.Native.Nat.{ℕ, suc, ◌+◌, ◌-◌, ◌/◌, ◌≤◌, ◌<◌}
use native.Mathlib.Omega.{arith}
use lib.Dec.{leb, eqb}
use lib.ListN.{length, get_or}
use borrow.Author.Tests.{ltb-true, leb-true, lt-ltb, le-leb, eqb-true, not-true}
use Rattle.model.specs.Lists.{elem, store}
use Rattle.model.specs.Device.{Device, first_page}
use Rattle.model.specs.Learning.{Write, sorted, later, latest, logicals, sources}
use Rattle.model.specs.State.{free_blocks, lowest_in}
use Rattle.model.proofs.Bools.{and_l, and_r, and_i, is_false}
use Rattle.model.proofs.Lists.{get_or-store}
use Rattle.model.proofs.Counting.{asc_distinct, distinct-index}
use Rattle.model.proofs.Blocks.{lowest_free_lem}
use Rattle.model.proofs.Limits.{page-block}
use Rattle.model.proofs.Sorting.{sorted-elem, no_source, sorted-source, source_at, logicals-length, sources-length}
use Rattle.calls.specs.Book.{Arrival, Event, nothing, write, discard, write_of, Book, last_write, no_entry, flush_entry, among, carried_flush, last_or, last_flush, enter}
use Rattle.calls.specs.PageMap.{PageMap, spot, write_counts, map_write, map_clear}
use Rattle.calls.proofs.Moves.{Writable}
use Rattle.calls.proofs.Placing.{Spot, elsewhere, there, spot_view, first_of_lem}
use Rattle.calls.proofs.MapInvariant.{MapInv}
use Rattle.calls.proofs.MapWriting.{off_free}

-- The book agrees with a page map.
pub record Kept (b : Book) (m : PageMap) : Type 0 where
  pub device : b.device ≡ m.device
  pub missing : (x : ℕ) → x < m.device.N → m.place x ≡ none → m.discarded x ≡ false → b.last x ≡ nothing
  pub gone : (x : ℕ) → x < m.device.N → m.discarded x ≡ true → b.last x ≡ discard
  pub present : (x p : ℕ) → x < m.device.N → m.place x ≡ some p → (a : Arrival) × (last_write b x ≡ some a) × (b.carried p ≡ some a)
  pub once : (p q : ℕ) (a : Arrival) → b.carried p ≡ some a → b.carried q ≡ some a → p ≡ q
  pub past : (p : ℕ) (a : Arrival) → b.carried p ≡ some a → a.call < b.calls

-- a write is one
write_of_lem : (a : Arrival) → write_of (write a) ≡ some a
unfolding write_of
write_of_lem a = refl

-- A book that is fed nothing agrees as before.
pub idle_kept : (b : Book) (m : PageMap) → Kept b m → Kept (enter no_entry b) m
unfolding enter
idle_kept b m k = record { device = k.device; missing = k.missing; gone = k.gone; present = k.present; once = k.once; past = λ p a e. omega (arith, k.past p a e) }

-- Among n pages of block k, from its first on, a page is in that block.
pub among-block : (d : Device) (k n q : ℕ) → n ≤ d.B → among (first_page d k) n q ≡ true → (q / d.B ≡ k) × (first_page d k ≤ q) × (q < first_page d k + n)
unfolding among
among-block d k n q h t =
    let f : ℕ = first_page d k in
    let a : f ≤ q = leb-true f q (and_l (leb f q) _ t) in
    let b : q < f + n = ltb-true q (f + n) (and_r (leb f q) _ t) in
    let e : f + (q - f) ≡ q = omega arith in
    (ap (λ (p : ℕ). p / d.B) (sym e) ∙ page-block d k (q - f) (omega arith), a, b)

-- The i-th of n pages is among them.
pub among_here : (p n i : ℕ) → i < n → among p n (p + i) ≡ true
unfolding among
among_here p n i h = and_i _ _ (le-leb p (p + i) (omega arith)) (lt-ltb (p + i) (p + n) (omega arith))

-- A plan that gets the sources of writes has them in their order.
pub plan_at : (plan : List ℕ) (ws : List Write) (i : ℕ) → length ws ≤ length plan → i < length ws → get_or (store plan 0 (sources ws)) i 0 ≡ get_or (sources ws) i 0
plan_at plan ws i l h =
    let z : 0 + i ≡ i = omega arith in
    ap (λ (j : ℕ). get_or (store plan 0 (sources ws)) j 0) (sym z) ∙ get_or-store plan 0 (sources ws) i 0 (omega (arith, sources-length ws)) (omega arith)

-- the batch has the logical page at the index that is its latest
latest_at : (x i : ℕ) (batch : List ℕ) (j : ℕ) → latest x i batch ≡ some j → (i ≤ j) × (get_or batch (j - i) 0 ≡ x)
unfolding latest later
latest_at x i [] j e = let z : ◌≡◌ {A = ℕ} 0 1 = cc in absurd (omega arith)
latest_at x i (y ∷ l) j e = go (latest x (suc i) l) (eqb x y) refl e (latest_at x (suc i) l j)
  where
    go : (o : Option ℕ) (t : Bool) → eqb x y ≡ t → later t i o ≡ some j → (o ≡ some j → (suc i ≤ j) × (get_or l (j - suc i) 0 ≡ x)) → (i ≤ j) × (get_or (y ∷ l) (j - i) 0 ≡ x)
    go (some m) t q f ih =
        let r = ih f in
        let n : j - i ≡ suc (j - suc i) = omega (arith, r.0) in
        (omega (arith, r.0), rw n r.1)
    go none true q f ih =
        let g : i ≡ j = cc in
        let n : j - i ≡ 0 = omega arith in
        (omega arith, rw n (sym (eqb-true x y q)))
    go none false q f ih = let z : ◌≡◌ {A = ℕ} 0 1 = cc in absurd (omega arith)

module _ (m : PageMap) (v : MapInv m) (b : Book) (c : Kept b m) (batch plan : List ℕ) (r : Writable m.device (sorted batch))
    (filled : 1 ≤ length (sorted batch)) (f : 1 ≤ length (free_blocks 0 m.counts)) (l : length plan ≡ m.device.B) where
  abbrev ws : List Write
  ws = sorted batch

  abbrev w : List ℕ
  w = logicals ws

  abbrev k : ℕ
  k = lowest_in m.counts

  abbrev first : ℕ
  first = first_page m.device k

  abbrev plan' : List ℕ
  plan' = store plan 0 (sources ws)

  -- what each page carries afterwards, and the last event of each logical page
  abbrev carried' : ℕ → Option Arrival
  carried' = carried_flush b.calls first (length ws) plan' b.carried

  abbrev last' : ℕ → Event
  last' = last_flush b.calls batch b.last

  -- and which of them are discarded
  abbrev discarded' : ℕ → Bool
  discarded' x = m.discarded x && not (elem x batch)

  -- the write that page i of the block carries
  abbrev arrived : ℕ → Arrival
  arrived i = record { call = b.calls; index = get_or plan' i 0 }

  -- page i of the block gets the index of the latest arrival of its logical page
  planned : (i : ℕ) → i < length ws → latest (get_or w i 0) 0 batch ≡ some (get_or plan' i 0)
  planned i h = sym (sorted-source (get_or w i 0) batch) ∙ source_at ws r.ascends i h ∙ ap (λ (y : ℕ). some y) (sym (plan_at plan ws i (omega (arith, r.fits)) h))

  -- a page of another block, and a logical page that is not written, are as before
  kept-page : (q : ℕ) → among first (length ws) q ≡ false → carried' q ≡ b.carried q
  unfolding carried_flush
  kept-page q e = rw (e, carried_flush) refl

  new-page : (q : ℕ) → among first (length ws) q ≡ true → carried' q ≡ some (arrived (q - first))
  unfolding carried_flush
  new-page q e = rw (e, carried_flush) refl

  -- a page among the new ones, by its place
  place_of : (q : ℕ) → among first (length ws) q ≡ true → (first ≤ q) × (q - first < length ws) × (latest (get_or w (q - first) 0) 0 batch ≡ some (get_or plan' (q - first) 0))
  place_of q e =
      let a = among-block m.device k (length ws) q r.fits e in
      let h : q - first < length ws = omega (arith, a.1, a.2) in
      (a.1, h, planned (q - first) h)

  outside : (x p : ℕ) → x < m.device.N → m.place x ≡ some p → among first (length ws) p ≡ false
  outside x p h e = is_false _ (λ t. off_free m v k (lowest_free_lem m.counts f).1 x p h e (among-block m.device k (length ws) p r.fits t).0)

  unwritten : (x : ℕ) → elem x w ≡ false → last' x ≡ b.last x
  unfolding last_flush last_or
  unwritten x n = ap (λ (o : Option ℕ). last_or b.calls o (b.last x)) (sym (sorted-source x batch) ∙ no_source x ws n)

  unwritten-marked : (x : ℕ) → elem x w ≡ false → discarded' x ≡ m.discarded x
  unwritten-marked x n = ap (λ (t : Bool). m.discarded x && not t) (sym (sorted-elem x batch) ∙ n) ∙ and-true (m.discarded x)

  -- one that is still discarded is not written
  discarded-unwritten : (x : ℕ) → discarded' x ≡ true → elem x w ≡ false
  discarded-unwritten x e = sorted-elem x batch ∙ not-true (elem x batch) (and_r (m.discarded x) _ e)

  written_last : (x i : ℕ) → i < length ws → get_or w i 0 ≡ x → last' x ≡ write (arrived i)
  unfolding last_flush last_or
  written_last x i j n = ap (λ (o : Option ℕ). last_or b.calls o (b.last x)) (ap (λ (y : ℕ). latest y 0 batch) (sym n) ∙ planned i j)

  abbrev place' : ℕ → Option ℕ
  place' x = spot x first w (m.place x)

  abbrev book' : Book
  book' = enter (flush_entry batch first (length ws) plan') b

  on_block : Kept book' (record { device = m.device; counts = write_counts ws m.counts; place = place'; discarded = discarded' })
  unfolding enter
  on_block = record {
    device = c.device;
    missing = λ x h e. missing x h (place' x) (spot_view x first w (m.place x)) e;
    gone = λ x h e. let n = discarded-unwritten x e in unwritten x n ∙ c.gone x h (sym (unwritten-marked x n) ∙ e);
    present = λ x p h e. present x p h (place' x) (spot_view x first w (m.place x)) e;
    once = λ p q a e g. once p q a (among first (length ws) p) (among first (length ws) q) refl refl e g;
    past = λ p a e. past p a (among first (length ws) p) refl e;
  }
    where
      last_write_lem : (x i : ℕ) → i < length ws → get_or w i 0 ≡ x → write_of (last' x) ≡ some (arrived i)
      last_write_lem x i j n = ap write_of (written_last x i j n) ∙ write_of_lem (arrived i)

      missing : (x : ℕ) → x < m.device.N → (o : Option ℕ) → Spot x first w (m.place x) o → o ≡ none → discarded' x ≡ false → last' x ≡ nothing
      missing x h o (elsewhere n) e q = unwritten x n ∙ c.missing x h e (sym (unwritten-marked x n) ∙ q)
      missing x h o (there i l n) e q = let z : ◌≡◌ {A = ℕ} 0 1 = cc in absurd (omega arith)

      present : (x p : ℕ) → x < m.device.N → (o : Option ℕ) → Spot x first w (m.place x) o → o ≡ some p → (a : Arrival) × (write_of (last' x) ≡ some a) × (carried' p ≡ some a)
      present x p h o (elsewhere n) e = let a = c.present x p h e in (a.0, ap write_of (unwritten x n) ∙ a.1, kept-page p (outside x p h e) ∙ a.2)
      present x p h o (there i l n) e =
          let g : first + i ≡ p = cc in
          let j : i < length ws = omega (arith, l, logicals-length ws) in
          let z : first + i - first ≡ i = omega arith in
          (arrived i, last_write_lem x i j n, ap carried' (sym g) ∙ new-page (first + i) (among_here first (length ws) i j) ∙ ap (λ (y : ℕ). some (arrived y)) z)

      once : (p q : ℕ) (a : Arrival) (t u : Bool) → among first (length ws) p ≡ t → among first (length ws) q ≡ u → carried' p ≡ some a → carried' q ≡ some a → p ≡ q
      once p q a false false t u e g = c.once p q a (sym (kept-page p t) ∙ e) (sym (kept-page q u) ∙ g)
      once p q a true false t u e g =
          let n : b.calls ≡ a.call = (let s : some (arrived (p - first)) ≡ some a = sym (new-page p t) ∙ e in cc) in
          absurd (omega (arith, c.past q a (sym (kept-page q u) ∙ g)))
      once p q a false true t u e g =
          let n : b.calls ≡ a.call = (let s : some (arrived (q - first)) ≡ some a = sym (new-page q u) ∙ g in cc) in
          absurd (omega (arith, c.past p a (sym (kept-page p t) ∙ e)))
      once p q a true true t u e g =
          let s : some (arrived (p - first)) ≡ some (arrived (q - first)) = sym (new-page p t) ∙ e ∙ sym g ∙ new-page q u in
          let n : arrived (p - first) ≡ arrived (q - first) = cc in
          let i = place_of p t in
          let j = place_of q u in
          let x : get_or w (p - first) 0 ≡ get_or w (q - first) 0 = sym (latest_at _ 0 batch _ i.2).1 ∙ ap (λ (y : Arrival). get_or batch (y.index - 0) 0) n ∙ (latest_at _ 0 batch _ j.2).1 in
          let z : p - first ≡ q - first = distinct-index w (p - first) (q - first) (asc_distinct r.ascends) (omega (arith, i.1, logicals-length ws)) (omega (arith, j.1, logicals-length ws)) x in
          omega (arith, z, i.0, j.0)

      past : (p : ℕ) (a : Arrival) (t : Bool) → among first (length ws) p ≡ t → carried' p ≡ some a → a.call < suc b.calls
      past p a false t e = omega (arith, c.past p a (sym (kept-page p t) ∙ e))
      past p a true t e =
          let n : b.calls ≡ a.call = (let s : some (arrived (p - first)) ≡ some a = sym (new-page p t) ∙ e in cc) in
          omega arith

  -- The book agrees with the page map after a flush.
  pub flush-kept : Kept book' (map_write ws (map_clear batch m))
  unfolding map_write map_clear
  flush-kept = subst (λ (p : ℕ). Kept book' (record { device = m.device; counts = write_counts ws m.counts; place = λ x. spot x p w (m.place x); discarded = discarded' })) (sym (first_of_lem ws m.device m.counts filled)) on_block
