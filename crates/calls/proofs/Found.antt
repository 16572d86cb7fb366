-- Under the invariant a lookup finds where a logical page lies, and the valid pages and their middle entries are a test and a name that
-- fit the page map. Assumes nothing.
use mathlib.Core.Path.{◌≡◌, refl, sym, ◌∙◌, ap}
use mathlib.Core.List.{List, [], ◌∷◌}
use mathlib.Core.Option.{Option, none, some}
use mathlib.Core.Bool.{true≢false, Bool, true, false}
use Prim.Native.Nat.{ℕ, zero, suc, ◌+◌, ◌/◌, ◌%◌, ◌≤◌, ◌<◌}
use native.Mathlib.Omega.{arith}
use lib.Dec.{ltb, leb}
use lib.ListN.{length, get_or}
use lib.IntN.{pos}
use borrow.Author.Tests.{lt-ltb, ltb-true, eqb-true, eq-eqb, leb-true}
use Rattle.model.specs.Lists.{elem, all}
use Rattle.model.specs.Device.{first_page, pages, offset_of, group_of}
use Rattle.model.specs.Record.{predict}
use Rattle.model.specs.Spare.{nobody, middle, page_named}
use Rattle.model.specs.Levels.{listing, levels_to}
use Rattle.model.specs.Marks.{is_marked}
use Rattle.model.specs.State.{State, group_at}
use Rattle.model.specs.Sound.{sound_state, sound_groups}
use Rattle.model.proofs.Lists.{get_or_default}
use Rattle.model.proofs.Bools.{and_l, and_r, and_i, all_head, all_tail}
use Rattle.model.proofs.Limits.{limits, page-inside, page-block, page-split, N_below-nobody}
use Rattle.model.proofs.Holder.{met_none, met_some, predict-line}
use Rattle.model.proofs.Image.{image-middle}
use Rattle.model.proofs.PageNamed.{page_named_lem}
use Rattle.calls.specs.Lookup.{Looked, at, nowhere, unnamed, looked_named, looked_at, looked_by, descend, seek}
use Rattle.calls.specs.Collection.{gives, valid}
use Rattle.calls.specs.PageMap.{PageMap}
use Rattle.calls.proofs.Naming.{Names}
use Rattle.calls.proofs.MapInvariant.{MapInv}
use Rattle.calls.proofs.Marked.{seek-marked, seek_unmarked}
use Rattle.calls.proofs.Invariant.{Lies, Inv}

-- the page map beside a state
abbrev pub map_of : State → (ℕ → Option ℕ) → PageMap
map_of s place = record { device = s.device; counts = s.counts; place = place; discarded = is_marked s.marks }

-- every count of a list that passes `all` is within the bound
counts-below : (b : ℕ) (cs : List ℕ) (k : ℕ) → all (λ c. leb c b) cs ≡ true → get_or cs k 0 ≤ b
counts-below b [] k h = omega arith
counts-below b (c ∷ cs) zero h = leb-true c b (all_head (λ c. leb c b) c cs h)
counts-below b (c ∷ cs) (suc k) h = counts-below b cs k (all_tail (λ c. leb c b) c cs h)

module _ (s : State) (spare : List ℕ) (place : ℕ → Option ℕ) (v : Inv s spare place) where
  abbrev image : ℕ → List ℕ
  image = v.image

  -- A block's image fits the block.
  pub image-fits : (k : ℕ) → k < s.device.M → length (image k) ≤ s.device.B
  unfolding sound_state
  image-fits k h =
      let c : get_or s.counts k 0 ≤ s.device.B = counts-below s.device.B s.counts k (and_r (sound_groups s.device.N 0 s.groups) _ v.sound) in
      omega (arith, v.imaged.count k h)

  -- Logical pages are below the number that names nobody.
  pub image-named : (k : ℕ) → k < s.device.M → (x : ℕ) → elem x (image k) ≡ true → x < nobody
  image-named k h x e = omega (arith, v.imaged.logical k h x e, N_below-nobody s.device (limits s.device v.limits))

  -- What a lookup answers: the page that x lies on, with a predicted page of the same block.
  pub record Answers (x p : ℕ) (l : Lies s image x p) : Type 0 where
    pub levels : ℕ
    pub sought : seek s spare x ≡ at p (first_page s.device l.block + l.near) levels

  -- A logical page that lies on page p is found there.
  pub seek_found : (x p : ℕ) (l : Lies s image x p) → Answers x p l
  unfolding descend looked_by looked_at looked_named
  seek_found x p l =
      let q : ℕ = first_page s.device l.block + l.near in
      let fits : length (image l.block) ≤ s.device.B = image-fits l.block l.inside in
      let whole : length (image l.block) ≡ get_or s.counts l.block 0 = v.imaged.count l.block l.inside in
      let near_in : l.near < s.device.B = omega (arith, l.near_written) in
      let exists : ltb q (pages s.device) ≡ true = lt-ltb q (pages s.device) (page-inside s.device l.block l.near l.inside near_in) in
      let named : page_named s.device spare q x ≡ some (first_page s.device l.block + l.slot) =
      page_named_lem s.device spare l.block (image l.block) (get_or s.counts l.block 0) l.slot l.near x q (v.imaged.entries l.block l.inside) (v.imaged.ascends l.block l.inside)
      fits (omega (arith, whole)) (image-named l.block l.inside) l.inside l.written l.carries refl (omega (arith, whole, l.near_written)) l.above l.below in
      let n : ℕ = levels_to (offset_of x) (group_at s (group_of x)) in
      let m = met_some (offset_of x) (listing (group_at s (group_of x))) l.line l.is_met in
      let z : predict m.0 (offset_of x) ≡ pos q = predict-line m.0 l.line (offset_of x) m.2 ∙ l.predicts in
      record {
        levels = n;
        sought =
            seek_unmarked s spare x l.unmarked
            ∙ ap (looked_by s.device spare x n) m.1
            ∙ ap (looked_at s.device spare x n) z
            ∙ ap (λ (t : Bool). elim t [ true ↦ looked_named n q (page_named s.device spare q x) | false ↦ unnamed ]) exists
            ∙ ap (looked_named n q) named
            ∙ ap (λ (y : ℕ). at y q n) (sym l.page);
      }

  -- One that lies nowhere is not found, whether it is marked or not.
  pub data Missed (x : ℕ) : Looked → Type 0 where
    marked : is_marked s.marks x ≡ true → Missed x (nowhere 0)
    unmarked : (levels : ℕ) → is_marked s.marks x ≡ false → Missed x (nowhere levels)

  pub seek-nowhere : (x : ℕ) → x < s.device.N → place x ≡ none → Missed x (seek s spare x)
  unfolding descend looked_by
  seek-nowhere x h e = go (is_marked s.marks x) refl
    where
      go : (t : Bool) → is_marked s.marks x ≡ t → Missed x (seek s spare x)
      go true q = rw (seek-marked s spare x q) (marked q)
      go false q =
          let n : ℕ = levels_to (offset_of x) (group_at s (group_of x)) in
          let sought : seek s spare x ≡ nowhere n =
          seek_unmarked s spare x q
          ∙ ap (looked_by s.device spare x n) (met_none (offset_of x) (listing (group_at s (group_of x))) (v.unplaced x h e q)) in
          rw sought (unmarked n q)

  -- A page on which a logical page lies is valid, and a valid page is one on which its logical page lies.
  pub valid-names : Names s.device.N place (valid s spare) (middle s.device spare)
  unfolding valid gives
  valid-names = record { only = only; every = λ x p h e. every x p h (v.placed x p h e) }
    where
      every : (x p : ℕ) → x < s.device.N → Lies s image x p → (valid s spare p ≡ true) × (middle s.device spare p ≡ x)
      every x p h l =
          let e : middle s.device spare p ≡ x =
          ap (middle s.device spare) l.page
          ∙ image-middle s.device spare l.block (image l.block) (get_or s.counts l.block 0) l.slot (v.imaged.entries l.block l.inside) (omega (arith, l.written, v.imaged.count l.block l.inside)) (omega (arith, l.written, image-fits l.block l.inside))
          ∙ get_or_default (image l.block) l.slot nobody 0 l.written ∙ l.carries in
          let g : gives p (seek s spare x) ≡ true = ap (gives p) (seek_found x p l).sought ∙ eq-eqb p p refl in
          (rw e (and_i _ _ (lt-ltb x s.device.N h) g), e)

      missed : (x p : ℕ) (o : Looked) → Missed x o → gives p o ≡ false
      missed x p o (marked e) = refl
      missed x p o (unmarked n e) = refl

      found : (x p : ℕ) → x < s.device.N → (o : Option ℕ) → place x ≡ o → gives p (seek s spare x) ≡ true → place x ≡ some p
      found x p b none e g = absurd (true≢false (sym g ∙ missed x p (seek s spare x) (seek-nowhere x b e)))
      found x p b (some q) e g = e ∙ ap (λ (y : ℕ). some y) (sym (eqb-true p q (sym (ap (gives p) (seek_found x q (v.placed x q b e)).sought) ∙ g)))

      only : (p : ℕ) → valid s spare p ≡ true → (middle s.device spare p < s.device.N) × (place (middle s.device spare p) ≡ some p)
      only p h =
          let x : ℕ = middle s.device spare p in
          let b : x < s.device.N = ltb-true x s.device.N (and_l _ _ h) in
          (b, found x p b (place x) refl (and_r (ltb x s.device.N) _ h))

  -- The page on which a logical page lies is in the block where it lies, at its place there.
  pub lies_at : (x p : ℕ) (l : Lies s image x p) → (p / s.device.B ≡ l.block) × (p % s.device.B ≡ l.slot)
  lies_at x p l =
      let b : p / s.device.B ≡ l.block = ap (λ (q : ℕ). q / s.device.B) l.page ∙ page-block s.device l.block l.slot (omega (arith, l.written, image-fits l.block l.inside)) in
      (b, omega (arith, rw b at (page-split s.device p), l.page))

  -- So the page map's own invariant holds.
  pub inv_map : MapInv (map_of s place)
  inv_map = record {
    limits = v.limits;
    counted = v.counted;
    written = λ x p h e.
        let l = v.placed x p h e in
        let a = lies_at x p l in
        rw (a.0, a.1) (omega (arith, l.written, v.imaged.count l.block l.inside));
    alone = λ x y p h k e f. sym (valid-names.every x p h e).1 ∙ (valid-names.every y p k f).1;
  }
