-- What holds between state, spare area and page map from a format on: the state is sound, each block has the image of what was
-- written there, each logical page that lies somewhere is met by a record that predicts a page near it, and for one that lies nowhere
-- none is met or it is marked. Nothing is asked of a marked page's records. Assumes nothing.
use mathlib.Core.Path.{◌≡◌, refl, sym, ◌∙◌, ap, subst}
use mathlib.Core.List.{List, []}
use mathlib.Core.Option.{Option, none, some}
use mathlib.Core.Logic.{◌≢◌}
use mathlib.Core.Bool.{Bool, true, false}
use Prim.Native.Nat.{ℕ, ◌+◌, ◌≤◌, ◌<◌}
use lib.Dec.{eqb}
use lib.ListN.{length, get_or, set}
use lib.Seq.{get_or-set_same, get_or-set_other}
use lib.IntN.{pos}
use borrow.Author.Tests.{eqb-true, eqb-false, eq-eqb, ne_eqb}
use Rattle.model.specs.Lists.{elem}
use Rattle.model.specs.Device.{Device, within_limits, first_page, offset_of, group_of, marks_count, group_count, state_length, spare_length}
use Rattle.model.specs.Levels.{Group, listing}
use Rattle.model.specs.Marks.{is_marked}
use Rattle.model.specs.State.{State, group_at}
use Rattle.model.specs.Sound.{sound_state}
use Rattle.model.proofs.Lists.{Asc}
use Rattle.model.proofs.Line.{Line, met, line_predict}
use Rattle.model.proofs.Image.{Image}

-- Logical page x, which isn't marked, lies on page p: at place `slot` of `block`, whose image has x there; and the record met first
-- for x predicts the page at place `near` of the same block, a written one within g of p.
pub record Lies (s : State) (image : ℕ → List ℕ) (x p : ℕ) : Type 0 where
  pub block : ℕ
  pub slot : ℕ
  pub near : ℕ
  pub line : Line
  pub inside : block < s.device.M
  pub page : p ≡ first_page s.device block + slot
  pub written : slot < length (image block)
  pub carries : get_or (image block) slot 0 ≡ x
  pub is_met : met (offset_of x) (listing (group_at s (group_of x))) ≡ some line
  pub predicts : line_predict line (offset_of x) ≡ pos (first_page s.device block + near)
  pub near_written : near < length (image block)
  pub above : slot ≤ near + s.device.g
  pub below : near ≤ slot + s.device.g
  pub unmarked : is_marked s.marks x ≡ false

-- It lies there still in a state of the same device where its block's image and the line met for it are the same and it isn't marked.
pub lies_still : (s : State) (image : ℕ → List ℕ) (x p : ℕ) (l : Lies s image x p) (counts marks : List ℕ) (groups : List Group) (image' : ℕ → List ℕ)
    → image' l.block ≡ image l.block
    → met (offset_of x) (listing (get_or groups (group_of x) [])) ≡ met (offset_of x) (listing (group_at s (group_of x)))
    → is_marked marks x ≡ false
    → Lies (record { bytes = s.bytes; device = s.device; counts = counts; marks = marks; groups = groups }) image' x p
unfolding group_at
lies_still s image x p l counts marks groups image' same meets unmarked = record {
  block = l.block;
  slot = l.slot;
  near = l.near;
  line = l.line;
  inside = l.inside;
  page = l.page;
  written = rw same l.written;
  carries = rw same l.carries;
  is_met = meets ∙ l.is_met;
  predicts = l.predicts;
  near_written = rw same l.near_written;
  above = l.above;
  below = l.below;
  unmarked = unmarked;
}

-- Each block has the spare entries of its image: as many logical pages as its count says, ascending, all below N.
pub record Imaged (d : Device) (counts spare : List ℕ) (image : ℕ → List ℕ) : Type 0 where
  pub entries : (k : ℕ) → k < d.M → Image d spare k (image k) (get_or counts k 0)
  pub count : (k : ℕ) → k < d.M → length (image k) ≡ get_or counts k 0
  pub ascends : (k : ℕ) → k < d.M → Asc 0 (image k)
  pub logical : (k : ℕ) → k < d.M → (x : ℕ) → elem x (image k) ≡ true → x < d.N

-- The invariant, for where each logical page lies on the page map.
pub record Inv (s : State) (spare : List ℕ) (place : ℕ → Option ℕ) : Type 0 where
  pub image : ℕ → List ℕ
  pub limits : within_limits s.device ≡ true
  pub bytes : s.bytes ≡ state_length s.device
  pub counted : length s.counts ≡ s.device.M
  pub marked : length s.marks ≡ marks_count s.device
  pub grouped : length s.groups ≡ group_count s.device
  pub spared : length spare ≡ spare_length s.device
  pub sound : sound_state s ≡ true
  pub imaged : Imaged s.device s.counts spare image
  pub placed : (x p : ℕ) → x < s.device.N → place x ≡ some p → Lies s image x p
  pub unplaced : (x : ℕ) → x < s.device.N → place x ≡ none → is_marked s.marks x ≡ false
      → met (offset_of x) (listing (group_at s (group_of x))) ≡ none

-- a function of blocks with another value at block k
unfoldable pub update : ℕ → List ℕ → (ℕ → List ℕ) → ℕ → List ℕ
update k v f j = elim (eqb j k) [ true ↦ v | false ↦ f j ]

-- It has that value there ..
pub update_here : (k : ℕ) (v : List ℕ) (f : ℕ → List ℕ) → update k v f k ≡ v
unfolding update
update_here k v f = rw (eq-eqb k k refl, update)

-- .. and its own elsewhere.
pub update_other : (k : ℕ) (v : List ℕ) (f : ℕ → List ℕ) (j : ℕ) → j ≢ k → update k v f j ≡ f j
unfolding update
update_other k v f j n = rw (ne_eqb j k n, update)

-- Block k with another image, and every other block as it was: the blocks have their images again.
pub imaged_update : (d : Device) (counts spare spare' : List ℕ) (image : ℕ → List ℕ) (k n : ℕ) (w : List ℕ) → Imaged d counts spare image
    → k < length counts → Image d spare' k w n → ((j c : ℕ) → j ≢ k → Image d spare j (image j) c → Image d spare' j (image j) c)
    → length w ≡ n → Asc 0 w → ((x : ℕ) → elem x w ≡ true → x < d.N)
    → Imaged d (set counts k n) spare' (update k w image)
imaged_update d counts spare spare' image k n w v b i keeps size a below = record {
  entries = λ j h. entries_of_lem j h (eqb j k) refl;
  count = λ j h. count_of j h (eqb j k) refl;
  ascends = λ j h. ascends_of j h (eqb j k) refl;
  logical = λ j h. logical_of j h (eqb j k) refl;
}
  where
    here : (j : ℕ) → eqb j k ≡ true → update k w image j ≡ w
    here j e = ap (update k w image) (eqb-true j k e) ∙ update_here k w image

    off : (j : ℕ) → eqb j k ≡ false → update k w image j ≡ image j
    off j e = update_other k w image j (eqb-false j k e)

    entries_of_lem : (j : ℕ) → j < d.M → (t : Bool) → eqb j k ≡ t → Image d spare' j (update k w image j) (get_or (set counts k n) j 0)
    entries_of_lem j h true e =
        subst (λ (c : ℕ). Image d spare' j (update k w image j) c) (sym (get_or-set_same counts k n 0 b) ∙ ap (λ (m : ℕ). get_or (set counts k n) m 0) (sym (eqb-true j k e)))
        (subst (λ (l : List ℕ). Image d spare' j l n) (sym (here j e)) (subst (λ (m : ℕ). Image d spare' m w n) (sym (eqb-true j k e)) i))
    entries_of_lem j h false e =
        subst (λ (c : ℕ). Image d spare' j (update k w image j) c) (sym (get_or-set_other counts k j n 0 (eqb-false j k e)))
        (subst (λ (l : List ℕ). Image d spare' j l (get_or counts j 0)) (sym (off j e)) (keeps j (get_or counts j 0) (eqb-false j k e) (v.entries j h)))

    count_of : (j : ℕ) → j < d.M → (t : Bool) → eqb j k ≡ t → length (update k w image j) ≡ get_or (set counts k n) j 0
    count_of j h true e =
        ap (λ (l : List ℕ). length l) (here j e) ∙ size ∙ sym (get_or-set_same counts k n 0 b)
        ∙ ap (λ (m : ℕ). get_or (set counts k n) m 0) (sym (eqb-true j k e))
    count_of j h false e = ap (λ (l : List ℕ). length l) (off j e) ∙ v.count j h ∙ sym (get_or-set_other counts k j n 0 (eqb-false j k e))

    ascends_of : (j : ℕ) → j < d.M → (t : Bool) → eqb j k ≡ t → Asc 0 (update k w image j)
    ascends_of j h true e = rw (here j e) a
    ascends_of j h false e = rw (off j e) (v.ascends j h)

    logical_of : (j : ℕ) → j < d.M → (t : Bool) → eqb j k ≡ t → (x : ℕ) → elem x (update k w image j) ≡ true → x < d.N
    logical_of j h true e x m = below x (sym (ap (elem x) (here j e)) ∙ m)
    logical_of j h false e x m = v.logical j h x (sym (ap (elem x) (off j e)) ∙ m)
