-- Levels in order: a sound group's are, and insertion and compaction keep them so. Assumes nothing.
use mathlib.Core.Path.{◌≡◌, refl, sym, ◌∙◌}
use mathlib.Core.List.{List, [], ◌∷◌, ◌++◌, map, flatten}
use mathlib.Core.Option.{Option, none, some}
use mathlib.Core.Logic.{◌⊎◌, inl, inr}
use mathlib.Core.Bool.{true≢false, Bool, true, false, ◌&&◌}
use Prim.Native.Nat.{ℕ, zero, suc, ◌+◌, ◌*◌, ◌≤◌, ◌<◌}
use native.Mathlib.Omega.{arith}
use lib.Dec.{ltb, leb, eqb}
use borrow.Author.Tests.{leb-true, ltb-true, ltb-false, eqb-true, le-leb}
use Rattle.model.specs.Lists.{all, elem, ascending, last_of}
use Rattle.model.specs.Record.{Record, Kind, single, accurate, approximate, kind, is_approximate, end, member_as, member}
use Rattle.model.specs.Levels.{Level, Group, listing, meets_any, shrink, keep, give_up, give_up_all, filled, into, Fate, stays, sinks, goes, fate, staying, sinking, stayers, sinkers, sink, sink_all, insert_top, insert, member_of_any, shrink_all, depth_over, depth, put_at, put_back, compact}
use Rattle.model.specs.Sound.{owns_its_ends, sound_as, sound_record, ordered}
use Rattle.model.proofs.Bools.{and_l, and_r, and_i, all_head, all_tail, all_cons, all_left, all_right}
use Rattle.model.proofs.Lists.{Asc, asc_of, asc_head, asc_top}
use Rattle.model.proofs.Shrink.{on_of, member_as_lem, Within, Outcome, gone, left, shrink-outcome}
use Rattle.model.proofs.Ranges.{before-meets, meets-false, meets-sym, any_cons, cons_any}
use Rattle.model.proofs.Fates.{View, whole, part, lower, nothing, view}

-- a level from offset b on: records ascend, their ranges don't meet and hold their members
abbrev pub Chain : ℕ → Level → Type 0
Chain b [] = Unit {0}
Chain b (r ∷ l) = (b ≤ r.start) × Within r × Chain (suc (end r)) l

-- each level of a group in order
abbrev pub Chains : Group → Type 0
Chains [] = Unit {0}
Chains (l ∷ g) = Chain 0 l × Chains g

-- each record's range holds its members
abbrev pub AllWithin : List Record → Type 0
AllWithin [] = Unit {0}
AllWithin (r ∷ l) = Within r × AllWithin l

owned-ends : (r : Record) (l : List ℕ) → owns_its_ends r l ≡ true → (o : ℕ) → elem o l ≡ true → (r.start ≤ o) × (o ≤ end r)
unfolding owns_its_ends
owned-ends r [] h o k = absurd (true≢false (sym h))
owned-ends r (x ∷ l) h o k =
    let t : (ascending (x ∷ l) && eqb x r.start) ≡ true = and_l (ascending (x ∷ l) && eqb x r.start) _ h in
    let a : Asc 0 (x ∷ l) = asc_of (x ∷ l) (and_l (ascending (x ∷ l)) _ t) in
    let f : x ≡ r.start = eqb-true _ _ (and_r (ascending (x ∷ l)) _ t) in
    let e : last_of x l ≡ end r = eqb-true _ _ (and_r (ascending (x ∷ l) && eqb x r.start) _ h) in
    let u : x ≤ o = asc_head a o k in
    let v : o ≤ last_of x l = asc_top a o k in
    (omega arith, omega arith)

within_as : (r : Record) (k : Kind) → kind r ≡ k → sound_as k r ≡ true → Within r
unfolding sound_as member_as
within_as r single e h o m =
    let q : o ≡ r.start = eqb-true _ _ (sym (member_as_lem r single o e) ∙ m) in
    (omega arith, omega arith)
within_as r (accurate d) e h o m =
    let i = on_of d r o (sym (member_as_lem r (accurate d) o e) ∙ m) in
    (i.low, i.high)
within_as r (approximate a) e h o m =
    owned-ends r r.owned (and_r (leb a 256) _ h) o (sym (member_as_lem r (approximate a) o e) ∙ m)

-- a sound record's range holds its members
pub sound-within : (N k : ℕ) (r : Record) → sound_record N k r ≡ true → Within r
unfolding sound_record
sound-within N k r h = within_as r (kind r) refl (and_r (leb (end r) 255 && ltb (256 * k + end r) N) _ h)

sound_chain : (N k b : ℕ) (l : Level) → ordered b l ≡ true → all (sound_record N k) l ≡ true → Chain b l
unfolding ordered
sound_chain N k b [] h s = tt
sound_chain N k b (r ∷ l) h s =
    (leb-true _ _ (and_l (leb b r.start) _ h), sound-within N k r (all_head (sound_record N k) r l s), sound_chain N k (suc (end r)) l (and_r (leb b r.start) _ h) (all_tail (sound_record N k) r l s))

-- levels that pass the test of order, of sound records, are in order
pub sound-chains : (N k : ℕ) (g : Group) → all (ordered 0) g ≡ true → all (sound_record N k) (listing g) ≡ true → Chains g
unfolding flatten
sound-chains N k [] h s = tt
sound-chains N k (l ∷ g) h s =
    (sound_chain N k 0 l (all_head (ordered 0) l g h) (all_left (sound_record N k) l (flatten g) s), sound-chains N k g (all_tail (ordered 0) l g h) (all_right (sound_record N k) l (flatten g) s))

chain_ordered : (b : ℕ) (l : Level) → Chain b l → ordered b l ≡ true
unfolding ordered
chain_ordered b [] c = refl
chain_ordered b (r ∷ l) c = and_i _ _ (le-leb b r.start c.0) (chain_ordered (suc (end r)) l c.2)

-- levels in order pass the test of order
pub chains-ordered : (g : Group) → Chains g → all (ordered 0) g ≡ true
unfolding all
chains-ordered [] c = refl
chains-ordered (l ∷ g) c = all_cons (ordered 0) l g (chain_ordered 0 l c.0) (chains-ordered g c.1)

-- a level in order from c on is so from any b below on
pub chain_lower : (b c : ℕ) (l : Level) → b ≤ c → Chain c l → Chain b l
chain_lower b c [] h k = tt
chain_lower b c (r ∷ l) h k = (omega (arith, k.0), k.1, k.2)

-- the ranges of a level in order hold their records' members
pub chain_within : (b : ℕ) (l : Level) → Chain b l → AllWithin l
chain_within b [] c = tt
chain_within b (r ∷ l) c = (c.1, chain_within (suc (end r)) l c.2)

append_within : (l m : List Record) → AllWithin l → AllWithin m → AllWithin (l ++ m)
append_within [] m a b = b
append_within (r ∷ l) m a b = (a.0, append_within l m a.1 b)

-- so do those of a group whose levels are in order
pub chains-within : (g : Group) → Chains g → AllWithin (listing g)
unfolding flatten
chains-within [] c = tt
chains-within (l ∷ g) c = append_within l (flatten g) (chain_within 0 l c.0) (chains-within g c.1)

-- a record before a level in order meets none of it
pub chain_above : (r : Record) (b : ℕ) (l : Level) → end r < b → Chain b l → meets_any r l ≡ false
unfolding meets_any
chain_above r b [] h c = refl
chain_above r b (s ∷ l) h c =
    cons_any r s l (before-meets r s (omega (arith, c.0))) (chain_above r (suc (end s)) l (omega (arith, c.0)) c.2)

-- a record that meets none of a level goes into it in order
pub into_chain : (r : Record) (b : ℕ) (l : Level) → b ≤ r.start → Within r → meets_any r l ≡ false → Chain b l → Chain b (into r l)
unfolding into
into_chain r b [] h w n c = (h, w, tt)
into_chain r b (s ∷ l) h w n c =
    go (ltb r.start s.start) refl (meets-false r s (any_cons r s l n).0) (λ k. into_chain r (suc (end s)) l k w (any_cons r s l n).1 c.2)
  where
    go : (t : Bool) → ltb r.start s.start ≡ t → (end s < r.start) ⊎ (end r < s.start) → (suc (end s) ≤ r.start → Chain (suc (end s)) (into r l)) → Chain b (into r (s ∷ l))
    go true q (inl m) ih = absurd (omega (arith, ltb-true))
    go true q (inr m) ih = rw (q, into) (h, w, (m, c.1, c.2))
    go false q (inl m) ih = rw (q, into) (c.0, c.1, ih m)
    go false q (inr m) ih = absurd (omega (arith, ltb-false))

keep_chain : (lost : ℕ → Bool) (b : ℕ) (r : Record) (l : Level) (x : Option Record) → Outcome lost r x → b ≤ r.start → Within r → Chain (suc (end r)) l → Chain b (keep x l)
unfolding keep
keep_chain lost b r l none (gone k) h w c = chain_lower b (suc (end r)) l (omega arith) c
keep_chain lost b r l (some s) (left k) h w c =
    let i = k.range w in
    (omega (arith, i.0), i.2, chain_lower (suc (end s)) (suc (end r)) l (omega (arith, i.1)) c)

give_up_chain : (lost : ℕ → Bool) (b : ℕ) (l : Level) → Chain b l → Chain b (give_up lost l)
unfolding give_up
give_up_chain lost b [] c = tt
give_up_chain lost b (s ∷ l) c = go (is_approximate (kind s)) refl (give_up_chain lost (suc (end s)) l c.2)
  where
    go : (t : Bool) → is_approximate (kind s) ≡ t → Chain (suc (end s)) (give_up lost l) → Chain b (give_up lost (s ∷ l))
    go true q ih = rw (q, give_up) (keep_chain lost b s (give_up lost l) (shrink lost s) (shrink-outcome lost s) c.0 c.1 ih)
    go false q ih = rw (q, give_up) (c.0, c.1, ih)

map-give_up-chains : (lost : ℕ → Bool) (g : Group) → Chains g → Chains (map (give_up lost) g)
map-give_up-chains lost [] c = tt
map-give_up-chains lost (l ∷ g) c = (give_up_chain lost 0 l c.0, map-give_up-chains lost g c.1)

-- giving up offsets keeps the levels in order
pub give_up_all-chains : (r : Record) (g : Group) → Chains g → Chains (give_up_all r g)
unfolding give_up_all
give_up_all-chains r g c = go (is_approximate (kind r)) refl
  where
    go : (t : Bool) → is_approximate (kind r) ≡ t → Chains (give_up_all r g)
    go true q = rw (q, give_up_all) (map-give_up-chains (member r) g c)
    go false q = rw (q, give_up_all) c

-- what stays at level 0 is in order and doesn't meet the inserted record
pub stayers_chain : (r : Record) (b : ℕ) (l : Level) → Chain b l → Chain b (stayers r l) × (meets_any r (stayers r l) ≡ false)
unfolding stayers staying meets_any
stayers_chain r b [] c = (tt, refl)
stayers_chain r b (v ∷ l) c = go (fate r v) (view r v) (stayers_chain r (suc (end v)) l c.2)
  where
    go : (f : Fate) → View r v f → Chain (suc (end v)) (stayers r l) × (meets_any r (stayers r l) ≡ false)
        → Chain b (staying f (stayers r l)) × (meets_any r (staying f (stayers r l)) ≡ false)
    go (stays s) (whole p) ih = ((c.0, c.1, ih.0), cons_any r v (stayers r l) (meets-sym v r p) ih.1)
    go (stays s) (part k p) ih =
        let i = k.range c.1 in
        ((omega (arith, c.0, i.0), i.2, chain_lower (suc (end s)) (suc (end v)) (stayers r l) (omega (arith, i.1)) ih.0), cons_any r s (stayers r l) (meets-sym s r p) ih.1)
    go (sinks s) (lower k) ih = (chain_lower b (suc (end v)) (stayers r l) (omega (arith, c.0)) ih.0, ih.1)
    go goes (nothing k) ih = (chain_lower b (suc (end v)) (stayers r l) (omega (arith, c.0)) ih.0, ih.1)

-- a record that sinks keeps the levels below in order
pub sink-chains : (s : Record) (g : Group) → Within s → Chains g → Chains (sink s g)
unfolding sink
sink-chains s [] w c = ((omega arith, w, tt), tt)
sink-chains s (l ∷ g) w c = go (meets_any s l) refl
  where
    go : (t : Bool) → meets_any s l ≡ t → Chains (sink s (l ∷ g))
    go true p = rw (p, sink) ((omega arith, w, tt), (c.0, c.1))
    go false p = rw (p, sink) (into_chain s 0 l (omega arith) w p c.0, c.1)

sinkers-chains : (r : Record) (b : ℕ) (l : Level) (g : Group) → Chain b l → Chains g → Chains (sink_all (sinkers r l) g)
unfolding sinkers sinking sink_all
sinkers-chains r b [] g c k = k
sinkers-chains r b (v ∷ l) g c k = go (fate r v) (view r v) (λ g' k'. sinkers-chains r (suc (end v)) l g' c.2 k')
  where
    go : (f : Fate) → View r v f → ((g' : Group) → Chains g' → Chains (sink_all (sinkers r l) g')) → Chains (sink_all (sinking f (sinkers r l)) g)
    go (stays s) (whole p) ih = ih g k
    go (stays s) (part i p) ih = ih g k
    go (sinks s) (lower i) ih = ih (sink s g) (sink-chains s g (i.range c.1).2 k)
    go goes (nothing n) ih = ih g k

-- without empty levels the others stay in order
pub filled-chains : (g : Group) → Chains g → Chains (filled g)
unfolding filled
filled-chains [] c = tt
filled-chains ([] ∷ g) c = filled-chains g c.1
filled-chains ((r ∷ l) ∷ g) c = (c.0, filled-chains g c.1)

insert_top-chains : (r : Record) (g : Group) → Within r → Chains g → Chains (insert_top r g)
unfolding insert_top
insert_top-chains r [] w c = ((omega arith, w, tt), tt)
insert_top-chains r (l ∷ g) w c =
    let s = stayers_chain r 0 l c.0 in
    (into_chain r 0 (stayers r l) (omega arith) w s.1 s.0, sinkers-chains r 0 l (filled g) c.0 (filled-chains g c.1))

-- insertion keeps levels in order
pub insert-chains : (r : Record) (g : Group) → Within r → Chains g → Chains (insert r g)
unfolding insert
insert-chains r g w c = insert_top-chains r (give_up_all r g) w (give_up_all-chains r g c)

-- the ranges of shrunk records hold their members
pub shrink_all-within : (above l : List Record) → AllWithin l → AllWithin (shrink_all above l)
unfolding shrink_all keep
shrink_all-within above [] w = tt
shrink_all-within above (r ∷ l) w = go (shrink (member_of_any above) r) (shrink-outcome (member_of_any above) r) (shrink_all-within (r ∷ above) l w.1)
  where
    go : (x : Option Record) → Outcome (member_of_any above) r x → AllWithin (shrink_all (r ∷ above) l) → AllWithin (keep x (shrink_all (r ∷ above) l))
    go none (gone k) ih = ih
    go (some s) (left k) ih = ((k.range w.0).2, ih)

-- a record put back at its depth keeps the levels in order
pub put_at-chains : (r : Record) (g : Group) → Within r → Chains g → Chains (put_at (depth r g) r g)
unfolding depth depth_over put_at
put_at-chains r [] w c = ((omega arith, w, tt), tt)
put_at-chains r (l ∷ g) w c = go (depth r g) refl (meets_any r l) refl (put_at-chains r g w c.1)
  where
    go : (n : ℕ) → depth r g ≡ n → (t : Bool) → meets_any r l ≡ t → Chains (put_at (depth r g) r g) → Chains (put_at (depth_over (depth r g) (meets_any r l)) r (l ∷ g))
    go zero p true q ih = rw (p, q) (c.0, rw p at ih)
    go zero p false q ih = rw (p, q) (into_chain r 0 l (omega arith) w q c.0, c.1)
    go (suc n) p t q ih = rw p (c.0, rw p at ih)

-- records put back, one after the other, too
pub put_back-chains : (l : List Record) (g : Group) → AllWithin l → Chains g → Chains (put_back l g)
unfolding put_back
put_back-chains [] g w c = c
put_back-chains (r ∷ l) g w c = put_back-chains l (put_at (depth r g) r g) w.1 (put_at-chains r g w.0 c)

-- compaction keeps levels in order
pub compact-chains : (g : Group) → Chains g → Chains (compact g)
unfolding compact
compact-chains g c = put_back-chains (shrink_all [] (listing g)) [] (shrink_all-within [] (listing g) (chains-within g c)) tt
