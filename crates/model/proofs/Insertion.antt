-- Insertion changes what is met first at exactly the inserted record's members. Assumes nothing.
use mathlib.Core.Path.{◌≡◌, refl, sym, ◌∙◌, ap}
use mathlib.Core.List.{List, [], ◌∷◌, ◌++◌, map, flatten}
use mathlib.Core.Option.{Option, none, some}
use mathlib.Core.Bool.{true≢false, Bool, true, false}
use Prim.Native.Nat.{ℕ, suc, ◌<◌}
use native.Mathlib.Omega.{arith}
use Rattle.model.specs.Lists.{or_else}
use Rattle.model.specs.Record.{Record, kind, is_approximate, end, member}
use Rattle.model.specs.Levels.{Level, Group, listing, meets_any, shrink, give_up, give_up_all, filled, into, Fate, stays, sinks, goes, fate, staying, sinking, stayers, sinkers, sink, sink_all, insert_top, insert, insert_all}
use Rattle.model.proofs.Bools.{is_false}
use Rattle.model.proofs.Line.{Line, line_of, met, overlay}
use Rattle.model.proofs.Shrink.{Within, Shrunk, shrink-outcome}
use Rattle.model.proofs.Fates.{View, whole, part, lower, nothing, view}
use Rattle.model.proofs.Order.{Chain, Chains, AllWithin, chain_within, chain_above, give_up_all-chains, stayers_chain, sink-chains, filled-chains, insert-chains}
use Rattle.model.proofs.Encounter.{first, met-skip, met-hit, met_same, met_append, met-apart, into-skip, into-hit, shrunk-line, shrunk-member, met-shrunk, met-keep}

module _ (r : Record) (o : ℕ) (b : o < 256) (n : member r o ≡ false) where
  give_up-met : (l : Level) → met o (give_up (member r) l) ≡ met o l
  unfolding give_up
  give_up-met [] = refl
  give_up-met (s ∷ l) = go (is_approximate (kind s)) refl (give_up-met l)
    where
      go : (t : Bool) → is_approximate (kind s) ≡ t → met o (give_up (member r) l) ≡ met o l → met o (give_up (member r) (s ∷ l)) ≡ met o (s ∷ l)
      go true q ih = rw (q, give_up) (met-keep (member r) o b n s (shrink (member r) s) (shrink-outcome (member r) s) _ _ ih)
      go false q ih = rw (q, give_up) (met_same o s _ _ ih)

  map-give_up-met : (g : Group) → met o (flatten (map (give_up (member r)) g)) ≡ met o (flatten g)
  unfolding flatten
  map-give_up-met [] = refl
  map-give_up-met (l ∷ g) =
      let p : met o (give_up (member r) l) ≡ met o l = give_up-met l in
      let q : met o (flatten (map (give_up (member r)) g)) ≡ met o (flatten g) = map-give_up-met g in
      met_append o (give_up (member r) l) (flatten (map (give_up (member r)) g)) ∙ rw (p, q) (sym (met_append o l (flatten g)))

  give_up_all-met : (g : Group) → met o (listing (give_up_all r g)) ≡ met o (listing g)
  unfolding give_up_all
  give_up_all-met g = go (is_approximate (kind r)) refl
    where
      go : (t : Bool) → is_approximate (kind r) ≡ t → met o (listing (give_up_all r g)) ≡ met o (listing g)
      go true q = rw (q, give_up_all) (map-give_up-met g)
      go false q = rw (q, give_up_all) refl

-- a record that sinks is met before the levels that it sinks to
sink-met : (o : ℕ) (s : Record) (g : Group) → Within s → Chains g → met o (listing (sink s g)) ≡ met o (s ∷ listing g)
unfolding sink flatten
sink-met o s [] w c = refl
sink-met o s (l ∷ g) w c = go (meets_any s l) refl
  where
    beside : meets_any s l ≡ false → (t : Bool) → member s o ≡ t → met o (into s l ++ flatten g) ≡ met o (s ∷ (l ++ flatten g))
    beside e true h =
        met_append o (into s l) (flatten g)
        ∙ ap (λ (x : Option Line). first x (met o (flatten g))) (into-hit o s l w (chain_within 0 l c.0) e h)
        ∙ sym (met-hit o s (l ++ flatten g) h)
    beside e false h =
        met_append o (into s l) (flatten g)
        ∙ ap (λ (x : Option Line). first x (met o (flatten g))) (into-skip o s l h)
        ∙ sym (met_append o l (flatten g))
        ∙ sym (met-skip o s (l ++ flatten g) h)

    go : (t : Bool) → meets_any s l ≡ t → met o (listing (sink s (l ∷ g))) ≡ met o (s ∷ (l ++ flatten g))
    go true e = rw (e, sink) refl
    go false e = rw (e, sink) (beside e (member s o) refl)

-- what stays and what sinks under r, at an offset that r doesn't have
stayers-met : (r : Record) (o : ℕ) → o < 256 → member r o ≡ false → (a : ℕ) (l : Level) (g : Group) → Chain a l → Chains g
    → met o (stayers r l ++ flatten (sink_all (sinkers r l) g)) ≡ met o (l ++ flatten g)
unfolding stayers sinkers sink_all staying sinking
stayers-met r o b n a [] g c k = refl
stayers-met r o b n a (v ∷ l) g c k = go (fate r v) (view r v) (λ g' k'. stayers-met r o b n (suc (end v)) l g' c.2 k')
  where
    sunk : (s : Record) → Shrunk (member r) v s → (t : Bool) → member v o ≡ t → met o (l ++ flatten (sink s g)) ≡ met o (v ∷ (l ++ flatten g))
    sunk s i true h =
        let p : met o l ≡ none = met-apart o v l c.1 (chain_within (suc (end v)) l c.2) (chain_above v (suc (end v)) l (omega arith) c.2) h in
        met_append o l (flatten (sink s g))
        ∙ ap (λ (x : Option Line). first x (met o (flatten (sink s g)))) p
        ∙ sink-met o s g (i.range c.1).2 k
        ∙ met-hit o s (flatten g) (shrunk-member o i b n ∙ h)
        ∙ ap (λ (x : Line). some x) (shrunk-line i)
        ∙ sym (met-hit o v (l ++ flatten g) h)
    sunk s i false h =
        let p : met o (flatten (sink s g)) ≡ met o (flatten g) = sink-met o s g (i.range c.1).2 k ∙ met-skip o s (flatten g) (shrunk-member o i b n ∙ h) in
        met_append o l (flatten (sink s g)) ∙ rw p (sym (met_append o l (flatten g)) ∙ sym (met-skip o v (l ++ flatten g) h))

    go : (f : Fate) → View r v f → ((g' : Group) → Chains g' → met o (stayers r l ++ flatten (sink_all (sinkers r l) g')) ≡ met o (l ++ flatten g'))
        → met o (staying f (stayers r l) ++ flatten (sink_all (sinking f (sinkers r l)) g)) ≡ met o (v ∷ (l ++ flatten g))
    go (stays s) (whole p) ih = met_same o v _ _ (ih g k)
    go (stays s) (part i p) ih = met-shrunk o i b n _ _ (ih g k)
    go (sinks s) (lower i) ih = ih (sink s g) (sink-chains s g (i.range c.1).2 k) ∙ sunk s i (member v o) refl
    go goes (nothing i) ih = ih g k ∙ sym (met-skip o v (l ++ flatten g) (is_false (member v o) (λ h. true≢false (sym (i o b h) ∙ n))))

flatten-filled : (g : Group) → flatten (filled g) ≡ flatten g
unfolding flatten filled
flatten-filled [] = refl
flatten-filled ([] ∷ g) = flatten-filled g
flatten-filled ((r ∷ l) ∷ g) = ap (λ (x : List Record). r ∷ (l ++ x)) (flatten-filled g)

top_other : (r : Record) (o : ℕ) → o < 256 → member r o ≡ false → (g : Group) → Chains g → met o (listing (insert_top r g)) ≡ met o (listing g)
unfolding insert_top flatten
top_other r o b n [] c = met-skip o r [] n
top_other r o b n (l ∷ g) c =
    let m : List Record = flatten (sink_all (sinkers r l) (filled g)) in
    met_append o (into r (stayers r l)) m
    ∙ ap (λ (x : Option Line). first x (met o m)) (into-skip o r (stayers r l) n)
    ∙ sym (met_append o (stayers r l) m)
    ∙ stayers-met r o b n 0 l (filled g) c.0 (filled-chains g c.1)
    ∙ ap (λ (x : List Record). met o (l ++ x)) (flatten-filled g)

top_mine : (r : Record) (o : ℕ) → member r o ≡ true → (g : Group) → Within r → Chains g → met o (listing (insert_top r g)) ≡ some (line_of r)
unfolding insert_top flatten
top_mine r o h [] w c = met-hit o r [] h
top_mine r o h (l ∷ g) w c =
    let s = stayers_chain r 0 l c.0 in
    let m : List Record = flatten (sink_all (sinkers r l) (filled g)) in
    met_append o (into r (stayers r l)) m
    ∙ ap (λ (x : Option Line). first x (met o m)) (into-hit o r (stayers r l) w (chain_within 0 (stayers r l) s.0) s.1 h)

-- Insertion changes what is met first at exactly the record's members.
pub insert-met : (r : Record) (o : ℕ) → o < 256 → (g : Group) → Within r → Chains g → met o (listing (insert r g)) ≡ or_else (member r o) (line_of r) (met o (listing g))
unfolding insert or_else
insert-met r o b g w c = go (member r o) refl
  where
    go : (t : Bool) → member r o ≡ t → met o (listing (insert r g)) ≡ or_else t (line_of r) (met o (listing g))
    go true h = top_mine r o h (give_up_all r g) w (give_up_all-chains r g c)
    go false h = top_other r o b h (give_up_all r g) (give_up_all-chains r g c) ∙ give_up_all-met r o b h g

-- Records inserted one after the other lie over what was met before.
pub insert_all-met : (rs : List Record) (o : ℕ) → o < 256 → (g : Group) → AllWithin rs → Chains g → met o (listing (insert_all rs g)) ≡ overlay o rs (met o (listing g))
unfolding insert_all overlay
insert_all-met [] o b g w c = refl
insert_all-met (r ∷ rs) o b g w c =
    insert_all-met rs o b (insert r g) w.1 (insert-chains r g w.0 c) ∙ ap (overlay o rs) (insert-met r o b g w.0 c)
