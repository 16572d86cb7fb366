-- Level 0's records meet their fates one after the other: what the bytes hold in between, and that those before and behind the
-- ones that r meets stay as they are. Assumes nothing.
use mathlib.Core.Path.{◌≡◌, refl, sym, ◌∙◌, ap, subst}
use mathlib.Core.List.{List, [], ◌∷◌, ◌++◌, append-nil, append_assoc}
use mathlib.Core.Bool.{Bool, true, false, not}
use Prim.Native.Nat.{ℕ, zero, suc, ◌+◌, ◌-◌, ◌≤◌, ◌<◌}
use native.Mathlib.Omega.{arith}
use lib.Dec.{ltb}
use lib.ListN.{length, take, drop, length-append, length-drop, take-append-drop}
use lib.Seq.{length-take-le}
use borrow.Author.Tests.{ltb-true, le-ltb, not-true}
use Rattle.model.specs.Lists.{all}
use Rattle.model.specs.Record as model
use Rattle.model.specs.Record.{end}
use Rattle.model.specs.Levels.{Level, Group, meets, into, Fate, stays, sinks, goes, fate, staying, sinking, stayers, sinkers, sink_all}
use Rattle.model.specs.Sound.{is_filled, sound_record, ordered}
use Rattle.model.proofs.Bools.{all_head, all_tail, all_cons}
use Rattle.model.proofs.Order.{Chain, Chains, sound-chains, chains-ordered, chain_lower, sink-chains}
use Rattle.model.proofs.Fates.{View, view, whole, part, lower, nothing}
use Rattle.model.proofs.Ranges.{before-meets, meets-sym}
use Rattle.model.proofs.SoundGroup.{sink_all-filled}
use Rattle.octets.specs.Slots.{insert_at}
use Rattle.group.specs.Cutting.{flat}
use Rattle.insertion.specs.declared.Outcome.{Outcome}
use Rattle.insertion.specs.declared.Outcome.TheVariants.{Passed, Taken, Behind}
use Rattle.insertion.specs.Shown.{Shown}
use Rattle.insertion.specs.Turns.{Facing, MadeWay, side, outcome, ends_before}
use Rattle.insertion.proofs.ListWrites.{all_join}
use Rattle.insertion.proofs.Count.{records-flat}
use Rattle.insertion.proofs.Joining.{starts-behind}
use Rattle.insertion.proofs.Turning.{fate-beside}

chain_drop : (n b : ℕ) (l : Level) → Chain b l → Chain b (drop n l)
chain_drop zero b l c = c
chain_drop (suc n) b [] c = tt
chain_drop (suc n) b (s ∷ l) c = chain_lower b (suc (end s)) (drop n l) (omega (arith, c.0)) (chain_drop n (suc (end s)) l c.2)

module _ (r : model.Record) where
  -- the record starts no later than r
  abbrev starts_by : model.Record → Bool
  starts_by s = not (ltb r.start s.start)

  -- one beside r stays as it is
  beside : (s : model.Record) (l : Level) → meets s r ≡ false → (stayers r (s ∷ l) ≡ s ∷ stayers r l) × (sinkers r (s ∷ l) ≡ sinkers r l)
  unfolding stayers sinkers staying sinking
  beside s l n = let f = fate-beside r s n in (rw f, rw f)

  -- the first n end before r
  skipped : (n : ℕ) (l : Level) → all (ends_before r.start) (take n l) ≡ true
      → (stayers r l ≡ take n l ++ stayers r (drop n l)) × (sinkers r l ≡ sinkers r (drop n l)) × (all starts_by (take n l) ≡ true)
  unfolding ends_before all stayers
  skipped zero l a = (refl, refl, refl)
  skipped (suc n) [] a = (refl, refl, refl)
  skipped (suc n) (s ∷ l) a =
      let e : end s < r.start = ltb-true _ _ (all_head (ends_before r.start) s (take n l) a) in
      let here = beside s l (before-meets s r e) in
      let rest = skipped n l (all_tail (ends_before r.start) s (take n l) a) in (
        here.0 ∙ ap (λ (m : Level). s ∷ m) rest.0,
        here.1 ∙ rest.1,
        all_cons starts_by s (take n l) (ap not (le-ltb r.start s.start (omega arith))) rest.2,
      )

  -- all of them start behind r
  behind-apart : (b : ℕ) (l : Level) → end r < b → Chain b l → (stayers r l ≡ l) × (sinkers r l ≡ [])
  unfolding stayers sinkers
  behind-apart b [] h c = (refl, refl)
  behind-apart b (s ∷ l) h c =
      let here = beside s l (meets-sym r s (before-meets r s (omega (arith, c.0)))) in
      let rest = behind-apart (suc (end s)) l (omega (arith, c.0)) c.2 in
      (here.0 ∙ ap (λ (m : Level). s ∷ m) rest.0, here.1 ∙ rest.1)

  -- the place of r behind records that start no later, and before one that starts behind it
  into_at : (p q : Level) → all starts_by p ≡ true → insert_at 0 r q ≡ into r q → insert_at (length p) r (p ++ q) ≡ into r (p ++ q)
  unfolding into insert_at
  into_at [] q a e = e
  into_at (s ∷ p) q a e =
      let late : ltb r.start s.start ≡ false = not-true _ (all_head starts_by s p a) in
      rw (late, into) (ap (λ (m : Level). s ∷ m) (into_at p q (all_tail starts_by s p a) e))

  module _ (top : Level) (rest : Group) where
    -- the records that are left wait for their turn, the first of them in slot i
    pub record Waiting (t : List ℕ) (i : ℕ) (left : Level) : Type 0 where
      pub before : Level
      pub below : Group
      pub shown : Shown t (flat ((before ++ left) ∷ below))
      pub stay : stayers r top ≡ before ++ stayers r left
      pub sunk : sink_all (sinkers r top) rest ≡ sink_all (sinkers r left) below
      pub index : i ≡ length before
      pub early : all starts_by before ≡ true
      pub chain : Chain 0 left
      pub chains : Chains below
      pub filled : all is_filled below ≡ true

    -- k of them
    pub record Making (t : List ℕ) (k i : ℕ) : Type 0 where
      pub left : Level
      pub waiting : Waiting t i left
      pub count : k ≡ length left

    pub making_start : (t : List ℕ) (from z : ℕ) → Shown t (flat (top ∷ rest)) → all (ordered 0) (top ∷ rest) ≡ true → all is_filled rest ≡ true → from ≤ z → z ≡ length top
        → all (ends_before r.start) (take from top) ≡ true → Making t (z - from) from
    making_start t from z shown order filled h n ends =
        let skip = skipped from top ends in
        let c : Chains (top ∷ rest) = sound-chains 256 0 (top ∷ rest) order (ap (all (sound_record 256 0)) (sym (records-flat (top ∷ rest))) ∙ shown.sound) in
        record {
          left = drop from top;
          waiting = record {
            before = take from top;
            below = rest;
            shown = subst (λ (l : Level). Shown t (flat (l ∷ rest))) (sym (take-append-drop from top)) shown;
            stay = skip.0;
            sunk = ap (λ (l : Level). sink_all l rest) skip.1;
            index = sym (length-take-le from top (omega arith));
            early = skip.2;
            chain = chain_drop from 0 top c.0;
            chains = c.1;
            filled = filled;
          };
          count = omega (arith, length-drop from top);
        }

    -- what comes of a turn
    abbrev pub After : List ℕ → ℕ → ℕ → Outcome → Type 0
    After u k i Passed = Making u (k - 1) (i + 1)
    After u k i Taken = Making u (k - 1) i
    After u k i Behind = MadeWay r top rest u i

    module _ (t : List ℕ) (k i : ℕ) (v : model.Record) (b : Level) (so : Waiting t i (v ∷ b)) (count : k ≡ suc (length b)) where
      facing : Facing t i (i + k)
      facing = record {
        at = record {
          before = so.before;
          item = v;
          behind = b;
          below = so.below;
          index = so.index;
          count = omega (arith, so.index, length-append so.before (v ∷ b));
          filled = so.filled;
          in_order = chains-ordered so.below so.chains;
        };
        shown = so.shown;
      }

      turned : (u : List ℕ) → Shown u (flat ((so.before ++ staying (fate r v) b) ∷ sink_all (sinking (fate r v) []) so.below)) → After u k i (outcome r (fate r v))
      unfolding stayers sinkers sink_all staying sinking outcome side into insert_at all
      turned u after = go (fate r v) (view r v) after so.stay so.sunk
        where
          -- one more record had its turn
          next : (p : Level) (g : Group) (j : ℕ) → Shown u (flat ((p ++ b) ∷ g)) → stayers r top ≡ p ++ stayers r b → sink_all (sinkers r top) rest ≡ sink_all (sinkers r b) g
              → j ≡ length p → all starts_by p ≡ true → Chains g → all is_filled g ≡ true → Making u (k - 1) j
          next p g j shown stay sunk index early chains filled = record {
            left = b;
            waiting = record {
              before = p;
              below = g;
              shown = shown;
              stay = stay;
              sunk = sunk;
              index = index;
              early = early;
              chain = chain_lower 0 (suc (end v)) b (omega arith) so.chain.2;
              chains = chains;
              filled = filled;
            };
            count = omega arith;
          }

          -- one that stays lies before r's place, or behind it, as do all others then
          stayed : (s : model.Record) → meets s r ≡ false → end s ≤ end v → Shown u (flat ((so.before ++ (s ∷ b)) ∷ so.below))
              → stayers r top ≡ so.before ++ (s ∷ stayers r b) → sink_all (sinkers r top) rest ≡ sink_all (sinkers r b) so.below → After u k i (side r s)
          stayed s n short shown stay sunk = by (ltb r.start s.start) refl
            where
              by : (late : Bool) → ltb r.start s.start ≡ late → After u k i (side r s)
              by false e = rw (e, side) (next (so.before ++ (s ∷ [])) so.below (i + 1)
                  (subst (λ (l : Level). Shown u (flat (l ∷ so.below))) (sym (append_assoc so.before (s ∷ []) b)) shown)
                  (stay ∙ sym (append_assoc so.before (s ∷ []) (stayers r b))) sunk (omega (arith, so.index, length-append so.before (s ∷ [])))
                  (all_join starts_by so.before (s ∷ []) so.early (all_cons starts_by s [] (ap not e) refl)) so.chains so.filled)
              by true e =
                  let late : r.start < s.start = ltb-true r.start s.start e in
                  let others = behind-apart (suc (end v)) b (omega (arith, starts-behind r s (meets-sym s r n) (omega arith))) so.chain.2 in
                  let stay_all : stayers r top ≡ so.before ++ (s ∷ b) = stay ∙ ap (λ (l : Level). so.before ++ (s ∷ l)) others.0 in
                  let sunk_all : sink_all (sinkers r top) rest ≡ so.below = sunk ∙ ap (λ (l : Level). sink_all l so.below) others.1 in
                  rw (e, side) (record {
                    shown = rw (stay_all, sunk_all) shown;
                    inside = rw stay_all (omega (arith, so.index, length-append so.before (s ∷ b)));
                    place = rw (stay_all, so.index) (into_at so.before (s ∷ b) so.early (rw (e, into)));
                  })

          go : (f : Fate) → View r v f → Shown u (flat ((so.before ++ staying f b) ∷ sink_all (sinking f []) so.below))
              → stayers r top ≡ so.before ++ staying f (stayers r b) → sink_all (sinkers r top) rest ≡ sink_all (sinking f (sinkers r b)) so.below → After u k i (outcome r f)
          go (stays s) (whole n) shown stay sunk = stayed s n (omega arith) shown stay sunk
          go (stays s) (part p n) shown stay sunk = stayed s n (omega (arith, (p.range so.chain.1).1)) shown stay sunk
          go (sinks s) (lower p) shown stay sunk =
              next so.before _ i shown stay sunk so.index so.early (sink-chains s so.below (p.range so.chain.1).2 so.chains) (sink_all-filled (s ∷ []) so.below so.filled)
          go goes (nothing n) shown stay sunk = next so.before so.below i shown stay sunk so.index so.early so.chains so.filled

    module _ (t : List ℕ) (k i : ℕ) (so : Making t k i) where
      -- what a turn asks,
      pub making_facing : 0 < k → Facing t i (i + k)
      making_facing h = go so.left so.waiting so.count
        where
          go : (l : Level) → Waiting t i l → k ≡ length l → Facing t i (i + k)
          go [] waiting n = absurd (omega arith)
          go (v ∷ b) waiting n = facing t k i v b waiting n

      -- what it gives,
      pub making_turn : 0 < k → (u : List ℕ) (x y : Outcome)
          → ((q : Facing t i (i + k)) → Shown u (flat ((q.at.before ++ staying (fate r q.at.item) q.at.behind) ∷ sink_all (sinking (fate r q.at.item) []) q.at.below)) × (x ≡ outcome r (fate r q.at.item)))
          → x ≡ y → After u k i y
      unfolding facing
      making_turn h u x y turn e = go so.left so.waiting so.count
        where
          go : (l : Level) → Waiting t i l → k ≡ length l → After u k i y
          go [] waiting n = absurd (omega arith)
          go (v ∷ b) waiting n = let a = turn (facing t k i v b waiting n) in subst (After u k i) (sym a.1 ∙ e) (turned t k i v b waiting n u a.0)

      -- and what is there when all had theirs.
      pub making_end : k ≤ 0 → MadeWay r top rest t i
      unfolding stayers sinkers sink_all into insert_at
      making_end h = go so.left so.waiting so.count
        where
          go : (l : Level) → Waiting t i l → k ≡ length l → MadeWay r top rest t i
          go (v ∷ b) waiting n = absurd (omega arith)
          go [] waiting n = record {
            shown = rw (waiting.stay, waiting.sunk) waiting.shown;
            inside = rw (waiting.stay, append-nil waiting.before) (omega (arith, waiting.index));
            place = rw (waiting.stay, waiting.index) (into_at waiting.before [] waiting.early refl);
          }
