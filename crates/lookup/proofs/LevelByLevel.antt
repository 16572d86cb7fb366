-- Telling why, level by level: a pass along a group's records tells the reasons of its levels. By induction on the levels, whose first record
-- that covers the offset is met and whose others are passed over. Assumes nothing.
use mathlib.Core.Path.{◌≡◌, refl, sym, ap, ◌∙◌}
use mathlib.Core.List.{List, [], ◌∷◌, ◌++◌, map}
use mathlib.Core.Option.{Option, none, some}
use mathlib.Core.Bool.{true≢false, Bool, true, false, ◌&&◌}
use Prim.Native.Nat.{ℕ, suc, ◌-◌, ◌≤◌, ◌<◌}
use native.Mathlib.Omega.{arith}
use lib.Dec.{leb}
use borrow.Author.Tests.{le-leb, lt-leb}
use Rattle.model.specs.Lists.{all, or_else}
use Rattle.model.specs.Record.{Record, covers}
use Rattle.model.specs.Levels.{Level, Group}
use Rattle.model.specs.Sound.{is_filled}
use Rattle.model.proofs.Bools.{all_head, all_tail, and_r, and_i, is_false}
use Rattle.group.specs.Cutting.{Placed, in_level, flat_from}
use Rattle.calls.specs.Why.{Reason, uncovered, covering_in, reason_of, reason_by, says_member, up_to, reasons_from}
use Rattle.lookup.specs.WhyEntries.{gap, met_at, pass_from}

-- one level more is passed over
pub gap_more : (k v : ℕ) → k < v → gap k v ≡ uncovered ∷ gap (suc k) v
gap_more k v h = let e : v - k ≡ suc (v - suc k) = omega arith in rw e refl

-- none is
pub gap_none : (k v : ℕ) → v ≤ k → gap k v ≡ []
gap_none k v h = let e : v - k ≡ 0 = omega arith in rw e refl

-- a record of a level above k isn't met, one that doesn't cover the offset neither
pub met-above : (o k : ℕ) (p : Placed) → p.level < k → met_at o k p ≡ false
unfolding met_at
met-above o k p h = is_false (met_at o k p) (λ t. true≢false (sym (and_r (covers p.item o) (leb k p.level) t) ∙ lt-leb k p.level h))

pub met-bare : (o k : ℕ) (p : Placed) → covers p.item o ≡ false → met_at o k p ≡ false
unfolding met_at
met-bare o k p h = ap (λ (t : Bool). t && leb k p.level) h

-- one that covers it and lies in level k or below is
pub met_here : (o k : ℕ) (p : Placed) → covers p.item o ≡ true → k ≤ p.level → met_at o k p ≡ true
unfolding met_at
met_here o k p h l = and_i _ _ h (le-leb k p.level l)

module _ (o : ℕ) (w : Option ℕ) where
  -- the pass at a record that is met, and at one that isn't
  pub pass_met : (n k : ℕ) (p : Placed) (l : List Placed) → met_at o k p ≡ true
      → pass_from o w n k (p ∷ l) ≡ gap k p.level ++ up_to (reason_of o w p.item) (pass_from o w (suc p.level) (suc p.level) l)
  unfolding pass_from
  pass_met n k p l e = rw (e, pass_from) refl

  pub pass_over : (n k : ℕ) (p : Placed) (l : List Placed) → met_at o k p ≡ false → pass_from o w n k (p ∷ l) ≡ pass_from o w (suc p.level) k l
  unfolding pass_from
  pass_over n k p l e = rw (e, pass_from) refl

  -- the records of a level that is told already are passed over
  told : (k : ℕ) (l : Level) (m : List Placed) → pass_from o w (suc k) (suc k) (map (in_level k) l ++ m) ≡ pass_from o w (suc k) (suc k) m
  told k [] m = refl
  told k (r ∷ l) m = pass_over (suc k) (suc k) (in_level k r) (map (in_level k) l ++ m) (met-above o (suc k) (in_level k r) (omega arith)) ∙ told k l m

  -- of a level that isn't, those up to the first that covers the offset; and all, where none does
  data Met (k : ℕ) (l : Level) (m : List Placed) : Option Record → Type 0 where
    nobody : pass_from o w (suc k) k (map (in_level k) l ++ m) ≡ pass_from o w (suc k) k m → Met k l m none
    somebody : (r : Record) → pass_from o w (suc k) k (map (in_level k) l ++ m) ≡ up_to (reason_of o w r) (pass_from o w (suc k) (suc k) m) → Met k l m (some r)

  meets : (k : ℕ) (l : Level) (m : List Placed) → Met k l m (covering_in o l)
  unfolding covering_in or_else
  meets k [] m = nobody refl
  meets k (r ∷ l) m = go (covers r o) refl (covering_in o l) (meets k l m)
    where
      go : (t : Bool) → covers r o ≡ t → (x : Option Record) → Met k l m x → Met k (r ∷ l) m (or_else t r x)
      go true e x ih =
          somebody r
          (pass_met (suc k) k (in_level k r) (map (in_level k) l ++ m) (met_here o k (in_level k r) e (omega arith))
          ∙ ap (λ (d : List Reason). d ++ up_to (reason_of o w r) (pass_from o w (suc k) (suc k) (map (in_level k) l ++ m))) (gap_none k k (omega arith))
          ∙ ap (up_to (reason_of o w r)) (told k l m))
      go false e _ (nobody q) = nobody (pass_over (suc k) k (in_level k r) (map (in_level k) l ++ m) (met-bare o k (in_level k r) e) ∙ q)
      go false e _ (somebody s q) = somebody s (pass_over (suc k) k (in_level k r) (map (in_level k) l ++ m) (met-bare o k (in_level k r) e) ∙ q)

  -- how many levels lie behind doesn't matter where a record follows
  behind_any : (n n' k : ℕ) (p : Placed) (l : List Placed) → pass_from o w n k (p ∷ l) ≡ pass_from o w n' k (p ∷ l)
  unfolding pass_from
  behind_any n n' k p l = refl

  -- A level that isn't told yet, above all that follows, is the first to be passed over.
  abbrev Passes : ℕ → List Placed → Type 0
  Passes k m = (n : ℕ) → k < n → pass_from o w n k m ≡ uncovered ∷ pass_from o w n (suc k) m

  passes-level : (k v : ℕ) → k < v → (l : Level) (m : List Placed) → Passes k m → Passes k (map (in_level v) l ++ m)
  passes-level k v h [] m later n b = later n b
  passes-level k v h (r ∷ l) m later n b = go (covers r o) refl (passes-level k v h l m later (suc v) (omega arith))
    where
      p : Placed
      p = in_level v r

      rest : List Placed
      rest = map (in_level v) l ++ m

      go : (t : Bool) → covers r o ≡ t → pass_from o w (suc v) k rest ≡ uncovered ∷ pass_from o w (suc v) (suc k) rest
          → pass_from o w n k (p ∷ rest) ≡ uncovered ∷ pass_from o w n (suc k) (p ∷ rest)
      go true e ih =
          pass_met n k p rest (met_here o k p e (omega arith))
          ∙ ap (λ (d : List Reason). d ++ up_to (reason_of o w r) (pass_from o w (suc v) (suc v) rest)) (gap_more k v h)
          ∙ ap (λ (d : List Reason). uncovered ∷ d) (sym (pass_met n (suc k) p rest (met_here o (suc k) p e (omega arith))))
      go false e ih =
          pass_over n k p rest (met-bare o k p e)
          ∙ ih
          ∙ ap (λ (d : List Reason). uncovered ∷ d) (sym (pass_over n (suc k) p rest (met-bare o (suc k) p e)))

  passes : (k v : ℕ) → k < v → (g : Group) → Passes k (flat_from v g)
  unfolding flat_from pass_from
  passes k v h [] n b = gap_more k n b
  passes k v h (l ∷ g) n b = passes-level k v h l (flat_from (suc v) g) (λ n b. passes k (suc v) (omega arith) g n b) n b

  -- The pass along a group's records tells the reasons of its levels.
  pub pass_is : (k : ℕ) (g : Group) → all is_filled g ≡ true → pass_from o w k k (flat_from k g) ≡ reasons_from o w g
  unfolding pass_from flat_from reasons_from is_filled reason_by up_to says_member
  pass_is k [] f = gap_none k k (omega arith)
  pass_is k ([] ∷ g) f = absurd (true≢false (sym (all_head is_filled [] g f)))
  pass_is k ((r ∷ l) ∷ g) f = behind_any k (suc k) k (in_level k r) (map (in_level k) l ++ below) ∙ go (covering_in o (r ∷ l)) (meets k (r ∷ l) below) (pass_is (suc k) g (all_tail is_filled (r ∷ l) g f))
    where
      below : List Placed
      below = flat_from (suc k) g

      go : (x : Option Record) → Met k (r ∷ l) below x → pass_from o w (suc k) (suc k) below ≡ reasons_from o w g
          → pass_from o w (suc k) k (map (in_level k) (r ∷ l) ++ below) ≡ up_to (reason_by o w x) (reasons_from o w g)
      go _ (nobody q) later = q ∙ passes k (suc k) (omega arith) g (suc k) (omega arith) ∙ ap (λ (d : List Reason). uncovered ∷ d) later
      go _ (somebody s q) later = q ∙ ap (up_to (reason_of o w s)) later
