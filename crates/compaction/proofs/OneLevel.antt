-- Compaction leaves a group of at most one level, of sound records, as it is: no record loses a member, and each goes back behind the last.
-- Assumes nothing.
use mathlib.Core.Path.{◌≡◌, refl, sym, ◌∙◌, ap}
use mathlib.Core.List.{List, [], ◌∷◌, ◌++◌, flatten, append-nil, append_assoc}
use mathlib.Core.Option.{Option, none, some}
use mathlib.Core.Bool.{true≢false, Bool, true, false, ◌&&◌}
use Prim.Native.Nat.{ℕ, suc, ◌-◌, ◌%◌, ◌≤◌}
use native.Mathlib.Omega.{arith}
use lib.Dec.{ltb, leb, eqb}
use lib.ListN.{length}
use native.Mathlib.Nat.{mod-eq-zero_of_dvd, dvd-zero}
use borrow.Author.Tests.{eqb-true, eq-eqb, le-ltb}
use Rattle.model.specs.Lists.{all}
use Rattle.model.specs.Record.{Record, Kind, single, accurate, approximate, kind, is_approximate, end, member_as, member}
use Rattle.model.specs.Levels.{Level, Group, meets_any, shrink, keep, into, member_of_any, shrink_all, depth_over, depth, put_at, put_back, compact}
use Rattle.model.specs.Sound.{is_filled, sound_as, sound_record}
use Rattle.model.proofs.Bools.{and_l, and_r, is_false, neither, all_head, all_tail}
use Rattle.model.proofs.Shrink.{of_on, member_as_lem, Outcome, gone, left, shrink-outcome}
use Rattle.model.proofs.Ranges.{before-meets, meets-sym, cons_any}
use Rattle.model.proofs.Order.{Chain, Chains, sound-within}
use Rattle.model.proofs.SoundRecord.{record_parts, sound-ascends, sound-owner, owned-member, shrunk-owned, shrunk-sound}
use Rattle.group.proofs.Owned.{asc_same}
use Rattle.insertion.proofs.Losing.{shrink-whole}

-- the first and last offsets of a sound record that isn't approximate are members
exact-ends : (r : Record) (q : Kind) → kind r ≡ q → is_approximate q ≡ false → sound_as q r ≡ true → (member r r.start ≡ true) × (member r (end r) ≡ true)
unfolding sound_as member_as is_approximate
exact-ends r single e x s =
    let none : r.span ≡ 0 = eqb-true _ _ (and_l (eqb r.span 0) _ s) in
    (member_as_lem r single r.start e ∙ eq-eqb r.start r.start refl, member_as_lem r single (end r) e ∙ eq-eqb (end r) r.start (omega arith))
exact-ends r (accurate d) e x s =
    let step : r.span % d ≡ 0 = eqb-true _ _ (and_r (leb d 255) _ (and_l (leb d 255 && eqb (r.span % d) 0) _ s)) in
    let none : r.start - r.start ≡ 0 = omega arith in
    let whole : end r - r.start ≡ r.span = omega arith in (
      member_as_lem r (accurate d) r.start e ∙ of_on d r r.start (record { low = omega arith; high = omega arith; step = rw none (mod-eq-zero_of_dvd d (dvd-zero d)) }),
      member_as_lem r (accurate d) (end r) e ∙ of_on d r (end r) (record { low = omega arith; high = omega arith; step = rw whole step }),
    )
exact-ends r (approximate a) e x s = absurd (true≢false x)

-- a sound record that loses no member stays as it is
module _ (lost : ℕ → Bool) (r : Record) (sound : sound_record 256 0 r ≡ true) (none-lost : (o : ℕ) → member r o ≡ true → lost o ≡ false) where
  shrink-exact : is_approximate (kind r) ≡ false → shrink lost r ≡ some r
  shrink-exact exact = go ends.0 ends.1 (shrink lost r) refl (shrink-outcome lost r)
    where
      ends : (member r r.start ≡ true) × (member r (end r) ≡ true)
      ends = exact-ends r (kind r) refl exact (record_parts 256 0 r sound).shape

      go : member r r.start ≡ true → member r (end r) ≡ true → (x : Option Record) → shrink lost r ≡ x → Outcome lost r x → x ≡ some r
      go first last none e (gone f) = absurd (true≢false (sym (f r.start (omega (arith, (record_parts 256 0 r sound).byte)) first) ∙ none-lost r.start first))
      go first last (some s) e (left i) =
          let byte = (record_parts 256 0 r sound).byte in
          let range = i.range (sound-within 256 0 r sound) in
          let from = range.2 r.start (i.rest r.start (omega arith) first (none-lost r.start first)) in
          let to = range.2 (end r) (i.rest (end r) (omega arith) last (none-lost (end r) last)) in
          let start : s.start ≡ r.start = omega (arith, from.0, range.0) in
          let span : s.span ≡ r.span = omega (arith, to.1, range.1) in
          let owned : s.owned ≡ r.owned =
          asc_same s.owned r.owned (sound-ascends 256 0 s (shrunk-sound 256 0 lost r s sound e)) (sound-ascends 256 0 r sound)
          (λ o h. (shrunk-owned lost r s e o h).0) (λ o h. absurd (true≢false (sym (sound-owner 256 0 r o sound h) ∙ exact))) in
          let same : ◌≡◌ {A = Record} (record { start = s.start; span = s.span; word = s.word; intercept = s.intercept; owned = s.owned }) (record { start = r.start; span = r.span; word = r.word; intercept = r.intercept; owned = r.owned }) = cc in
          ap some same

  shrink_none : shrink lost r ≡ some r
  shrink_none = go (is_approximate (kind r)) refl
    where
      go : (t : Bool) → is_approximate (kind r) ≡ t → shrink lost r ≡ some r
      go true slope = shrink-whole lost r sound slope (λ o e. none-lost o (owned-member r o slope ∙ e))
      go false exact = shrink-exact exact

-- no record of a level loses a member to those before it
level_shrinks : (b : ℕ) (above : List Record) (l : Level) → ((o : ℕ) → b ≤ o → member_of_any above o ≡ false) → Chain b l → all (sound_record 256 0) l ≡ true → shrink_all above l ≡ l
unfolding shrink_all member_of_any keep
level_shrinks b above [] f c s = refl
level_shrinks b above (r ∷ l) f c s =
    ap (λ (x : Option Record). keep x (shrink_all (r ∷ above) l)) (shrink_none (member_of_any above) r (all_head (sound_record 256 0) r l s) (λ o m. f o (omega (arith, c.0, (c.1 o m).0))))
    ∙ ap (λ (x : List Record). r ∷ x)
    (level_shrinks (suc (end r)) (r ∷ above) l (λ o h. neither _ _ (is_false (member r o) (λ m. let q = (c.1 o m).1 in omega arith)) (f o (omega (arith, c.0)))) c.2 (all_tail (sound_record 256 0) r l s))

-- a record of a level in order goes behind those before it, and meets none of them
chain_start : (b : ℕ) (m : Level) (r : Record) (l : Level) → Chain b (m ++ (r ∷ l)) → b ≤ r.start
chain_start b [] r l c = c.0
chain_start b (s ∷ m) r l c = omega (arith, c.0, chain_start (suc (end s)) m r l c.2)

goes_last : (b : ℕ) (m : Level) (r : Record) (l : Level) → Chain b (m ++ (r ∷ l)) → (into r m ≡ m ++ (r ∷ [])) × (meets_any r m ≡ false)
unfolding into meets_any
goes_last b [] r l c = (refl, refl)
goes_last b (s ∷ m) r l c =
    let before = chain_start (suc (end s)) m r l c.2 in
    let others = goes_last (suc (end s)) m r l c.2 in
    let behind : ltb r.start s.start ≡ false = le-ltb r.start s.start (omega arith) in
    (rw (behind, into) (ap (λ (k : Level). s ∷ k) others.0), cons_any r s m (meets-sym s r (before-meets s r before)) others.1)

level-back : (m l : Level) → Chain 0 (m ++ l) → put_back l (m ∷ []) ≡ (m ++ l) ∷ []
unfolding put_back depth depth_over put_at
level-back m [] c = ap (λ (x : Level). x ∷ []) (sym (append-nil m))
level-back m (r ∷ l) c =
    let last = goes_last 0 m r l c in
    let same : (m ++ (r ∷ [])) ++ l ≡ m ++ (r ∷ l) = append_assoc m (r ∷ []) l in
    rw (last.1, last.0) (level-back (m ++ (r ∷ [])) l (rw same c) ∙ ap (λ (x : Level). x ∷ []) same)

-- A group of at most one level is compact.
pub compact-level : (g : Group) → length g ≤ 1 → Chains g → all is_filled g ≡ true → all (sound_record 256 0) (flatten g) ≡ true → compact g ≡ g
unfolding compact flatten shrink_all depth put_at put_back all is_filled member_of_any
compact-level [] h c f s = refl
compact-level ([] ∷ []) h c f s = absurd (true≢false (sym f))
compact-level ((r ∷ l) ∷ []) h c f s =
    let sound : all (sound_record 256 0) (r ∷ l) ≡ true = rw (append-nil l) at s in
    rw (append-nil l, level_shrinks 0 [] (r ∷ l) (λ o h. refl) c.0 sound) (level-back (r ∷ []) l c.0)
compact-level (l ∷ m ∷ g) h c f s = absurd (omega arith)
