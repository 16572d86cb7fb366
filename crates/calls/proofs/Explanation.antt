-- What an accepted telling of why comes to: each reason holds, and a lookup looks at as many levels and misses exactly where the last
-- isn't a member. Assumes nothing.
use mathlib.Core.Path.{◌≡◌, refl, sym, ◌∙◌, ap, subst}
use mathlib.Core.List.{List, []}
use mathlib.Core.Option.{Option, none, some}
use mathlib.Core.Bool.{true≢false, Bool, true, false}
use Prim.Native.Nat.{ℕ, ◌≤◌}
use native.Mathlib.Omega.{arith}
use lib.Dec.{ltb}
use lib.IntN.{ℤ, pos, negsuc}
use lib.ListN.{length}
use borrow.Author.Tests.{not-false}
use Rattle.model.specs.Device.{pages, group_of, offset_of, spare_length}
use Rattle.model.specs.Record.{Record, predict}
use Rattle.model.specs.Spare.{page_named}
use Rattle.model.specs.Levels.{Group, listing, holder, levels_to}
use Rattle.model.specs.Marks.{is_marked}
use Rattle.model.specs.State.{State, group_at}
use Rattle.model.specs.Sound.{sound_group}
use Rattle.model.proofs.Order.{Chains}
use Rattle.model.proofs.LevelsTo.{levels_to_most}
use Rattle.model.proofs.SoundGroup.{SoundGroup, group-parts, sound-levels}
use Rattle.calls.specs.Refusals.{wrong_spare}
use Rattle.calls.specs.Outcome.{Lent, with_out, Answer, accepted, Outcome}
use Rattle.calls.specs.Lookup.{looked_named, looked_at, looked_by, descend, seek, answer_of, lookup_checks, lookup_done}
use Rattle.calls.specs.Why.{Reason, owner_start, reasons_in, reasons, why_checks, why_done}
use Rattle.calls.specs.History.{lend, lent_to, checks_of, effect, run}
use Rattle.calls.specs.Explanation.{Owner, EachHolds, last_member, levels_looked, Beside, a_found, a_miss, an_unnamed, Explanation, WhyExplains}
use Rattle.calls.proofs.Refusing.{clears, is_clear, right-length, refused_not_accepted}
use Rattle.calls.proofs.Decided.{Decided, refuses, accepts, decided, unless-accepts}
use Rattle.calls.proofs.Marked.{seek-marked, seek_unmarked}
use Rattle.calls.proofs.Reasons.{owner-told, each_holds, reasons-length, last_met}

module _ (s : State) (x : ℕ) (sound : sound_group s.device.N (group_of x) (group_at s (group_of x)) ≡ true) where
  abbrev o : ℕ
  o = offset_of x

  abbrev g : Group
  g = group_at s (group_of x)

  abbrev parts : SoundGroup s.device.N (group_of x) g
  parts = group-parts s.device.N (group_of x) g sound

  abbrev owned : Owner o (listing g) (owner_start o (listing g))
  owned = owner-told s.device.N (group_of x) o (listing g) parts.records parts.owners

  abbrev chains : Chains g
  chains = sound-levels s.device.N (group_of x) g sound

  -- The entries of a page that isn't discarded, and of one that is.
  reasons_unmarked : is_marked s.marks x ≡ false → reasons s x ≡ reasons_in o g
  unfolding reasons
  reasons_unmarked e = rw (e, reasons) refl

  reasons-marked : is_marked s.marks x ≡ true → reasons s x ≡ []
  unfolding reasons
  reasons-marked e = rw (e, reasons) refl

  hold : EachHolds o (listing g) g (reasons s x)
  hold = go (is_marked s.marks x) refl
    where
      go : (t : Bool) → is_marked s.marks x ≡ t → EachHolds o (listing g) g (reasons s x)
      go true e = rw (reasons-marked e) tt
      go false e = rw (reasons_unmarked e) (each_holds s.device.N (group_of x) o (listing g) _ owned g chains parts.records)

  unmarked_length : length (reasons_in o g) ≡ levels_to o g
  unmarked_length = reasons-length s.device.N (group_of x) o (listing g) _ owned g chains parts.records

  -- As many as a lookup looks at levels.
  pub reasons-levels : length (reasons s x) ≡ levels_looked s x
  unfolding levels_looked
  reasons-levels = go (is_marked s.marks x) refl
    where
      go : (t : Bool) → is_marked s.marks x ≡ t → length (reasons s x) ≡ levels_looked s x
      go true e = ap length (reasons-marked e) ∙ sym (rw (e, levels_looked) refl)
      go false e = ap length (reasons_unmarked e) ∙ unmarked_length ∙ sym (rw (e, levels_looked) refl)

  -- There are no more than levels.
  pub reasons_most : length (reasons s x) ≤ length g
  reasons_most = go (is_marked s.marks x) refl
    where
      go : (t : Bool) → is_marked s.marks x ≡ t → length (reasons s x) ≤ length g
      go true e = rw (reasons-marked e) (omega arith)
      go false e = rw (reasons_unmarked e) (omega (arith, unmarked_length, levels_to_most o g))

  -- What a lookup comes to beside them.
  beside : (spare : List ℕ) → Beside o (reasons s x) (answer_of (seek s spare x))
  unfolding descend looked_by looked_at looked_named answer_of last_member
  beside spare = go (is_marked s.marks x) refl
    where
      l : List Reason
      l = reasons_in o g

      named : (r : Record) → last_member l ≡ some r → (p : ℕ) → predict r o ≡ pos p → (q : Option ℕ) → Beside o l (answer_of (looked_named (length l) p q))
      named r h p e none = an_unnamed r h
      named r h p e (some q) = a_found r q p h e

      there : (r : Record) → last_member l ≡ some r → (z : ℤ) → predict r o ≡ z → Beside o l (answer_of (looked_at s.device spare x (length l) z))
      there r h (pos p) e = inside (ltb p (pages s.device)) refl
        where
          inside : (t : Bool) → ltb p (pages s.device) ≡ t → Beside o l (answer_of (looked_at s.device spare x (length l) (pos p)))
          inside true i = rw (i, looked_at) (named r h p e (page_named s.device spare p x))
          inside false i = rw (i, looked_at) (an_unnamed r h)
      there r h (negsuc m) e = an_unnamed r h

      by : (m : Option Record) → last_member l ≡ m → Beside o l (answer_of (looked_by s.device spare x (length l) m))
      by none h = a_miss h
      by (some r) h = there r h (predict r o) refl

      go : (t : Bool) → is_marked s.marks x ≡ t → Beside o (reasons s x) (answer_of (seek s spare x))
      go true e = rw (reasons-marked e, seek-marked s spare x e) (a_miss refl)
      go false e =
          rw (reasons_unmarked e, seek_unmarked s spare x e)
          (subst (λ (n : ℕ). Beside o l (answer_of (looked_by s.device spare x n (holder o (listing g))))) unmarked_length
          (by (holder o (listing g)) (last_met s.device.N (group_of x) o (listing g) _ owned g chains parts.records)))

-- Telling why explains a lookup.
pub why-explains : WhyExplains
unfolding run lent_to checks_of effect lend why_checks why_done lookup_checks lookup_done wrong_spare
why-explains s spare x out = go _ (decided (why_checks x lent) lent (why_done x lent))
  where
    lent : Lent
    lent = with_out out (lend s spare [] [])

    go : (o : Outcome) → Decided (why_checks x lent) lent (why_done x lent) o → accepted o.answer ≡ true → Explanation s x out o
    go o (refuses r e) t = absurd (true≢false (sym t ∙ refused_not_accepted r))
    go o (accepts e) t =
        let c = clears _ e in
        let sound = not-false _ c.1.1.1.1.0 in
        record {
          entries = reasons s x;
          answered = refl;
          written = refl;
          hold = hold s x sound;
          levels = reasons-levels s x sound;
          looked = λ area fits.
              subst (λ (a : Answer). Beside (offset_of x) (reasons s x) a)
              (sym (ap (λ (o : Outcome). o.answer) (unless-accepts (lookup_checks x (lend s area [] [])) _ _
              (is_clear _ (c.0, (c.1.0, (right-length area (spare_length s.device) fits, (c.1.1.1.0, (c.1.1.1.1.0, tt)))))))))
              (beside s x sound area);
        }
