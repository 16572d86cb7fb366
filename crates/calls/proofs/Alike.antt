-- An agreement that is not refused says yes exactly of two states that are alike: where none of its checks applies, each state is opened
-- and sound, so every lookup's answer is that of its search, and the test of two searches is that of the answers. Assumes nothing.
use mathlib.Core.Path.{◌≡◌, refl, sym, ap, ◌∙◌}
use mathlib.Core.List.{List, []}
use mathlib.Core.Bool.{Bool, true, false, not, ◌&&◌, false≢true}
use Prim.Native.Nat.{ℕ, zero, suc, ◌<◌}
use native.Mathlib.Omega.{arith}
use lib.Dec.{eqb}
use borrow.Author.Tests.{eq-eqb, eqb-true, eqb-false, lt-leb, not-false}
use Rattle.model.specs.Device.{group_of}
use Rattle.model.specs.State.{State, group_at}
use Rattle.model.specs.Sound.{sound_state}
use Rattle.model.proofs.Bools.{and_l, and_r, and_i}
use Rattle.model.proofs.SoundGroups.{group_sound}
use Rattle.calls.specs.Outcome.{not_written, agreed, accepted, Outcome}
use Rattle.calls.specs.Lookup.{Looked, at, nowhere, unnamed, seek, answer_of, lookup_checks, lookup_done}
use Rattle.calls.specs.Agreement.{each_below, is_named, found_so, missed_so, alike, sound_checks, all_named, agree_checks, agrees, agree_done}
use Rattle.calls.specs.History.{lookup_call, lend, lent_to, checks_of, effect, run}
use Rattle.calls.specs.Alike.{Alike, YesIfAlike, AgreementSays}
use Rattle.calls.proofs.Refusing.{Clear, is_clear}
use Rattle.calls.proofs.Decided.{Decided, refuses, accepts, decided, unless-accepts}
use Rattle.calls.proofs.Agreeing.{each_below_lem, Comparable, both_comparable}

-- Two searches are alike exactly if their answers are the same and none is 7.
same : (a b : Looked) → alike a b ≡ true → answer_of a ≡ answer_of b
unfolding alike found_so missed_so answer_of
same (at p q n) (at p' q' n') e =
    let pq = and_l (eqb p p' && eqb q q') _ e in
    rw (eqb-true p p' (and_l _ _ pq), eqb-true q q' (and_r (eqb p p') _ pq), eqb-true n n' (and_r (eqb p p' && eqb q q') _ e))
same (at p q n) (nowhere n') e = absurd (false≢true e)
same (at p q n) unnamed e = absurd (false≢true e)
same (nowhere n) (at p' q' n') e = absurd (false≢true e)
same (nowhere n) (nowhere n') e = ap not_written (eqb-true n n' e)
same (nowhere n) unnamed e = absurd (false≢true e)
same unnamed b e = absurd (false≢true e)

alike_is : (a b : Looked) → is_named a ≡ true → answer_of a ≡ answer_of b → alike a b ≡ true
unfolding alike found_so missed_so is_named answer_of
alike_is (at p q n) (at p' q' n') h e =
    let x : p ≡ p' = cc in
    let y : q ≡ q' = cc in
    let z : n ≡ n' = cc in
    and_i _ _ (and_i _ _ (eq-eqb p p' x) (eq-eqb q q' y)) (eq-eqb n n' z)
alike_is (at p q n) (nowhere n') h e = let z : ◌≡◌ {A = ℕ} 0 1 = cc in absurd (omega arith)
alike_is (at p q n) unnamed h e = let z : ◌≡◌ {A = ℕ} 0 1 = cc in absurd (omega arith)
alike_is (nowhere n) (at p' q' n') h e = let z : ◌≡◌ {A = ℕ} 0 1 = cc in absurd (omega arith)
alike_is (nowhere n) (nowhere n') h e = let z : n ≡ n' = cc in eq-eqb n n' z
alike_is (nowhere n) unnamed h e = let z : ◌≡◌ {A = ℕ} 0 1 = cc in absurd (omega arith)
alike_is unnamed b h e = absurd (false≢true h)

-- each number below n passes a test that all of them do
pub below_each : (n : ℕ) (t : ℕ → Bool) → each_below n t ≡ true → (x : ℕ) → x < n → t x ≡ true
unfolding each_below
below_each zero t e x b = absurd (omega arith)
below_each (suc n) t e x b = go (eqb x n) refl (below_each n t (and_r (t n) _ e) x)
  where
    go : (u : Bool) → eqb x n ≡ u → (x < n → t x ≡ true) → t x ≡ true
    go true q ih = let z : x ≡ n = eqb-true x n q in rw z (and_l (t n) _ e)
    go false q ih = ih (omega (arith, eqb-false x n q))

-- A state whose checks are clear: a lookup below N answers what its search gives.
looked : (s : State) (spare : List ℕ) → Clear (sound_checks s spare) → (x : ℕ) → x < s.device.N → (run (lookup_call x) s spare).answer ≡ answer_of (seek s spare x)
unfolding run lent_to lend checks_of effect lookup_checks lookup_done sound_state group_at
looked s spare c x b =
    let sound = and_l _ _ (not-false (sound_state s) c.1.1.1.0) in
    let passed : Clear (lookup_checks x (lend s spare [] [])) = (c.0, (c.1.0, (c.1.1.0, (lt-leb s.device.N x b, (ap not (group_sound s.device.N (group_of x) s.groups sound), tt))))) in
    ap (λ (o : Outcome). o.answer) (unless-accepts _ _ _ (is_clear (lookup_checks x (lend s spare [] [])) passed))

module _ (s : State) (spare : List ℕ) (s' : State) (spare' : List ℕ) where
  abbrev alike_at : ℕ → Bool
  alike_at x = alike (seek s spare x) (seek s' spare' x)

  module _ (c : Comparable s spare) (c' : Comparable s' spare') where
    are_alike : agrees s spare s' spare' ≡ true → Alike s spare s' spare'
    unfolding agrees
    are_alike e =
        let n : s.device.N ≡ s'.device.N = eqb-true _ _ (and_l _ _ e) in
        record {
          numbers = n;
          lookups = λ x b.
              looked s spare c.clear x b
              ∙ same _ _ (below_each s.device.N alike_at (and_r (eqb s.device.N _) _ e) x b)
              ∙ sym (looked s' spare' c'.clear x (omega (arith, n, b)));
        }

    alike-agree : Alike s spare s' spare' → agrees s spare s' spare' ≡ true
    unfolding agrees all_named
    alike-agree a =
        and_i _ _ (eq-eqb _ _ a.numbers) (each_below_lem s.device.N alike_at (λ x b.
        alike_is _ _ (below_each s.device.N (λ y. is_named (seek s spare y)) c.named x b)
        (sym (looked s spare c.clear x b) ∙ a.lookups x b ∙ looked s' spare' c'.clear x (omega (arith, a.numbers, b)))))

pub agreement-says : AgreementSays
unfolding run lent_to lend checks_of effect agree_done accepted
agreement-says s spare s' spare' here area = go (decided (agree_checks s spare s' spare') _ _)
  where
    go : {o : Outcome} → Decided (agree_checks s spare s' spare') (lend here area [] []) (agree_done s spare s' spare' (lend here area [] [])) o → accepted o.answer ≡ true
        → YesIfAlike s spare s' spare' o.answer
    go (refuses r e) f = absurd (false≢true f)
    go (accepts e) f =
        let c = both_comparable s spare s' spare' e in
        record {
          yes = λ a. ap agreed (alike-agree s spare s' spare' c.0 c.1 a);
          only = λ q. are_alike s spare s' spare' c.0 c.1 (let z : agrees s spare s' spare' ≡ true = cc in z);
        }
