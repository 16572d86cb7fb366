-- A state from a format agrees with itself; on states of any content, two that agree do so in either order, and two that agree with a
-- third agree: an agreement is accepted where both states are comparable, and a yes says that they are alike. Assumes nothing.
use mathlib.Core.Path.{◌≡◌, refl, sym, ap, ◌∙◌}
use mathlib.Core.Bool.{true, false≢true}
use native.Mathlib.Omega.{arith}
use Rattle.calls.specs.Outcome.{Lent, accepted, Outcome}
use Rattle.calls.specs.Agreement.{agree_checks, agree_done}
use Rattle.calls.specs.History.{lent_to, checks_of, effect, run, Past}
use Rattle.calls.specs.Demand3.{agreement_of}
use Rattle.calls.specs.Alike.{Alike, SaysYes, WithItself, EitherOrder, ThroughThird}
use Rattle.calls.proofs.Decided.{Decided, refuses, accepts, decided, unless-accepts}
use Rattle.calls.proofs.Agreeing.{Comparable, agree-clear, both_comparable}
use Rattle.calls.proofs.Alike.{agreement-says}
use Rattle.calls.proofs.Demand3.{definitions_demand}

module _ (g h i : Past) where
  abbrev Accepted : Type 0
  Accepted = accepted (run (agreement_of g h) i.state i.spare).answer ≡ true

  -- where it isn't refused, both states are comparable, and where they are, it isn't
  accepted-both : Accepted → Comparable g.state g.spare × Comparable h.state h.spare
  unfolding run lent_to checks_of accepted
  accepted-both = go (decided (agree_checks g.state g.spare h.state h.spare) _ _)
    where
      go : {x : Lent} {out o : Outcome} → Decided (agree_checks g.state g.spare h.state h.spare) x out o → accepted o.answer ≡ true
          → Comparable g.state g.spare × Comparable h.state h.spare
      go (refuses r e) f = absurd (false≢true f)
      go (accepts e) f = both_comparable g.state g.spare h.state h.spare e

  both-accepted : Comparable g.state g.spare → Comparable h.state h.spare → Accepted
  unfolding run lent_to checks_of effect agree_done accepted
  both-accepted c d = ap (λ (o : Outcome). accepted o.answer) (unless-accepts _ _ _ (agree-clear g.state g.spare h.state h.spare c d))

  -- yes says that both are comparable and alike, and that says yes
  yes-accepted : SaysYes g h i → Accepted
  unfolding accepted
  yes-accepted e = ap accepted e

  yes-alike : SaysYes g h i → Alike g.state g.spare h.state h.spare
  yes-alike e = (agreement-says g.state g.spare h.state h.spare i.state i.spare (yes-accepted e)).only e

  alike-yes : Accepted → Alike g.state g.spare h.state h.spare → SaysYes g h i
  alike-yes f a = (agreement-says g.state g.spare h.state h.spare i.state i.spare f).yes a

pub with_itself : WithItself
with_itself h f i =
    alike-yes h h i (definitions_demand.agreements h h f f i _ _ (record { answered = refl; left = refl }))
    (record { numbers = refl; lookups = λ x b. refl })

pub either_order : EitherOrder
either_order g h i e j =
    let c = accepted-both g h i (yes-accepted g h i e) in
    let a = yes-alike g h i e in
    alike-yes h g j (both-accepted h g j c.1 c.0)
    (record { numbers = sym a.numbers; lookups = λ x b. sym (a.lookups x (omega (arith, b, a.numbers))) })

pub through_third : ThroughThird
through_third g h k i j e f l =
    let a = yes-alike g h i e in
    let b = yes-alike h k j f in
    let c = accepted-both g h i (yes-accepted g h i e) in
    let d = accepted-both h k j (yes-accepted h k j f) in
    alike-yes g k l (both-accepted g k l c.0 d.1)
    (record { numbers = a.numbers ∙ b.numbers; lookups = λ x n. a.lookups x n ∙ b.lookups x (omega (arith, n, a.numbers)) })
