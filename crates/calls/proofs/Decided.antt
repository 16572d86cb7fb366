-- What comes of a call with refusals: the first that applies and nothing changed, or the call's own outcome. Assumes nothing.
use mathlib.Core.Path.{◌≡◌, refl}
use mathlib.Core.List.{List}
use mathlib.Core.Option.{Option, none, some}
use Rattle.calls.specs.Refusals.{Refusal, Check, first_refusal}
use Rattle.calls.specs.Outcome.{Lent, refused, Outcome, outcome, unless}

-- Two ways a call can end.
pub data Decided (checks : List Check) (x : Lent) (out : Outcome) : Outcome → Type 0 where
  refuses : (r : Refusal) → first_refusal checks ≡ some r → Decided checks x out (record { answer = refused r; after = x })
  accepts : first_refusal checks ≡ none → Decided checks x out out

-- Every call ends in one of them.
pub decided : (checks : List Check) (x : Lent) (out : Outcome) → Decided checks x out (unless checks x out)
unfolding unless outcome
decided checks x out = go (first_refusal checks) refl
  where
    go : (o : Option Refusal) → first_refusal checks ≡ o → Decided checks x out (outcome o x out)
    go none e = accepts e
    go (some r) e = refuses r e

-- Where no check applies, the outcome is the call's own.
pub unless-accepts : (checks : List Check) (x : Lent) (out : Outcome) → first_refusal checks ≡ none → unless checks x out ≡ out
unfolding unless outcome
unless-accepts checks x out e = rw e refl

-- Two calls that refuse alike and answer alike, answer alike.
pub unless-alike : (checks checks' : List Check) (x x' : Lent) (out out' : Outcome) → first_refusal checks ≡ first_refusal checks' → out.answer ≡ out'.answer
    → (unless checks x out).answer ≡ (unless checks' x' out').answer
unfolding unless outcome
unless-alike checks checks' x x' out out' e q = rw e (go (first_refusal checks'))
  where
    go : (o : Option Refusal) → (outcome o x out).answer ≡ (outcome o x' out').answer
    go none = q
    go (some r) = refl
