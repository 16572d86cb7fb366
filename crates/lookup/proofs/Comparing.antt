-- Lookups told apart and compared: where neither refuses, their derived equality is agreement's. Assumes nothing.
use mathlib.Core.Path.{◌≡◌, refl, sym}
use mathlib.Core.Bool.{true, false}
use Prim.Native.Nat.{ℕ}
use native.Mathlib.Omega.{arith}
use lib.Dec.{eqb}
use Rattle.std.specs.Prelude.{Ok, Err}
use Rattle.std.proofs.Math.Bool.{and_assoc}
use Rattle.calls.specs.Refusals.{not_named}
use Rattle.calls.specs.Outcome.{refused}
use Rattle.calls.specs.Lookup as calls
use Rattle.calls.specs.Lookup.{at, nowhere, unnamed, answer_of}
use Rattle.calls.specs.Agreement.{is_named, found_so, missed_so, alike}
use Rattle.answers.specs.declared.Looked.{Looked}
use Rattle.answers.specs.declared.Looked.TheVariants.{Found, NotWritten}
use Rattle.answers.specs.declared.Refusal.{Refusal}
use Rattle.answers.specs.Answers.{refusal_of, answer_by, lookup_answer, as_looked}
use Rattle.answers.specs.contracts.LookedPartialEq.TheImpl as derived

pub equal_is : (f g : Looked) → derived.ghosts.eq f g ≡ alike (as_looked (Ok f)) (as_looked (Ok g))
unfolding found_so missed_so alike as_looked
equal_is (Found f) (Found g) = sym (and_assoc (eqb f.page g.page) (eqb f.predicted g.predicted) (eqb f.levels g.levels))
equal_is (Found f) (NotWritten n) = refl
equal_is (NotWritten n) (Found g) = refl
equal_is (NotWritten n) (NotWritten m) = refl

-- one that doesn't refuse is named
pub named_is : (f : Looked) → is_named (as_looked (Ok f)) ≡ true
unfolding is_named as_looked
named_is (Found f) = refl
named_is (NotWritten n) = refl

-- one that does isn't, and its refusal is 7
pub refusal_is : (r : Refusal) (a : calls.Looked) → lookup_answer (Err r) ≡ answer_of a → (refused (refusal_of r) ≡ refused not_named) × (is_named a ≡ false)
unfolding is_named answer_by answer_of
refusal_is r (at p q n) e = let z : ◌≡◌ {A = ℕ} 0 1 = cc in absurd (omega arith)
refusal_is r (nowhere n) e = let z : ◌≡◌ {A = ℕ} 0 1 = cc in absurd (omega arith)
refusal_is r unnamed e = (e, refl)
