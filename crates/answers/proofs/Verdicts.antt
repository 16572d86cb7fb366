-- The code's answer to some checks: that it is right, and what it says. Assumes nothing.
use mathlib.Core.Path.{◌≡◌, refl, sym, ap, ◌∙◌}
use mathlib.Core.List.{List}
use mathlib.Core.Option.{Option, none, some}
use Prim.Native.Nat.{ℕ}
use native.Mathlib.Omega.{arith}
use Rattle.std.specs.Prelude.{Result, Ok, Err}
use Rattle.model.specs.Device.{Device}
use Rattle.calls.specs.Refusals.{Refusal, Check, first_refusal}
use Rattle.front.specs.Read.{numbers_of}
use Rattle.front.specs.declared.Numbers.{Numbers}
use Rattle.answers.specs.declared.Refusal as code
use Rattle.answers.specs.Answers.{refusal_of}
use Rattle.answers.specs.Opening.{passes, refuses, verdict_by, verdict, verdict_of}

-- The code's answer to some checks is right ..
module _ (cs : List Check) (numbers : Device) where
  pub says-refused : {r : Refusal} → first_refusal cs ≡ some r → refuses r ≡ verdict cs numbers
  unfolding verdict_by
  says-refused e = rw e

  pub says-passed : {d : Device} → first_refusal cs ≡ none → d ≡ numbers → passes d ≡ verdict cs numbers
  unfolding verdict_by
  says-passed e n = rw (e, n)

-- .. and this is what it says.
module _ (cs : List Check) (numbers : Device) (o : Result Numbers code.Refusal) (h : verdict_of o ≡ verdict cs numbers) where
  pub refused_first : (r : code.Refusal) → o ≡ Err r → first_refusal cs ≡ some (refusal_of r)
  unfolding verdict_of verdict_by
  refused_first r e = go (first_refusal cs) (ap verdict_of (sym e) ∙ h)
    where
      go : (f : Option Refusal) → refuses (refusal_of r) ≡ verdict_by f numbers → f ≡ some (refusal_of r)
      go none q = let z : ◌≡◌ {A = ℕ} 0 1 = cc in absurd (omega arith)
      go (some p) q = cc

  pub passed_all : (d : Numbers) → o ≡ Ok d → (first_refusal cs ≡ none) × (numbers ≡ numbers_of d)
  unfolding verdict_of verdict_by
  passed_all d e = go (first_refusal cs) (ap verdict_of (sym e) ∙ h)
    where
      go : (f : Option Refusal) → passes (numbers_of d) ≡ verdict_by f numbers → (f ≡ none) × (numbers ≡ numbers_of d)
      go none q = (refl, cc)
      go (some p) q = let z : ◌≡◌ {A = ℕ} 0 1 = cc in absurd (omega arith)
