-- What a call's checks come to: the device numbers where none applies, else the first refusal that does. Assumes nothing.
use Rattle.std.specs.Prelude.{List, Result, Ok, Err}
use Rattle.std.proofs.Math.Option.{Option, none, some}
use Rattle.model.specs.Device.{Device}
use Rattle.calls.specs.Refusals.{Refusal, Check, first_refusal}
use Rattle.front.specs.Read.{numbers_of}
use Rattle.front.specs.declared.Numbers.{Numbers}
use Rattle.answers.specs.declared.Refusal as code
use Rattle.answers.specs.Answers.{refusal_of}

pub data Verdict : Type 0 where
  passes : Device → Verdict
  refuses : Refusal → Verdict

unfoldable pub verdict_by : Option Refusal → Device → Verdict
verdict_by none d = passes d
verdict_by (some r) d = refuses r

-- of these checks, on a state with these numbers
abbrev pub verdict : List Check → Device → Verdict
verdict cs d = verdict_by (first_refusal cs) d

-- as the code answers it
unfoldable pub verdict_of : Result Numbers code.Refusal → Verdict
verdict_of (Ok d) = passes (numbers_of d)
verdict_of (Err r) = refuses (refusal_of r)
