-- Document 01's number and values for each case of the calls' answers, through the answers of the definitions. Assumes nothing.
use Rattle.std.specs.Prelude.{ℕ, Bool, Option, Some, None, Result, Ok, Err, ⊤}
use Rattle.calls.specs.Refusals as calls
use Rattle.calls.specs.Outcome as outcome
use Rattle.calls.specs.Lookup as looked
use Rattle.answers.specs.declared.Refusal.{Refusal}
use Rattle.answers.specs.declared.Refusal.TheVariants.{BadNumbers, BadLength, NotSound, OutOfRange, BadBatch, NoFreeBlock, NotNamed, NothingToGain}
use Rattle.answers.specs.declared.Flushed.{Flushed}
use Rattle.answers.specs.declared.Looked.{Looked}
use Rattle.answers.specs.declared.Looked.TheVariants.{Found, NotWritten}
use Rattle.answers.specs.declared.Collected.{Collected}

unfoldable pub refusal_of : Refusal → calls.Refusal
refusal_of BadNumbers = calls.bad_numbers
refusal_of BadLength = calls.bad_length
refusal_of NotSound = calls.not_sound
refusal_of OutOfRange = calls.out_of_range
refusal_of BadBatch = calls.bad_batch
refusal_of NoFreeBlock = calls.no_free_block
refusal_of NotNamed = calls.not_named
refusal_of NothingToGain = calls.nothing_to_gain

-- what an accepted call came to, or its refusal
unfoldable pub answer_by : {A : Type 0} → (A → outcome.Answer) → Result A Refusal → outcome.Answer
answer_by f (Ok a) = f a
answer_by f (Err r) = outcome.refused (refusal_of r)

abbrev pub format_answer : Result ⊤ Refusal → outcome.Answer
format_answer a = answer_by (λ _. outcome.formatted) a

abbrev pub flush_answer : Result Flushed Refusal → outcome.Answer
flush_answer a = answer_by (λ f. outcome.flushed f.first f.count) a

unfoldable pub found_or_not : Looked → outcome.Answer
found_or_not (Found f) = outcome.found f.page f.predicted f.levels
found_or_not (NotWritten n) = outcome.not_written n

abbrev pub lookup_answer : Result Looked Refusal → outcome.Answer
lookup_answer a = answer_by found_or_not a

-- what a lookup in a sound group came to: refused there is 7
unfoldable pub as_looked : Result Looked Refusal → looked.Looked
as_looked (Ok (Found f)) = looked.at f.page f.predicted f.levels
as_looked (Ok (NotWritten n)) = looked.nowhere n
as_looked (Err r) = looked.unnamed

-- the plain engine's: the page found stands for both pages of the learned engine's answer, with 0 levels
unfoldable pub plainly_found : Option ℕ → outcome.Answer
plainly_found (Some p) = outcome.found p p 0
plainly_found None = outcome.not_written 0

abbrev pub plain_lookup_answer : Result (Option ℕ) Refusal → outcome.Answer
plain_lookup_answer a = answer_by plainly_found a

abbrev pub discard_answer : Result ⊤ Refusal → outcome.Answer
discard_answer a = answer_by (λ _. outcome.discarded) a

abbrev pub collect_answer : Result Collected Refusal → outcome.Answer
collect_answer a = answer_by (λ c. outcome.collected c.first c.count c.erased) a

abbrev pub compact_answer : Result ℕ Refusal → outcome.Answer
compact_answer a = answer_by (λ n. outcome.compacted n) a

abbrev pub agree_answer : Result Bool Refusal → outcome.Answer
agree_answer a = answer_by (λ b. outcome.agreed b) a

abbrev pub list_answer : Result ℕ Refusal → outcome.Answer
list_answer a = answer_by (λ n. outcome.listed n) a

abbrev pub why_answer : Result ℕ Refusal → outcome.Answer
why_answer a = answer_by (λ n. outcome.explained n) a
