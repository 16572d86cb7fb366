-- Whether a collection takes its blocks: 8 and 6, in order, and what comes of them. Assumes nothing.
use Rattle.std.specs.Prelude.{◌≡◌, List, [], ◌∷◌, not, ◌&&◌, ℕ, length, Result, Ok, Err}
use Rattle.std.proofs.Math.Option.{Option, none, some}
use Rattle.model.specs.Lists.{store}
use Rattle.model.specs.State.{free_blocks}
use Rattle.model.specs.Sound.{is_empty}
use Rattle.calls.specs.Refusals.{Refusal, Check, ◌when◌, no_free_block, nothing_to_gain, first_refusal}
use Rattle.calls.specs.Choice.{Used, blocks_of, pages_of, no_gain}
use Rattle.choice.specs.Tally.{chosen, total}
use Rattle.answers.specs.declared.Refusal as code
use Rattle.answers.specs.Answers.{refusal_of}

-- the checks of a collection that come after counting, where it would take these blocks and these are the counts of all; there is
-- something to move where they have valid pages
abbrev pub gain_checks : List Used → List ℕ → List Check
gain_checks us counts =
    nothing_to_gain when no_gain us
    ∷ no_free_block when (not (is_empty (pages_of us)) && is_empty (free_blocks 0 counts))
    ∷ []

-- so many blocks are taken, or the collection is refused
pub data Choice : Type 0 where
  takes : ℕ → Choice
  refuses : Refusal → Choice

unfoldable pub choice_by : Option Refusal → ℕ → Choice
choice_by none c = takes c
choice_by (some r) c = refuses r

abbrev pub choice : List Used → List ℕ → Choice
choice us counts = choice_by (first_refusal (gain_checks us counts)) (length us)

-- as the code answers it
unfoldable pub choice_of : Result ℕ code.Refusal → Choice
choice_of (Ok c) = takes c
choice_of (Err r) = refuses (refusal_of r)

-- the list of erased blocks with the taken ones in front, or as it was where the collection is refused
unfoldable pub listed_by : Option Refusal → List ℕ → List ℕ → List ℕ
listed_by none ks erased = store erased 0 ks
listed_by (some r) ks erased = erased

abbrev pub listed : List Used → List ℕ → List ℕ → List ℕ
listed us counts = listed_by (first_refusal (gain_checks us counts)) (blocks_of us)

-- the tally, where a block has b pages, chooses these blocks and has their valid pages
pub record Chooses (tally : List ℕ) (b : ℕ) (us : List Used) : Type 0 where
  pub blocks : chosen tally b ≡ blocks_of us
  pub pages : total tally (blocks_of us) ≡ length (pages_of us)
