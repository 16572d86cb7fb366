-- Document 01, 'Operations, each with its refusals in order': the refusals, and the first that applies. Assumes nothing.
use Rattle.std.specs.Prelude.{List, [], ◌∷◌, ◌++◌, Bool, not, ◌||◌, ℕ, ltb, eqb, length}
use Rattle.std.proofs.Math.Option.{Option, none}
use Rattle.model.specs.Lists.{or_else}
use Rattle.model.specs.Device.{within_limits, head_length, state_length, spare_length}
use Rattle.model.specs.State.{State}

pub data Refusal : Type 0 where
  -- device numbers outside their limits, or a state too short to hold them
  bad_numbers : Refusal
  -- a lent slice has a wrong length
  bad_length : Refusal
  -- the state, or the group, is not sound
  not_sound : Refusal
  -- a logical page is N or more; no such group
  out_of_range : Refusal
  -- the batch is empty or longer than B
  bad_batch : Refusal
  -- fewer free blocks than needed
  no_free_block : Refusal
  -- the predicted page doesn't exist, or no entry names the logical page
  not_named : Refusal
  -- no block is used, or one is taken with total above 0
  nothing_to_gain : Refusal

-- document 01's number of a refusal
unfoldable pub refusal_number : Refusal → ℕ
refusal_number bad_numbers = 1
refusal_number bad_length = 2
refusal_number not_sound = 3
refusal_number out_of_range = 4
refusal_number bad_batch = 5
refusal_number no_free_block = 6
refusal_number not_named = 7
refusal_number nothing_to_gain = 8

-- A refusal with its condition.
pub record Check : Type 0 where
  pub refusal : Refusal
  pub applies : Bool

infix 68 ◌when◌
abbrev pub ◌when◌ : Refusal → Bool → Check
◌when◌ r t = record { refusal = r; applies = t }

-- "the first refusal in the document's order that applies"
unfoldable pub first_refusal : List Check → Option Refusal
first_refusal [] = none
first_refusal (c ∷ cs) = or_else c.applies c.refusal (first_refusal cs)

-- a lent slice hasn't exactly n elements
unfoldable pub wrong_length : List ℕ → ℕ → Bool
wrong_length s n = not (eqb (length s) n)

-- "1 when the state is too short to hold the device numbers or they are outside limits"
unfoldable pub numbers_missing : State → Bool
numbers_missing s = ltb s.bytes head_length || not (within_limits s.device)

-- the state hasn't exactly the length that its numbers give
unfoldable pub wrong_state : State → Bool
wrong_state s = not (eqb s.bytes (state_length s.device))

-- the spare area hasn't exactly the length that the state's numbers give
unfoldable pub wrong_spare : State → List ℕ → Bool
wrong_spare s spare = wrong_length spare (spare_length s.device)

-- "Every other operation refuses 1 when the state is too short to hold the device numbers or they are outside limits, and 2 when a
-- lent slice has a wrong length": the first checks of all of them, for the state alone ..
abbrev pub opening : State → List Check
opening s = bad_numbers when numbers_missing s ∷ bad_length when wrong_state s ∷ []

-- .. and for the state with its spare area
abbrev pub opening_with : State → List ℕ → List Check
opening_with s spare = opening s ++ (bad_length when wrong_spare s spare ∷ [])
