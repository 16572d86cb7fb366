-- Document 01, 'Operations', with document 02, f: what agreement's yes says, by the answers of lookups, and what the workshop, which
-- "swaps gateways that agree", may conclude from it. Assumes nothing.
use Rattle.std.specs.Prelude.{◌≡◌, List, true, ℕ, ◌<◌}
use Rattle.model.specs.State.{State}
use Rattle.calls.specs.Outcome.{Answer, agreed, accepted}
use Rattle.calls.specs.History.{lookup_call, agree_call, run, Past}
use Rattle.calls.specs.Demand3.{definitions, FromFormat, agreement_of}

-- "N is equal and every lookup gives the same page, or 'not written' in both", and "also .. the same predicted page and the same count
-- of levels": every lookup's whole answer is the same
pub record Alike (s : State) (spare : List ℕ) (s' : State) (spare' : List ℕ) : Type 0 where
  pub numbers : s.device.N ≡ s'.device.N
  pub lookups : (x : ℕ) → x < s.device.N → (run (lookup_call x) s spare).answer ≡ (run (lookup_call x) s' spare').answer

-- "Agreement of two states, each with its spare area: yes if" they are alike, and only then, wherever it is made and not refused
pub record YesIfAlike (s : State) (spare : List ℕ) (s' : State) (spare' : List ℕ) (answer : Answer) : Type 0 where
  pub yes : Alike s spare s' spare' → answer ≡ agreed true
  pub only : answer ≡ agreed true → Alike s spare s' spare'

abbrev pub AgreementSays : Type 0
AgreementSays = (s : State) (spare : List ℕ) (s' : State) (spare' : List ℕ) (here : State) (area : List ℕ)
    → accepted (run (agree_call s spare s' spare') here area).answer ≡ true
    → YesIfAlike s spare s' spare' (run (agree_call s spare s' spare') here area).answer

-- an agreement of the states of g and h, made in situation i, is accepted and says yes
abbrev pub SaysYes : Past → Past → Past → Type 0
SaysYes g h i = (run (agreement_of g h) i.state i.spare).answer ≡ agreed true

-- a state from a format agrees with itself
abbrev pub WithItself : Type 0
WithItself = (h : Past) → FromFormat definitions h → (i : Past) → SaysYes h h i

-- on states of any content: two that agree in one order agree in the other ..
abbrev pub EitherOrder : Type 0
EitherOrder = (g h i : Past) → SaysYes g h i → (j : Past) → SaysYes h g j

-- .. and two that agree with a third agree
abbrev pub ThroughThird : Type 0
ThroughThird = (g h k i j : Past) → SaysYes g h i → SaysYes h k j → (l : Past) → SaysYes g k l
