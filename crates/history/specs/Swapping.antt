-- Document 02, f, on the bytes: what the workshop, which "swaps gateways that agree", may conclude from the answers of runs. Assumes nothing.
use Rattle.std.specs.Prelude.{◌≡◌, true, ℕ, ◌<◌}
use Rattle.calls.specs.Outcome.{Answer, agreed}
use Rattle.calls.specs.History.{lookup_call}
use Rattle.calls.specs.Demand3.{FromFormat}
use Rattle.state.specs.Reading.{read_state}
use Rattle.history.specs.Demand3.{Buffers, Runs, functions, agreement}

-- two gateways that agree answer every lookup alike: page, predicted page and count of levels, or 'not written' and its count
abbrev pub LookupsAlike : Type 0
LookupsAlike = (g h i i' : Buffers) → Runs i (agreement g h) (agreed true) i'
    → (x : ℕ) → x < (read_state g.state).device.N → (a b : Answer) (g' h' : Buffers) → Runs g (lookup_call x) a g' → Runs h (lookup_call x) b h' → a ≡ b

-- a gateway agrees with itself after any list of runs from a format
abbrev pub WithItself : Type 0
WithItself = (h : Buffers) → FromFormat functions h → (i i' : Buffers) (a : Answer) → Runs i (agreement h h) a i' → a ≡ agreed true

-- on bytes and entries of any content: two that agree in one order agree in the other ..
abbrev pub EitherOrder : Type 0
EitherOrder = (g h i i' j j' : Buffers) (a : Answer) → Runs i (agreement g h) (agreed true) i' → Runs j (agreement h g) a j' → a ≡ agreed true

-- .. and two that agree with a third agree
abbrev pub ThroughThird : Type 0
ThroughThird = (g h k i i' j j' l l' : Buffers) (a : Answer) → Runs i (agreement g h) (agreed true) i' → Runs j (agreement h k) (agreed true) j' → Runs l (agreement g k) a l' → a ≡ agreed true
