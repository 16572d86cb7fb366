-- A call's answer packed, from what packs the accepted ones. Assumes nothing.
use mathlib.Core.Path.{◌≡◌}
use mathlib.Core.List.{List}
use Prim.Native.Nat.{ℕ}
use Rattle.std.specs.Prelude.{Result, Ok, Err, IfOk, MatchResult}
use Rattle.calls.specs.Outcome.{Answer, refused}
use Rattle.calls.specs.History.{Call}
use Rattle.calls.specs.Bounds.{Bounded}
use Rattle.plain.specs.Calls.{Common}
use Rattle.answers.specs.declared.Refusal.{Refusal}
use Rattle.answers.specs.Answers.{refusal_of, answer_by}
use Rattle.state.specs.Ran.{Slices, Ran}
use Rattle.plainstate.specs.Ran as plain
use Rattle.export.specs.Packing.{packed, page_alone, Packs, PlainPacks}

module _ {A : Type 0} (f : A → Answer) (a : Result A Refusal) where
  -- an accepted answer's fields hold what a bounded answer's do
  pub fitting : (P : A → Type 0) → ((x : A) → Bounded (f x) → P x) → Bounded (answer_by f a) → IfOk a P
  unfolding answer_by
  fitting = go a
    where
      go : (a : Result A Refusal) → (P : A → Type 0) → ((x : A) → Bounded (f x) → P x) → Bounded (answer_by f a) → IfOk a P
      go (Ok x) P h b = h x b
      go (Err r) P h b = tt

  module _ (n : ℕ) (P : A → Type 0) (m : MatchResult a P (λ r. n ≡ packed (refused (refusal_of r)))) where
    pub packs : {c : Call} {state spare : List ℕ} {left : Slices} → Ran c state spare (answer_by f a) left → ((x : A) → P x → n ≡ packed (f x)) → Packs c state spare n left
    unfolding answer_by
    packs ran h = record { answer = answer_by f a; ran = ran; is = go a m }
      where
        go : (a : Result A Refusal) → MatchResult a P (λ r. n ≡ packed (refused (refusal_of r))) → n ≡ packed (answer_by f a)
        go (Ok x) m = h x m
        go (Err r) m = m

    -- the same of the plain engine
    pub plain_packs : {c : Common} {state : List ℕ} {left : plain.Slices} → plain.Ran c state (answer_by f a) left → ((x : A) → P x → n ≡ packed (page_alone (f x))) → PlainPacks c state n left
    unfolding answer_by page_alone
    plain_packs ran h = record { answer = answer_by f a; ran = ran; is = go a m }
      where
        go : (a : Result A Refusal) → MatchResult a P (λ r. n ≡ packed (refused (refusal_of r))) → n ≡ packed (page_alone (answer_by f a))
        go (Ok x) m = h x m
        go (Err r) m = m
