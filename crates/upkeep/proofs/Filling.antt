-- The lists of the state that a format fills: its counts, its marks, its groups. Assumes nothing.
use mathlib.Core.Path.{◌≡◌, refl}
use mathlib.Core.List.{List}
use Prim.Native.Nat.{ℕ}
use Rattle.model.specs.Levels.{Group}
use Rattle.model.specs.State.{State, with_counts, with_marks, with_groups}
use Rattle.front.proofs.Filling.{Part}

pub counts_same : (s : State) → with_counts s.counts s ≡ s
unfolding with_counts
counts_same s = refl

pub counts-back : (l : List ℕ) (s : State) → (with_counts l s).counts ≡ l
unfolding with_counts
counts-back l s = refl

pub counts-again : (l m : List ℕ) (s : State) → with_counts l (with_counts m s) ≡ with_counts l s
unfolding with_counts
counts-again l m s = refl

abbrev pub counts : Part State ℕ
counts = record { of = λ s. s.counts; put = with_counts; same = counts_same; back = counts-back; again = counts-again }

pub marks_same : (s : State) → with_marks s.marks s ≡ s
unfolding with_marks
marks_same s = refl

pub marks-back : (l : List ℕ) (s : State) → (with_marks l s).marks ≡ l
unfolding with_marks
marks-back l s = refl

pub marks-again : (l m : List ℕ) (s : State) → with_marks l (with_marks m s) ≡ with_marks l s
unfolding with_marks
marks-again l m s = refl

abbrev pub marks : Part State ℕ
marks = record { of = λ s. s.marks; put = with_marks; same = marks_same; back = marks-back; again = marks-again }

pub groups_same : (s : State) → with_groups s.groups s ≡ s
unfolding with_groups
groups_same s = refl

pub groups-back : (l : List Group) (s : State) → (with_groups l s).groups ≡ l
unfolding with_groups
groups-back l s = refl

pub groups-again : (l m : List Group) (s : State) → with_groups l (with_groups m s) ≡ with_groups l s
unfolding with_groups
groups-again l m s = refl

abbrev pub groups : Part State Group
groups = record { of = λ s. s.groups; put = with_groups; same = groups_same; back = groups-back; again = groups-again }
