-- Document 01, 'Traps in the paper', where a group's levels show them, and when a level vanishes ('Levels'): computed, each with
-- what it comes to. Assumes nothing.
use Rattle.std.specs.Prelude.{◌≡◌, refl, List, [], ◌∷◌, ℕ, pos}
use Rattle.model.specs.Record.{Record}
use Rattle.model.specs.Levels.{Group, give_up_all, filled, into, stayers, sinkers, sink_all, insert}
use Rattle.cases.specs.Opens.{everything}

-- a record from its start, span, word and owned offsets; where it predicts is of no account
abbrev pub of : ℕ → ℕ → ℕ → List ℕ → Record
of S L w owned = record { start = S; span = L; word = w; intercept = pos 0; owned = owned }

-- "Two victims of one insertion: the second must look at the level that the first may have made." 0, 2, 4 and 10, 12, 14 lie
-- over 3; with 1, 5, 9, 13 on top both sink. The first meets 3, so a new level holds it; the second meets nothing there.
pub two_victims : insert (of 1 12 8 []) ((of 0 4 4 [] ∷ of 10 4 4 [] ∷ []) ∷ (of 3 0 0 [] ∷ []) ∷ [])
    ≡ (of 1 12 8 [] ∷ []) ∷ (of 0 4 4 [] ∷ of 10 4 4 [] ∷ []) ∷ (of 3 0 0 [] ∷ []) ∷ []
unfolding everything
two_victims = refl

-- "An approximate record deep down may lose all its offsets; it has to go": and its level with it.
pub deep_record_goes : insert (of 4 6 1 (4 ∷ 7 ∷ 10 ∷ [])) ((of 200 0 0 [] ∷ []) ∷ (of 4 6 3 (4 ∷ 10 ∷ []) ∷ []) ∷ (of 5 0 0 [] ∷ []) ∷ [])
    ≡ (of 4 6 1 (4 ∷ 7 ∷ 10 ∷ []) ∷ of 200 0 0 [] ∷ []) ∷ (of 5 0 0 [] ∷ []) ∷ []
unfolding everything
deep_record_goes = refl

-- "A level other than 0 vanishes as soon as it is empty": before the first victim looks for its place. 5 lies over the approximate
-- 4, 10, which lies over 200. With 4, 7, 10 on top, 4, 10 goes and its level with it; only then does 5 sink. Level 1 is now that of
-- 200, 5 meets nothing there and joins it.
abbrev pub three_levels : Group
three_levels = (of 5 0 0 [] ∷ []) ∷ (of 4 6 3 (4 ∷ 10 ∷ []) ∷ []) ∷ (of 200 0 0 [] ∷ []) ∷ []

pub level_vanishes_first : insert (of 4 6 1 (4 ∷ 7 ∷ 10 ∷ [])) three_levels
    ≡ (of 4 6 1 (4 ∷ 7 ∷ 10 ∷ []) ∷ []) ∷ (of 5 0 0 [] ∷ of 200 0 0 [] ∷ []) ∷ []
unfolding everything
level_vanishes_first = refl

-- The other reading, which is not the definition: the empty levels vanish afterwards, when the victims have sunk.
unfoldable pub top_afterwards : Record → Group → Group
top_afterwards r [] = (r ∷ []) ∷ []
top_afterwards r (l ∷ g) = into r (stayers r l) ∷ filled (sink_all (sinkers r l) g)

unfoldable pub insert_afterwards : Record → Group → Group
insert_afterwards r g = top_afterwards r (give_up_all r g)

-- By it 5 would have the emptied level to itself, and 200 would stay one level deeper.
pub level_vanishes_afterwards : insert_afterwards (of 4 6 1 (4 ∷ 7 ∷ 10 ∷ [])) three_levels
    ≡ (of 4 6 1 (4 ∷ 7 ∷ 10 ∷ []) ∷ []) ∷ (of 5 0 0 [] ∷ []) ∷ (of 200 0 0 [] ∷ []) ∷ []
unfolding everything top_afterwards insert_afterwards
level_vanishes_afterwards = refl
