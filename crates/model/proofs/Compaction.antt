-- Compaction changes nowhere what is met first. Assumes nothing.
use mathlib.Core.Path.{◌≡◌, refl, sym, ◌∙◌, ap}
use mathlib.Core.List.{List, [], ◌∷◌, ◌++◌, flatten}
use mathlib.Core.Option.{Option, none, some}
use mathlib.Core.Bool.{Bool, true, false, ◌||◌}
use Prim.Native.Nat.{ℕ, zero, suc, ◌<◌}
use native.Mathlib.Omega.{arith}
use Rattle.model.specs.Record.{Record, member}
use Rattle.model.specs.Levels.{Group, listing, meets_any, shrink, keep, into, member_of_any, shrink_all, depth_over, depth, put_at, put_back, compact}
use Rattle.model.proofs.Line.{Line, line_of, met}
use Rattle.model.proofs.Shrink.{Within, shrink-outcome}
use Rattle.model.proofs.Order.{Chains, AllWithin, chain_within, chains-within, shrink_all-within, put_at-chains}
use Rattle.model.proofs.Encounter.{first, first_none, first_assoc, met-skip, met-hit, met_append, met-apart, into-skip, into-hit, met-keep}

-- a record at depth 0 shares no member with the levels
depth-apart : (o : ℕ) (r : Record) (g : Group) → Within r → Chains g → depth r g ≡ 0 → member r o ≡ true → met o (listing g) ≡ none
unfolding depth depth_over flatten met
depth-apart o r [] w c d h = refl
depth-apart o r (l ∷ g) w c d h = go (depth r g) refl (meets_any r l) refl d (λ z. depth-apart o r g w c.1 z h)
  where
    go : (n : ℕ) → depth r g ≡ n → (t : Bool) → meets_any r l ≡ t → depth_over n t ≡ 0 → (depth r g ≡ 0 → met o (flatten g) ≡ none) → met o (l ++ flatten g) ≡ none
    go zero p true q d ih = absurd (omega arith)
    go zero p false q d ih =
        met_append o l (flatten g) ∙ ap (λ (x : Option Line). first x (met o (flatten g))) (met-apart o r l w (chain_within 0 l c.0) q h) ∙ ih p
    go (suc n) p t q d ih = absurd (omega arith)

-- put back, a record is met where nothing else is
put_at-met : (o : ℕ) (r : Record) (g : Group) → Within r → Chains g → met o (listing (put_at (depth r g) r g)) ≡ first (met o (listing g)) (met o (r ∷ []))
unfolding depth depth_over put_at flatten met
put_at-met o r [] w c = refl
put_at-met o r (l ∷ g) w c = go (depth r g) refl (meets_any r l) refl (put_at-met o r g w c.1)
  where
    under : (n : ℕ) → met o (flatten (put_at n r g)) ≡ first (met o (flatten g)) (met o (r ∷ [])) → met o (l ++ flatten (put_at n r g)) ≡ first (met o (l ++ flatten g)) (met o (r ∷ []))
    under n ih =
        met_append o l (flatten (put_at n r g))
        ∙ ap (first (met o l)) ih
        ∙ first_assoc (met o l) (met o (flatten g)) (met o (r ∷ []))
        ∙ ap (λ (x : Option Line). first x (met o (r ∷ []))) (sym (met_append o l (flatten g)))

    beside : depth r g ≡ 0 → meets_any r l ≡ false → (t : Bool) → member r o ≡ t → met o (into r l ++ flatten g) ≡ first (met o (l ++ flatten g)) (met o (r ∷ []))
    beside p q true h =
        let a : AllWithin l = chain_within 0 l c.0 in
        let y : met o (into r l) ≡ some (line_of r) = into-hit o r l w a q h in
        let z : met o l ≡ none = met-apart o r l w a q h in
        met_append o (into r l) (flatten g)
        ∙ ap (λ (x : Option Line). first x (met o (flatten g))) y
        ∙ sym (ap (λ (x : Option Line). first x (met o (r ∷ []))) (met_append o l (flatten g) ∙ ap (λ (x : Option Line). first x (met o (flatten g))) z ∙ depth-apart o r g w c.1 p h) ∙ met-hit o r [] h)
    beside p q false h =
        met_append o (into r l) (flatten g)
        ∙ ap (λ (x : Option Line). first x (met o (flatten g))) (into-skip o r l h)
        ∙ sym (met_append o l (flatten g))
        ∙ sym (ap (first (met o (l ++ flatten g))) (met-skip o r [] h) ∙ first_none (met o (l ++ flatten g)))

    go : (n : ℕ) → depth r g ≡ n → (t : Bool) → meets_any r l ≡ t → met o (flatten (put_at (depth r g) r g)) ≡ first (met o (flatten g)) (met o (r ∷ []))
        → met o (flatten (put_at (depth_over (depth r g) (meets_any r l)) r (l ∷ g))) ≡ first (met o (l ++ flatten g)) (met o (r ∷ []))
    go zero p true q ih = rw (p, q) (under 0 (rw p at ih))
    go zero p false q ih = rw (p, q) (beside p q (member r o) refl)
    go (suc n) p t q ih = rw p (under (suc n) (rw p at ih))

-- records put back are met behind those already there
put_back-met : (o : ℕ) (l : List Record) (g : Group) → AllWithin l → Chains g → met o (listing (put_back l g)) ≡ first (met o (listing g)) (met o l)
unfolding put_back met
put_back-met o [] g w c = sym (first_none (met o (listing g)))
put_back-met o (r ∷ l) g w c =
    put_back-met o l (put_at (depth r g) r g) w.1 (put_at-chains r g w.0 c)
    ∙ ap (λ (x : Option Line). first x (met o l)) (put_at-met o r g w.0 c)
    ∙ sym (first_assoc (met o (listing g)) (met o (r ∷ [])) (met o l))
    ∙ ap (first (met o (listing g))) (sym (met_append o (r ∷ []) l))

-- records shrunk by all above them, at an offset that none above had
shrink_all-met : (o : ℕ) → o < 256 → (above l : List Record) → member_of_any above o ≡ false → met o (shrink_all above l) ≡ met o l
unfolding shrink_all member_of_any
shrink_all-met o b above [] n = refl
shrink_all-met o b above (r ∷ l) n = go (member r o) refl (λ q. shrink_all-met o b (r ∷ above) l q)
  where
    go : (t : Bool) → member r o ≡ t → (member_of_any (r ∷ above) o ≡ false → met o (shrink_all (r ∷ above) l) ≡ met o l)
        → met o (keep (shrink (member_of_any above) r) (shrink_all (r ∷ above) l)) ≡ met o (r ∷ l)
    go true h ih = met-keep (member_of_any above) o b n r (shrink (member_of_any above) r) (shrink-outcome (member_of_any above) r) _ (shrink_all (r ∷ above) l) refl ∙ met-hit o r _ h ∙ sym (met-hit o r l h)
    go false h ih = met-keep (member_of_any above) o b n r (shrink (member_of_any above) r) (shrink-outcome (member_of_any above) r) _ l (ih (ap (λ (t : Bool). t || member_of_any above o) h ∙ n))

-- Compaction changes nowhere what is met first.
pub compact-met : (o : ℕ) → o < 256 → (g : Group) → Chains g → met o (listing (compact g)) ≡ met o (listing g)
unfolding compact member_of_any met flatten
compact-met o b g c =
    put_back-met o (shrink_all [] (listing g)) [] (shrink_all-within [] (listing g) (chains-within g c)) tt ∙ shrink_all-met o b [] (listing g) refl
