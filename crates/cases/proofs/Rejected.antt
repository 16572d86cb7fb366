-- Document 01, 'Tight promises' 3: each sham is rejected by the demand that the document names, for the demand asked of it is absurd; and
-- so are those that document 02's discard tempts to. Assumes nothing.
use mathlib.Core.Path.{◌≡◌, refl, sym, ◌∙◌, ap, subst}
use mathlib.Core.List.{List, [], ◌∷◌, ◌++◌}
use mathlib.Core.Option.{Option, none, some}
use mathlib.Core.Logic.{◌⊎◌, inl, inr}
use mathlib.Core.Bool.{true, false≢true}
use Prim.Native.Nat.{ℕ, suc, ◌<◌}
use native.Mathlib.Omega.{arith}
use lib.ListN.{replicate}
use Rattle.model.specs.Demand2.{read_at, read_by, reads_back}
use Rattle.calls.specs.Refusals.{Refusal, out_of_range, no_free_block, not_named, nothing_to_gain}
use Rattle.calls.specs.Outcome.{Answer, flushed, found, not_written, collected, refused, accepted, Outcome}
use Rattle.calls.specs.Book.{Arrival, nothing, discard, write_of, Book, last_write}
use Rattle.calls.specs.History.{Call, lookup_call, run}
use Rattle.calls.specs.Demand3.{Right, unwritten, discarded_last, written, AfterFormat}
use Rattle.calls.proofs.Refusing.{none_some}
use Rattle.cases.specs.Small.{small}
use Rattle.cases.specs.Ways.{Way, Demand1, Demand2, machine, after}
use Rattle.cases.specs.Shams.{always_unwritten, stores_no_record, moves_first_only, refuses_flushes, learn_first, counts_one_level_more, new_device_full, gain_uncounted, marks_nothing, refuses_discards, leaves_mark, counts_levels, copies_discarded, answer_by, flush_of, collection, collected01, discarded0, shams, three_pages}
use Rattle.cases.proofs.Ways.{from_format}

-- DEMAND 3, of the first four as machines, and of the first four of discard.

-- a discard is an event
discard_happened : nothing ≡ discard → ⊥
discard_happened e = let z : ◌≡◌ {A = ℕ} 0 1 = cc in absurd (omega arith)

-- a lookup that isn't right by the book refutes a way
wrong-lookup : (w : Way) (cs : List Call) (x : ℕ) (a : Answer) → answer_by w cs (lookup_call x) ≡ a → x < (after w cs).book.device.N
    → (Right (after w cs).book x a → ⊥) → AfterFormat (machine w) → ⊥
unfolding answer_by
wrong-lookup w cs x a e n wrong demand =
    wrong (subst (Right (after w cs).book x) e ((demand (after w cs) (from_format w cs)).lookups x n _ _ (record { answered = refl; left = refl })))

-- 'not written' isn't, of a page that was written; nor is a refusal
unwritten-wrong : (b : Book) (x n : ℕ) (w : Arrival) → last_write b x ≡ some w → Right b x (not_written n) → ⊥
unfolding write_of
unwritten-wrong b x n w e (unwritten _ u) = none_some (ap write_of (sym u) ∙ e)
unwritten-wrong b x n w e (discarded_last u) = none_some (ap write_of (sym u) ∙ e)

-- nor is any page, or more levels than 0, of one that was discarded
found-wrong : (b : Book) (x p q n : ℕ) → b.last x ≡ discard → Right b x (found p q n) → ⊥
unfolding write_of
found-wrong b x p q n e (written _ _ _ w u _ _ _) = none_some (ap write_of (sym e) ∙ u)

levels-wrong : (b : Book) (x n : ℕ) → b.last x ≡ discard → Right b x (not_written (suc n)) → ⊥
unfolding write_of
levels-wrong b x n e (unwritten _ u) = discard_happened (sym u ∙ e)

refused-wrong : (b : Book) (x : ℕ) (r : Refusal) → Right b x (refused r) → ⊥
refused-wrong b x r = elim [ ]

pub not_written_rejected : AfterFormat (machine always_unwritten) → ⊥
unfolding shams
not_written_rejected =
    wrong-lookup always_unwritten (flush_of 0 ∷ []) 0 (not_written 0) refl (omega arith) (unwritten-wrong _ 0 0 (record { call = 1; index = 0 }) refl)

pub no_record_rejected : AfterFormat (machine stores_no_record) → ⊥
unfolding shams
no_record_rejected =
    wrong-lookup stores_no_record (flush_of 0 ∷ []) 0 (not_written 0) refl (omega arith) (unwritten-wrong _ 0 0 (record { call = 1; index = 0 }) refl)

pub first_page_rejected : AfterFormat (machine moves_first_only) → ⊥
unfolding shams
first_page_rejected = wrong-lookup moves_first_only collected01 1 (refused not_named) refl (omega arith) (refused-wrong _ 1 not_named)

-- The flush fits, and three blocks are free.
pub refusal_rejected : AfterFormat (machine refuses_flushes) → ⊥
unfolding shams
refusal_rejected demand =
    go ((demand (after refuses_flushes []) (from_format refuses_flushes [])).flushes (0 ∷ []) (replicate 4 99)
    (record { filled = omega arith; short = omega arith; logical = refl; planned = refl }) (refused no_free_block) _ (record { answered = refl; left = refl }))
  where
    go : (accepted (refused no_free_block) ≡ true) ⊎ ((refused no_free_block ≡ refused no_free_block) × (3 < 2)) → ⊥
    go (inl e) = false≢true e
    go (inr p) = omega (arith, p.1)

pub no_mark_rejected : AfterFormat (machine marks_nothing) → ⊥
unfolding shams
no_mark_rejected = wrong-lookup marks_nothing discarded0 0 (found 0 0 1) refl (omega arith) (found-wrong _ 0 0 0 1 refl)

pub refused-discard_rejected : AfterFormat (machine refuses_discards) → ⊥
unfolding shams
refused-discard_rejected demand =
    false≢true ((demand (after refuses_discards (flush_of 0 ∷ [])) (from_format refuses_discards (flush_of 0 ∷ []))).discards 0 (omega arith) (refused out_of_range) _
    (record { answered = refl; left = refl }))

pub left-mark_rejected : AfterFormat (machine leaves_mark) → ⊥
unfolding shams
left-mark_rejected =
    wrong-lookup leaves_mark (discarded0 ++ (flush_of 0 ∷ [])) 0 (not_written 0) refl (omega arith) (unwritten-wrong _ 0 0 (record { call = 3; index = 0 }) refl)

pub levels_rejected : AfterFormat (machine counts_levels) → ⊥
unfolding shams
levels_rejected = wrong-lookup counts_levels discarded0 0 (not_written 1) refl (omega arith) (levels-wrong _ 0 0 refl)

-- DEMAND 2, of the fifth: logical page 3 is not read back.
pub first_run_rejected : Demand2 learn_first → ⊥
unfolding shams read_at read_by reads_back
first_run_rejected demand =
    let e : ◌≡◌ {A = Option ℕ} none (some 2) = (demand small three_pages 0 (replicate 12 7) refl (omega arith) refl (omega arith) refl).each 2 (omega arith) in
    (let z : ◌≡◌ {A = ℕ} 0 1 = cc in absurd (omega arith))

-- DEMAND 1, of the others: they don't answer what the definitions do.

-- an answer that differs refutes a way
differs : (w : Way) (cs : List Call) (c : Call) (a b : Answer) → answer_by w cs c ≡ a → (run c (after w cs).state (after w cs).spare).answer ≡ b
    → (a ≡ b → ⊥) → Demand1 w → ⊥
unfolding answer_by
differs w cs c a b e f ne demand = ne (sym e ∙ ap (λ (o : Outcome). o.answer) (demand c (after w cs).state (after w cs).spare) ∙ f)

pub level-count_rejected : Demand1 counts_one_level_more → ⊥
unfolding shams
level-count_rejected = differs counts_one_level_more (flush_of 0 ∷ []) (lookup_call 0) (found 0 0 2) (found 0 0 1) refl refl (λ e. let z : ◌≡◌ {A = ℕ} 2 1 = cc in absurd (omega arith))

pub new_device_rejected : Demand1 new_device_full → ⊥
unfolding shams
new_device_rejected = differs new_device_full [] (flush_of 0) (refused no_free_block) (flushed 0 1) refl refl (λ e. let z : ◌≡◌ {A = ℕ} 0 1 = cc in absurd (omega arith))

pub copied-discarded_rejected : Demand1 copies_discarded → ⊥
unfolding shams
copied-discarded_rejected =
    differs copies_discarded (discarded0 ++ (flush_of 1 ∷ [])) collection (collected 8 2 2) (collected 8 1 2) refl refl (λ e. let z : ◌≡◌ {A = ℕ} 2 1 = cc in absurd (omega arith))

pub uncounted_rejected : Demand1 gain_uncounted → ⊥
unfolding shams
uncounted_rejected =
    differs gain_uncounted (flush_of 0 ∷ flush_of 0 ∷ []) collection (refused nothing_to_gain) (collected 8 1 2) refl refl (λ e. let z : ◌≡◌ {A = ℕ} 0 1 = cc in absurd (omega arith))
