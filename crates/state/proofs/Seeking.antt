-- A lookup's ways: no record holds the offset; one does, and its page exists and is named, or not. Assumes nothing.
use mathlib.Core.Path.{◌≡◌, refl, sym, ap, ◌∙◌}
use mathlib.Core.List.{List}
use mathlib.Core.Option.{Option, none, some, map}
use mathlib.Core.Bool.{Bool, true, false}
use Prim.Native.Nat.{ℕ, ◌≤◌, ◌<◌}
use native.Mathlib.Omega.{arith}
use lib.Dec.{ltb}
use lib.IntN.{ℤ, pos, negsuc}
use borrow.Author.Tests.{ltb-true}
use Rattle.model.specs.Device.{Device, pages, offset_of, group_of}
use Rattle.model.specs.Record.{Record, predict}
use Rattle.model.specs.Spare.{page_named}
use Rattle.model.specs.Levels.{Group, listing, holder, levels_to}
use Rattle.model.specs.Marks.{is_marked}
use Rattle.model.specs.State.{State, group_at}
use Rattle.model.specs.Sound.{sound_group}
use Rattle.calls.specs.Refusals.{not_named}
use Rattle.calls.specs.Outcome.{Answer, found, not_written, refused}
use Rattle.calls.specs.Lookup.{Looked, at, nowhere, unnamed, looked_named, looked_at, looked_by, descend, seek, answer_of}
use Rattle.calls.proofs.Marked.{seek-marked, seek_unmarked}
use Rattle.calls.proofs.Refusing.{none_some}
use Rattle.record.specs.Read.{as_record, bare, existing}
use Rattle.record.specs.declared.Record as code
use Rattle.group.proofs.Found.{Found, found-whole}
use Rattle.std.specs.Prelude.{Result, Ok, Err}
use Rattle.answers.specs.declared.Looked as answers
use Rattle.answers.specs.declared.Looked.TheVariants as looked
use Rattle.answers.specs.declared.Refusal.{Refusal}
use Rattle.answers.specs.Answers.{answer_by, found_or_not, lookup_answer, as_looked}

-- by the page that is predicted
data Predicted (d : Device) (spare : List ℕ) (x n : ℕ) : Option ℕ → Looked → Type 0 where
  outside : Predicted d spare x n none unnamed
  inside : (q : ℕ) → q < pages d → Predicted d spare x n (some q) (looked_named n q (page_named d spare q x))

predicted : (d : Device) (spare : List ℕ) (x n : ℕ) (z : ℤ) → Predicted d spare x n (existing (pages d) z) (looked_at d spare x n z)
unfolding existing looked_at
predicted d spare x n (negsuc m) = outside
predicted d spare x n (pos p) = go (ltb p (pages d)) refl
  where
    go : (t : Bool) → ltb p (pages d) ≡ t → Predicted d spare x n (elim t [ true ↦ some p | false ↦ none ]) (elim t [ true ↦ looked_named n p (page_named d spare p x) | false ↦ unnamed ])
    go true e = inside p (ltb-true p (pages d) e)
    go false e = outside

module _ (d : Device) (spare : List ℕ) (x n : ℕ) where
  outside_is : {o : Option ℕ} {s : Looked} → Predicted d spare x n o s → none ≡ o → unnamed ≡ s
  outside_is outside e = refl
  outside_is (inside q l) e = none_some e

  inside_there : {o : Option ℕ} {s : Looked} (q : ℕ) → Predicted d spare x n o s → some q ≡ o → q < pages d
  inside_there q outside e = none_some (sym e)
  inside_there q (inside p l) e = let f : q ≡ p = cc in rw f l

  inside_is : {o : Option ℕ} {s : Looked} (q : ℕ) (a : Option ℕ) → Predicted d spare x n o s → some q ≡ o → a ≡ page_named d spare q x → looked_named n q a ≡ s
  inside_is q a outside e f = none_some (sym e)
  inside_is q a (inside p l) e f = let g : q ≡ p = cc in rw (f, g)

  module _ (z : ℤ) where
    pub no_page_lem : none ≡ existing (pages d) z → refused not_named ≡ answer_of (looked_at d spare x n z)
    unfolding answer_of
    no_page_lem e = ap answer_of (outside_is (predicted d spare x n z) e)

    -- page q exists, and what its entries name decides
    pub page_exists : (q : ℕ) → some q ≡ existing (pages d) z → q < pages d
    page_exists q e = inside_there q (predicted d spare x n z) e

    pub page_named_lem : (q p : ℕ) → some q ≡ existing (pages d) z → some p ≡ page_named d spare q x → found p q n ≡ answer_of (looked_at d spare x n z)
    unfolding looked_named answer_of
    page_named_lem q p e f = ap answer_of (inside_is q (some p) (predicted d spare x n z) e f)

    pub page-unnamed : (q : ℕ) → some q ≡ existing (pages d) z → none ≡ page_named d spare q x → refused not_named ≡ answer_of (looked_at d spare x n z)
    unfolding looked_named answer_of
    page-unnamed q e f = ap answer_of (inside_is q none (predicted d spare x n z) e f)

    -- it names the logical page itself
    pub page-plain : (q : ℕ) → some q ≡ existing (pages d) z → some q ≡ page_named d spare q x → at q q n ≡ looked_at d spare x n z
    unfolding looked_named
    page-plain q e f = inside_is q (some q) (predicted d spare x n z) e f

-- what was found in group g: the record that holds offset o, without the offsets that it owns
module _ (N k o : ℕ) (g : Group) (h : sound_group N k g ≡ true) (r : code.Record) (e : some r ≡ map bare (holder o (listing g))) where
  held : Found N k o g r
  held = found-whole N k o g r h e

  pub held_word : r.word ≤ 513
  held_word = held.word

  pub held-owned : List ℕ
  held-owned = held.whole.owned

  pub held_is : holder o (listing g) ≡ some (as_record r held-owned)
  unfolding held-owned
  held_is = held.held ∙ ap (λ (b : code.Record). some (as_record b held.whole.owned)) held.numbers

-- so the records give what theirs does, or nothing
module _ (s : State) (d : Device) (spare : List ℕ) (x : ℕ) (numbers : s.device ≡ d) where
  pub descend-held : (r : Record) (n : ℕ) (a : Answer) → holder (offset_of x) (listing (group_at s (group_of x))) ≡ some r → n ≡ levels_to (offset_of x) (group_at s (group_of x))
      → a ≡ answer_of (looked_at d spare x n (predict r (offset_of x))) → a ≡ answer_of (descend s spare x)
  unfolding descend looked_by
  descend-held r n a e f q = q ∙ ap answer_of (rw (e, ← f, numbers))

  pub descend_none : (n : ℕ) → none ≡ map bare (holder (offset_of x) (listing (group_at s (group_of x)))) → n ≡ levels_to (offset_of x) (group_at s (group_of x)) → not_written n ≡ answer_of (descend s spare x)
  unfolding descend looked_by answer_of
  descend_none n e f = ap answer_of (go (holder (offset_of x) (listing (group_at s (group_of x)))) e)
    where
      go : (a : Option Record) → none ≡ map bare a → nowhere n ≡ looked_by s.device spare x (levels_to (offset_of x) (group_at s (group_of x))) a
      go none e = rw f
      go (some m) e = none_some e

-- a lookup is what the mark says, or what the records do
module _ (s : State) (spare : List ℕ) (x : ℕ) (t : Bool) (e : t ≡ is_marked s.marks x) where
  pub marked-answer : t ≡ true → not_written 0 ≡ answer_of (seek s spare x)
  unfolding answer_of
  marked-answer f = ap answer_of (sym (seek-marked s spare x (sym e ∙ f)))

  pub unmarked_answer : t ≡ false → (a : Answer) → a ≡ answer_of (descend s spare x) → a ≡ answer_of (seek s spare x)
  unmarked_answer f a q = q ∙ ap answer_of (sym (seek_unmarked s spare x (sym e ∙ f)))

-- what the answer says that a lookup came to
pub looked_is : (l : Result answers.Looked Refusal) (a : Looked) → lookup_answer l ≡ answer_of a → as_looked l ≡ a
unfolding answer_by found_or_not answer_of as_looked
looked_is (Ok (looked.Found f)) (at p q n) e = cc
looked_is (Ok (looked.Found f)) (nowhere n) e = let z : ◌≡◌ {A = ℕ} 0 1 = cc in absurd (omega arith)
looked_is (Ok (looked.Found f)) unnamed e = let z : ◌≡◌ {A = ℕ} 0 1 = cc in absurd (omega arith)
looked_is (Ok (looked.NotWritten m)) (at p q n) e = let z : ◌≡◌ {A = ℕ} 0 1 = cc in absurd (omega arith)
looked_is (Ok (looked.NotWritten m)) (nowhere n) e = cc
looked_is (Ok (looked.NotWritten m)) unnamed e = let z : ◌≡◌ {A = ℕ} 0 1 = cc in absurd (omega arith)
looked_is (Err r) (at p q n) e = let z : ◌≡◌ {A = ℕ} 0 1 = cc in absurd (omega arith)
looked_is (Err r) (nowhere n) e = let z : ◌≡◌ {A = ℕ} 0 1 = cc in absurd (omega arith)
looked_is (Err r) unnamed e = refl
