-- A listing's bytes, read back record by record, are the lines that document 01 prints. Assumes nothing.
use mathlib.Core.Path.{◌≡◌, refl, sym, ap, ◌∙◌}
use mathlib.Core.List.{List, [], ◌∷◌, ◌++◌, flatten, append_assoc, append-nil}
use mathlib.Core.Option.{Option, none as nothing, some}
use mathlib.Core.Bool.{Bool, true, false, ◌&&◌, false≢true}
use Prim.Native.Nat.{ℕ, zero, suc, ◌+◌, ◌*◌, ◌/◌, ◌%◌, ◌≤◌, ◌<◌}
use native.Mathlib.Omega.{arith}
use native.Mathlib.Numerals.{add-one}
use borrow.Author.Tests.{leb-true, eqb-true, eqb-false, ne_eqb, not-false}
use lib.Dec.{leb, eqb}
use lib.ListN.{length, get_or, drop, length-append}
use lib.Seq.{get_or-drop}
use Rattle.model.specs.Lists.{store, all, or_else}
use Rattle.model.specs.Record as model
use Rattle.model.specs.Record.{Kind, accurate, approximate, kind}
use Rattle.model.specs.Levels.{Level, Group, record_count}
use Rattle.model.specs.State.{State, group_at}
use Rattle.model.specs.Sound.{is_filled, sound_as, sound_record, sound_group}
use Rattle.model.proofs.Bools.{and_l, all_head, all_tail}
use Rattle.model.proofs.SoundRecord.{record_parts}
use Rattle.model.proofs.SoundGroup.{group-parts}
use Rattle.octets.specs.Little.{le16, le32, le32s, bytes2, bytes4}
use Rattle.octets.proofs.Stores.{replaced}
use Rattle.octets.proofs.Same.{Same, same_first, same_inner}
use Rattle.octets.proofs.ReadWrite.{le16_same}
use Rattle.record.specs.Read.{bare}
use Rattle.record.specs.Coding.{record_at, eight, InEight}
use Rattle.record.proofs.Words.{kind_even, kind_odd}
use Rattle.record.proofs.Coding.{record_same, decode-encode}
use Rattle.calls.specs.Refusals.{Refusal, refusal_number, first_refusal}
use Rattle.calls.specs.Outcome.{Lent, listed, number, Outcome, outcome, unless}
use Rattle.calls.specs.Compaction.{compact_checks, compact_done}
use Rattle.calls.specs.Listing.{record_bytes, level_bytes, group_bytes, listing_length, list_checks, list_done}
use Rattle.calls.specs.History.{Call, compact_call, list_call, lend, lent_to, checks_of, effect, run}
use Rattle.calls.specs.Bounds.{Bounded}
use Rattle.calls.proofs.Decided.{Decided, refuses, accepts, decided}
use Rattle.calls.proofs.Refusing.{right-length, clears}
use Rattle.answers.specs.Answers.{refusal_of, answer_by, list_answer}
use Rattle.std.specs.Prelude.{Ok, Err}
use Rattle.state.specs.Reading.{read_state}
use Rattle.state.specs.Ran.{Slices, listing_slices, Ran}
use Rattle.state.proofs.Bounds.{ran_bounded}
use Rattle.lines.specs.Printed.{ascii, head_line, line_for, refused_line, Laid}
use Rattle.lines.proofs.Texts.{laid_as, laid_then}
use Rattle.listing.specs.Session.{level_lines, group_lines, list_print}
use Rattle.listing.specs.Listing.{lines_in}
use Rattle.listing.proofs.Each.{Each, none, more}
use Rattle.listing.proofs.Parts.{refusal-numbered}
use Rattle.listing.proofs.Replies.{laid_nothing}
use Rattle.listing.proofs.Signed.{Signed, signed-state}

-- a record's numbers fit its eight bytes
abbrev Fitting : model.Record → Type 0
Fitting r = InEight (bare r) × Signed r

-- the line of the record in the ten bytes at p
abbrev line_at : List ℕ → ℕ → List ℕ
line_at b p = line_for (le16 b (p + 8)) (record_at b p)

-- bytes that are alike have the same line
line_same : {s t : List ℕ} {p q : ℕ} → Same 10 s p t q → line_at s p ≡ line_at t q
line_same a = rw (le16_same (same_inner 8 2 (omega arith) a), record_same (same_first 8 (omega arith) a))

-- one record further on
line-behind : (b : List ℕ) (n : ℕ) → line_at (drop 10 b) (10 * n) ≡ line_at b (10 * suc n)
line-behind b n =
    line_same (record { each = λ k h. get_or-drop 10 b (10 * n + k) 0 ∙ ap (λ (i : ℕ). get_or b i 0) (let e : 10 + (10 * n + k) ≡ 10 * suc n + k = omega arith in e) })

-- one more line
lines_more : (n : ℕ) (b : List ℕ) → lines_in (suc n) b ≡ lines_in n b ++ line_at b (10 * n)
unfolding lines_in
lines_more zero b = append-nil (line_at b 0)
lines_more (suc n) b =
    ap (λ (l : List ℕ). line_at b 0 ++ l) (lines_more n (drop 10 b) ∙ ap (λ (l : List ℕ). lines_in n (drop 10 b) ++ l) (line-behind b n))
    ∙ sym (append_assoc (line_at b 0) (lines_in n (drop 10 b)) (line_at b (10 * suc n)))

-- the head line has 35 characters
pub head_length_lem : {s t : List ℕ} {q : ℕ} → Laid s t 0 q head_line → q ≡ 35
unfolding head_line ascii
head_length_lem a = a.next

-- no line laid out yet
pub no_lines : (s b : List ℕ) (p : ℕ) → p ≤ length s → Laid s s p p (lines_in 0 b)
unfolding lines_in
no_lines s b p h = laid_nothing s p h

-- one more
pub lines_laid : {s t u : List ℕ} {p q r : ℕ} (i : ℕ) (b : List ℕ) → Laid s t p q (lines_in i b) → Laid t u q r (line_at b (10 * i)) → Laid s u p r (lines_in (i + 1) b)
lines_laid i b a l = laid_as (sym (ap (λ (n : ℕ). lines_in n b) (add-one i) ∙ lines_more i b)) (laid_then a l)

-- the ten bytes of a record and its level
first_line : (n : ℕ) (r : model.Record) (rest : List ℕ) → n < 65536 → Fitting r → line_at (record_bytes r ++ bytes2 n ++ rest) 0 ≡ line_for n (bare r)
unfolding record_at record_bytes eight bytes2 bytes4 le16 le32 le32s store
first_line n r rest h f =
    let e : n % 256 + 256 * (n / 256 % 256) ≡ n = omega arith in
    ap (λ (m : ℕ). line_for m (record_at (eight (bare r)) 0)) e ∙ ap (line_for n) (decode-encode (bare r) f.0 f.1 (eight (bare r)) 0 (omega arith))

-- level n, before later records
level_lines_lem : (n : ℕ) (l : Level) (later : List model.Record) (bytes text : List ℕ) → n < 65536 → Each Fitting (l ++ later)
    → (Each Fitting later → lines_in (length later) bytes ≡ text) → lines_in (length (l ++ later)) (level_bytes n l ++ bytes) ≡ level_lines n l ++ text
unfolding lines_in level_bytes level_lines record_bytes bytes2 bytes4
level_lines_lem n [] later bytes text h f k = k f
level_lines_lem n (r ∷ l) later bytes text h (more a f) k =
    ap (λ (x : List ℕ). x ++ lines_in (length (l ++ later)) (level_bytes n l ++ bytes)) (first_line n r (level_bytes n l ++ bytes) h a)
    ∙ ap (λ (x : List ℕ). line_for n (bare r) ++ x) (level_lines_lem n l later bytes text h f k)
    ∙ sym (append_assoc (line_for n (bare r)) (level_lines n l) text)

-- the levels from n on
group_lines_lem : (n : ℕ) (g : Group) (rest : List ℕ) → n + length g ≤ 65536 → Each Fitting (flatten g) → lines_in (length (flatten g)) (group_bytes n g ++ rest) ≡ group_lines n g
unfolding lines_in group_bytes group_lines flatten
group_lines_lem n [] rest h f = refl
group_lines_lem n (l ∷ g) rest h f =
    ap (lines_in (length (l ++ flatten g))) (append_assoc (level_bytes n l) (group_bytes (suc n) g) rest)
    ∙ level_lines_lem n l (flatten g) (group_bytes (suc n) g ++ rest) (group_lines (suc n) g) (omega arith) f (λ k. group_lines_lem (suc n) g rest (omega arith) k)

-- "words as tabled": at most 2 × 256 + 1
sound-word : (N k : ℕ) (r : model.Record) → sound_record N k r ≡ true → r.word < 65536
unfolding sound_as
sound-word N k r h = go (eqb r.word 0) (eqb (r.word % 2) 1) refl refl (record_parts N k r h).shape
  where
    go : (z t : Bool) → eqb r.word 0 ≡ z → eqb (r.word % 2) 1 ≡ t → sound_as (kind r) r ≡ true → r.word < 65536
    go true t e f s = let q : r.word ≡ 0 = eqb-true _ _ e in omega arith
    go false true e f s =
        let q : sound_as (approximate (r.word / 2)) r ≡ true = ap (λ (c : Kind). sound_as c r) (sym (kind_odd r.word (eqb-true _ _ f))) ∙ s in
        let b : r.word / 2 ≤ 256 = leb-true _ _ (and_l (leb (r.word / 2) 256) _ q) in
        omega arith
    go false false e f s =
        let q : sound_as (accurate (r.word / 2)) r ≡ true = ap (λ (c : Kind). sound_as c r) (sym (kind_even r.word (eqb-false _ _ e) (eqb-false _ _ f))) ∙ s in
        let b : r.word / 2 ≤ 255 = leb-true _ _ (and_l (leb (r.word / 2) 255) _ (and_l (leb (r.word / 2) 255 && eqb (r.span % (r.word / 2)) 0) _ q)) in
        omega arith

-- sound records with intercepts of 32 bits fit
fitting : (N k : ℕ) (l : List model.Record) → all (sound_record N k) l ≡ true → Each Signed l → Each Fitting l
fitting N k [] h none = none
fitting N k (r ∷ l) h (more a f) =
    let s : sound_record N k r ≡ true = all_head (sound_record N k) r l h in
    let b : model.end r ≤ 255 = (record_parts N k r s).byte in
    more {x = r} ((omega arith, omega arith, sound-word N k r s), a) (fitting N k l (all_tail (sound_record N k) r l h) f)

-- a group without an empty level has no more levels than records
few-levels : (g : Group) → all is_filled g ≡ true → length g ≤ length (flatten g)
unfolding is_filled flatten
few-levels [] h = omega arith
few-levels ([] ∷ g) h = absurd (false≢true (all_head is_filled [] g h))
few-levels ((r ∷ l) ∷ g) h = omega (arith, few-levels g (all_tail is_filled (r ∷ l) g h), length-append l (flatten g))

-- as many bytes as records
length-level : (n : ℕ) (l : Level) → length (level_bytes n l) ≡ 10 * length l
unfolding level_bytes record_bytes bytes2 bytes4
length-level n [] = refl
length-level n (r ∷ l) = omega (arith, length-level n l)

length-group : (n : ℕ) (g : Group) → length (group_bytes n g) ≡ 10 * length (flatten g)
unfolding group_bytes flatten
length-group n [] = refl
length-group n (l ∷ g) = omega (arith, length-append (level_bytes n l) (group_bytes (suc n) g), length-append l (flatten g), length-level n l, length-group (suc n) g)

-- a sound group's bytes, stored at the start of what is lent, are read back as its lines
stored_lines : (N k : ℕ) (g : Group) (out : List ℕ) → sound_group N k g ≡ true → Each Signed (flatten g) → length out ≡ listing_length
    → lines_in (record_count g) (store out 0 (group_bytes 0 g)) ≡ group_lines 0 g
unfolding record_count
stored_lines N k g out s f e =
    let p = group-parts N k g s in
    let few : length (flatten g) ≤ 512 = p.limit in
    let long : 0 + length (group_bytes 0 g) ≤ length out = omega (arith, length-group 0 g) in
    ap (lines_in (length (flatten g))) (sym (replaced 0 out (group_bytes 0 g) long))
    ∙ group_lines_lem 0 g _ (omega (arith, few-levels g p.filled)) (fitting N k (flatten g) p.records f)

-- the call that lists, on a state and a buffer of the right length
module _ (s : State) (spare : List ℕ) (k : ℕ) (out : List ℕ) (fits : length out ≡ listing_length) where
  -- "refuses as compaction"
  checks_same : first_refusal (checks_of (list_call k out) (lent_to (list_call k out) s spare)) ≡ first_refusal (checks_of (compact_call k) (lent_to (compact_call k) s spare))
  unfolding checks_of lent_to lend list_checks compact_checks first_refusal or_else
  checks_same = rw (right-length out listing_length fits) refl

  number_same : number (run (list_call k out) s spare).answer ≡ number (run (compact_call k) s spare).answer
  unfolding run unless outcome effect list_done compact_done number
  number_same = rw checks_same (go (first_refusal (checks_of (compact_call k) (lent_to (compact_call k) s spare))))
    where
      go : (o : Option Refusal) → number (outcome o (lent_to (list_call k out) s spare) (effect (list_call k out) (lent_to (list_call k out) s spare))).answer
          ≡ number (outcome o (lent_to (compact_call k) s spare) (effect (compact_call k) (lent_to (compact_call k) s spare))).answer
      go nothing = refl
      go (some r) = refl

  -- where it is accepted, the group is sound and its bytes are written
  pub record Written (n : ℕ) (out' : List ℕ) : Type 0 where
    pub count : n ≡ record_count (group_at s k)
    pub sound : sound_group s.device.N k (group_at s k) ≡ true
    pub bytes : out' ≡ store out 0 (group_bytes 0 (group_at s k))

  written : (n : ℕ) (x : Lent) → listed n ≡ (run (list_call k out) s spare).answer → x ≡ (run (list_call k out) s spare).after → Written n x.out
  unfolding run checks_of lent_to lend list_checks effect list_done
  written n x a l = go (decided _ _ _) a l
    where
      go : {o : Outcome} → Decided (checks_of (list_call k out) (lent_to (list_call k out) s spare)) (lent_to (list_call k out) s spare) (effect (list_call k out) (lent_to (list_call k out) s spare)) o
          → listed n ≡ o.answer → x ≡ o.after → Written n x.out
      go (refuses r e) a l = let z : ◌≡◌ {A = ℕ} 0 1 = cc in absurd (omega arith)
      go (accepts e) a l =
          record {
            count = let q : n ≡ record_count (group_at s k) = cc in q;
            sound = not-false _ (clears _ e).1.1.1.1.0;
            bytes = ap (λ (y : Lent). y.out) l;
          }

-- what the program prints of it, from the bytes of a state
module _ (state spare : List ℕ) (k : ℕ) (out out' : List ℕ) (fits : length out ≡ listing_length) where
  abbrev print : List ℕ
  print = list_print (number (run (compact_call k) (read_state state) spare).answer) (group_at (read_state state) k)

  -- a group that is listed
  pub listed-print : (n : ℕ) → Ran (list_call k out) state spare (list_answer (Ok n)) (listing_slices state spare out') → head_line ++ lines_in n out' ≡ print
  unfolding list_print number answer_by
  listed-print n ran =
      let w = written (read_state state) spare k out fits n _ ran.answered ran.leaves in
      let e : number (run (compact_call k) (read_state state) spare).answer ≡ 0 = sym (number_same (read_state state) spare k out fits) ∙ sym (ap number ran.answered) in
      ap (λ (l : List ℕ). head_line ++ l)
      (rw (w.count, w.bytes) (stored_lines (read_state state).device.N k (group_at (read_state state) k) out w.sound (signed-state state k) fits))
      ∙ sym (ap (λ (m : ℕ). list_print m (group_at (read_state state) k)) e)

  -- a refusal
  pub refused-print : (q : _) → Ran (list_call k out) state spare (list_answer (Err q)) (listing_slices state spare out') → refused_line (refusal_number (refusal_of q)) ≡ print
  unfolding list_print number answer_by
  refused-print q ran =
      let r : Refusal = refusal_of q in
      let e : number (run (compact_call k) (read_state state) spare).answer ≡ refusal_number r = sym (number_same (read_state state) spare k out fits) ∙ sym (ap number ran.answered) in
      sym (ap (λ (m : ℕ). list_print m (group_at (read_state state) k)) e ∙ rw (ne_eqb (refusal_number r) 0 (refusal-numbered r), list_print))

-- a listing has at most 512 records
pub few-records : {c : Call} {state spare : List ℕ} {left : Slices} (n : ℕ) → Ran c state spare (list_answer (Ok n)) left → n ≤ 512
unfolding Bounded answer_by
few-records n ran = ran_bounded ran
