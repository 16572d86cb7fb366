-- What a line is, test by test, and what its reading stores. Assumes nothing.
use mathlib.Core.Path.{◌≡◌, refl, sym, ap, ◌∙◌}
use mathlib.Core.List.{List}
use mathlib.Core.Option.{Option, none, some}
use mathlib.Core.Bool.{Bool, true, false, cond, false≢true}
use Prim.Native.Nat.{ℕ, ◌-◌, ◌%◌, ◌≤◌, ◌<◌}
use native.Mathlib.Omega.{arith}
use borrow.Author.Tests.{leb-true, eqb-true, eqb-false, le-leb, lt-leb, eq-eqb, ne_eqb}
use lib.Dec.{eqb}
use Rattle.std.proofs.lemmas.Bool.Decides.{nat_tests}
use lib.ListN.{length}
use Rattle.model.specs.Lists.{store}
use Rattle.model.proofs.Lists.{store_nil}
use Rattle.lines.specs.Script.{operation_in, numbers_from, in_columns, field_count, takes, ScriptLine, call, bad, called, line_of, numbers_of}
use Rattle.std.specs.Prelude as code
use Rattle.lines.specs.declared.read.Call.{Call}
use Rattle.lines.specs.declared.read.Operation.{Operation}
use Rattle.lines.specs.Reading.{number_of_operation, operation_of, call_with, line_answer, is_there, values_from}
use Rattle.lines.proofs.Fields.{not_there, numbers-values, length-values}

-- without an operation a line is bad
called_none : (o : Option (List ℕ)) → called none o ≡ bad
unfolding called
called_none o = refl

-- without all its numbers a line is bad
called_other : (o : Option ℕ) → called o none ≡ bad
unfolding called
called_other (some op) = refl
called_other none = refl

-- with both, the operation decides by how many numbers it takes
called-length : (op : ℕ) (ns : List ℕ) (t : Bool) → takes op (length ns) ≡ t → called (some op) (some ns) ≡ elim t [ true ↦ call op ns | false ↦ bad ]
unfolding called
called-length op ns t e = rw (e, called)

module _ (l : List ℕ) where
  -- a line without its first 2 columns is bad
  pub too_short_lem : length l < 2 → line_of l ≡ bad
  unfolding line_of in_columns
  too_short_lem h = rw (lt-leb 2 (length l) h, line_of)

  module _ (long : 2 ≤ length l) where
    -- a line that ends inside a field is bad
    pub part_field : ((length l - 2) % 8 ≡ 0 → ⊥) → line_of l ≡ bad
    unfolding line_of in_columns
    part_field n = rw (le-leb 2 (length l) long, ne_eqb ((length l - 2) % 8) 0 n, line_of)

    module _ (whole : (length l - 2) % 8 ≡ 0) where
      -- any other is decided by its operation and its numbers
      in_columns_lem : line_of l ≡ called (operation_in l) (numbers_from l 0 (field_count l))
      unfolding line_of in_columns
      in_columns_lem = rw (le-leb 2 (length l) long, eq-eqb ((length l - 2) % 8) 0 whole, line_of)

      -- no number stands in the first 2 columns
      pub no_operation : operation_in l ≡ none → line_of l ≡ bad
      no_operation e = in_columns_lem ∙ ap (λ (o : Option ℕ). called o (numbers_from l 0 (field_count l))) e ∙ called_none (numbers_from l 0 (field_count l))

      -- a field holds no number
      pub no_numbers : is_there (numbers_from l 0 (field_count l)) ≡ false → line_of l ≡ bad
      no_numbers e = in_columns_lem ∙ ap (λ (o : Option (List ℕ)). called (operation_in l) o) (not_there (numbers_from l 0 (field_count l)) e) ∙ called_other (operation_in l)

      -- each field holds a number: the operation decides
      decided : (op : ℕ) (t : Bool) → operation_in l ≡ some op → is_there (numbers_from l 0 (field_count l)) ≡ true → takes op (field_count l) ≡ t
          → line_of l ≡ elim t [ true ↦ call op (values_from l 0 (field_count l)) | false ↦ bad ]
      decided op t o n k =
          in_columns_lem
          ∙ rw (o, numbers-values l 0 (field_count l) n)
          (called-length op (values_from l 0 (field_count l)) t (ap (takes op) (length-values l 0 (field_count l)) ∙ k))

      -- the operation takes another count of numbers
      pub other_count : (op : ℕ) → operation_in l ≡ some op → takes op (field_count l) ≡ false → line_of l ≡ bad
      other_count op o k = go (is_there (numbers_from l 0 (field_count l))) refl
        where
          go : (t : Bool) → is_there (numbers_from l 0 (field_count l)) ≡ t → line_of l ≡ bad
          go true e = decided op false o e k
          go false e = no_numbers e

      -- the operation takes as many numbers as the line has fields, and each holds one
      pub is_call : (op : ℕ) → operation_in l ≡ some op → takes op (field_count l) ≡ true → is_there (numbers_from l 0 (field_count l)) ≡ true → line_of l ≡ call op (values_from l 0 (field_count l))
      is_call op o k n = decided op true o n k

-- an operation takes at most 64 numbers
pub takes-few : (op n : ℕ) → takes op n ≡ true → n ≤ 64
unfolding takes
takes-few op n h =
    few (eqb op 1) (eqb-few 4 (omega arith))
    (few (eqb op 2) (leb-true n 64)
    (few (eqb op 3) (eqb-few 1 (omega arith))
    (few (eqb op 4) (eqb-few 0 (omega arith))
    (few (eqb op 5) (eqb-few 1 (omega arith))
    (few (eqb op 6) (eqb-few 1 (omega arith))
    (λ z. absurd (false≢true z))))))) h
  where
    eqb-few : (m : ℕ) → m ≤ 64 → eqb n m ≡ true → n ≤ 64
    eqb-few m k e = omega (arith, eqb-true n m e)

    few : (t : Bool) {a b : Bool} → (a ≡ true → n ≤ 64) → (b ≡ true → n ≤ 64) → cond t a b ≡ true → n ≤ 64
    few true f g = f
    few false f g = g

-- a line that is longer than 64 numbers behind an operation is bad
pub long-bad : (l : List ℕ) → 514 < length l → line_of l ≡ bad
long-bad l h = go (eqb ((length l - 2) % 8) 0) refl
  where
    many : (op : ℕ) (t : Bool) → takes op (field_count l) ≡ t → 64 < field_count l → takes op (field_count l) ≡ false
    many op true e k = absurd (omega (arith, takes-few op (field_count l) e))
    many op false e k = e

    decide : (o : Option ℕ) → operation_in l ≡ o → (length l - 2) % 8 ≡ 0 → line_of l ≡ bad
    decide none e w = no_operation l (omega arith) w e
    decide (some op) e w = other_count l (omega arith) w op e (many op (takes op (field_count l)) refl (omega arith))

    go : (t : Bool) → eqb ((length l - 2) % 8) 0 ≡ t → line_of l ≡ bad
    go true e = decide (operation_in l) refl (eqb-true _ _ e)
    go false e = part_field l (omega arith) (eqb-false _ _ e)

-- a number that is an operation's
pub operation-number : (n : ℕ) (o : Operation) → code.Some o ≡ operation_of n → n ≡ number_of_operation o
unfolding operation_of number_of_operation
operation-number n o e = grind (arith, nat_tests)

-- any other
pub no_operation-takes : (n count : ℕ) → code.None ≡ operation_of n → takes n count ≡ false
unfolding operation_of takes
no_operation-takes n count e = grind (arith, nat_tests)

-- what a reading answers and stores
module _ (l s : List ℕ) where
  -- a bad line stores nothing
  pub bad-read : line_of l ≡ bad → (code.None ≡ line_answer (line_of l)) × (s ≡ store s 0 (numbers_of (line_of l)))
  unfolding line_answer numbers_of
  bad-read e = rw e (refl, sym (store_nil s 0))

  -- a call stores its numbers
  pub call-read : (op count : ℕ) (o : Operation) (t vs : List ℕ) → line_of l ≡ call op vs → code.Some o ≡ operation_of op → t ≡ store s 0 vs → length vs ≡ count
      → (code.Some (record { operation = o; count = count }) ≡ line_answer (line_of l)) × (t ≡ store s 0 (numbers_of (line_of l)))
  unfolding line_answer call_with numbers_of
  call-read op count o t vs e n d k = rw e (rw (← n, k) (refl, d))

-- a call that is answered: the line has its operation's number, and as many numbers
call-answered : (m : ScriptLine) (a : Call) → code.Some a ≡ line_answer m → (m ≡ call (number_of_operation a.operation) (numbers_of m)) × (a.count ≡ length (numbers_of m))
unfolding line_answer call_with numbers_of
call-answered bad a e = let z : ◌≡◌ {A = ℕ} 0 1 = cc in absurd (omega arith)
call-answered (call op ns) a e = go (operation_of op) refl e
  where
    go : (o : code.Option Operation) → o ≡ operation_of op → code.Some a ≡ call_with (length ns) o → (call op ns ≡ call (number_of_operation a.operation) ns) × (a.count ≡ length ns)
    go (code.Some o) n e =
        let k : a ≡ record { operation = o; count = length ns } = cc in
        rw k (ap (λ (m : ℕ). call m ns) (operation-number op o n), refl)
    go code.None n e = let z : ◌≡◌ {A = ℕ} 0 1 = cc in absurd (omega arith)

-- a call's operation takes as many numbers as it has
called-takes : (o : Option ℕ) (p : Option (List ℕ)) (op : ℕ) (ns : List ℕ) → called o p ≡ call op ns → takes op (length ns) ≡ true
unfolding called
called-takes (some op') (some ns') op ns e = go (takes op' (length ns')) refl e
  where
    go : (t : Bool) → takes op' (length ns') ≡ t → elim t [ true ↦ call op' ns' | false ↦ bad ] ≡ call op ns → takes op (length ns) ≡ true
    go true h e = let p : op' ≡ op = cc in let q : ns' ≡ ns = cc in rw (← p, ← q) h
    go false h e = let z : ◌≡◌ {A = ℕ} 0 1 = cc in absurd (omega arith)
called-takes (some op') none op ns e = let z : ◌≡◌ {A = ℕ} 0 1 = cc in absurd (omega arith)
called-takes none p op ns e = let z : ◌≡◌ {A = ℕ} 0 1 = cc in absurd (omega arith)

pub call-takes : (l : List ℕ) (op : ℕ) (ns : List ℕ) → line_of l ≡ call op ns → takes op (length ns) ≡ true
unfolding line_of
call-takes l op ns e = go (in_columns l) e
  where
    go : (t : Bool) → elim t [ true ↦ called (operation_in l) (numbers_from l 0 (field_count l)) | false ↦ bad ] ≡ call op ns → takes op (length ns) ≡ true
    go true e = called-takes (operation_in l) (numbers_from l 0 (field_count l)) op ns e
    go false e = let z : ◌≡◌ {A = ℕ} 0 1 = cc in absurd (omega arith)

-- a line without an answer is bad
pub no_answer : (l : List ℕ) → code.None ≡ line_answer (line_of l) → line_of l ≡ bad
unfolding line_answer call_with
no_answer l e = go (line_of l) refl e
  where
    other : (op : ℕ) (ns : List ℕ) (o : code.Option Operation) → takes op (length ns) ≡ true → o ≡ operation_of op → code.None ≡ call_with (length ns) o → call op ns ≡ bad
    other op ns (code.Some o) t n e = let z : ◌≡◌ {A = ℕ} 0 1 = cc in absurd (omega arith)
    other op ns code.None t n e = absurd (false≢true (sym (no_operation-takes op (length ns) n) ∙ t))

    go : (m : ScriptLine) → line_of l ≡ m → code.None ≡ line_answer m → line_of l ≡ bad
    go bad k e = k
    go (call op ns) k e = k ∙ other op ns (operation_of op) (call-takes l op ns k) refl e

-- What a line with an answer is: a call of that operation, with as many numbers, of which there are few.
pub record Answered (l : List ℕ) (a : Call) : Type 0 where
  pub is_call : line_of l ≡ call (number_of_operation a.operation) (numbers_of (line_of l))
  pub count : a.count ≡ length (numbers_of (line_of l))
  pub few : a.count ≤ 64

pub answered : (l : List ℕ) (a : Call) → code.Some a ≡ line_answer (line_of l) → Answered l a
answered l a e =
    let k = call-answered (line_of l) a e in
    record { is_call = k.0; count = k.1; few = omega (arith, takes-few _ _ (call-takes l _ _ k.0), k.1) }
