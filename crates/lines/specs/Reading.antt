-- What the code's values stand for: an operation's number, what reading a line answers, and the numbers that are stored. Assumes nothing.
use Rattle.std.specs.Prelude.{List, [], ◌∷◌, Bool, true, false, not, cond, ℕ, zero, suc, eqb, length}
use Rattle.std.specs.Prelude as code
use Rattle.std.proofs.Math.Option.{Option, none, some}
use Rattle.lines.specs.Script.{number_in, field_at, ScriptLine, call, bad}
use Rattle.lines.specs.declared.read.Call.{Call}
use Rattle.lines.specs.declared.read.Operation.{Operation}
use Rattle.lines.specs.declared.read.Operation.TheVariants.{Format, Flush, LookUp, Collect, Compact, List as ListGroup}

-- "(1 format, 2 flush, 3 lookup, 4 collection, 5 compaction, 6 list)"
unfoldable pub number_of_operation : Operation → ℕ
number_of_operation Format = 1
number_of_operation Flush = 2
number_of_operation LookUp = 3
number_of_operation Collect = 4
number_of_operation Compact = 5
number_of_operation ListGroup = 6

-- the operation of a number, if it is one's
unfoldable pub operation_of : ℕ → code.Option Operation
operation_of n =
    cond (eqb n 1) (code.Some Format)
    (cond (eqb n 2) (code.Some Flush)
    (cond (eqb n 3) (code.Some LookUp)
    (cond (eqb n 4) (code.Some Collect)
    (cond (eqb n 5) (code.Some Compact)
    (cond (eqb n 6) (code.Some ListGroup)
    code.None)))))

-- an operation with a count of numbers
unfoldable pub call_with : ℕ → code.Option Operation → code.Option Call
call_with count (code.Some o) = code.Some (record { operation = o; count = count })
call_with count code.None = code.None

-- what reading a line answers: the operation and how many numbers it has; none for a bad line
unfoldable pub line_answer : ScriptLine → code.Option Call
unfolding operation_of call_with
line_answer (call op ns) = call_with (length ns) (operation_of op)
line_answer bad = code.None

-- a character that is no blank
abbrev pub other : ℕ → Bool
other c = not (eqb c 32)

-- something is there
unfoldable pub is_there : {A : Type 0} → Option A → Bool
is_there (some a) = true
is_there none = false

-- a number that is there, otherwise 0
unfoldable pub value_of : Option ℕ → ℕ
value_of (some n) = n
value_of none = 0

-- the values of k fields from field i on
unfoldable pub values_from : List ℕ → ℕ → ℕ → List ℕ
unfolding value_of number_in
values_from l i zero = []
values_from l i (suc k) = value_of (number_in (field_at l i)) ∷ values_from l (suc i) k
