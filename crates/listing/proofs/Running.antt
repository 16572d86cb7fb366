-- A run: the bytes that have come since its start are the script's first ones, and what they print was handed over. Where a script is known
-- and short enough, the run takes all of it. A failed read or write leaves the session of some script. Assumes nothing.
use mathlib.Core.Path.{◌≡◌, refl, sym, ap, ◌∙◌}
use mathlib.Core.List.{List, [], ◌∷◌, ◌++◌, append-nil}
use Prim.Native.Nat.{ℕ, ◌+◌, ◌-◌, ◌^◌, ◌≤◌, ◌<◌}
use native.Mathlib.Omega.{arith}
use lib.ListN.{length, get_or, take, length-append}
use lib.Seq.{length-take-le}
use Rattle.std.specs.Prelude.{None, Some, IfSome, Ok, OnOk, OnErr}
use Rattle.std.proofs.Common.{Result, Err}
use Rattle.std.specs.declared.option.Option.{Option}
use Rattle.std.specs.Io.KnownBytes.{Appends, Consumes, IsAtEnd}
use Rattle.std.proofs.KnownBytes.{Consumes-nil, Consumes-trans, Appends-nil, Appends-trans}
use Rattle.model.proofs.Lists.{store-front, length-store}
use Rattle.lines.specs.Printed.{Laid}
use Rattle.listing.specs.declared.lent.Held.{Held}
use Rattle.listing.specs.Session.{transcript}
use Rattle.listing.specs.Memory.{in_use, InMemory}
use Rattle.listing.specs.Progress.{Cursor, Progress, start, fed, fed_prints, ending, progress, took, took_prints, Going, Stopped, Left, LeftBy}
use Rattle.listing.proofs.Bytes.{first}
use Rattle.listing.proofs.Transcript.{Came, came_first, came_more, came_all, came-session, came-prints, prints_then, fed_next, prints_next}

-- what was laid out at the buffer's start is its front
pub laid-front : {s t : List ℕ} {n : ℕ} {text : List ℕ} → Laid s t 0 n text → take n t ≡ text
laid-front {s = s} {n = n} {text = text} l =
    let e : n ≡ length text = omega (arith, l.next) in
    rw (l.stored, e) (store-front s text (omega (arith, l.next, l.inside)))

-- and lies inside the buffer
pub laid-inside : {s t : List ℕ} {n : ℕ} {text : List ℕ} → Laid s t 0 n text → n ≤ length t
laid-inside {s = s} {text = text} l = omega (arith, l.inside, ap length l.stored ∙ length-store s 0 text)

-- one byte more: where the session stands, and what was handed over
module _ (bytes : List ℕ) (i : ℕ) (h : i < length bytes) (p : Progress) {q : Progress} (e : q ≡ fed (take i bytes) p) where
  pub fed_on : {r : Progress} → r ≡ took (get_or bytes i 0) q → r ≡ fed (take (i + 1) bytes) p
  fed_on f = f ∙ ap (took (get_or bytes i 0)) e ∙ sym (fed_next bytes i p h)

  pub prints_on : {s t : List ℕ} {n : ℕ} (a b c : Option (List ℕ)) → Appends a b (fed_prints (take i bytes) p) → Laid s t 0 n (took_prints (get_or bytes i 0) q)
      → Appends b c (take n t) → Appends a c (fed_prints (take (i + 1) bytes) p)
  prints_on a b c x l y =
      rw (prints_next bytes i p h, ← e, ← laid-front l) (Appends-trans a b c _ _ x y)

-- what is so of the end is so where there was no error
pub on_ok : {T E : Type 0} (r : Result T E) (P : Type 0) → P → OnOk r P
on_ok (Ok x) P h = h
on_ok (Err e) P h = tt

-- what is so of the end is so where there was an error
pub on_err : {T E : Type 0} (r : Result T E) (P : Type 0) → P → OnErr r P
on_err (Ok x) P h = tt
on_err (Err e) P h = h

-- where something has come, some script leaves the session
pub left_here : (c : Cursor) (line state spare out : List ℕ) → Going c line state spare out → Came (progress c line state spare) → Left state spare
left_here c line state spare out g a =
    let s = came-session a in record { script = s.0; held = c.held; ready = g.ready; session = s.1 }

-- the same where a write failed
pub left_stopped : (bytes : List ℕ) (p : Progress) (line state spare out : List ℕ) → Came p → Stopped bytes p line state spare out → Left state spare
left_stopped bytes p line state spare out a s =
    left_here s.cursor line state spare out s.going (came_more _ (take s.taken bytes) a s.leaves)

-- How far a run is: what has come, what it prints, and that each turn so far took a byte at least.
pub record Ran (p : Progress) (turns : ℕ) (read₀ read wrote₀ wrote : Option (List ℕ)) : Type 0 where
  pub came : Came p
  pub consumed : Consumes read₀ read came.script
  pub printed : Appends wrote₀ wrote (fed_prints came.script start)
  pub turned : turns ≤ length came.script

-- nothing at first
pub ran_first : (line state spare : List ℕ) (read wrote : Option (List ℕ)) → Ran (progress first line state spare) 0 read read wrote wrote
unfolding fed_prints came_first
ran_first line state spare read wrote =
    record { came = came_first line state spare; consumed = Consumes-nil read; printed = Appends-nil wrote; turned = omega arith }

module _ {p : Progress} {turns : ℕ} {read₀ read wrote₀ wrote : Option (List ℕ)} where
  -- more
  pub ran_more : (q : Progress) (read' wrote' : Option (List ℕ)) (bytes : List ℕ) → Ran p turns read₀ read wrote₀ wrote → q ≡ fed bytes p → 1 ≤ length bytes
      → Consumes read read' bytes → Appends wrote wrote' (fed_prints bytes p) → Ran q (turns + 1) read₀ read' wrote₀ wrote'
  unfolding came_more
  ran_more q read' wrote' bytes r e some c a =
      record {
        came = came_more q bytes r.came e;
        consumed = Consumes-trans read₀ read read' _ _ r.consumed c;
        printed =
            rw (prints_then r.came.script bytes start, ← r.came.here) (Appends-trans wrote₀ wrote wrote' _ _ r.printed a);
        turned = omega (arith, r.turned, some, length-append r.came.script bytes);
      }

-- a read that came to something
pub some-taken : (n : ℕ) (input : List ℕ) → (n ≡ 0 → ⊥) → n ≤ length input → 1 ≤ length (take n input)
some-taken n input h k = omega (arith, h, length-take-le n input k)

-- The end of the input: where the script is known and the buffer has room, all of it has come.
pub record Whole (room : ℕ) (p : Progress) (read₀ wrote₀ wrote : Option (List ℕ)) : Type 0 where
  pub came : Came p
  pub printed : Appends wrote₀ wrote (fed_prints came.script start)
  pub all : IfSome read₀ (λ bytes. 0 < room → length bytes < 2 ^ 64 → bytes ≡ came.script)

-- a list of no length
none : (l : List ℕ) → length l ≡ 0 → l ≡ []
none [] e = refl
none (x ∷ l) e = absurd (let z : ⊥ = omega (arith, e) in z)

-- the reader was at its end
at_end : (room : ℕ) (a b c : Option (List ℕ)) (script : List ℕ) → Consumes a b script → Consumes b c [] → (0 < room → IsAtEnd c)
    → IfSome a (λ bytes. 0 < room → length bytes < 2 ^ 64 → bytes ≡ script)
at_end room None b c script p q e = tt
at_end room (Some x) None c script p q e = absurd p
at_end room (Some x) (Some y) None script p q e = absurd q
at_end room (Some x) (Some y) (Some z) script p q e = λ h _. p ∙ ap (λ l. script ++ l) (q ∙ e h) ∙ append-nil script

-- all turns were used, each of them for a byte at least
turned_all : (room : ℕ) (a b : Option (List ℕ)) (script : List ℕ) → Consumes a b script → 2 ^ 64 - 1 ≤ length script
    → IfSome a (λ bytes. 0 < room → length bytes < 2 ^ 64 → bytes ≡ script)
turned_all room None b script p h = tt
turned_all room (Some x) None script p h = absurd p
turned_all room (Some x) (Some y) script p h =
    λ _ k. p ∙ ap (λ l. script ++ l) (none y (omega (arith, h, k, ap length p, length-append script y))) ∙ append-nil script

module _ {p : Progress} {turns : ℕ} {read₀ read wrote₀ wrote : Option (List ℕ)} (room : ℕ) (r : Ran p turns read₀ read wrote₀ wrote) where
  pub whole_read : (read' : Option (List ℕ)) (n : ℕ) (input : List ℕ) → n ≡ 0 → length input ≡ room
      → Consumes read read' (take n input) × (n ≡ 0 → 0 < length input → IsAtEnd read') → Whole room p read₀ wrote₀ wrote
  whole_read read' n input e long c =
      record {
        came = r.came;
        printed = r.printed;
        all = at_end room read₀ read read' _ r.consumed (rw e at c.0) (λ h. c.1 e (omega (arith, h, long)));
      }

  pub whole_turned : 2 ^ 64 - 1 ≤ turns → Whole room p read₀ wrote₀ wrote
  whole_turned e =
      record { came = r.came; printed = r.printed; all = turned_all room read₀ read _ r.consumed (omega (arith, r.turned, e)) }

-- what is so of a known script
if_some : (o : Option (List ℕ)) (P Q : List ℕ → Type 0) → IfSome o P → ((l : List ℕ) → P l → Q l) → IfSome o Q
if_some None P Q h f = tt
if_some (Some l) P Q h f = f l h

module _ {room : ℕ} {p : Progress} {read₀ wrote₀ wrote : Option (List ℕ)} (w : Whole room p read₀ wrote₀ wrote) where
  -- it leaves its session
  pub whole-left : (h : Held) (state spare : List ℕ) → InMemory h state spare → in_use h state spare ≡ (ending p).left
      → IfSome read₀ (λ bytes. 0 < room → length bytes < 2 ^ 64 → LeftBy bytes state spare)
  whole-left h state spare m e =
      if_some read₀ _ _ w.all
      (λ bytes same some short. record { held = h; ready = m; session = rw (same some short) (e ∙ came_all w.came) })

  -- and prints its transcript
  pub whole-prints : (wrote' : Option (List ℕ)) → Appends wrote wrote' (ending p).printed
      → IfSome read₀ (λ bytes. 0 < room → length bytes < 2 ^ 64 → Appends wrote₀ wrote' (transcript bytes))
  whole-prints wrote' a =
      if_some read₀ _ _ w.all
      (λ bytes same some short. rw (same some short, ← came-prints w.came) (Appends-trans wrote₀ wrote wrote' _ _ w.printed a))
