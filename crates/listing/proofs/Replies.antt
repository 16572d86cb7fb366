-- What the code answers to a line is the line's reply: a bad line, a format, a listing, a call. Assumes nothing.
use mathlib.Core.Path.{◌≡◌, refl, sym, ap, ◌∙◌}
use mathlib.Core.List.{List, []}
use Prim.Native.Nat.{ℕ, ◌≤◌}
use native.Mathlib.Omega.{arith}
use borrow.Author.Tests.{ne_eqb}
use lib.ListN.{length, get_or}
use Rattle.std.specs.Prelude.{Result, Ok, Err, ⊤}
use Rattle.calls.specs.Refusals.{refusal_number}
use Rattle.answers.specs.declared.Refusal.{Refusal}
use Rattle.answers.specs.Answers.{refusal_of}
use Rattle.model.specs.Device.{Device}
use Rattle.model.proofs.Lists.{store_nil}
use Rattle.lines.specs.Script.{call, bad, line_of}
use Rattle.lines.specs.Printed.{refused_line, bad_line, Laid}
use Rattle.lines.proofs.Texts.{laid_as}
use Rattle.listing.specs.declared.lent.Held.{Held}
use Rattle.listing.specs.Sizes.{spare_room, state_room}
use Rattle.listing.specs.Session.{Session, Reply, format_reply, refusal_print, call_reply, call_of, list_reply, device_of, operation_reply, reply, reply_to}
use Rattle.listing.specs.Memory.{Turn, in_use, refusal_in, InMemory, Beyond, Obeyed, Formats, Replied}
use Rattle.listing.proofs.Parts.{new_device_lem}
use Rattle.listing.proofs.Keeping.{call-ready}

-- an accepted call prints nothing
pub no_refusal : (n : ℕ) → n ≡ 0 → refusal_print n ≡ []
unfolding refusal_print
no_refusal n e = rw e

-- any other its refusal
pub a_refusal_lem : (n : ℕ) → (n ≡ 0 → ⊥) → refusal_print n ≡ refused_line n
unfolding refusal_print
a_refusal_lem n h = rw (ne_eqb n 0 h, refusal_print)

-- where nothing is printed, the buffer stays
pub laid_nothing : (out : List ℕ) (p : ℕ) → p ≤ length out → Laid out out p p []
laid_nothing out p h = record { stored = sym (store_nil out p); next = omega arith; inside = h }

-- what lies beyond stays where nothing changes
same_beyond : (s p : ℕ) (state spare : List ℕ) → Beyond s p state spare state spare
same_beyond s p state spare = record { bytes = refl; entries = refl }

-- the same reply, said otherwise
pub replied_as : {a b : Reply} {state spare out : List ℕ} {t : Turn} {state' spare' out' : List ℕ} → a ≡ b → Replied a state spare out t state' spare' out' → Replied b state spare out t state' spare' out'
replied_as e r = rw e at r

module _ (h : Held) (state spare out : List ℕ) where
  -- a line that leaves the memory as it is
  pub replied_same : (a : Reply) (n : ℕ) (out' : List ℕ) → InMemory h state spare → in_use h state spare ≡ a.left → Laid out out' 0 n a.printed
      → Replied a state spare out (record { held = h; laid = n }) state spare out'
  replied_same a n out' i e l = record { ready = i; leaves = e; beyond = same_beyond h.state h.spare state spare; prints = l }

  abbrev s : Session
  s = in_use h state spare

  -- a bad line
  pub replied_bad : (line : List ℕ) (n : ℕ) (out' : List ℕ) → InMemory h state spare → line_of line ≡ bad → Laid out out' 0 n bad_line
      → Replied (reply_to line s) state spare out (record { held = h; laid = n }) state spare out'
  unfolding reply
  replied_bad line n out' i e l = replied_as (sym (ap (λ (m : _). reply m s) e)) (replied_same (reply bad s) n out' i refl l)

  -- a format: a device that is taken, or any other
  pub replied_format : (d : Device) (a : Result ⊤ Refusal) (h' : Held) (n : ℕ) (state' spare' out' : List ℕ) → InMemory h state spare → Formats d h state spare a h' state' spare'
      → Laid out out' 0 n (refusal_print (refusal_in a)) → Replied (format_reply d s) state spare out (record { held = h'; laid = n }) state' spare' out'
  unfolding format_reply refusal_print refusal_in refusal_number refusal_of
  replied_format d (Ok x) h' n state' spare' out' i k l =
      rw (k.0, format_reply)
      (record {
        ready = k.2;
        leaves = rw k.1 (new_device_lem d state spare k.0 i.bytes i.entries 0 state' spare' (rw k.1 at k.3));
        beyond = k.3.beyond;
        prints = l;
      })
  replied_format d (Err r) h' n state' spare' out' i k l =
      let t = k.0 in
      let one : refusal_in (Err r) ≡ 1 = ap (λ (q : Refusal). refusal_in (Err q)) k.2 in
      rw (t.0, t.1, t.2, k.1, format_reply) (replied_same _ n out' i refl (laid_as (ap refusal_print one) l))

  -- a listing
  pub replied_list : (k n : ℕ) (out' : List ℕ) → InMemory h state spare → Laid out out' 0 n (list_reply k s).printed
      → Replied (list_reply k s) state spare out (record { held = h; laid = n }) state spare out'
  unfolding list_reply
  replied_list k n out' i l = replied_same (list_reply k s) n out' i refl l

  -- a call
  pub replied_call : (op : ℕ) (ns : List ℕ) (m n : ℕ) (state' spare' out' : List ℕ) → InMemory h state spare → length state' ≡ state_room → length spare' ≡ spare_room
      → Obeyed (call_of op ns s) h.state h.spare state spare m state' spare' → Laid out out' 0 n (refusal_print m)
      → Replied (call_reply (call_of op ns s) s) state spare out (record { held = h; laid = n }) state' spare' out'
  unfolding call_reply
  replied_call op ns m n state' spare' out' i long fits o l =
      record {
        ready = call-ready op ns h m state spare state' spare' i long fits o;
        leaves = rw (o.state_read, o.spare_left) refl;
        beyond = o.beyond;
        prints = laid_as (ap refusal_print o.numbered) l;
      }

-- which reply an operation has
module _ (line : List ℕ) (op : ℕ) (ns : List ℕ) (s : Session) (e : line_of line ≡ call op ns) where
  operation : reply_to line s ≡ operation_reply op ns s
  unfolding reply
  operation = ap (λ (m : _). reply m s) e

  pub is_format : op ≡ 1 → format_reply (device_of ns) s ≡ reply_to line s
  unfolding operation_reply
  is_format k = sym (operation ∙ rw k)

  pub is_list : op ≡ 6 → list_reply (get_or ns 0 0) s ≡ reply_to line s
  unfolding operation_reply
  is_list k = sym (operation ∙ rw k)

  pub is_other : (op ≡ 1 → ⊥) → (op ≡ 6 → ⊥) → call_reply (call_of op ns s) s ≡ reply_to line s
  unfolding operation_reply
  is_other a b = sym (operation ∙ rw (ne_eqb op 1 a, ne_eqb op 6 b))
