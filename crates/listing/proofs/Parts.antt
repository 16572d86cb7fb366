-- A call on the parts in use: what it promises of the parts it promises of the memory. Assumes nothing.
use mathlib.Core.Path.{◌≡◌, refl, sym, ap, subst, ◌∙◌}
use mathlib.Core.List.{List, [], ◌∷◌, ◌++◌}
use mathlib.Core.Bool.{true}
use Prim.Native.Nat.{ℕ, zero, suc, ◌≤◌}
use native.Mathlib.Omega.{arith}
use lib.ListN.{length, get_or, take, drop, replicate, length-append, length-drop}
use lib.Seq.{length-take-le, take_at, drop_at}
use borrow.Author.Tests.{eq-eqb}
use Rattle.std.specs.Prelude.{Some, Result, Err, ⊤}
use Rattle.model.specs.Device.{Device, within_limits, state_length, spare_length}
use Rattle.calls.specs.Outcome.{Lent, Answer, number, Outcome}
use Rattle.calls.specs.Refusals as calls
use Rattle.calls.specs.Refusals.{refusal_number}
use Rattle.calls.specs.Format.{format_checks, format_done, blank_state}
use Rattle.calls.specs.History.{Call, format_call, flush_call, lookup_call, collect_call, compact_call, lend, lent_to, checks_of, effect, run}
use Rattle.calls.proofs.Decided.{unless-accepts}
use Rattle.calls.proofs.Refusing.{right-length, is_clear, numbered-refused}
use Rattle.state.specs.Reading.{read_state}
use Rattle.state.specs.Ran.{Slices, Ran}
use Rattle.listing.specs.Session.{Session, takes_device, call_of, new_device}
use Rattle.answers.specs.declared.Refusal.{Refusal}
use Rattle.answers.specs.declared.Looked.{Looked}
use Rattle.answers.specs.declared.Looked.TheVariants.{Found, NotWritten}
use Rattle.answers.specs.Answers.{refusal_of, answer_by, found_or_not}
use Rattle.listing.specs.Memory.{in_use, held_by, refusal_in, Obeyed, Takes}
use Rattle.listing.specs.declared.lent.Held.{Held}
use Rattle.listing.proofs.Room.{Inside, taken-within, inside, room}
use Rattle.listing.specs.Sizes.{spare_room, state_room}

-- the first n elements are n
pub front_length : {A : Type 0} (n : ℕ) (l : List A) → n ≤ length l → n ≡ length (take n l)
front_length n l h = sym (length-take-le n l h)

-- a part that was lent and comes back is the front of the whole
pub front-back : {A : Type 0} (n : ℕ) (l back : List A) → n ≤ length l → length back ≡ length (take n l) → take n (back ++ drop n l) ≡ back
front-back n l back h k = take_at back (drop n l) n (k ∙ length-take-le n l h)

-- and what lies beyond it stays
pub rest_back : {A : Type 0} (n : ℕ) (l back : List A) → n ≤ length l → length back ≡ length (take n l) → drop n (back ++ drop n l) ≡ drop n l
rest_back n l back h k = drop_at back (drop n l) n (k ∙ length-take-le n l h)

-- the front of zeros
pub front_zeros : (n m : ℕ) → n ≤ m → take n (replicate m 0) ≡ replicate {A = ℕ} n 0
front_zeros zero m h = refl
front_zeros (suc n) zero h = absurd (omega arith)
front_zeros (suc n) (suc m) h = ap (λ (l : List ℕ). 0 ∷ l) (front_zeros n m (omega arith))

-- the same call, said otherwise
pub obeyed_as : {c d : Call} {s p n : ℕ} {state spare state' spare' : List ℕ} → c ≡ d → Obeyed c s p state spare n state' spare' → Obeyed d s p state spare n state' spare'
obeyed_as e o = rw e at o

-- what a call promises of the parts
pub obeyed : {c : Call} {s p n : ℕ} {state spare state' spare' : List ℕ} {a : Answer} {left : Slices}
    → Ran c (take s state) (take p spare) a left → n ≡ number a → take s state' ≡ left.state → take p spare' ≡ left.spare
    → drop s state' ≡ drop s state → drop p spare' ≡ drop p spare → Obeyed c s p state spare n state' spare'
obeyed {a = a} r e f g bytes entries =
    record {
      numbered = e ∙ ap number r.answered;
      state_read = ap read_state f ∙ ap (λ (x : Lent). x.state) r.leaves;
      spare_left = g ∙ ap (λ (x : Lent). x.spare) r.leaves;
      refused_bytes = λ h. f ∙ r.refused_bytes (numbered-refused a (λ z. h (e ∙ z)));
      beyond = record { bytes = bytes; entries = entries };
    }

-- the same of the parts that the memory was split into
pub obeyed_split : {c : Call} {s p n : ℕ} {state spare front back entries rest front' entries' : List ℕ} {a : Answer} {left : Slices}
    → Ran c front entries a left → n ≡ number a → s ≤ length state → p ≤ length spare
    → front ≡ take s state → back ≡ drop s state → entries ≡ take p spare → rest ≡ drop p spare
    → front' ≡ left.state → entries' ≡ left.spare → length front' ≡ length front → length entries' ≡ length entries
    → Obeyed c s p state spare n (front' ++ back) (entries' ++ rest)
obeyed_split {s = s} {p = p} {state = state} {spare = spare} {front' = front'} {entries' = entries'} ran e hs hp f b en r fl el lf le =
    rw (b, r)
    (obeyed (rw (f, en) at ran) e
    (front-back s state front' hs (lf ∙ ap length f) ∙ fl)
    (front-back p spare entries' hp (le ∙ ap length en) ∙ el)
    (rest_back s state front' hs (lf ∙ ap length f))
    (rest_back p spare entries' hp (le ∙ ap length en)))

-- a part that was split off and comes back leaves the length
pub split-length : (s : ℕ) (state front back front' : List ℕ) → s ≤ length state → front ≡ take s state → back ≡ drop s state → length front' ≡ length front → length (front' ++ back) ≡ length state
split-length s state front back front' h f b l = omega (arith, length-append front' back, ap length f, ap length b, length-take-le s state h, length-drop s state, l)

-- a page that was looked up: the lookup is accepted
pub found-numbered : (x : Looked) → number (found_or_not x) ≡ 0
unfolding number found_or_not
found-numbered (Found f) = refl
found-numbered (NotWritten n) = refl

-- a refusal that is passed on
pub err-numbered : {A : Type 0} (f : A → Answer) (r x : Refusal) (b : Result ⊤ Refusal) → b ≡ Err x → x ≡ r → refusal_in b ≡ number (answer_by f (Err r))
unfolding number answer_by refusal_in
err-numbered f r x b e k = rw (e, k)

-- a refusal has a number from 1 on
pub refusal-numbered : (r : calls.Refusal) → refusal_number r ≡ 0 → ⊥
unfolding refusal_number
refusal-numbered calls.bad_numbers e = omega arith
refusal-numbered calls.bad_length e = omega arith
refusal-numbered calls.not_sound e = omega arith
refusal-numbered calls.out_of_range e = omega arith
refusal-numbered calls.bad_batch e = omega arith
refusal-numbered calls.no_free_block e = omega arith
refusal-numbered calls.not_named e = omega arith
refusal-numbered calls.nothing_to_gain e = omega arith

-- which call an operation is
module _ (op : ℕ) (ns : List ℕ) (h : Held) (s : Session) (first : ℕ) where
  pub is_flush : h.pages ≡ s.state.device.B → op ≡ 2 → flush_call ns (replicate h.pages 0) ≡ call_of op ns s
  unfolding call_of
  is_flush b e = rw (b, e)

  pub is_lookup : first ≡ get_or ns 0 0 → op ≡ 3 → lookup_call first ≡ call_of op ns s
  unfolding call_of
  is_lookup f e = rw (f, e)

  pub is_collection : h.pages ≡ s.state.device.B → h.blocks ≡ s.state.device.M → op ≡ 4
      → collect_call (replicate h.pages 0) (replicate h.blocks 0) ≡ call_of op ns s
  unfolding call_of
  is_collection b m e = rw (b, m, e)

  pub is_compaction : first ≡ get_or ns 0 0 → op ≡ 5 → compact_call first ≡ call_of op ns s
  unfolding call_of
  is_compaction f e = rw (f, e)

-- a format of the lengths that the device uses is accepted
format_done_lem : (d : Device) (state spare : List ℕ) → within_limits d ≡ true → length state ≡ state_length d → length spare ≡ spare_length d
    → run (format_call d) (read_state state) spare ≡ format_done d (lend (read_state state) spare [] [])
unfolding run lent_to checks_of effect format_checks lend read_state
format_done_lem d state spare within long fits =
    unless-accepts _ _ _ (is_clear _ (rw within, (rw (eq-eqb (length state) (state_length d) long), (right-length spare (spare_length d) fits, tt))))

-- A device that is taken, formatted in the lengths it uses.
module _ (d : Device) (state spare : List ℕ) (t : takes_device d ≡ true) (long : length state ≡ state_room) (fits : length spare ≡ spare_room) where
  -- the format of the parts in use
  parts-done : run (format_call d) (read_state (take (state_length d) state)) (take (spare_length d) spare)
      ≡ format_done d (lend (read_state (take (state_length d) state)) (take (spare_length d) spare) [] [])
  parts-done =
      let i : Inside d = inside d t in
      format_done_lem d (take (state_length d) state) (take (spare_length d) spare) (taken-within d t)
      (length-take-le (state_length d) state (omega (arith, i.state)))
      (length-take-le (spare_length d) spare (omega (arith, i.spare)))

  module _ (n : ℕ) (state' spare' : List ℕ) (o : Obeyed (format_call d) (state_length d) (spare_length d) state spare n state' spare') where
    -- it leaves a new device
    pub new_device_lem : in_use (held_by d) state' spare' ≡ new_device d
    unfolding new_device format_done lend
    new_device_lem =
        rw (
          o.state_read ∙ ap (λ (x : Outcome). x.after.state) parts-done,
          o.spare_left ∙ ap (λ (x : Outcome). x.after.spare) parts-done,
        )

    -- and is accepted
    no_number : n ≡ 0
    unfolding format_done number
    no_number = o.numbered ∙ ap (λ (x : Outcome). number x.answer) parts-done

-- what formatting it promises
pub takes_device_lem : (d : Device) (s p n : ℕ) (state spare state' spare' : List ℕ) → takes_device d ≡ true → s ≡ state_length d → p ≡ spare_length d
    → length state ≡ state_room → length spare ≡ spare_room → length state' ≡ state_room → length spare' ≡ spare_room
    → Obeyed (format_call d) s p state spare n state' spare' → Takes d state spare (Some (record { state = s; spare = p; blocks = d.M; pages = d.B })) state' spare'
unfolding new_device blank_state
takes_device_lem d s p n state spare state' spare' t es ep long fits long' fits' o =
    let there : Obeyed (format_call d) (state_length d) (spare_length d) state spare n state' spare' = rw (es, ep) at o in
    let none : n ≡ 0 = no_number d state spare t long fits n state' spare' there in
    let numbers : (read_state (take (state_length d) state')).device ≡ d = ap (λ (x : Session). x.state.device) (new_device_lem d state spare t long fits n state' spare' there) in
    rw (es, ep) (t, refl, room d state' spare' t long' fits' numbers, rw none at there)

-- the same of the device by other names for its numbers
pub takes_as : {d e : Device} (h : Held) (state spare state' spare' : List ℕ) → d ≡ e → Takes d state spare (Some h) state' spare' → Takes e state spare (Some h) state' spare'
takes_as h state spare state' spare' q t = subst (λ (x : Device). Takes x state spare (Some h) state' spare') q t

-- it isn't refused
pub not_refused : (d : Device) (s p : ℕ) (r : Refusal) (state spare state' spare' : List ℕ) → takes_device d ≡ true → s ≡ state_length d → p ≡ spare_length d
    → length state ≡ state_room → length spare ≡ spare_room → Obeyed (format_call d) s p state spare (refusal_number (refusal_of r)) state' spare' → ⊥
not_refused d s p r state spare state' spare' t es ep long fits o =
    refusal-numbered (refusal_of r) (no_number d state spare t long fits _ state' spare' (rw (es, ep) at o))
