-- A line is bad, or a call with at most 64 numbers, which stand in the buffer; the operation decides.
use native.Mathlib.Omega.{arith}
use mathlib.Core.Path.{◌≡◌, ap, ◌∙◌}
use mathlib.Core.List.{List}
use Prim.Native.Nat.{ℕ}
use lib.ListN.{replicate}
use Rattle.model.specs.Device.{Device}
use Rattle.calls.specs.History.{flush_call}
use Rattle.lines.specs.Script.{line_of, numbers_of}
use Rattle.lines.specs.Reading.{number_of_operation}
use Rattle.lines.proofs.Lines.{no_answer, answered}
use Rattle.listing.specs.Session.{format_reply, list_reply}
use Rattle.listing.specs.Memory.{in_use}
use Rattle.listing.proofs.Numbers.{front-is, number-is, device-is}
use Rattle.listing.proofs.Parts.{front_length, obeyed_as, is_flush, is_lookup, is_collection, is_compaction}
use Rattle.listing.proofs.Replies.{replied_as, replied_bad, replied_format, replied_list, replied_call, is_format, is_list, is_other}
use Rattle.listing.proofs.session.obey.Goals as goal
use Rattle.listing.proofs.session.obey.Goals.{in-Format, in-Flush, in-LookUp, in-Collect, in-Compact}

pub returns-in_default : goal.returns-in_default
returns-in_default c = replied_bad _ _ _ _ _ _ _ c.requires.0 (no_answer _ c.in_default.ensures.0) c.lay_bad.ensures

pub slice_bounds-numbers-end : goal.slice_bounds-numbers-end
slice_bounds-numbers-end c = omega (arith, (answered _ _ c.in-Some.ensures.0).few, c.read.auto.numbers)

pub slice_bounds-flush-end : goal.slice_bounds-flush-end
slice_bounds-flush-end c = front_length _ c.read.new.numbers (omega (arith, (answered _ _ c.in-Some.ensures.0).few, c.read.auto.numbers))

pub returns-in-List : goal.returns-in-List
unfolding number_of_operation
returns-in-List c =
    let m = c.args.memory.now in
    let s = in_use m.held m.state m.spare in
    let told = c.in-Some.ensures in
    let six : number_of_operation c.in-Some.field-0.operation ≡ 6 = ap number_of_operation c.in-List.is in
    replied_as (ap (λ (k : ℕ). list_reply k s) (number-is _ _ _ told.0 told.1 0) ∙ is_list _ _ _ s (answered _ _ told.0).is_call six)
    (replied_list _ _ _ _ _ _ _ c.requires.0 c.list_group.ensures)

pub returns : goal.returns
unfolding number_of_operation
returns c =
    let made = c.match-operation in
    let m = c.args.memory.now in
    let held = m.held in
    let s = in_use held m.state m.spare in
    let told = c.in-Some.ensures in
    let call = (answered _ _ told.0).is_call in
    let op = number_of_operation c.in-Some.field-0.operation in
    let ns = numbers_of (line_of c.args.line.now) in
    let ready = c.requires.0 in
    let laid = c.lay_refusal in
    elim made.branch [
      | in-Format w ↦ let e : op ≡ 1 = ap number_of_operation w.in-Format.is in
          rw w.memory-is
          (replied_as (ap (λ (d : Device). format_reply d s) (device-is _ _ _ told.0 told.1) ∙ is_format _ op ns s call e)
          (replied_format held m.state m.spare c.args.out.now _ _ _ _ _ _ _ ready w.format-answer.ensures (rw w.answer-is at laid.ensures)))
      | in-Flush w ↦ let e : op ≡ 2 = ap number_of_operation w.in-Flush.is in
          let kept = w.flush-answer.ensures.kept in
          rw (w.memory-is, kept.0)
          (replied_as (is_other _ op ns s call (λ z. omega (arith, z, e)) (λ z. omega (arith, z, e)))
          (replied_call held m.state m.spare c.args.out.now op ns _ _ _ _ _ ready (kept.1 ∙ ready.bytes) (kept.2 ∙ ready.entries)
          (obeyed_as (ap (λ (l : List ℕ). flush_call l (replicate held.pages 0)) (front-is _ _ _ told.0 told.1) ∙ is_flush op ns held s 0 ready.pages_read e) w.flush-answer.ensures.obeyed)
          (rw w.answer-is at laid.ensures)))
      | in-LookUp w ↦ let e : op ≡ 3 = ap number_of_operation w.in-LookUp.is in
          rw w.memory-is
          (replied_as (is_other _ op ns s call (λ z. omega (arith, z, e)) (λ z. omega (arith, z, e)))
          (replied_call held m.state m.spare c.args.out.now op ns _ _ _ _ _ ready ready.bytes ready.entries
          (obeyed_as (is_lookup op ns held s _ (number-is _ _ _ told.0 told.1 0) e) w.look_up-answer.ensures)
          (rw w.answer-is at laid.ensures)))
      | in-Collect w ↦ let e : op ≡ 4 = ap number_of_operation w.in-Collect.is in
          let kept = w.collect-answer.ensures.kept in
          rw (w.memory-is, kept.0)
          (replied_as (is_other _ op ns s call (λ z. omega (arith, z, e)) (λ z. omega (arith, z, e)))
          (replied_call held m.state m.spare c.args.out.now op ns _ _ _ _ _ ready (kept.1 ∙ ready.bytes) (kept.2 ∙ ready.entries)
          (obeyed_as (is_collection op ns held s 0 ready.pages_read ready.blocks_read e) w.collect-answer.ensures.obeyed)
          (rw w.answer-is at laid.ensures)))
      | in-Compact w ↦ let e : op ≡ 5 = ap number_of_operation w.in-Compact.is in
          let kept = w.compact-answer.ensures.kept in
          rw (w.memory-is, kept.0)
          (replied_as (is_other _ op ns s call (λ z. omega (arith, z, e)) (λ z. omega (arith, z, e)))
          (replied_call held m.state m.spare c.args.out.now op ns _ _ _ _ _ ready (kept.1 ∙ ready.bytes) (kept.2 ∙ ready.entries)
          (obeyed_as (is_compaction op ns held s _ (number-is _ _ _ told.0 told.1 0) e) w.compact-answer.ensures.obeyed)
          (rw w.answer-is at laid.ensures)))
    ]
