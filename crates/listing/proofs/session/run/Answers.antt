-- What has come since the start led where the session stands, and printed what was handed over; nothing is in use at first. A failed read
-- or write leaves what had come by then.
use Rattle.std.proofs.Common.{◌∙◌, length, take, arith, refl}
use Rattle.std.specs.Io.KnownBytes.{Appends}
use Rattle.std.proofs.lemmas.Result.{on_ok_weaker}
use Rattle.listing.specs.Progress.{progress}
use Rattle.listing.proofs.Bytes.{going_first}
use Rattle.listing.proofs.Transcript.{came_all}
use Rattle.listing.proofs.Running.{laid-front, laid-inside, on_ok, left_here, left_stopped, ran_first, ran_more, Whole, whole_read, whole_turned, whole-left, whole-prints, some-taken}
use Rattle.listing.proofs.session.run.Goals as goal
use Rattle.listing.proofs.session.run.Goals.{else-loop-turn-test, then-loop-turn-test+in_ok-came+then-came-eq0}

pub loop-turn-init : goal.loop-turn-init
loop-turn-init g c =
    let room = c.requires in
    record {
      going = going_first _ _ _ _ room.0 room.1 room.2 room.3;
      handed = refl;
      ran = ran_first c.args.line.now.bytes c.args.memory.now.state c.args.memory.now.spare _ _;
    }

pub returns-in_err-came-clause-left : goal.returns-in_err-came-clause-left
returns-in_err-came-clause-left g c =
    let v = c.loop-turn.invariant in
    left_here (record { held = c.loop-turn.memory.held; filled = c.loop-turn.line.filled; laid = c.loop-turn.out.waiting }) c.loop-turn.line.bytes _ _ _ v.going v.ran.came

pub returns-in_err-feed-clause-left : goal.returns-in_err-feed-clause-left
returns-in_err-feed-clause-left g c =
    left_stopped (take c.in_ok-came.came c.read.new.buf) _ c.feed.new.line.bytes _ _ _ c.loop-turn.invariant.ran.came c.in_err-feed.ensures.stopped

pub loop-turn-preserved : goal.loop-turn-preserved
loop-turn-preserved g c =
    let read = c.in_ok-came.ensures in
    let fed = c.in_ok-feed.ensures.fed in
    record {
      going = fed.going;
      handed = fed.handed;
      ran = ran_more _ _ _ (take c.in_ok-came.came c.read.new.buf) c.loop-turn.invariant.ran fed.leaves
          (some-taken _ _ c.if-came-eq0.false read.bound.0) read.bytes.0 c.in_ok-feed.ensures.prints;
    }

pub hand-requires : goal.hand-requires
hand-requires g c = omega (arith, laid-inside c.finish.ensures.prints)

pub returns-clause-left : goal.returns-clause-left
returns-clause-left g c =
    let finish = c.finish in
    let came = c.loop-turn.invariant.ran.came in
    record { script = came.script; held = finish.new.memory.held; ready = finish.ensures.ready; session = finish.ensures.leaves ∙ came_all came }

pub returns-clause-session : goal.returns-clause-session
returns-clause-session g c =
    let ran = c.loop-turn.invariant.ran in
    let finish = c.finish in
    let end = progress (record { held = c.loop-turn.memory.held; filled = c.loop-turn.line.filled; laid = c.loop-turn.out.waiting }) c.loop-turn.line.bytes c.loop-turn.memory.state c.loop-turn.memory.spare in
    let whole : Whole (length c.args.input.now) end (g.R.Read.remaining c.args.script.now) (g.W.Write.contents c.args.output.now) (g.W.Write.contents c.loop-turn.output) =
    elim c.loop-turn-test.branch [
      | else-loop-turn-test w ↦ whole_turned _ ran w.loop-turn-test.false
      | then-loop-turn-test+in_ok-came+then-came-eq0 w ↦ whole_read _ ran _ _ w.read.new.buf (omega (arith, w.if-came-eq0.true)) (w.read.auto.buf ∙ c.loop-turn.auto.input) w.in_ok-came.ensures.bytes
    ] in
    on_ok c.hand.result _ (whole-left whole finish.new.memory.held _ _ finish.ensures.ready finish.ensures.leaves)

pub returns-clause-prints : goal.returns-clause-prints
returns-clause-prints g c =
    let ran = c.loop-turn.invariant.ran in
    let finish = c.finish in
    let end = progress (record { held = c.loop-turn.memory.held; filled = c.loop-turn.line.filled; laid = c.loop-turn.out.waiting }) c.loop-turn.line.bytes c.loop-turn.memory.state c.loop-turn.memory.spare in
    let whole : Whole (length c.args.input.now) end (g.R.Read.remaining c.args.script.now) (g.W.Write.contents c.args.output.now) (g.W.Write.contents c.loop-turn.output) =
    elim c.loop-turn-test.branch [
      | else-loop-turn-test w ↦ whole_turned _ ran w.loop-turn-test.false
      | then-loop-turn-test+in_ok-came+then-came-eq0 w ↦ whole_read _ ran _ _ w.read.new.buf (omega (arith, w.if-came-eq0.true)) (w.read.auto.buf ∙ c.loop-turn.auto.input) w.in_ok-came.ensures.bytes
    ] in
    on_ok_weaker c.hand.result (λ (p : Appends (g.W.Write.contents c.loop-turn.output) (g.W.Write.contents c.hand.new.output) (take finish.new.out.waiting finish.new.out.bytes)). whole-prints whole _ (rw (laid-front finish.ensures.prints) at p)) c.hand.ensures.prints
