-- A run of telling why explains lookups, on the bytes: its answer and what it wrote are those of the definitions. Assumes nothing.
use mathlib.Core.Path.{sym, ◌∙◌, ap, subst}
use Rattle.model.specs.Device.{offset_of}
use Rattle.calls.specs.Outcome.{Lent, Answer, accepted, values}
use Rattle.calls.specs.History.{lookup_call, run, value}
use Rattle.calls.specs.Explanation.{Beside}
use Rattle.calls.proofs.Explanation.{why-explains}
use Rattle.state.specs.Reading.{read_state}
use Rattle.history.specs.Explaining.{TellingExplains}

pub telling-explains : TellingExplains
unfolding accepted values value
telling-explains h h' x out n made =
    let e = why-explains (read_state h.state) h.spare x out (ap accepted (sym made.ran.answered)) in
    record {
      entries = e.entries;
      listed = ap (λ (a : Answer). value a 0) (made.ran.answered ∙ e.answered);
      bytes = ap (λ (l : Lent). l.out) made.ran.leaves ∙ e.written;
      hold = e.hold;
      lookups = λ i i' a same fits looked.
          subst (λ (b : Answer). Beside (offset_of x) e.entries b)
          (sym (looked.ran.answered ∙ ap (λ s. (run (lookup_call x) (read_state s) i.spare).answer) same)) (e.looked i.spare fits);
    }
