-- `narrow_by` meets its contract: the least and the most place that suit are those of the model's intercepts.
use Rattle.std.proofs.Common.{ℕ, min, max, get_or, ap, ◌∙◌}
use Rattle.slopes.proofs.Narrowing.{suit_least, suit_most}
use Rattle.slopes.proofs.windows.Intercepts.narrow_by.Goals as goal

pub returns : goal.returns
returns c = λ k b.
    let n = c.narrow.ensures k b in (
      n.0 ∙ ap (λ (x : ℕ). max (get_or c.args.self.now.low k 0) x) (suit_least _ _ _ _ _ c.lowest.ensures),
      n.1 ∙ ap (λ (x : ℕ). min (get_or c.args.self.now.high k 0) x) (suit_most _ _ _ _ _ _ c.highest.ensures c.args.s.now.seeking.last),
    )
