-- `near` meets its contract: the intercept between the two bounds, counted from the number of page 0.
use borrow.Author.Rules.{rules}
use Rattle.forecast.proofs.Nearing.{near_is}
use Rattle.forecast.proofs.near.Goals as goal

pub returns : goal.returns
returns c = near_is _ _ (search rules) c.clamp.ensures.value
