-- A record that is found predicts; it is the model's, but for the offsets that it owns, which prediction never asks for.
use Rattle.std.proofs.Common.{sym, ap, ◌∙◌, arith}
use Rattle.model.specs.Options.{as_option}
use Rattle.model.proofs.Limits.{group-inside}
use Rattle.answers.specs.Answers.{answer_by, found_or_not}
use Rattle.state.proofs.Seeking.{held_word, held_is, descend-held, descend_none}
use Rattle.state.proofs.seek.descend.Goals as goal

pub find-found-requires : goal.find-found-requires
find-found-requires c = (c.requires.0, group-inside _ _ c.requires.2, c.requires.3, omega arith)

pub named-requires : goal.named-requires
unfolding as_option
named-requires c =
    (c.requires.1, held_word _ _ _ _ c.requires.3 _ (sym (ap as_option c.in-Some.is) ∙ c.find-found.ensures.0))

pub returns-in-Some : goal.returns-in-Some
unfolding as_option
returns-in-Some c =
    descend-held _ _ _ _ c.requires.0.numbers _ _ _ (held_is _ _ _ _ c.requires.3 _ (sym (ap as_option c.in-Some.is) ∙ c.find-found.ensures.0)) c.find-found.ensures.1 (c.named.ensures _)

pub returns-in-None : goal.returns-in-None
unfolding answer_by found_or_not as_option
returns-in-None c = descend_none _ _ _ _ c.requires.0.numbers _ (sym (ap as_option c.in-None.is) ∙ c.find-found.ensures.0) c.find-found.ensures.1
