-- `is_approximate` meets its contract: the word is odd where the kind is approximate.
use Rattle.std.proofs.Common.{rules}
use Rattle.record.proofs.Words.{odd_test}
use Rattle.record.proofs.Record.is_approximate.Goals as goal

pub returns : goal.returns
returns c = search (odd_test, rules)
