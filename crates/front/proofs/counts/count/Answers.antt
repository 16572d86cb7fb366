-- The two bytes at its place, which lies in the front.
use Rattle.std.proofs.Common.{arith}
use Rattle.model.proofs.Limits.{limits}
use Rattle.front.proofs.CountsRead.{count-read}
use Rattle.front.proofs.counts.count.Goals as goal

pub count_place-p-requires : goal.count_place-p-requires
count_place-p-requires c = omega (arith, (limits _ c.args.d.limits).most_M, c.requires.1)

pub returns : goal.returns
returns c = (count-read _ _ _ _ _ c.requires.1 c.count_place-p.ensures c.get_u16.ensures.0, c.get_u16.ensures.1)
