-- Two bytes stored at its place: the law of what is read then.
use Rattle.std.proofs.Common.{arith, ap, ◌≡◌, ◌∙◌, ◌+◌, ◌*◌}
use Rattle.model.specs.Lists.{store}
use Rattle.model.proofs.Limits.{limits}
use Rattle.octets.specs.Little.{bytes2}
use Rattle.front.specs.Read.{numbers_of}
use Rattle.front.specs.Reading.{read_counts}
use Rattle.front.proofs.CountsRead.{count-stored}
use Rattle.front.proofs.counts.set_count.Goals as goal

pub count_place-p-requires : goal.count_place-p-requires
count_place-p-requires c = omega (arith, (limits _ c.args.d.limits).most_M, c.requires.1)

pub returns-clause-state_after : goal.returns-clause-state_after
returns-clause-state_after c =
    let place = c.count_place-p.ensures in
    let stored : c.put_u16.new.s ≡ store c.args.state.now (16 + 2 * c.args.k) (bytes2 c.args.v) = rw place at c.put_u16.ensures in
    ap (read_counts (numbers_of c.args.d)) stored ∙ count-stored _ _ _ _ c.requires.1 c.requires.2 c.requires.0
