-- `group_end` meets its contract: the pages of the group come first.
use Rattle.std.proofs.Common.{rules}
use Rattle.std.proofs.lemmas.List.{take_rest}
use Rattle.std.proofs.lemmas.List.Sorted.{IsPartitionPoint-from_clause}
use Rattle.learn.proofs.Grouping.{in_group, parted, ends_last, ends_parted}
use Rattle.learn.proofs.runs.group_end.Goals as goal

pub returns-then-written-k : goal.returns-then-written-k
returns-then-written-k c = ends_last _ _ c.requires.0 c.requires.1 c.if-written-k.true

pub returns : goal.returns
returns c =
    let w = c.args.written.now in
    let i = c.args.i in
    let p = c.requires in
    let e = take_rest w i in
    ends_parted w i p.0 _ e _ p.1 c.partition_point.ensures.bound
    (IsPartitionPoint-from_clause (in_group w i p.0) _ _ c.partition_point.ensures.partitioned (parted w i p.0 _ e) (λ a r f' k. search rules))
