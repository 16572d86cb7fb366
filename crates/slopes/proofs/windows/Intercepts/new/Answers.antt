-- `new` meets its contract.
use Rattle.std.proofs.Common.{refl, arith}
use Rattle.slopes.proofs.Narrowing.{begins_small, windows_first}
use Rattle.slopes.proofs.windows.Intercepts.new.Goals as goal

pub narrow_by-requires : goal.narrow_by-requires
narrow_by-requires c =
    let small = begins_small _ _ refl refl in
    (c.args.s.now.seeking.inside, c.requires, small.0, small.1)

pub returns : goal.returns
returns c =
    let so = c.args.s.now.seeking in
    windows_first _ _ _ _ c.requires _ _ _ _ refl refl so.size (omega (arith, so.inside, so.end, so.size)) c.narrow_by.ensures
