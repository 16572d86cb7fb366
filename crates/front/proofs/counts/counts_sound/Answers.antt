-- What the closure answers of each block is what the definition tests of its count.
use Rattle.std.proofs.Common.{rules, ◌≡◌, true, false, get_or, ◌<◌, ℕ}
use Rattle.std.proofs.iter.runs.Sources.{ranges}
use Rattle.std.specs.Bool.{MatchBool}
use lib.Dec.{leb}
use Rattle.front.specs.Read.{numbers_of}
use Rattle.front.specs.Reading.{read_counts}
use Rattle.front.proofs.CountsRead.{length-read}
use Rattle.front.proofs.Scanning.{all_told}
use Rattle.front.proofs.counts.counts_sound.Goals as goal

pub returns : goal.returns
returns c =
    let m = c.args.d.m in
    let b = c.args.d.b in
    let cs = read_counts (numbers_of c.args.d) c.args.state.now in
    let told : MatchBool c.all.result ((k : ℕ) → k < m → leb (get_or cs k 0) b ≡ true) ((k : ℕ) × (k < m) × (leb (get_or cs k 0) b ≡ false)) =
    search (rules, ranges) in
    all_told b cs m c.all.result (length-read _ _) told
