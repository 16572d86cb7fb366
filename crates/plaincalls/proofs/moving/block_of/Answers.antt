-- The product is shifted by 32 bits.
use Rattle.plaincalls.proofs.Reciprocal.{reciprocal_divides}
use Rattle.plaincalls.proofs.moving.block_of.Goals as goal

pub returns : goal.returns
returns c = λ b h l e. rw (c.from.ensures, e) (reciprocal_divides b _ h l c.requires.1)
