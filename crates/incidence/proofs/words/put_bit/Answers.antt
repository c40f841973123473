use Rattle.incidence.proofs.Bits.{put}
use Rattle.incidence.proofs.words.put_bit.Goals as goal

pub returns-clause-bits : goal.returns-clause-bits
returns-clause-bits c = put c.args.words.now c.args.number c.requires
