use Rattle.poset_g.proofs.MadeTables.{made}
use Rattle.poset_g.proofs.table.GTable.of.Goals as goal

pub returns : goal.returns
returns c = made c.args.table.now c.requires.faces c.requires.ranks _ c.in_ok-places.ensures.places c.fill.new.values.items c.in_ok-fill.ensures.filled
