use Rattle.region_walk.specs.Regions.{levels_of}
use Rattle.region_walk.proofs.Looking.{further_itself}
use Rattle.region_walk.proofs.walk.find_run.Goals as goal

pub loop-span-init : goal.loop-span-init
loop-span-init c = record {
  opened = c.requires.open;
  further = further_itself c.args.region.now.low c.args.region.now.high (levels_of c.args.region.now) c.args.beginning.now.entries.items;
}
