use Rattle.std.proofs.Common.{ap, sym}
use Rattle.bit_pool.specs.steps.Stored.{Kept}
use Rattle.bit_pool.proofs.Rows.{used_is}
use Rattle.bit_pool.proofs.generation.Generation.len.Goals as goal

pub returns : goal.returns
returns c =
    let g = c.self.inside in
    sym (used_is g.row_words g.used g.words.items c.args.self.now.rows (ap (λ (k : Kept). k.rows) c.self.view_is))
