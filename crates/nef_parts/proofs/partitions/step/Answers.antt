use Rattle.std.proofs.Common.{◌≡◌, length, rules}
use Rattle.std.proofs.lemmas.List.{take_at}
use Rattle.nef_parts.proofs.partitions.step.Goals as goal

pub returns-clause-steps : goal.returns-clause-steps
returns-clause-steps c =
    let long : length c.begin.new.parts ≡ c.args.parts.now.len = search rules in
    rw (c.if-started.false, take_at c.begin.new.parts _ _ long) c.begin.ensures.begins
