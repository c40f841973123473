use Rattle.nef_numbers.proofs.RoomFacts.{parts_of_cone, numbers_answer}
use Rattle.nef_numbers.proofs.numbers.numbers_of.Goals as goal

pub numbers-requires-clause-parts : goal.numbers-requires-clause-parts
numbers-requires-clause-parts c = parts_of_cone c.args.pair.now c.args.codim c.args.partition.now.part_of.items c.args.partition.now.points.items
    c.in_ok-cone.cone c.requires.partition c.in_ok-cone.ensures

pub returns : goal.returns
returns c = numbers_answer c.args.pair.now c.args.codim c.args.partition.now.part_of.items c.in_ok-cone.cone
    (record {
      is_cone = c.in_ok-cone.ensures;
      parts_are = parts_of_cone c.args.pair.now c.args.codim c.args.partition.now.part_of.items c.args.partition.now.points.items
          c.in_ok-cone.cone c.requires.partition c.in_ok-cone.ensures;
    })
    c.numbers.result c.numbers.ensures
