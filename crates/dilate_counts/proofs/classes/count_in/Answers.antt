use Rattle.std.proofs.Common.{arith}
use Rattle.dilate_counts.proofs.Raised.{class_raised, added_low}
use Rattle.dilate_counts.proofs.classes.count_in.Goals as goal

pub returns-in-None-clause-counts_low : goal.returns-in-None-clause-counts_low
returns-in-None-clause-counts_low c = added_low c.args.sets.now.rows c.args.tight.now c.args.degree c.args.counts.now c.add_point.new.counts
    c.add_point.ensures.added c.requires.room c.add_point.ensures.whole

pub returns-in-Some-clause-totals : goal.returns-in-Some-clause-totals
returns-in-Some-clause-totals c = λ width few clear. class_raised c.args.sets.now.rows c.args.tight.now c.args.classes.now.rows c.class_of.new.classes.rows
    c.args.seen.now c.args.counts.now c.args.degree c.in-Some.place c.requires.degree c.in-Some.ensures.class.0 c.in-Some.ensures.class.1
    c.in-Some.ensures.class.2
    (let w = c.in-Some.ensures.class.0 in
    let f = c.class_of.ensures.few in
    let d = c.requires.degree in
    let p = c.requires.places in
    omega (arith, w, f, d, p)) width few clear
