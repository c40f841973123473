use Rattle.std.proofs.Common.{◌∙◌, arith}
use Rattle.item_points.proofs.WeightWalks.{under_way, next_given, point_more, large_more, point_inside, point_small, many_monomials_met, walk_points, large_point_met}
use Rattle.item_points.proofs.weights.walk.Goals as goal

pub loop-points-init : goal.loop-points-init
loop-points-init c =
    let frame = c.args.frame.now in
    record {
      systems = c.requires.same;
      given = c.requires.start;
      columns = c.requires.columns;
      way = rw c.new-points.ensures.items (under_way frame.systems frame.vectors c.requires.frame.formed c.requires.frame.limited);
    }

pub returns-then-count-eq-MOST_MONOMIALS : goal.returns-then-count-eq-MOST_MONOMIALS
returns-then-count-eq-MOST_MONOMIALS c =
    let frame = c.args.frame.now in
    let i = c.loop-points.invariant in
    let all = i.given ∙ c.if-count-eq-MOST_MONOMIALS.true in
    let g = next_given c.loop-points.monomials c.next_into.new.self frame.systems 16_384 c.next_into.new.out i.systems all
    c.loop-points-test.ensures in
    many_monomials_met frame.systems frame.vectors c.next_into.new.out c.requires.numbers c.requires.frame g.is_monomial_at

pub shift-requires : goal.shift-requires
shift-requires c =
    let i = c.loop-points.invariant in
    let a = c.next_into.new.out in
    let g = next_given c.loop-points.monomials c.next_into.new.self c.args.frame.now.systems c.loop-points.count a i.systems i.given
    c.loop-points-test.ensures in
    g.is_monomial.nonnegative

pub to_frame-requires-clause-small : goal.to_frame-requires-clause-small
to_frame-requires-clause-small c =
    let systems = c.args.frame.now.systems in
    let i = c.loop-points.invariant in
    let a = c.next_into.new.out in
    let g = next_given c.loop-points.monomials c.next_into.new.self systems c.loop-points.count a i.systems i.given
    c.loop-points-test.ensures in
    rw c.shift.ensures (point_small systems a c.requires.frame.formed c.requires.frame.limited g.is_monomial)

pub loop-points-preserved-in-Continue-1 : goal.loop-points-preserved-in-Continue-1
loop-points-preserved-in-Continue-1 c =
    let systems = c.args.frame.now.systems in
    let vectors = c.args.frame.now.vectors in
    let i = c.loop-points.invariant in
    let a = c.next_into.new.out in
    let g = next_given c.loop-points.monomials c.next_into.new.self systems c.loop-points.count a i.systems i.given
    c.loop-points-test.ensures in
    let found = rw c.shift.ensures at c.in-At.ensures in
    let few = i.way.few in
    record {
      systems = g.systems_same;
      given = g.given;
      columns = rw c.shift.ensures (point_inside systems a c.requires.frame.formed g.is_monomial).columns;
      way = rw c.in_ok-push-in-At.ensures.items
          (point_more systems vectors c.loop-points.count c.loop-points.large c.loop-points.points.items a c.in-At.point i.way
          (omega (arith, c.if-count-eq-MOST_MONOMIALS.false)) g.is_monomial_at found.0 found.1);
    }

pub loop-points-preserved : goal.loop-points-preserved
loop-points-preserved c =
    let systems = c.args.frame.now.systems in
    let vectors = c.args.frame.now.vectors in
    let i = c.loop-points.invariant in
    let a = c.next_into.new.out in
    let g = next_given c.loop-points.monomials c.next_into.new.self systems c.loop-points.count a i.systems i.given
    c.loop-points-test.ensures in
    let few = i.way.few in
    record {
      systems = g.systems_same;
      given = g.given;
      columns = rw c.shift.ensures (point_inside systems a c.requires.frame.formed g.is_monomial).columns;
      way = large_more systems vectors c.loop-points.count c.loop-points.large c.loop-points.points.items a i.way
          (omega (arith, c.if-count-eq-MOST_MONOMIALS.false))
          g.is_monomial_at (rw c.shift.ensures at c.in-Large.ensures);
    }

pub unreachable-requires : goal.unreachable-requires
unreachable-requires c =
    let systems = c.args.frame.now.systems in
    let i = c.loop-points.invariant in
    let a = c.next_into.new.out in
    let g = next_given c.loop-points.monomials c.next_into.new.self systems c.loop-points.count a i.systems i.given
    c.loop-points-test.ensures in
    c.in-Outside.ensures (rw c.shift.ensures (point_inside systems a c.requires.frame.formed g.is_monomial))

pub returns-then-large : goal.returns-then-large
returns-then-large c =
    let frame = c.args.frame.now in
    let i = c.loop-points.invariant in
    let all = rw (i.systems, i.given) at c.loop-points-test.ensures.2 in
    large_point_met frame.systems frame.vectors c.loop-points.points.items c.loop-points.count c.requires.numbers c.requires.frame
    (rw c.if-large.true at i.way) all

pub returns : goal.returns
returns c =
    let frame = c.args.frame.now in
    let i = c.loop-points.invariant in
    let all = rw (i.systems, i.given) at c.loop-points-test.ensures.2 in
    walk_points frame.systems frame.vectors c.loop-points.points.items c.loop-points.count c.requires.numbers c.requires.frame
    (rw c.if-large.false at i.way) all
