use Rattle.std.proofs.Common.{◌≡◌, ℕ, ◌+◌, ◌*◌, ◌<◌, ◌≤◌, ◌^◌, Option, Some, None, Fits, w64, subst, arith, rules}
use Rattle.std.specs.Int.{w128}
use Rattle.std.proofs.lemmas.Result.{err_from_is_err_and}
use Rattle.lattice_core.specs.declared.weights.WeightSystem.{WeightSystem}
use Rattle.weight_enum.specs.Searched.{Searched, GivesSystem}
use Rattle.weight_lists.proofs.SweepLoops.{sweep_unlisted, sweep_nothing, sweep_bounds, sweep_front, sweep_system, sweep_next_few, sweep_stopped, sweep_more, sweep_closed}
use Rattle.weight_lists.proofs.sums.sum_up.Goals as goal

-- what the search gave
given : (search after : Searched) (o known : Option WeightSystem) → o ≡ known → GivesSystem search after o → GivesSystem search after known
given search after o known e g = subst (GivesSystem search after) e g

small : (n : ℕ) → n < 2 ^ 61 → Fits w64 n
small n h = search rules

large : (n : ℕ) → n < 2 ^ 80 → Fits w128 n
large n h = search rules

within : (n count : ℕ) → n ≤ count → count < 2 ^ 61 → n < 2 ^ 61
within n count h l = omega (arith, h, l)

below : (n count : ℕ) → n ≤ 16384 * count → count < 2 ^ 61 → n < 2 ^ 80
below n count h l = omega (arith, h, l)

pub returns-in_err-search : goal.returns-in_err-search
returns-in_err-search g c =
    let e = err_from_is_err_and c.from_residual.result c.from_residual.ensures.1 in
    let words = c.args.words.now in
    rw e.1 (sweep_unlisted words.dim words.low words.high _ e.0 e.2 c.requires)

pub loop-search-init : goal.loop-search-init
loop-search-init g c =
    let words = c.args.words.now in
    sweep_nothing words.dim words.low words.high _ c.in_ok-search.search c.requires c.in_ok-search.ensures

pub returns-in_err-system : goal.returns-in_err-system
returns-in_err-system g c =
    let e = err_from_is_err_and c.from_residual-in_err-system.result c.from_residual-in_err-system.ensures.1 in
    let words = c.args.words.now in
    let l = c.loop-search in
    rw e.1 (sweep_front words.dim words.low words.high _ l.search l.systems l.reflexive l.points l.dual_points _ l.invariant e.0 e.2)

pub returns-in_default : goal.returns-in_default
returns-in_default g c =
    let words = c.args.words.now in
    let l = c.loop-search in
    sweep_closed words.dim words.low words.high _ l.search l.systems l.reflexive l.points l.dual_points _ l.invariant c.next.new.self
    (given l.search c.next.new.self c.in_ok-system.field-0 None c.in_default.is c.in_ok-system.ensures.gives) _ c.close.result c.close.ensures

pub numbers_of-requires : goal.numbers_of-requires
numbers_of-requires g c =
    let words = c.args.words.now in
    let l = c.loop-search in
    sweep_system words.dim words.low words.high _ l.search l.systems l.reflexive l.points l.dual_points _ l.invariant c.next.new.self
    c.in-Some.system
    (given l.search c.next.new.self c.in_ok-system.field-0 (Some c.in-Some.system) c.in-Some.is c.in_ok-system.ensures.gives)

pub overflow_add-systems : goal.overflow_add-systems
overflow_add-systems g c =
    let words = c.args.words.now in
    let l = c.loop-search in
    small (l.systems + 1) (sweep_next_few words.dim words.low words.high _ l.search l.systems l.reflexive l.points l.dual_points _ l.invariant
    c.next.new.self c.in-Some.system
    (given l.search c.next.new.self c.in_ok-system.field-0 (Some c.in-Some.system) c.in-Some.is c.in_ok-system.ensures.gives))

pub returns-in-Err : goal.returns-in-Err
returns-in-Err g c =
    let words = c.args.words.now in
    let l = c.loop-search in
    sweep_stopped words.dim words.low words.high _ l.search l.systems l.reflexive l.points l.dual_points _ l.invariant c.next.new.self
    c.in-Some.system
    (given l.search c.next.new.self c.in_ok-system.field-0 (Some c.in-Some.system) c.in-Some.is c.in_ok-system.ensures.gives)
    c.in-Err.fault c.stopped.result c.in-Err.ensures c.stopped.ensures

pub overflow_add-reflexive : goal.overflow_add-reflexive
overflow_add-reflexive g c =
    let words = c.args.words.now in
    let l = c.loop-search in
    let x = c.in-Ok.numbers in
    let more = sweep_more words.dim words.low words.high _ l.search l.systems l.reflexive l.points l.dual_points _ l.invariant c.next.new.self
    c.in-Some.system
    (given l.search c.next.new.self c.in_ok-system.field-0 (Some c.in-Some.system) c.in-Some.is c.in_ok-system.ensures.gives) x c.in-Ok.ensures in
    let bounds = sweep_bounds words.dim words.low words.high _ c.next.new.self (l.systems + 1) (l.reflexive + x.reflexive)
    (l.points + x.points) (l.dual_points + x.dual_points) _ more in
    small (l.reflexive + x.reflexive) (within (l.reflexive + x.reflexive) (l.systems + 1) bounds.reflexive_small bounds.count_small)

pub overflow_add-points : goal.overflow_add-points
overflow_add-points g c =
    let words = c.args.words.now in
    let l = c.loop-search in
    let x = c.in-Ok.numbers in
    let more = sweep_more words.dim words.low words.high _ l.search l.systems l.reflexive l.points l.dual_points _ l.invariant c.next.new.self
    c.in-Some.system
    (given l.search c.next.new.self c.in_ok-system.field-0 (Some c.in-Some.system) c.in-Some.is c.in_ok-system.ensures.gives) x c.in-Ok.ensures in
    let bounds = sweep_bounds words.dim words.low words.high _ c.next.new.self (l.systems + 1) (l.reflexive + x.reflexive)
    (l.points + x.points) (l.dual_points + x.dual_points) _ more in
    rw c.from-points.ensures (large (l.points + x.points) (below (l.points + x.points) (l.systems + 1) bounds.points_small bounds.count_small))

pub overflow_add-dual_points : goal.overflow_add-dual_points
overflow_add-dual_points g c =
    let words = c.args.words.now in
    let l = c.loop-search in
    let x = c.in-Ok.numbers in
    let more = sweep_more words.dim words.low words.high _ l.search l.systems l.reflexive l.points l.dual_points _ l.invariant c.next.new.self
    c.in-Some.system
    (given l.search c.next.new.self c.in_ok-system.field-0 (Some c.in-Some.system) c.in-Some.is c.in_ok-system.ensures.gives) x c.in-Ok.ensures in
    let bounds = sweep_bounds words.dim words.low words.high _ c.next.new.self (l.systems + 1) (l.reflexive + x.reflexive)
    (l.points + x.points) (l.dual_points + x.dual_points) _ more in
    rw c.from-dual_points.ensures (large (l.dual_points + x.dual_points)
    (below (l.dual_points + x.dual_points) (l.systems + 1) bounds.dual_points_small bounds.count_small))

pub loop-search-smaller : goal.loop-search-smaller
loop-search-smaller g c =
    let words = c.args.words.now in
    let l = c.loop-search in
    let next = sweep_next_few words.dim words.low words.high _ l.search l.systems l.reflexive l.points l.dual_points _ l.invariant
    c.next.new.self c.in-Some.system
    (given l.search c.next.new.self c.in_ok-system.field-0 (Some c.in-Some.system) c.in-Some.is c.in_ok-system.ensures.gives) in
    omega (arith, next)

pub loop-search-preserved : goal.loop-search-preserved
loop-search-preserved g c =
    let words = c.args.words.now in
    let l = c.loop-search in
    rw (c.from-points.ensures, c.from-dual_points.ensures)
    (sweep_more words.dim words.low words.high _ l.search l.systems l.reflexive l.points l.dual_points _ l.invariant c.next.new.self
    c.in-Some.system
    (given l.search c.next.new.self c.in_ok-system.field-0 (Some c.in-Some.system) c.in-Some.is c.in_ok-system.ensures.gives)
    c.in-Ok.numbers c.in-Ok.ensures)
