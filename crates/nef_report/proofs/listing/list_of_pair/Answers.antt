use Rattle.std.proofs.Common.{◌≡◌, ◌∙◌, ℕ, ◌+◌, ◌<◌, ◌≤◌, Err, sym, subst, arith}
use Rattle.lattice_core.specs.declared.faults.Refusal.TheVariants.{Limit}
use Rattle.lattice_core.specs.declared.faults.LimitName.TheVariants.{Partitions}
use Rattle.std.proofs.lemmas.Result.{err_from_is_err_and}
use Rattle.palp_input.specs.Grammar.{listed}
use Rattle.palp_print.specs.Lists.{closing}
use Rattle.palp_print.specs.declared.titles.CountTitle.TheVariants.{Nef}
use Rattle.nef_report.specs.Partitions.{heading_text}
use Rattle.nef_report.specs.Answers.{ListingMeans, LineMeans}
use Rattle.nef_report.specs.declared.fault.NefFault.{NefFault}
use Rattle.nef_report.specs.declared.fault.NefFault.TheVariants as faults
use Rattle.nef_report.proofs.ListingSteps.{heading_given, heading_stopped, stopped_behind, partition_given, partition_stopped, partition_refused, many_refused, count_told}
use Rattle.nef_report.proofs.SearchSteps.{given_lists, given_codim, given_more, given_at, given_into, given_all}
use Rattle.nef_report.proofs.listing.list_of_pair.Goals as goal

pub returns-in_err-give_heading : goal.returns-in_err-give_heading
returns-in_err-give_heading g c =
    let e = err_from_is_err_and c.from_residual.result c.from_residual.ensures.1 in
    rw e.1 (heading_stopped c.args.words.now (listed c.args.item.now) _ c.args.pair.now c.requires.listed _ e.0
    (subst (λ (f : NefFault). LineMeans (heading_text c.args.words.now.codim (listed c.args.item.now) c.args.pair.now) (g.O.Sink.state c.args.out.now)
    (g.O.Sink.state c.give_heading.new.out) (Err f)) (sym e.2) c.in_err-give_heading.ensures))

pub returns-in_err-of : goal.returns-in_err-of
returns-in_err-of g c =
    let e = err_from_is_err_and c.from_residual-in_err-of.result c.from_residual-in_err-of.ensures.1 in
    rw e.1 (stopped_behind c.args.words.now (listed c.args.item.now) c.args.pair.now c.requires.listed _ _ 0
    (heading_given c.args.words.now (listed c.args.item.now) _ c.args.pair.now c.requires.listed _ c.in_ok-give_heading.ensures) e.0 e.2)

pub returns-in_err-search : goal.returns-in_err-search
returns-in_err-search g c =
    let e = err_from_is_err_and c.from_residual-in_err-search.result c.from_residual-in_err-search.ensures.1 in
    rw e.1 (stopped_behind c.args.words.now (listed c.args.item.now) c.args.pair.now c.requires.listed _ _ 0
    (heading_given c.args.words.now (listed c.args.item.now) _ c.args.pair.now c.requires.listed _ c.in_ok-give_heading.ensures) e.0 e.2)

pub loop-count-init : goal.loop-count-init
loop-count-init g c = record {
  lists = c.in_ok-search.ensures.lists ∙ c.in_ok-of.ensures;
  codim = c.in_ok-search.ensures.codim;
  given = c.in_ok-search.ensures.given;
  so_far = heading_given c.args.words.now (listed c.args.item.now) _ c.args.pair.now c.requires.listed _ c.in_ok-give_heading.ensures;
}

pub returns-in_err-partition : goal.returns-in_err-partition
returns-in_err-partition g c =
    let e = err_from_is_err_and c.from_residual-in_err-partition.result c.from_residual-in_err-partition.ensures.1 in
    rw e.1 (stopped_behind c.args.words.now (listed c.args.item.now) c.args.pair.now c.requires.listed _ _ c.loop-count.count
    c.loop-count.invariant.so_far e.0 e.2)

pub write_piece-requires-clause-partition : goal.write_piece-requires-clause-partition
write_piece-requires-clause-partition g c =
    let i = c.loop-count.invariant in
    given_into c.args.pair.now c.args.words.now.codim c.loop-count.count c.loop-count.search c.next.new.self i.lists i.codim i.given
    _ c.in-Some.partition c.in-Some.is c.in_ok-partition.ensures.given

pub returns-in_err-write_piece-in-Some : goal.returns-in_err-write_piece-in-Some
returns-in_err-write_piece-in-Some g c =
    let i = c.loop-count.invariant in
    let within : c.loop-count.count < 1048576 = omega arith in
    let e = err_from_is_err_and c.from_residual-in_err-write_piece-in-Some.result c.from_residual-in_err-write_piece-in-Some.ensures.1 in
    rw e.1 (partition_refused c.args.words.now (listed c.args.item.now) c.args.pair.now c.requires.listed _ _ c.loop-count.count i.so_far
    c.in-Some.partition.part_of.items
    (given_at c.args.pair.now c.args.words.now.codim c.loop-count.count c.loop-count.search c.next.new.self i.lists i.codim i.given
    _ c.in-Some.partition c.in-Some.is c.in_ok-partition.ensures.given)
    within c.in_err-write_piece-in-Some.field-0.0 e.0 c.in_err-write_piece-in-Some.ensures e.2)

pub returns-in_err-give-in-Some : goal.returns-in_err-give-in-Some
returns-in_err-give-in-Some g c =
    let i = c.loop-count.invariant in
    let within : c.loop-count.count < 1048576 = omega arith in
    let e = err_from_is_err_and c.from_residual-in_err-give-in-Some.result c.from_residual-in_err-give-in-Some.ensures.1 in
    rw e.1 (partition_stopped c.args.words.now (listed c.args.item.now) c.args.pair.now c.requires.listed _ _ c.loop-count.count i.so_far
    c.in-Some.partition.part_of.items
    (given_at c.args.pair.now c.args.words.now.codim c.loop-count.count c.loop-count.search c.next.new.self i.lists i.codim i.given
    _ c.in-Some.partition c.in-Some.is c.in_ok-partition.ensures.given)
    within c.write_piece.new.page c.in_ok-write_piece-in-Some.ensures _ e.0
    (subst (λ (f : NefFault). LineMeans c.write_piece.new.page (g.O.Sink.state c.loop-count.out) (g.O.Sink.state c.give.new.out) (Err f)) (sym e.2)
    c.in_err-give-in-Some.ensures))

pub returns-in-None : goal.returns-in-None
returns-in-None g c =
    let i = c.loop-count.invariant in
    let most : c.loop-count.count ≤ 1048576 = omega arith in
    count_told c.args.words.now (listed c.args.item.now) c.args.pair.now c.requires.listed _ _ c.loop-count.count i.so_far most
    (given_all c.args.pair.now c.args.words.now.codim c.loop-count.count c.loop-count.search c.next.new.self i.lists i.codim i.given
    _ c.in-None.is c.in_ok-partition.ensures.given) _ c.give_count.result c.give_count.ensures

pub loop-count-preserved : goal.loop-count-preserved
loop-count-preserved g c =
    let i = c.loop-count.invariant in
    let within : c.loop-count.count < 1048576 = omega arith in
    record {
      lists = given_lists c.args.pair.now c.args.words.now.codim c.loop-count.count c.loop-count.search c.next.new.self i.lists i.codim i.given
          _ c.in-Some.partition c.in-Some.is c.in_ok-partition.ensures.given;
      codim = given_codim c.args.pair.now c.args.words.now.codim c.loop-count.count c.loop-count.search c.next.new.self i.lists i.codim i.given
          _ c.in-Some.partition c.in-Some.is c.in_ok-partition.ensures.given;
      given = given_more c.args.pair.now c.args.words.now.codim c.loop-count.count c.loop-count.search c.next.new.self i.lists i.codim i.given
          _ c.in-Some.partition c.in-Some.is c.in_ok-partition.ensures.given;
      so_far = partition_given c.args.words.now (listed c.args.item.now) c.args.pair.now c.requires.listed _ _ c.loop-count.count i.so_far
          c.in-Some.partition.part_of.items
          (given_at c.args.pair.now c.args.words.now.codim c.loop-count.count c.loop-count.search c.next.new.self i.lists i.codim i.given
          _ c.in-Some.partition c.in-Some.is c.in_ok-partition.ensures.given)
          within c.write_piece.new.page c.in_ok-write_piece-in-Some.ensures _ c.in_ok-give-in-Some.ensures;
    }

pub returns-in_err-next : goal.returns-in_err-next
returns-in_err-next g c =
    let e = err_from_is_err_and c.from_residual-in_err-next.result c.from_residual-in_err-next.ensures.1 in
    rw e.1 (stopped_behind c.args.words.now (listed c.args.item.now) c.args.pair.now c.requires.listed _ _ c.loop-count.count
    c.loop-count.invariant.so_far e.0 e.2)

pub returns-in-Some-2 : goal.returns-in-Some-2
returns-in-Some-2 g c =
    let i = c.loop-count.invariant in
    let all : c.loop-count.count ≡ 1048576 = omega arith in
    let told : 1048577 ≡ c.from-told.result + 1 = let f = c.from-told.ensures in omega (arith, f) in
    subst (λ (n : ℕ). ListingMeans (Err (faults.Refused (Limit Partitions n))) c.args.words.now (listed c.args.item.now) (g.O.Sink.state c.args.out.now)
    (g.O.Sink.state c.loop-count.out)) told
    (many_refused c.args.words.now (listed c.args.item.now) c.args.pair.now c.requires.listed _ _ c.loop-count.count i.so_far
    c.in-Some-2.field-0.part_of.items
    (given_at c.args.pair.now c.args.words.now.codim c.loop-count.count c.loop-count.search c.next-2.new.self i.lists i.codim i.given
    _ c.in-Some-2.field-0 c.in-Some-2.is c.in_ok-next.ensures.given) all)

pub returns : goal.returns
returns g c =
    let i = c.loop-count.invariant in
    let all : c.loop-count.count ≤ 1048576 = omega arith in
    let same : c.loop-count.count ≡ 1048576 = omega arith in
    count_told c.args.words.now (listed c.args.item.now) c.args.pair.now c.requires.listed _ _ c.loop-count.count i.so_far all
    (given_all c.args.pair.now c.args.words.now.codim c.loop-count.count c.loop-count.search c.next-2.new.self i.lists i.codim i.given
    _ c.in-None-2.is c.in_ok-next.ensures.given) _ c.give_count-in-None-2.result
    (subst (λ (n : ℕ). LineMeans (closing Nef n) (g.O.Sink.state c.loop-count.out) (g.O.Sink.state c.give_count-in-None-2.new.out)
    c.give_count-in-None-2.result) (sym same) c.give_count-in-None-2.ensures)
