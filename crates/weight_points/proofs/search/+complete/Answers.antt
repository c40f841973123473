use Rattle.std.proofs.Common.{◌≡◌, ◌∙◌, ◌≤◌, ◌+◌, ℕ, ap, arith, length, map, List}
use Rattle.std.specs.List.{All}
use Rattle.std.specs.Prelude.{true, false}
use Rattle.std.proofs.lemmas.List.Elements.{All-weaker}
use Rattle.std.proofs.Math.ListN.{set, length-set}
use Rattle.weight_points.specs.declared.rows.Row.{Row}
use Rattle.weight_points.specs.steps.Rows.{systems_of, IsAffordable, IsPlausible, spending}
use Rattle.weight_points.specs.steps.Search.{exponent, IsCompletion, Completes}
use Rattle.weight_points.proofs.Weighing.{systems_spending, plausible_affordable}
use Rattle.weight_points.proofs.Completing.{plausible_completion, completion_small, found_last, found_deeper, passed_deeper, rows_restored, entries_restored}
use Rattle.weight_points.proofs.search.+complete.Goals as goal
use Rattle.weight_points.proofs.search.+complete.Goals.{In-Some, then-place-entries-via-then-place-entries, then-place-entries-via-else-place-entries+then-complete}

-- no completion has less at the place than the value
passed_to : (t : ℕ) (c : In-Some t) → (b : List ℕ) → IsCompletion (systems_of c.args.rows.now) c.args.place c.args.from c.args.entries.now b
    → c.in-Some.next ≤ exponent b c.args.place
passed_to t c b p =
    let i = c.loop-value.invariant in
    c.in-Some.ensures.some.least (exponent b c.args.place) (i.passed b p)
    (rw i.rows (plausible_completion c.args.rows.now c.args.entries.now c.args.place c.args.from c.requires.ready c.requires.place c.requires.zeros
    b p))

plausible : (t : ℕ) (c : In-Some t) → All (IsPlausible c.args.place c.in-Some.next) c.args.rows.now
plausible t c = rw c.loop-value.invariant.rows at c.in-Some.ensures.some.holds

affordable : (t : ℕ) (c : In-Some t) → All (IsAffordable c.args.place c.in-Some.next) c.args.rows.now
affordable t c = All-weaker (IsPlausible c.args.place c.in-Some.next) (IsAffordable c.args.place c.in-Some.next)
    (λ row h. plausible_affordable c.args.place c.in-Some.next row h) c.args.rows.now (plausible t c)

pub returns-in_default-clause-completes : goal.returns-in_default-clause-completes
returns-in_default-clause-completes t c =
    let rows = c.args.rows.now in
    let a = c.args.entries.now in
    let place = c.args.place in
    let i = c.loop-value.invariant in (
      i.entries,
      λ b p. c.in_default.ensures.none (exponent b place) (i.passed b p)
          (completion_small rows a place c.args.from c.requires.ready c.requires.place c.requires.zeros b p)
          (rw i.rows (plausible_completion rows a place c.args.from c.requires.ready c.requires.place c.requires.zeros b p)),
    )

pub put-requires-clause-affordable : goal.put-requires-clause-affordable
put-requires-clause-affordable t c = rw c.loop-value.invariant.rows (affordable t (goal.at.put-requires-clause-affordable t c).In-Some)

-- the systems stay after a value was written
put_systems : (place value : ℕ) (rows before after : List Row) → before ≡ rows → after ≡ map (spending place value) before
    → systems_of after ≡ systems_of rows
put_systems place value rows before after e f = ap systems_of f ∙ systems_spending place value before ∙ ap systems_of e

pub returns-then-place-entries-clause-systems : goal.returns-then-place-entries-clause-systems
returns-then-place-entries-clause-systems t c =
    let put = put_systems c.args.place c.in-Some.next c.args.rows.now c.loop-value.rows c.put.new.rows c.loop-value.invariant.rows
    c.put.ensures.rows in
    elim c.then-place-entries.branch [
      | then-place-entries-via-then-place-entries w ↦ ap systems_of w.rows-is ∙ put
      | then-place-entries-via-else-place-entries+then-complete w ↦ ap systems_of w.rows-is ∙ (w.complete.ensures.systems ∙ put)
    ]

pub returns-then-place-entries-clause-completes : goal.returns-then-place-entries-clause-completes
returns-then-place-entries-clause-completes t c =
    let rows = c.args.rows.now in
    let a = c.args.entries.now in
    let place = c.args.place in
    let from = c.args.from in
    let value = c.in-Some.next in
    let i = c.loop-value.invariant in
    let here = (goal.at.returns-then-place-entries-clause-completes t c).In-Some in
    let passed = passed_to t here in
    let above = c.in-Some.ensures.some.above in
    let before = i.above in
    let least : from ≤ value = omega arith in
    let entries_are : c.put.new.entries ≡ set a place value = rw i.entries at c.put.ensures.entries in
    let systems_are = put_systems place value rows c.loop-value.rows c.put.new.rows i.rows c.put.ensures.rows in
    elim c.then-place-entries.branch [
      | then-place-entries-via-then-place-entries w ↦
          let there : c.then-place-entries.entries ≡ set a place value = w.entries-is ∙ entries_are in
          let last : place + 1 ≡ length a = w.if-place-entries.true ∙ (ap length entries_are ∙ length-set a place value) in
          rw there (found_last rows a place from c.requires.ready c.requires.place c.requires.zeros value last least (plausible t here) passed)
      | then-place-entries-via-else-place-entries+then-complete w ↦
          let deeper : Completes (systems_of rows) (place + 1) 0 (set a place value) w.complete.new.entries true =
          rw (systems_are, entries_are) at w.if-complete.ensures.completes in
          rw w.entries-is (found_deeper rows a place from c.requires.ready c.requires.place c.requires.zeros value w.complete.new.entries
          least deeper passed)
    ]

pub loop-value-preserved : goal.loop-value-preserved
loop-value-preserved t c =
    let rows = c.args.rows.now in
    let a = c.args.entries.now in
    let place = c.args.place in
    let from = c.args.from in
    let value = c.in-Some.next in
    let i = c.loop-value.invariant in
    let here = (goal.at.loop-value-preserved t c).In-Some in
    let zero_there = c.requires.zeros place (omega arith) in
    let put_rows : c.put.new.rows ≡ map (spending place value) rows = rw i.rows at c.put.ensures.rows in
    let put_entries : c.put.new.entries ≡ set a place value = rw i.entries at c.put.ensures.entries in
    let kept_rows = c.complete.ensures.kept c.if-complete.false ∙ put_rows in
    let kept_entries = c.if-complete.ensures.completes.0 ∙ put_entries in
    let systems_are = put_systems place value rows c.loop-value.rows c.put.new.rows i.rows c.put.ensures.rows in
    let deeper : Completes (systems_of rows) (place + 1) 0 (set a place value) c.complete.new.entries false =
    rw (systems_are, put_entries) at c.if-complete.ensures.completes in
    record {
      rows = rows_restored rows a place value c.requires.place zero_there (affordable t here) c.complete.new.rows c.clear.new.rows
          c.complete.new.entries c.clear.result kept_rows kept_entries c.clear.ensures.value c.clear.ensures.rows;
      entries = entries_restored rows a place value c.requires.place zero_there (affordable t here) c.complete.new.entries c.clear.new.entries
          kept_entries c.clear.ensures.entries;
      above = let above = c.in-Some.ensures.some.above in let before = i.above in omega arith;
      passed = passed_deeper rows a place from c.requires.ready c.requires.place c.requires.zeros value deeper.1 (passed_to t here);
    }

pub returns-clause-completes : goal.returns-clause-completes
returns-clause-completes t c =
    let rows = c.args.rows.now in
    let a = c.args.entries.now in
    let place = c.args.place in (
      c.loop-value.invariant.entries,
      λ b p.
          let passed = c.loop-value.invariant.passed b p in
          let small = completion_small rows a place c.args.from c.requires.ready c.requires.place c.requires.zeros b p in
          absurd (omega arith),
    )
