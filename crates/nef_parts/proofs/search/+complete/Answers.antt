use Rattle.std.proofs.Common.{◌≡◌, ◌∙◌, ℕ, ◌+◌, ◌<◌, ◌≤◌, true, false, List, length, take, refl, sym, subst, arith}
use Rattle.std.specs.Prelude.{slice_set}
use Rattle.std.proofs.Math.ListN.{length-set}
use Rattle.std.proofs.lemmas.Bool.Decides.{Decides-eqb}
use Rattle.nef_parts.specs.declared.masks.VertexMask.{VertexMask}
use Rattle.nef_parts.specs.steps.Nef.{IsNefIn}
use Rattle.nef_parts.specs.steps.Beginnings.{IsBeginning}
use Rattle.nef_parts.specs.steps.Agreeing.{AllAgree}
use Rattle.nef_parts.specs.steps.Completions.{Completes}
use Rattle.nef_parts.proofs.SearchSteps.{none_from, unfit, whole_tested, none_left, next_begins, found_deeper, passed_deeper, kept_deeper}
use Rattle.nef_parts.proofs.search.+complete.Goals as goal

pub returns-then-from-most-clause-completes : goal.returns-then-from-most-clause-completes
returns-then-from-most-clause-completes t c = (
  (λ e h. refl),
  none_from c.args.table.now c.requires.table c.args.r c.requires.few c.args.parts.now c.args.begin c.requires.whole c.requires.place
      c.requires.begins c.args.from c.requires.some c.requires.from
      (subst (λ (n : ℕ). n ≤ c.args.from) c.min-most.ensures c.if-from-most.true),
)

pub returns-then-not-all_agree-clause-completes : goal.returns-then-not-all_agree-clause-completes
returns-then-not-all_agree-clause-completes t c = (
  (λ e h. refl),
  unfit c.args.table.now c.requires.table c.args.r c.requires.few c.args.parts.now c.args.begin c.requires.whole c.requires.place
      c.requires.begins
      (λ all. absurd (let f : false ≡ true = c.if-not-all_agree.ensures.agree.1
      (subst (λ (ms : List VertexMask). AllAgree ms c.args.begin c.args.r) (sym c.deref.ensures.value) all) in cc)) c.args.from,
)

pub returns-then-begin-parts-clause-completes : goal.returns-then-begin-parts-clause-completes
returns-then-begin-parts-clause-completes t c =
    whole_tested c.args.table.now c.requires.table c.args.r c.requires.few c.args.parts.now c.args.begin c.requires.whole c.requires.place
    c.requires.begins c.args.from c.if-begin-parts.true (c.requires.from c.if-begin-parts.true)
    (subst (λ (ms : List VertexMask). AllAgree ms c.args.begin c.args.r) c.deref.ensures.value (c.if-not-all_agree.ensures.agree.0 refl))
    _ (Decides-eqb c.args.begin.used c.args.r)

pub complete-requires : goal.complete-requires
complete-requires t c =
    let parts = c.args.parts.now in
    let place = c.args.begin.count in
    let next = c.with.result in
    let now = c.loop-v.parts in
    let changed = slice_set now place c.loop-v.v in
    let i = c.loop-v.invariant in
    let room : place < length parts = omega (arith, c.requires.place, c.if-begin-parts.false) in
    let long : length changed ≡ length parts = length-set now place c.loop-v.v ∙ i.parts in
    let count = c.with.ensures.count in
    let begins : IsBeginning (take next.count changed) next = subst (λ (k : ℕ). IsBeginning (take k changed) next) (sym count)
    (next_begins c.args.table.now c.requires.table c.args.r c.requires.few parts c.args.begin c.requires.whole c.requires.place c.requires.begins
    room now c.loop-v.v i.parts i.front next c.with.ensures.longer) in (
      omega (arith, room, long, count),
      (
        c.requires.table,
        (
          c.requires.some,
          (
            c.requires.few,
            (
              long ∙ c.requires.whole,
              (
                omega (arith, room, long, count),
                ((λ e. refl), (begins, i.hints ∙ c.requires.hints)),
              ),
            ),
          ),
        ),
      ),
    )

pub returns-then-complete-clause-completes : goal.returns-then-complete-clause-completes
returns-then-complete-clause-completes t c =
    let parts = c.args.parts.now in
    let place = c.args.begin.count in
    let now = c.loop-v.parts in
    let i = c.loop-v.invariant in
    let room : place < length parts = omega (arith, c.requires.place, c.if-begin-parts.false) in
    found_deeper c.args.table.now c.requires.table c.args.r c.requires.few parts c.args.begin c.requires.whole c.requires.place c.requires.begins
    room now c.loop-v.v i.parts i.front c.args.from c.complete.new.parts i.above
    (subst (λ (k : ℕ). Completes (IsNefIn c.args.table.now c.args.r) k 0 (slice_set now place c.loop-v.v) c.complete.new.parts true)
    c.with.ensures.count c.if-complete.ensures.completes) i.passed

pub loop-v-preserved : goal.loop-v-preserved
loop-v-preserved t c =
    let parts = c.args.parts.now in
    let place = c.args.begin.count in
    let now = c.loop-v.parts in
    let i = c.loop-v.invariant in
    let room : place < length parts = omega (arith, c.requires.place, c.if-begin-parts.false) in
    let deeper : Completes (IsNefIn c.args.table.now c.args.r) (place + 1) 0 (slice_set now place c.loop-v.v) c.complete.new.parts false =
    subst (λ (k : ℕ). Completes (IsNefIn c.args.table.now c.args.r) k 0 (slice_set now place c.loop-v.v) c.complete.new.parts false)
    c.with.ensures.count c.if-complete.ensures.completes in
    record {
      parts = c.complete.ensures.parts ∙ (length-set now place c.loop-v.v ∙ i.parts);
      hints = c.complete.ensures.hints ∙ i.hints;
      front = kept_deeper c.args.table.now c.requires.table c.args.r c.requires.few parts c.args.begin c.requires.whole c.requires.place
          c.requires.begins room now c.loop-v.v i.parts i.front c.args.from c.complete.new.parts deeper;
      above = omega (arith, i.above);
      passed = passed_deeper c.args.table.now c.requires.table c.args.r c.requires.few parts c.args.begin c.requires.whole c.requires.place
          c.requires.begins room now c.loop-v.v i.parts i.front c.args.from c.complete.new.parts deeper i.passed;
    }

pub returns-clause-completes : goal.returns-clause-completes
returns-clause-completes t c =
    let parts = c.args.parts.now in
    let i = c.loop-v.invariant in
    let room : c.args.begin.count < length parts = omega (arith, c.requires.place, c.if-begin-parts.false) in
    let out : c.min-most.result ≤ c.loop-v.v = omega (arith, c.loop-v-test.false) in (
      i.front,
      none_left c.args.table.now c.requires.table c.args.r c.requires.few parts c.args.begin c.requires.whole c.requires.place c.requires.begins
          room c.args.from c.loop-v.v i.passed (subst (λ (n : ℕ). n ≤ c.loop-v.v) c.min-most.ensures out),
    )
