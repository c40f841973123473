use Rattle.std.proofs.Common.{◌≡◌, ◌<◌, ◌≤◌, ℕ, ⊎_elim, sym, subst, arith}
use Rattle.std.specs.Prelude.{Some, ⊤}
use Rattle.std.proofs.lemmas.Bool.{cases_lt}
use Rattle.bit_pool.specs.Pools.{OnRow, row_of}
use Rattle.bit_pool.specs.declared.faults.RowId.{RowId}
use Rattle.face_poset.specs.Builds.{id_at}
use Rattle.face_poset.proofs.rows.ask_rows.Goals as goal

pub loop-number-preserved : goal.loop-number-preserved
loop-number-preserved c = λ k l.
    let here : OnRow c.args.pool.now (id_at c.args.incidence.now c.loop-number.number) (λ words. ⊤) = record {
      words = c.in_ok-row.field-0.now;
      named = subst (λ (id : RowId). row_of c.args.pool.now id ≡ Some c.in_ok-row.field-0.now) c.row_id.ensures c.in_ok-row.ensures.answer;
      holds = tt;
    } in
    ⊎_elim
    (λ (a : k < c.loop-number.number). c.loop-number.invariant k a)
    (λ (a : c.loop-number.number ≤ k). let e : c.loop-number.number ≡ k = omega arith in
    subst (λ (n : ℕ). OnRow c.args.pool.now (id_at c.args.incidence.now n) (λ words. ⊤)) e here)
    (cases_lt k c.loop-number.number)
