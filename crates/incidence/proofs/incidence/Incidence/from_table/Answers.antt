use Rattle.std.proofs.Common.{◌≡◌, ℕ, ◌+◌, ◌*◌, false, slice_index_or, ap, arith}
use Rattle.incidence.specs.Incidences.{tabled}
use Rattle.incidence.proofs.Added.{adds_same}
use Rattle.incidence.proofs.Telling.{is_told}
use Rattle.incidence.proofs.incidence.Incidence.from_table.Goals as goal

pub push_table-requires-clause-rows : goal.push_table-requires-clause-rows
push_table-requires-clause-rows c = c.in_ok-incidence.ensures.few_members

pub push_table-requires-clause-row_step : goal.push_table-requires-clause-row_step
push_table-requires-clause-row_step c = c.in_ok-incidence.ensures.few_functions

pub push_table-requires-clause-most : goal.push_table-requires-clause-most
push_table-requires-clause-most c = c.in_ok-incidence.ensures.few_functions

pub push_table-requires-2-clause-rows : goal.push_table-requires-2-clause-rows
push_table-requires-2-clause-rows c = c.in_ok-incidence.ensures.few_functions

pub push_table-requires-2-clause-step : goal.push_table-requires-2-clause-step
push_table-requires-2-clause-step c = c.in_ok-incidence.ensures.few_functions

pub push_table-requires-2-clause-most : goal.push_table-requires-2-clause-most
push_table-requires-2-clause-most c = c.in_ok-incidence.ensures.few_members

pub returns : goal.returns
returns c =
    let tight = c.args.tight.now in
    let columns = c.args.functions in
    is_told c.args.pool.now c.push_table.new.pool c.push_table-2.new.pool c.in_ok-incidence.incidence
    (tabled c.args.members columns tight) c.in_ok-incidence.ensures
    (adds_same c.args.pool.now c.push_table.new.pool c.args.members columns (λ m f. slice_index_or tight (m * columns + f * 1) false)
    (λ m f. slice_index_or tight (m * columns + f) false)
    (λ m f. ap (λ (n : ℕ). slice_index_or tight n false) (let e : m * columns + f * 1 ≡ m * columns + f = omega arith in e)) c.push_table.ensures)
    (adds_same c.push_table.new.pool c.push_table-2.new.pool columns c.args.members (λ f m. slice_index_or tight (f * 1 + m * columns) false)
    (λ f m. slice_index_or tight (m * columns + f) false)
    (λ f m. ap (λ (n : ℕ). slice_index_or tight n false) (let e : f * 1 + m * columns ≡ m * columns + f = omega arith in e)) c.push_table-2.ensures)
