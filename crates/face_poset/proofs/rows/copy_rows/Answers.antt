use Rattle.std.proofs.Common.{◌≡◌, ◌+◌, ◌*◌, ◌<◌, ◌≤◌, ℕ, List, ◌∷◌, [], length, ap, sym, ◌∙◌, subst, arith, length-append}
use Rattle.bit_pool.proofs.Named.{named_row}
use Rattle.face_poset.proofs.RowCopies.{first_more, first_all, long_more, fitted_small, fitted_is_set, fitted_set, told_words}
use Rattle.face_poset.proofs.rows.copy_rows.Goals as goal

pub loop-function-preserved : goal.loop-function-preserved
loop-function-preserved c =
    let end = c.functions-function-end.ensures in
    let t = c.loop-function-test.true in
    let inv = c.loop-function.invariant in
    let row = named_row c.args.pool.now c.function_row.result c.in-Ok.words.now c.row.ensures.pool c.in-Ok.ensures.answer in
    let small = fitted_small c.args.pool.now.width c.in-Ok.words.now c.fit.new.space row c.fit.ensures.bits in
    let space : length c.fit.new.space ≡ c.args.rows.now.row_words = c.fit.ensures.long ∙ inv.space ∙ c.requires.long in
    let members = c.requires.members in
    record {
      words = c.push.ensures.row_words ∙ inv.words;
      room = let a = inv.room in let b = c.push.ensures.room in omega arith;
      space = c.fit.ensures.long ∙ inv.space;
      many = let a = ap length c.push.ensures.rows in let b = inv.many in
          let d = length-append c.loop-function.rows.rows (c.fit.new.space ∷ []) in omega arith;
      long = long_more c.args.rows.now.row_words c.loop-function.rows.rows c.push.new.self.rows c.fit.new.space c.push.ensures.rows inv.long space;
      first = λ R tells.
          let functions = tells.functions in
          let members_are = tells.members in
          let l : c.loop-function.function < R.functions = omega arith in
          let fits : R.members ≤ 64 * length c.fit.new.space = omega arith in
          let exact = told_words c.args.pool.now c.args.incidence.now R c.loop-function.function c.function_row.result c.in-Ok.words.now tells l
          c.function_row.ensures c.in-Ok.ensures.answer in
          first_more c.args.rows.now.row_words R c.loop-function.function c.loop-function.rows.rows c.push.new.self.rows c.fit.new.space
          (inv.first R tells) c.push.ensures.rows
          (fitted_is_set c.args.rows.now.row_words R.members (λ m. R.tight m c.loop-function.function) c.in-Ok.words.now c.fit.new.space exact fits
          space small c.fit.ensures.bits)
          (fitted_set c.args.rows.now.row_words R.members (λ m. R.tight m c.loop-function.function) c.in-Ok.words.now c.fit.new.space exact fits
          space small c.fit.ensures.bits);
    }

pub returns-clause-rows : goal.returns-clause-rows
returns-clause-rows c = λ R tells.
    let end = c.functions-function-end.ensures in
    let t = c.loop-function-test.false in
    let e = c.loop-function.auto.function-end in
    let functions = tells.functions in
    first_all c.args.rows.now.row_words R c.loop-function.function c.loop-function.rows.rows (c.loop-function.invariant.first R tells) (omega arith)

pub returns-clause-many : goal.returns-clause-many
returns-clause-many c =
    let end = c.functions-function-end.ensures in
    let t = c.loop-function-test.false in
    let e = c.loop-function.auto.function-end in
    let m = c.loop-function.invariant.many in
    omega arith
