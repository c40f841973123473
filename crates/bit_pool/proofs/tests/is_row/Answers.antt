use Rattle.std.proofs.Common.{◌-◌, ◌%◌, length, get_or, inl, inr, ◌∙◌, arith}
use Rattle.std.proofs.lemmas.Bool.{eqb-true}
use Rattle.bit_pool.proofs.RowTests.{row_from_test, shifted_out}
use Rattle.bit_pool.proofs.tests.is_row.Goals as goal

pub returns-then-bits-eq0 : goal.returns-then-bits-eq0
returns-then-bits-eq0 c = λ h. row_from_test c.args.width c.args.words.now (c.if-words-word_count.false ∙ c.word_count.ensures)
    (λ i. omega (arith, c.type_inv.words i)) (inl c.if-bits-eq0.true)

pub returns-else-bits-eq0 : goal.returns-else-bits-eq0
returns-else-bits-eq0 c = λ h.
    let words = c.args.words.now in
    let last = shifted_out (get_or words (length words - 1) 0) (c.args.width % 64) (eqb-true _ _ h) in
    row_from_test c.args.width words (c.if-words-word_count.false ∙ c.word_count.ensures) (λ i. omega (arith, c.type_inv.words i))
    (inr last)
