use Rattle.std.proofs.Common.{ℤ, slice_range, sym, ap, ◌∙◌, rules, SFits, w64}
use Rattle.std.proofs.lemmas.Int.{to_z-of_z}
use Rattle.palp_input.specs.Lines.{line_token}
use Rattle.palp_input.specs.declared.numerals.Numeral.{Numeral}
use Rattle.palp_input.specs.declared.numerals.Numeral.TheVariants.{Number}
use Rattle.palp_input.proofs.lines.token_part.Goals as goal

pub returns-in-Number-clause-means : goal.returns-in-Number-clause-means
returns-in-Number-clause-means c = λ rest.
    let bytes = slice_range c.args.text.now c.args.token.at c.args.token.end in
    let fits : SFits w64 c.in-Number.value = search rules in
    c.number_part.ensures.means rest bytes c.args.first
    ∙ ap (λ (z : ℤ). line_token c.args.first c.args.token.at c.args.token.end bytes (Number z) rest) (to_z-of_z w64 c.in-Number.value fits)
    ∙ ap (λ (n : Numeral). line_token c.args.first c.args.token.at c.args.token.end bytes n rest)
    (sym c.in-Number.is ∙ c.numeral_of.ensures)
