use Rattle.std.proofs.Common.{rules, SFits, ◌≡◌, ℕ, ◌+◌, ◌*◌, ◌-◌, sym, ap, ◌∙◌, arith}
use Rattle.std.specs.Int.{w64}
use Rattle.std.proofs.lemmas.Int.{to_z-of_z}
use Rattle.lattice_theory.specs.Vector.{entry}
use Rattle.polynomial_theory.specs.Series.{product, power, t_minus_1}
use Rattle.stringy_theory.specs.Eulerian.{g_dual}
use Rattle.poset_g.specs.Numbered.{numbered}
use Rattle.poset_g.proofs.Terms.{rank_up, above_values, product_same_to, other_term}
use Rattle.poset_g.proofs.sums.term_above.Goals as goal

pub overflow_sub-upper : goal.overflow_sub-upper
overflow_sub-upper c = let r = rank_up c.args.table.now c.requires.ready.faces c.args.face c.args.wanted.to c.requires.second in
    let e = c.rank-upper.ensures in let f = c.rank-lower.ensures in omega arith

pub term-requires-clause-small : goal.term-requires-clause-small
term-requires-clause-small c b l = (above_values c.args.table.now c.requires.ready.faces c.args.places.now c.args.values.now c.args.wanted.from
    c.args.wanted.to c.args.face c.args.wanted.degree c.in-Some.place
    c.requires.filled c.requires.first c.requires.second c.if-face-wanted.false c.in-Some.ensures.0 c.requires.degree b l).1

pub returns-in-Some-clause-value : goal.returns-in-Some-clause-value
returns-in-Some-clause-value c =
    let fits : SFits w64 c.term.result = search rules in
    simp to_z-of_z (c.term.ensures.value
    ∙ product_same_to (power t_minus_1 (c.rank-upper.result - c.rank-lower.result)) (λ b. entry c.args.values.now (8 * c.in-Some.place + 4 + b))
    (g_dual (numbered c.args.table.now) c.args.wanted.from c.args.face) c.args.wanted.degree (λ b l.
    (above_values c.args.table.now c.requires.ready.faces c.args.places.now c.args.values.now c.args.wanted.from c.args.wanted.to c.args.face
    c.args.wanted.degree c.in-Some.place
    c.requires.filled c.requires.first c.requires.second c.if-face-wanted.false c.in-Some.ensures.0 c.requires.degree b l).0)
    ∙ ap (λ (n : ℕ). product (power t_minus_1 n) (g_dual (numbered c.args.table.now) c.args.wanted.from c.args.face) c.args.wanted.degree)
    (gap_is c)
    ∙ sym (other_term c.args.face c.args.wanted.to (product (power t_minus_1 ((numbered c.args.table.now).gap c.args.face c.args.wanted.to))
    (g_dual (numbered c.args.table.now) c.args.wanted.from c.args.face) c.args.wanted.degree) c.if-face-wanted.false))
  where
    gap_is : (c : goal.After-term) → c.rank-upper.result - c.rank-lower.result ≡ (numbered c.args.table.now).gap c.args.face c.args.wanted.to
    gap_is c = let e = c.rank-upper.ensures in let f = c.rank-lower.ensures in omega arith
