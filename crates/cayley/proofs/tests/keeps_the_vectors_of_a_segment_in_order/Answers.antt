use Rattle.std.proofs.Common.{◌≡◌, length, rules}
use Rattle.lattice_theory.proofs.Members.{empty, more, all_from_each}
use Rattle.cayley.proofs.tests.keeps_the_vectors_of_a_segment_in_order.Goals as goal

pub members_of-requires-clause-dimension : goal.members_of-requires-clause-dimension
members_of-requires-clause-dimension g c =
    let first : length c.expect.result ≡ 1 = search rules in
    let second : length c.expect-2.result ≡ 1 = search rules in
    (1, all_from_each {P = λ p. length p ≡ 1} (more first (more second empty)))
