use Rattle.std.proofs.Common.{rules, ◌≡◌, ◌≤◌, Ok, true, false, [], ◌∷◌}
use Rattle.bit_pool.specs.Changes.{same, called, resets}
use Rattle.incidence.specs.Incidences.{tabled}
use Rattle.incidence.proofs.Held.{told_held, held_stays_lem}
use Rattle.incidence.proofs.tests.tells_a_table.Goals as goal

pub tight-requires-clause-held : goal.tight-requires-clause-held
tight-requires-clause-held g c =
    let width : 3 ≤ c.reserve.new.self.width = search rules in
    let given : c.from_table-2.result ≡ Ok c.expect-incidence.result = search rules in
    (told_held c.reserve.new.self c.from_table-2.new.pool (tabled 2 3 (true ∷ false ∷ true ∷ false ∷ true ∷ true ∷ [])) c.from_table-2.result
    c.expect-incidence.result (search rules) width given c.from_table-2.ensures).0

pub tight-requires-2-clause-held : goal.tight-requires-2-clause-held
tight-requires-2-clause-held g c =
    let width : 3 ≤ c.reserve.new.self.width = search rules in
    let given : c.from_table-2.result ≡ Ok c.expect-incidence.result = search rules in
    (told_held c.reserve.new.self c.from_table-2.new.pool (tabled 2 3 (true ∷ false ∷ true ∷ false ∷ true ∷ true ∷ [])) c.from_table-2.result
    c.expect-incidence.result (search rules) width given c.from_table-2.ensures).0

pub tight-requires-3-clause-held : goal.tight-requires-3-clause-held
tight-requires-3-clause-held g c =
    let width : 3 ≤ c.reserve.new.self.width = search rules in
    let given : c.from_table-2.result ≡ Ok c.expect-incidence.result = search rules in
    let held = told_held c.reserve.new.self c.from_table-2.new.pool (tabled 2 3 (true ∷ false ∷ true ∷ false ∷ true ∷ true ∷ []))
    c.from_table-2.result c.expect-incidence.result (search rules) width given c.from_table-2.ensures in
    (held_stays_lem c.from_table-2.new.pool c.reset.new.self c.expect-incidence.result c.row.ensures.pool
    (called same (resets c.reset.ensures)) held.0 held.1).0
