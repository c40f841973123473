use Rattle.std.proofs.Common.{◌≡◌, ◌∙◌, ℕ, suc, ◌+◌, ◌-◌, ◌<◌, List, [], length, drop, get_or, sym, ap, subst, arith, Vec, Global}
use Rattle.std.proofs.Math.ListN.{get_or-map}
use Rattle.std.proofs.lemmas.List.{get_or_default}
use Rattle.weight_points.specs.steps.Waits.{IsWait}
use Rattle.weight_points.specs.steps.Rows.{weight_at, tables_of}
use Rattle.weight_points.proofs.Raising.{next_plausible, none_plausible}
use Rattle.weight_points.proofs.rows.Row.next_value.Goals as goal
use Rattle.weight_points.proofs.rows.Row.next_value.Goals.{After-index-waits, After-index-wait}

-- the table at the place
table_is : (c : After-index-waits)
    → get_or (tables_of c.args.self.now) (length c.args.self.now.system.weights.items - c.args.place) [] ≡ c.index-waits.result.now.items
table_is c =
    let row = c.args.self.now in
    let r = c.index-waits.result.now in
    let h = c.requires.place in
    let k = length row.system.weights.items - c.args.place in
    let columns = h.tables.columns in
    let weight = h.weight in
    let len = c.len.ensures in
    let index : c.len.result - c.args.place ≡ k = omega arith in
    let is : r ≡ get_or row.tables.items k r = c.index-waits.ensures ∙ ap (λ (n : ℕ). get_or row.tables.items n r) index in
    let within : k < length (tables_of row) = omega arith in
    get_or_default (tables_of row) k [] r.items within
    ∙ (get_or-map (λ (waits : Vec ℕ Global). waits.items) row.tables.items k r ∙ ap (λ (waits : Vec ℕ Global). waits.items) (sym is))

-- it has all numbers up to the degree
long : (c : After-index-waits) → length c.index-waits.result.now.items ≡ c.args.self.now.system.degree + 1
long c =
    let row = c.args.self.now in
    let h = c.requires.place in
    let columns = h.tables.columns in
    let weight = h.weight in
    ap length (sym (table_is c)) ∙ h.tables.rows (length row.system.weights.items - c.args.place) (omega arith)

within : (c : After-index-waits) → c.in_ok-left.left < length c.index-waits.result.now.items
within c =
    let l = long c in
    let is = c.in_ok-left.ensures.some in
    let most = c.requires.place.within in
    omega arith

pub index-wait-requires : goal.index-wait-requires
index-wait-requires c = let inside = within (goal.at.index-wait-requires c).After-index-waits in omega arith

-- what it tells of what is left
wait_is : (c : After-index-wait)
    → IsWait (weight_at c.args.self.now c.args.place) (drop (suc c.args.place) c.args.self.now.system.weights.items) c.in_ok-left.left
    c.index-wait.result.now
wait_is c =
    let row = c.args.self.now in
    let place = c.args.place in
    let weights = row.system.weights.items in
    let before = (goal.at.After-index-wait c).After-index-waits in
    let h = c.requires.place in
    let weight = h.weight in
    let k = length weights - place in
    let r = c.index-waits.result.now in
    let there = table_is before in
    let inside = within before in
    let wait = h.tables.each k place (omega arith) weight c.in_ok-left.left (rw there inside) in
    let told : c.index-wait.result.now ≡ get_or r.items c.in_ok-left.left 0 =
    c.index-wait.ensures ∙ get_or_default r.items c.in_ok-left.left _ 0 inside in
    rw told (subst (λ (t : List ℕ). IsWait (weight_at row place) (drop (suc place) weights) c.in_ok-left.left (get_or t c.in_ok-left.left 0)) there wait)

pub returns-then-wait-lt-NEVER-clause-some : goal.returns-then-wait-lt-NEVER-clause-some
returns-then-wait-lt-NEVER-clause-some c =
    let row = c.args.self.now in
    rw c.from.ensures
    (next_plausible row c.args.place c.args.value c.in_ok-left.left c.index-wait.result.now c.requires.place.small c.requires.value
    c.in_ok-left.ensures.some (wait_is (goal.at.returns-then-wait-lt-NEVER-clause-some c).After-index-wait) c.if-wait-lt-NEVER.true)

pub returns-clause-none : goal.returns-clause-none
returns-clause-none c =
    none_plausible c.args.self.now c.args.place c.args.value c.in_ok-left.left c.index-wait.result.now c.requires.place.small c.requires.value
    c.in_ok-left.ensures.some (wait_is (goal.at.returns-clause-none c).After-index-wait) c.if-wait-lt-NEVER.false
