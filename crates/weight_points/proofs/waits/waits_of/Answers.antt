use Rattle.std.proofs.Common.{◌≡◌, ◌∙◌, ℕ, ◌+◌, ◌-◌, ◌++◌, ◌<◌, ◌≤◌, List, [], ◌∷◌, length, map, drop, get_or, sym, ap, subst, arith, Vec, Global}
use Rattle.std.proofs.Math.ListN.{get_or-map}
use Rattle.std.proofs.lemmas.List.{length-append, map-append, drop_all, get_or_default}
use Rattle.weight_points.specs.steps.Waits.{IsReach, AreWaits}
use Rattle.weight_points.proofs.Waiting.{rows_more, each_more, last_more}
use Rattle.weight_points.proofs.waits.waits_of.Goals as goal

-- one table alone
first_rows : (degree : ℕ) (table : List ℕ) → length table ≡ degree + 1 → (k : ℕ) → k < 1 → length (get_or (table ∷ []) k []) ≡ degree + 1
first_rows degree table e k h = let first : k ≡ 0 = omega arith in rw first e

first_last : (weights table : List ℕ) → IsReach [] table → (k : ℕ) → k + length weights ≡ length weights
    → IsReach (drop (length weights) weights) (get_or (table ∷ []) k [])
first_last weights table h k e = let first : k ≡ 0 = omega arith in rw (first, drop_all (length weights) weights (omega arith)) h

pub loop-i-init : goal.loop-i-init
loop-i-init c =
    let weights = c.args.weights.now in
    let table = c.in_ok-waits_of_none.field-0.items in
    let items : map (λ (waits : Vec ℕ Global). waits.items) c.push.new.self.items ≡ table ∷ [] =
    ap (λ (ts : List (Vec ℕ Global)). map (λ (waits : Vec ℕ Global). waits.items) ts)
    (c.in_ok-push.ensures.items ∙ ap (λ (ts : List (Vec ℕ Global)). ts ++ c.in_ok-waits_of_none.field-0 ∷ []) c.in_ok-tables.ensures.items) in
    record {
      columns = rw items (omega arith);
      rows = rw items (first_rows c.args.degree table c.in_ok-waits_of_none.ensures.columns);
      each = λ k p e l h. absurd (omega arith);
      last = rw items (first_last weights table c.in_ok-waits_of_none.ensures.reach);
    }

pub loop-i-preserved : goal.loop-i-preserved
loop-i-preserved c =
    let weights = c.args.weights.now in
    let degree = c.args.degree in
    let small = c.requires in
    let i = c.loop-i.i in
    let place = i - 1 in
    let k = c.loop-i.invariant in
    let old = c.loop-i.tables.items in
    let tables : List (List ℕ) = map (λ (waits : Vec ℕ Global). waits.items) old in
    let next = c.in_ok-next.next.items in
    let is_next : i ≡ place + 1 = omega arith in
    let within : i ≤ length weights = omega arith in
    let columns = k.columns in
    let at = length weights - 1 - place in
    let behind = c.index.result.now in
    let table_is : get_or tables at [] ≡ behind.items = get_or_default tables at [] behind.items (omega arith)
    ∙ (get_or-map (λ (waits : Vec ℕ Global). waits.items) old at behind ∙ ap (λ (waits : Vec ℕ Global). waits.items) (sym c.index.ensures)) in
    let reach : IsReach (drop i weights) behind.items = subst (IsReach (drop i weights)) table_is (k.last at (omega arith)) in
    let behind_long : length behind.items ≡ degree + 1 = ap length (sym table_is) ∙ k.rows at (omega arith) in
    let next_long : length next ≡ degree + 1 = c.in_ok-next.ensures.columns ∙ (ap length c.deref.ensures.value ∙ behind_long) in
    let waits : AreWaits (get_or weights place 0) (drop i weights) next =
    c.in_ok-next.ensures.waits (drop i weights) (rw c.deref.ensures.value reach) in
    let tables_are : map (λ (waits : Vec ℕ Global). waits.items) c.push-in-loop-i.new.self.items ≡ tables ++ next ∷ [] =
    ap (λ (ts : List (Vec ℕ Global)). map (λ (waits : Vec ℕ Global). waits.items) ts) c.in_ok-push-2.ensures.items
    ∙ map-append (λ (waits : Vec ℕ Global). waits.items) old (c.in_ok-next.next ∷ []) in
    let longer = length-append tables (next ∷ []) in
    let rows = rows_more weights degree i place tables next is_next within columns k.rows next_long in
    let rows' : (m : ℕ) → m < length (tables ++ next ∷ []) → length (get_or (tables ++ next ∷ []) m []) ≡ degree + 1 = rw longer rows in
    record {
      columns = rw tables_are (omega arith);
      rows = rw tables_are rows';
      each = rw tables_are (each_more weights degree i place tables next is_next within columns k.each waits);
      last = rw tables_are (last_more weights degree i place tables next is_next within columns waits (omega arith));
    }
