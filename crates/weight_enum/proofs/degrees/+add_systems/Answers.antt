use Rattle.std.proofs.Common.{◌≡◌, ◌∙◌, ℕ, ◌+◌, ◌-◌, ◌<◌, ◌≤◌, List, [], ◌∷◌, ◌++◌, length, take, refl, sym, ap, subst, arith}
use Rattle.std.specs.Prelude.{slice_set}
use Rattle.std.proofs.Math.ListN.{length-set}
use Rattle.std.proofs.lemmas.List.{take_more_set, take-set}
use Rattle.lattice_core.specs.Weights.{weighted_all}
use Rattle.weight_enum.specs.Taken.{AreSearched}
use Rattle.weight_enum.specs.steps.Listing.{IsCompleted, AddsSystems, IsReady}
use Rattle.weight_enum.proofs.Listing.{IsCompletedBelow, adds_nothing, adds_next, adds_same, none_below_first}
use Rattle.weight_enum.proofs.Listing.{completed_from_below, below_from_completed, below_wider, front_of, next_ready}
use Rattle.weight_enum.proofs.LevelBeginnings.{alike_same, alike_trans, alike_weaker, serves_alike, serves_changed}
use Rattle.weight_enum.proofs.degrees.+add_systems.Goals as goal

pub loop-weight-init : goal.loop-weight-init
loop-weight-init t c =
    let n = length c.args.weights.now in
    let b = take c.args.place c.args.weights.now in
    let first = c.first_weight-first.result in
    record {
      columns = refl;
      kept = refl;
      numbers = refl;
      alike = alike_same c.args.place c.args.levels.now;
      systems = adds_nothing (IsCompletedBelow c.args.degree n b first) c.args.degree (weighted_all c.args.found.now.systems.items)
          (λ x k. none_below_first c.args.degree n c.args.place c.args.least c.args.rest first b x c.requires.ready c.first_weight-first.ensures k);
    }

pub add_if_system-requires-clause-levels : goal.add_if_system-requires-clause-levels
add_if_system-requires-clause-levels t c =
    let some = c.requires.searched.some in
    c.requires.serve (length c.args.weights.now - 1) (omega arith) (omega (arith, some))

pub carry-requires-clause-serve : goal.carry-requires-clause-serve
carry-requires-clause-serve t c =
    let place = c.args.place in
    let before = c.loop-weight.weights in
    let v = c.loop-weight.weight in
    serves_changed place c.args.weights.now (slice_set before place v) c.loop-weight.levels (length-set before place v ∙ c.loop-weight.invariant.columns)
    (take-set before place v ∙ c.loop-weight.invariant.kept)
    (serves_alike place c.args.weights.now c.args.levels.now c.loop-weight.levels c.loop-weight.invariant.numbers c.loop-weight.invariant.alike c.requires.serve)

pub add_systems-requires : goal.add_systems-requires
add_systems-requires t c =
    let n = length c.args.weights.now in
    let place = c.args.place in
    let degree = c.args.degree in
    let b = take place c.args.weights.now in
    let v = c.loop-weight.weight in
    let before = c.loop-weight.weights in
    let columns = c.loop-weight.invariant.columns in
    let kept = c.loop-weight.invariant.kept in
    let changed = slice_set before place v in
    let within : place < length before = omega arith in
    let long : length changed ≡ n = length-set before place v ∙ columns in
    let prefix : take (place + 1) changed ≡ b ++ v ∷ [] = take_more_set before place v within ∙ ap (λ (xs : List ℕ). xs ++ v ∷ []) kept in
    let above = c.first_weight-first.ensures.above in
    let affordable = c.most_weight-most.ensures.affordable in
    let takes = c.first_weight-first.ensures.takes in
    let ready : IsReady degree n (b ++ v ∷ []) (place + 1) v (c.args.rest - v) =
    next_ready degree n place c.args.least c.args.rest v b c.requires.ready (omega arith) (omega arith) (omega arith)
    (λ e. let low = takes e in omega (arith, low)) in
    let searched : AreSearched degree (length changed) = subst (AreSearched degree) (sym long) c.requires.searched in
    let ready' = subst (λ (xs : List ℕ). IsReady degree n xs (place + 1) v (c.args.rest - v)) (sym prefix) ready in
    let ready'' = subst (λ (m : ℕ). IsReady degree m (take (place + 1) changed) (place + 1) v (c.args.rest - v)) (sym long) ready' in
    let numbers : length c.carry.new.levels ≡ degree + 1 = c.carry.ensures.columns ∙ (c.loop-weight.invariant.numbers ∙ c.requires.numbers) in
    (omega arith, (searched, (ready'', (numbers, c.carry.ensures.serve))))

pub loop-weight-preserved : goal.loop-weight-preserved
loop-weight-preserved t c =
    let n = length c.args.weights.now in
    let place = c.args.place in
    let degree = c.args.degree in
    let b = take place c.args.weights.now in
    let v = c.loop-weight.weight in
    let before = c.loop-weight.weights in
    let columns = c.loop-weight.invariant.columns in
    let kept = c.loop-weight.invariant.kept in
    let changed = slice_set before place v in
    let within : place < length before = omega arith in
    let long : length changed ≡ n = length-set before place v ∙ columns in
    let prefix : take (place + 1) changed ≡ b ++ v ∷ [] = take_more_set before place v within ∙ ap (λ (xs : List ℕ). xs ++ v ∷ []) kept in
    let middle = weighted_all c.loop-weight.found.systems.items in
    let new = weighted_all c.add_systems.new.found.systems.items in
    let added = subst (λ (m : ℕ). AddsSystems (IsCompleted degree m (take (place + 1) changed)) degree middle new) long c.in_ok-add_systems.ensures.systems in
    let added' = subst (λ (xs : List ℕ). AddsSystems (IsCompleted degree n xs) degree middle new) prefix added in
    record {
      columns = c.in_ok-add_systems.ensures.columns ∙ long;
      kept = front_of c.add_systems.new.weights changed place c.in_ok-add_systems.ensures.kept ∙ (take-set before place v ∙ kept);
      numbers = c.in_ok-add_systems.ensures.numbers ∙ (c.carry.ensures.columns ∙ c.loop-weight.invariant.numbers);
      alike = alike_trans place c.args.levels.now c.loop-weight.levels c.add_systems.new.levels c.loop-weight.invariant.numbers
          c.loop-weight.invariant.alike (alike_trans place c.loop-weight.levels c.carry.new.levels c.add_systems.new.levels c.carry.ensures.columns
          c.carry.ensures.alike (alike_weaker place c.carry.new.levels c.add_systems.new.levels c.in_ok-add_systems.ensures.alike));
      systems = adds_next degree n v b (weighted_all c.args.found.now.systems.items) middle new c.loop-weight.invariant.systems added';
    }

pub returns-clause-systems : goal.returns-clause-systems
returns-clause-systems t c =
    let n = length c.args.weights.now in
    let b = take c.args.place c.args.weights.now in
    let v = c.loop-weight.weight in
    let most = c.most_weight-most.result in
    let within : c.args.place < n = omega arith in
    let past : most + 1 ≤ v = omega arith in
    adds_same (IsCompletedBelow c.args.degree n b v) (IsCompleted c.args.degree n b) c.args.degree (weighted_all c.args.found.now.systems.items)
    (weighted_all c.loop-weight.found.systems.items) (completed_from_below c.args.degree n v b)
    (λ x k. below_wider c.args.degree n (most + 1) v b x past
    (below_from_completed c.args.degree n c.args.place c.args.least c.args.rest most b x c.requires.ready within c.most_weight-most.ensures.most k))
    c.loop-weight.invariant.systems
