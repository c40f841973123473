use Rattle.std.proofs.Common.{◌≡◌, ◌∙◌, ℕ, ◌+◌, ◌-◌, ◌*◌, ◌/◌, ◌<◌, ◌≤◌, List, ◌∷◌, length, drop, get_or, All, sym, ap, subst, arith, Vec, Global}
use Rattle.std.specs.Prelude.{slice_set}
use Rattle.std.proofs.Math.ListN.{length-set}
use Rattle.std.proofs.lemmas.Bool.{false≢true}
use Rattle.std.proofs.lemmas.Grind.{drop_more_same}
use Rattle.std.proofs.lemmas.List.{drop-set, drop-set-lt}
use Rattle.std.proofs.lemmas.Result.{on_ok_weaker}
use Rattle.lattice_core.specs.declared.limits.TheConstants.{MOST_DEGREE}
use Rattle.lattice_core.specs.declared.point.Point.{Point}
use Rattle.weight_tails.specs.steps.Listing.{IsListed, AddsEach, StayOnce}
use Rattle.weight_tails.proofs.LevelSteps.{levels_tell}
use Rattle.weight_tails.proofs.Listing.{IsListedBelow, tail_listed, added_first, once_first, once_more, added_all, added_more, added_none, affordable, small_exponent, small_set}
use Rattle.weight_tails.proofs.tails.+add_tails.Goals as goal
use Rattle.weight_tails.proofs.tails.+add_tails.Goals.{then-is_enough+in_ok-add_tails, else-is_enough}

pub returns-then-place-eq1-clause-tails : goal.returns-then-place-eq1-clause-tails
returns-then-place-eq1-clause-tails t c =
    let some = c.requires.some in
    let first : c.args.place ≡ 1 = omega arith in
    on_ok_weaker c.add_tail.result
    (λ pushed. added_first c.args.weights.now c.args.entries.now c.args.place c.args.left _ _ first
    (tail_listed c.args.weights.now c.args.entries.now c.args.place c.args.left first (omega (arith, some)) c.requires.columns c.requires.taken) pushed)
    c.add_tail.ensures

pub returns-then-place-eq1-clause-once : goal.returns-then-place-eq1-clause-once
returns-then-place-eq1-clause-once t c =
    let some = c.requires.some in
    let first : c.args.place ≡ 1 = omega arith in
    on_ok_weaker c.add_tail.result
    (λ pushed. once_first (IsListed c.args.weights.now c.args.entries.now c.args.place c.args.left) _ _ _
    (tail_listed c.args.weights.now c.args.entries.now c.args.place c.args.left first (omega (arith, some)) c.requires.columns c.requires.taken) pushed)
    c.add_tail.ensures

pub add_tails-requires : goal.add_tails-requires
add_tails-requires t c =
    let weights = c.args.weights.now in
    let p = c.args.place - 1 in
    let w = get_or weights p 0 in
    let v = c.loop-value.value in
    let rest = c.args.left - v * w in
    let some = c.requires.some in
    let least = c.requires.least in
    let most = c.requires.most in
    let left = c.requires.left in
    let limit = c.requires.limit in
    let columns = c.loop-value.invariant.columns in
    let own = c.requires.columns in
    let positive = c.requires.positive p 0 (omega (arith, least, most)) in
    let inside : rest < length c.args.levels.now = omega (arith, left) in
    let small = small_exponent v w c.args.left c.loop-value-test.true positive in
    let taken = (levels_tell weights c.args.levels.now (omega (arith, some)) c.requires.levels p rest (omega (arith, least, most)) inside).0
    (c.is_enough.ensures.0 c.if-is_enough.true) in (
      omega arith,
      (
        some,
        (
          c.requires.few,
          (
            c.requires.positive,
            (
              c.requires.levels,
              (
                inside,
                (
                  omega (arith, limit),
                  (
                    length-set c.loop-value.entries p v ∙ (columns ∙ own),
                    (
                      small_set c.loop-value.entries p v MOST_DEGREE c.loop-value.invariant.small (omega (arith, small, limit)),
                      (omega arith, (omega (arith, most), taken)),
                    ),
                  ),
                ),
              ),
            ),
          ),
        ),
      ),
    )

pub loop-value-preserved : goal.loop-value-preserved
loop-value-preserved t c =
    let weights = c.args.weights.now in
    let entries = c.args.entries.now in
    let p = c.args.place - 1 in
    let w = get_or weights p 0 in
    let left = c.args.left in
    let v = c.loop-value.value in
    let before = c.loop-value.entries in
    let kept = c.loop-value.invariant.kept in
    let columns = c.loop-value.invariant.columns in
    let own = c.requires.columns in
    let old = c.args.tails.now.items in
    let middle = c.loop-value.tails.items in
    let least = c.requires.least in
    let most = c.requires.most in
    let room = c.requires.left in
    let some = c.requires.some in
    let within : p < length weights = omega (arith, least, most) in
    let next : c.args.place ≡ p + 1 = omega (arith, least) in
    let positive = c.requires.positive p 0 within in
    let spends = affordable v w left c.loop-value-test.true positive in
    let kept' : drop (p + 1) before ≡ drop (p + 1) entries = subst (λ (k : ℕ). drop k before ≡ drop k entries) next kept in
    elim c.if-is_enough.branch [
      | then-is_enough+in_ok-add_tails u ↦
          let changed = slice_set before p v in
          let prefix : drop p changed ≡ v ∷ drop (p + 1) entries =
          drop-set before p v (omega (arith, within, columns, own)) ∙ ap (λ (xs : List ℕ). v ∷ xs) kept' in
          let stays = drop_more_same u.add_tails.new.entries changed p u.in_ok-add_tails.ensures.kept in
          let behind : drop (p + 1) changed ≡ drop (p + 1) entries = drop-set-lt (p + 1) before p v (omega arith) ∙ kept' in
          record {
            columns = c.if-is_enough.auto.entries ∙ columns;
            small = subst (λ (xs : List ℕ). All (λ e. e ≤ MOST_DEGREE) xs) (sym u.entries-is) u.in_ok-add_tails.ensures.small;
            kept = ap (λ (xs : List ℕ). drop c.args.place xs) u.entries-is
                ∙ subst (λ (k : ℕ). drop k u.add_tails.new.entries ≡ drop k entries) (sym next) (stays ∙ behind);
            tails = subst (λ (tails : Vec Point Global). AddsEach (IsListedBelow weights entries p left (v + 1)) old tails.items) (sym u.tails-is)
                (added_more weights entries changed p left (left - v * w) v old middle u.add_tails.new.tails.items within
                c.loop-value.invariant.tails spends prefix u.in_ok-add_tails.ensures.tails);
            once = subst (λ (tails : Vec Point Global). StayOnce (IsListed weights entries c.args.place left) old tails.items) (sym u.tails-is)
                (subst (λ (k : ℕ). StayOnce (IsListed weights entries k left) old u.add_tails.new.tails.items) (sym next)
                (once_more weights entries changed p left (left - v * w) v old middle u.add_tails.new.tails.items within (omega arith)
                c.loop-value.invariant.tails spends prefix
                (subst (λ (k : ℕ). StayOnce (IsListed weights entries k left) old middle) next c.loop-value.invariant.once)
                u.in_ok-add_tails.ensures.once));
          }
      | else-is_enough u ↦
          record {
            columns = c.if-is_enough.auto.entries ∙ columns;
            small = subst (λ (xs : List ℕ). All (λ e. e ≤ MOST_DEGREE) xs) (sym u.entries-is) c.loop-value.invariant.small;
            kept = ap (λ (xs : List ℕ). drop c.args.place xs) u.entries-is ∙ kept;
            tails = subst (λ (tails : Vec Point Global). AddsEach (IsListedBelow weights entries p left (v + 1)) old tails.items) (sym u.tails-is)
                (added_none weights entries entries p left (left - v * w) v old middle middle within
                c.loop-value.invariant.tails spends (λ taken. false≢true (sym u.if-is_enough.false ∙ c.is_enough.ensures.1
                ((levels_tell weights c.args.levels.now (omega (arith, some)) c.requires.levels p (left - v * w) within (omega (arith, room))).1 taken))));
            once = subst (λ (tails : Vec Point Global). StayOnce (IsListed weights entries c.args.place left) old tails.items) (sym u.tails-is)
                c.loop-value.invariant.once;
          }
    ]

pub returns-clause-tails : goal.returns-clause-tails
returns-clause-tails t c =
    let weights = c.args.weights.now in
    let p = c.args.place - 1 in
    let least = c.requires.least in
    let most = c.requires.most in
    let within : p < length weights = omega (arith, least, most) in
    let next : p + 1 ≡ c.args.place = omega (arith, least) in
    let positive = c.requires.positive p 0 within in
    let end : c.loop-value.value ≡ c.args.left / get_or weights p 0 + 1 = omega arith in
    subst (λ (k : ℕ). AddsEach (IsListed weights c.args.entries.now k c.args.left) c.args.tails.now.items c.loop-value.tails.items) next
    (added_all weights c.args.entries.now p c.args.left c.args.tails.now.items c.loop-value.tails.items within positive
    (subst (λ (b : ℕ). AddsEach (IsListedBelow weights c.args.entries.now p c.args.left b) c.args.tails.now.items
    c.loop-value.tails.items) end c.loop-value.invariant.tails))
