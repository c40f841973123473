use Rattle.std.specs.Prelude.{ℤ}
use Rattle.std.proofs.Common.{◌≡◌, ◌+◌, ◌<◌, ◌++◌, ◌∷◌, [], List, length, subst, ap, arith, length-append}
use Rattle.lattice_theory.specs.Size.{absolute_sum}
use Rattle.region_walk.specs.Regions.{levels_of}
use Rattle.region_walk.specs.steps.Spans.{IsBetween}
use Rattle.region_walk.specs.steps.Beginnings.{MeetsLevel, Steps}
use Rattle.region_walk.proofs.Openings.{open_between, push_run, push_first}
use Rattle.region_walk.proofs.Measures.{within_small}
use Rattle.region_walk.proofs.Starts.{begins_itself, begins_from}
use Rattle.region_walk.proofs.Looking.{extended, stepped, ended}
use Rattle.region_walk.proofs.walk.look.Goals as goal
use Rattle.region_walk.proofs.walk.look.Goals.{In-Some, In-None}

pub span_behind-requires-clause-small : goal.span_behind-requires-clause-small
span_behind-requires-clause-small c =
    let region = c.args.region.now in
    let beginning = c.args.beginning.now in
    let p = beginning.entries.items in
    let short = c.requires.open.short in
    let sound = c.requires.sound in
    let dimension = sound.high_dimension in
    let small = within_small p region.low region.high (omega (arith, short)) (omega (arith, short, dimension))
    (open_between region.low region.high (levels_of region) sound p beginning.ends.items c.requires.open.opened) in
    let low = sound.small_low in
    let high = sound.small_high in
    let same = ap absolute_sum c.entries.ensures in
    omega (arith, small, low, high, same)

-- the values that extend the beginning
span : (c : In-Some) → (v : ℤ) → (IsBetween c.in-Some.span.low c.in-Some.span.high v
    → MeetsLevel c.args.region.now.low c.args.region.now.high (levels_of c.args.region.now) (length c.args.beginning.now.entries.items)
    (c.args.beginning.now.entries.items ++ v ∷ []))
    × (MeetsLevel c.args.region.now.low c.args.region.now.high (levels_of c.args.region.now) (length c.args.beginning.now.entries.items)
    (c.args.beginning.now.entries.items ++ v ∷ []) → IsBetween c.in-Some.span.low c.in-Some.span.high v)
span c =
    let region = c.args.region.now in
    let means : List ℤ → Type 0 = λ q. (v : ℤ) → (IsBetween c.in-Some.span.low c.in-Some.span.high v
    → MeetsLevel region.low region.high (levels_of region) (length q) (q ++ v ∷ []))
    × (MeetsLevel region.low region.high (levels_of region) (length q) (q ++ v ∷ [])
    → IsBetween c.in-Some.span.low c.in-Some.span.high v) in
    subst means c.entries.ensures c.in-Some.ensures.some

pub returns-then-entries-dim : goal.returns-then-entries-dim
returns-then-entries-dim c =
    let region = c.args.region.now in
    let p = c.args.beginning.now.entries.items in
    let ends = c.args.beginning.now.ends.items in
    let least = c.in-Some.span.low in
    let most = c.in-Some.span.high in
    let order = c.in-Some.ensures.ordered in
    let means = span (goal.at.returns-then-entries-dim c).In-Some in
    let open_ = c.requires.open.opened in
    let same = ap length c.entries-in-Some.ensures in
    let dimension = c.dim.ensures in
    let last : length p + 1 ≡ length region.low = omega arith in
    record {
      opened = open_;
      run = push_run region.low region.high (levels_of region) c.requires.sound p ends open_ least most c.requires.open.short order means last;
      from = begins_from p (p ++ least ∷ []) (begins_itself p (least ∷ []));
      first = push_first region.low region.high (levels_of region) c.requires.sound p ends open_ least most c.requires.open.short order means last;
    }

pub returns-else-entries-dim : goal.returns-else-entries-dim
returns-else-entries-dim c =
    let region = c.args.region.now in
    let p = c.args.beginning.now.entries.items in
    let ends = c.args.beginning.now.ends.items in
    let least = c.in-Some.span.low in
    let most = c.in-Some.span.high in
    let order = c.in-Some.ensures.ordered in
    let means = span (goal.at.returns-else-entries-dim c).In-Some in
    let same = ap length c.entries-in-Some.ensures in
    let dimension = c.dim.ensures in
    let short = c.requires.open.short in
    let longer = length-append p (least ∷ []) in
    let more : length (p ++ least ∷ []) < length region.low = omega arith in
    extended region.low region.high (levels_of region) c.requires.sound p ends c.requires.open least most order means more _ _
    c.extend.ensures.entries c.extend.ensures.ends

-- nothing extends the beginning
none : (c : In-None) → (v : ℤ) → MeetsLevel c.args.region.now.low c.args.region.now.high (levels_of c.args.region.now)
    (length c.args.beginning.now.entries.items) (c.args.beginning.now.entries.items ++ v ∷ []) → ⊥
none c =
    let region = c.args.region.now in
    let means : List ℤ → Type 0 = λ q. (v : ℤ) → MeetsLevel region.low region.high (levels_of region) (length q) (q ++ v ∷ []) → ⊥ in
    subst means c.entries.ensures c.in-None.ensures.none

pub returns-then-step : goal.returns-then-step
returns-then-step c =
    let region = c.args.region.now in
    let beginning = c.args.beginning.now in
    let p = beginning.entries.items in
    let step = subst (λ b. Steps p beginning.ends.items c.step.new.self.entries.items c.step.new.self.ends.items b) c.if-step.true c.step.ensures in
    stepped region.low region.high (levels_of region) c.requires.sound p beginning.ends.items c.requires.open
    (none (goal.at.returns-then-step c).In-None) _ _ step

pub returns-else-step : goal.returns-else-step
returns-else-step c =
    let region = c.args.region.now in
    let beginning = c.args.beginning.now in
    let p = beginning.entries.items in
    let step = subst (λ b. Steps p beginning.ends.items c.step.new.self.entries.items c.step.new.self.ends.items b) c.if-step.false c.step.ensures in
    ended region.low region.high (levels_of region) c.requires.sound p beginning.ends.items c.requires.open
    (none (goal.at.returns-else-step c).In-None) c.step.new.self.entries.items c.step.new.self.ends.items step
