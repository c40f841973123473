use Rattle.std.specs.Prelude.{IfNone, None, Some, Option}
use Rattle.std.proofs.Common.{◌≡◌, ◌∙◌, length, sym, ap, arith, []}
use Rattle.std.proofs.lemmas.Option.{IfSome_then}
use Rattle.std.proofs.lemmas.List.{get_or-map, length-map}
use Rattle.std.proofs.lemmas.Int.{ints}
use Rattle.region_walk.specs.Regions.{level, levels_of}
use Rattle.region_walk.proofs.Levels.{meets_level, level_places, level_constants}
use Rattle.region_walk.proofs.region.Region.span_behind.Goals as goal
use Rattle.region_walk.proofs.region.Region.span_behind.Goals.{After-deref}

-- what follows where there is no value
none_then : {X : Type 0} (r : Option X) {P Q : Type 0} → IfNone r P → (P → Q) → IfNone r Q
none_then None h f = f h
none_then (Some x) h f = tt

-- the functions of the level
functions_are : (c : After-deref) → c.deref.result.now ≡ level (levels_of c.args.self.now) (length c.args.beginning.now)
functions_are c = c.deref.ensures.value ∙ ap (λ v. v.items) c.index.ensures
    ∙ sym (get_or-map (λ functions. functions.items) c.args.self.now.levels.items (length c.args.beginning.now) c.index.result.now []
    (let l = c.requires.short in let d = c.requires.sound.one_each in
    let e = length-map c.args.self.now.levels.items (λ functions. functions.items) in omega (arith, l, d, e)))

pub span_behind-requires-clause-place : goal.span_behind-requires-clause-place
span_behind-requires-clause-place c =
    let self = c.args.self.now in
    let k = length c.args.beginning.now in
    let of_level = c.requires.sound.functions k c.requires.short in
    rw (functions_are c) (level_places (length self.low) k (level (levels_of self) k) of_level k c.requires.short)

pub span_behind-requires-clause-constants : goal.span_behind-requires-clause-constants
span_behind-requires-clause-constants c =
    let self = c.args.self.now in
    let k = length c.args.beginning.now in
    let of_level = c.requires.sound.functions k c.requires.short in
    rw (functions_are c) (level_constants (length self.low) k (level (levels_of self) k) of_level)

pub returns-clause-some : goal.returns-clause-some
returns-clause-some c =
    let self = c.args.self.now in
    let p = c.args.beginning.now in
    IfSome_then c.span_behind.result c.span_behind.ensures.some (λ s means v.
    let level = meets_level self.low self.high (levels_of self) p v _ _ c.deref.result.now
    (functions_are (goal.at.returns-clause-some c).After-deref)
    (let e = c.entry.ensures in omega (arith, ints)) (let e = c.entry-2.ensures in omega (arith, ints)) in
    (λ b. level.0 ((means v).0 b), λ m. (means v).1 (level.1 m)))

pub returns-clause-none : goal.returns-clause-none
returns-clause-none c =
    let self = c.args.self.now in
    let p = c.args.beginning.now in
    none_then c.span_behind.result c.span_behind.ensures.none (λ none v m.
    let level = meets_level self.low self.high (levels_of self) p v _ _ c.deref.result.now
    (functions_are (goal.at.returns-clause-none c).After-deref)
    (let e = c.entry.ensures in omega (arith, ints)) (let e = c.entry-2.ensures in omega (arith, ints)) in
    let w = level.1 m in none v w.0 w.1)
