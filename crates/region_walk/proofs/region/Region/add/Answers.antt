use Rattle.std.specs.Prelude.{ℤ}
use Rattle.std.proofs.Common.{◌≡◌, ◌∙◌, ◌++◌, ◌∷◌, [], ◌<◌, List, length, map, subst, sym, ap, arith}
use Rattle.std.proofs.Math.ListN.{set}
use Rattle.std.proofs.lemmas.List.{map-set, get_or-map, length-map}
use Rattle.lattice_theory.specs.Affine.{Affine}
use Rattle.lattice_theory.specs.Vector.{entry}
use Rattle.region_walk.specs.Regions.{level, levels_of, AreLevels, IsOfLevel}
use Rattle.region_walk.proofs.Levels.{added_levels, added_members}
use Rattle.region_walk.proofs.region.Region.add.Goals as goal
use Rattle.region_walk.proofs.region.Region.add.Goals.{In_ok-push}

-- the place is one of the levels
within : (c : In_ok-push) → c.level_of-level.result < length (levels_of c.args.self.now)
within c = let a = c.level_of-level.ensures.within in let b = c.requires.sound.one_each in let d = c.requires.dimension in
    let e = ap length c.normal.ensures.value in omega (arith, a, b, d, e)

-- the level has one function more
level_is : (c : In_ok-push) → c.push.new.self.items ≡ level (levels_of c.args.self.now) c.level_of-level.result ++ c.args.function ∷ []
level_is c = c.in_ok-push.ensures.items ∙ ap (λ (fs : List Affine). fs ++ c.args.function ∷ [])
    (ap (λ v. v.items) c.index_mut.ensures.value
    ∙ sym (get_or-map (λ functions. functions.items) c.args.self.now.levels.items c.level_of-level.result c.index_mut.result.now []
    (let l = within c in let e = length-map c.args.self.now.levels.items (λ functions. functions.items) in omega (arith, l, e))))

-- the levels
levels_are : (c : In_ok-push)
    → map (λ functions. functions.items) (set c.args.self.now.levels.items c.level_of-level.result c.push.new.self)
    ≡ set (levels_of c.args.self.now) c.level_of-level.result c.push.new.self.items
levels_are c = map-set (λ functions. functions.items) c.args.self.now.levels.items c.level_of-level.result c.push.new.self

of_level : (c : In_ok-push) → IsOfLevel (length c.args.self.now.low) c.level_of-level.result c.args.function
of_level c = record {
  dimension = c.requires.dimension;
  ends = λ j l. ap (λ (a : List ℤ). entry a j) (sym c.normal.ensures.value) ∙ c.level_of-level.ensures.ends j l;
  small = c.requires.constant;
}

pub returns-clause-sound : goal.returns-clause-sound
returns-clause-sound c =
    let self = c.args.self.now in
    subst (AreLevels self.low self.high) (sym (levels_are c))
    (added_levels self.low self.high (levels_of self) c.level_of-level.result c.args.function c.push.new.self.items (within c) (level_is c)
    c.requires.sound (of_level c))

pub returns-clause-members : goal.returns-clause-members
returns-clause-members c =
    let self = c.args.self.now in
    λ x. rw (levels_are c)
    (added_members self.low self.high (levels_of self) c.level_of-level.result c.args.function c.push.new.self.items (within c) (level_is c)
    c.requires.sound.one_each x)
