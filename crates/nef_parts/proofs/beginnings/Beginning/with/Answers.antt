use Rattle.std.proofs.Common.{◌↔◌, ◌⊎◌, ◌≡◌, ◌<◌, ℕ, length, refl, subst, arith}
use Rattle.std.proofs.lemmas.List.{get_or_default}
use Rattle.bit_rows.specs.Rows.{HasIndex}
use Rattle.nef_parts.proofs.BeginningSteps.{more_begins}
use Rattle.nef_parts.proofs.beginnings.Beginning.with.Goals as goal

pub returns-clause-longer : goal.returns-clause-longer
returns-clause-longer c b is =
    let within : c.args.part < length c.args.self.parts = omega (arith, c.requires.part, is.rows) in
    more_begins b c.args.self c.args.part is _ c.add.new.self c.requires.part c.requires.growth c.requires.count refl c.max.ensures refl
    (subst (λ (old : ℕ). (e : ℕ) → HasIndex c.add.new.self e ↔ (HasIndex old e ⊎ (e ≡ c.args.self.count)))
    (get_or_default c.args.self.parts c.args.part _ 0 within) c.add.ensures) c.add-2.ensures
