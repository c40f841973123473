use Rattle.std.proofs.Common.{subst, Bool}
use Rattle.std.proofs.lemmas.Bool.{false≢true}
use Rattle.weight_tails.specs.steps.Levels.{IsTwiceAnswer}
use Rattle.weight_enum.proofs.TwiceTaken.{none_twice}
use Rattle.weight_enum.proofs.interior.is_system.Goals as goal

pub returns-then-not-are_taken_twice : goal.returns-then-not-are_taken_twice
returns-then-not-are_taken_twice c =
    let none = subst (λ (b : Bool). IsTwiceAnswer c.args.degree c.args.weights.now b) c.if-not-are_taken_twice.true c.are_taken_twice.ensures in (
      λ e. absurd (false≢true e),
      λ h. absurd (none_twice c.args.degree c.args.weights.now none.0 c.requires.taken.positive none.1.0 c.requires.taken.searched.some none.1.1 h.interior),
    )
