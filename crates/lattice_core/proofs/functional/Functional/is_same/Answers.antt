use Rattle.std.proofs.Common.{sym, ◌∙◌}
use Rattle.lattice_core.proofs.Comparisons.{same_functions}
use Rattle.lattice_core.proofs.functional.Functional.is_same.Goals as goal

pub returns : goal.returns
returns c =
    let decides = same_functions c.args.self.now c.args.other.now in
    (λ h. decides.0 (sym c.eq.ensures ∙ h), λ e. c.eq.ensures ∙ decides.1 e)
