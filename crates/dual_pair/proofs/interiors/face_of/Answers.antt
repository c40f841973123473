use Rattle.std.specs.Prelude.{MatchOption}
use Rattle.std.proofs.Common.{◌≡◌, ◌^◌, ◌<◌, ℕ, length, sym, subst, arith}
use Rattle.std.proofs.lemmas.List.Elements.{All-from_get_or}
use Rattle.face_poset.specs.Faces.{face_at}
use Rattle.dual_pair.specs.CountSteps.{words_on}
use Rattle.dual_pair.specs.declared.side.Side.{Side}
use Rattle.dual_pair.proofs.interiors.face_of.Goals as goal

pub returns-in-M-clause-small : goal.returns-in-M-clause-small
returns-in-M-clause-small c = All-from_get_or (λ w. w < 2 ^ 64) c.args.words.now 0 (λ i l. let f = c.type_inv.words i in omega arith)

pub returns-in-N-clause-small : goal.returns-in-N-clause-small
returns-in-N-clause-small c = All-from_get_or (λ w. w < 2 ^ 64) c.args.words.now 0 (λ i l. let f = c.type_inv.words i in omega arith)

pub returns-in-M-clause-face : goal.returns-in-M-clause-face
returns-in-M-clause-face c = subst (λ (s : Side). MatchOption c.find_functions.result
    ((k : ℕ) → k < length c.args.table.now.faces → words_on s (face_at c.args.table.now.faces k) ≡ c.args.words.now → ⊥)
    (λ k. (k < length c.args.table.now.faces) × (words_on s (face_at c.args.table.now.faces k) ≡ c.args.words.now)))
    (sym c.in-M.is) c.find_functions.ensures.found

pub returns-in-N-clause-face : goal.returns-in-N-clause-face
returns-in-N-clause-face c = subst (λ (s : Side). MatchOption c.find.result
    ((k : ℕ) → k < length c.args.table.now.faces → words_on s (face_at c.args.table.now.faces k) ≡ c.args.words.now → ⊥)
    (λ k. (k < length c.args.table.now.faces) × (words_on s (face_at c.args.table.now.faces k) ≡ c.args.words.now)))
    (sym c.in-N.is) c.find.ensures.found
