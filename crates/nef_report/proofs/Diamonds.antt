-- How many Hodge numbers there are.
use Rattle.std.proofs.Common.{◌≡◌, ℕ, suc, ◌+◌, ◌*◌, List, [], ◌∷◌, ◌++◌, length, map, flat_map, ℤ, refl, ap, ◌∙◌, arith, length-append}
use Rattle.std.proofs.lemmas.List.{length-map}
use Rattle.std.proofs.lemmas.List.Concat.{flat_map-cons}
use Rattle.std.proofs.lemmas.List.FromFn.{length-range_with_len}
use Rattle.std.specs.List.{range_with_len}
use Rattle.stringy.specs.Numbers.{EState, hodge_at, hodge_line, hodge_lines}

-- lists of one length, behind one another
one_longer : (n w a b : ℕ) → a ≡ w → b ≡ n * w → a + b ≡ suc n * w
one_longer n w a b e f = omega (arith, e, f)

lines_long : (f : ℕ → List ℤ) (w : ℕ) → ((p : ℕ) → length (f p) ≡ w) → (ps : List ℕ) → length (flat_map f ps) ≡ length ps * w
lines_long f w e [] = omega arith
lines_long f w e (p ∷ ps) = ap length (flat_map-cons f p ps) ∙ (length-append (f p) (flat_map f ps)
    ∙ one_longer (length ps) w (length (f p)) (length (flat_map f ps)) (e p) (lines_long f w e ps))

line_long : (e : EState) (p : ℕ) → length (hodge_line e p) ≡ e.dim + 1
line_long e p = length-map (range_with_len 0 (e.dim + 1)) (hodge_at e p) ∙ length-range_with_len 0 (e.dim + 1)

pub hodge_lines_long : (e : EState) → length (hodge_lines e) ≡ (e.dim + 1) * (e.dim + 1)
hodge_lines_long e = lines_long (hodge_line e) (e.dim + 1) (line_long e) (range_with_len 0 (e.dim + 1))
    ∙ ap (λ (n : ℕ). n * (e.dim + 1)) (length-range_with_len 0 (e.dim + 1))
