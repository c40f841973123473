use Rattle.std.proofs.Common.{◌≡◌, ℕ, ◌+◌, ◌*◌, ◌<◌, ◌≤◌, ℤ, true, false, List, [], ◌∷◌, ◌++◌, length, drop, get_or, refl, sym, ap, ◌∙◌, arith, length-drop}
use Rattle.std.specs.Prelude.{◌==◌}
use Rattle.std.proofs.lemmas.Bool.Decides.{nat_tests}
use Rattle.palp_input.specs.Pieces.{first_line_end}
use Rattle.palp_input.specs.Lines.{LeadingNumbers, line_read}
use Rattle.palp_input.specs.LineSteps.{line_read_of}
use Rattle.palp_input.specs.declared.lines.LineNumber.{LineNumber}
use Rattle.palp_input.proofs.Starts.{line_len-pieces}
use Rattle.palp_input.proofs.Headers.{header_begun}
use Rattle.palp_input.proofs.HeldOpenings.{reads_matrix}
use Rattle.palp_input.proofs.openings.begun_matrix.Goals as goal

two_numbers : (numbers : List LineNumber) (d : LineNumber) → 2 ≤ length numbers → length numbers < 3
    → numbers ≡ get_or numbers 0 d ∷ get_or numbers 1 d ∷ []
two_numbers [] d least most = absurd (omega arith)
two_numbers (lines ∷ []) d least most = absurd (omega arith)
two_numbers (lines ∷ columns ∷ []) d least most = refl
two_numbers (lines ∷ columns ∷ more ∷ numbers) d least most = absurd (omega arith)

not_none : (a b m n : ℕ) → m ≡ a → n ≡ b → (m * n ≡ 0 → ⊥) → (a * b == 0) ≡ false
not_none a b m n e f some = let same : m * n ≡ a * b = ap (λ (k : ℕ). k * n) e ∙ ap (λ (k : ℕ). a * k) f in grind (arith, nat_tests)

pub returns : goal.returns
returns c =
    let text = c.args.text.now in
    let token = c.in-Word.token in
    let numbers = c.as_slice.result.now in
    let d : LineNumber = record { at = 0; value = 0 } in
    let lines = get_or numbers 0 d in
    let columns = get_or numbers 1 d in
    let place = c.line_end-place.result in
    let begins = c.in-Word.ensures.means ∙ sym c.in-Word.ensures.begins in
    let size : length text ≡ token.at + length (drop token.at text) = simp length-drop (omega (arith, c.in-Word.ensures.within.most, c.in-Word.ensures.within.some)) in
    let ends = ap (first_line_end (length text)) begins ∙ line_len-pieces (length text) token.at (drop token.at text) size
    ∙ sym c.line_end-place.ensures.value in
    let read = ap (line_read text true) begins ∙ sym c.in_ok-numbers.ensures.means ∙ ap line_read_of c.in-Numbers.is
    ∙ ap LeadingNumbers (sym c.as_slice.ensures.value ∙ two_numbers numbers d c.in-len2.len_at_least c.in-len2.len_below) in
    let some = not_none lines.value columns.value c.from.result c.from-2.result c.from.ensures c.from-2.ensures c.if-left-eq0.false in
    let before : place < length text = omega (arith, c.line_end-place.ensures.most, c.if-place-text.false) in
    let count : lines.value * columns.value ≡ c.from.result * c.from-2.result =
    ap (λ (k : ℕ). k * columns.value) (sym c.from.ensures) ∙ ap (λ (k : ℕ). c.from.result * k) (sym c.from-2.ensures) in
    record {
      at = lines.at;
      within = c.line_end-place.ensures.most;
      reads = λ more. header_begun text more place lines columns before ends read some
          ∙ ap (λ (n : ℕ). reads_matrix (text ++ more) lines.at lines.value columns.value [] place n) count
          ∙ ap (λ (es : List ℤ). reads_matrix (text ++ more) lines.at lines.value columns.value es place (c.from.result * c.from-2.result))
          (sym c.new.ensures.items);
    }
