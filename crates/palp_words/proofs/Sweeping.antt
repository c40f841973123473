-- The answer of `sweep`, number by number.
use Rattle.std.proofs.Common.{◌≡◌, ℕ, ◌<◌, ◌≤◌, List, [], ◌∷◌, length, drop, Some, None, Result, Ok, Err, refl, sym, ap, ◌∙◌, arith}
use Rattle.palp_words.specs.Numbers.{largest}
use Rattle.palp_words.specs.Places.{first_number_fault, first_number}
use Rattle.palp_words.specs.Words.{command_answer, sweep_fault, sweep_job, highest}
use Rattle.palp_words.specs.declared.fault.WordKind.{WordKind}
use Rattle.palp_words.specs.declared.fault.WordKind.TheVariants.{Extra}
use Rattle.palp_words.specs.declared.fault.WordFault.{WordFault}
use Rattle.palp_words.specs.declared.job.Job.{Job}
use Rattle.palp_words.specs.declared.job.Job.TheVariants.{Sweep}

abbrev pub sweep_answer : List (List ℕ) → Result Job WordFault
sweep_answer words = command_answer sweep_fault (sweep_job words) words

-- the first word is the wrong one
pub dim_wrong : (words : List (List ℕ)) (kind : WordKind) → first_number_fault 1 5 words ≡ Some kind
    → sweep_answer words ≡ Err (record { index = 2; kind = kind })
dim_wrong [] kind e = cc
dim_wrong (n ∷ words) kind e = rw e refl

-- the second one
pub low_wrong : (words : List (List ℕ)) (kind : WordKind) → first_number_fault 1 5 words ≡ None
    → first_number_fault 1 largest (drop 1 words) ≡ Some kind → sweep_answer words ≡ Err (record { index = 3; kind = kind })
low_wrong [] kind d e = cc
low_wrong (n ∷ []) kind d e = rw d (cc)
low_wrong (n ∷ l ∷ words) kind d e = rw d (rw e refl)

-- the third one
pub high_wrong : (words : List (List ℕ)) (kind : WordKind) → first_number_fault 1 5 words ≡ None
    → first_number_fault 1 largest (drop 1 words) ≡ None
    → first_number_fault (first_number (drop 1 words)) (highest (first_number words)) (drop 2 words) ≡ Some kind
    → sweep_answer words ≡ Err (record { index = 4; kind = kind })
high_wrong [] kind d e f = cc
high_wrong (n ∷ []) kind d e f = cc
high_wrong (n ∷ l ∷ []) kind d e f = rw d (rw e (cc))
high_wrong (n ∷ l ∷ h ∷ words) kind d e f = rw d (rw e (rw f refl))

module _ (words : List (List ℕ)) where
  -- the three numbers are right
  pub record AreRight : Type 0 where
    pub dim : first_number_fault 1 5 words ≡ None
    pub low : first_number_fault 1 largest (drop 1 words) ≡ None
    pub high : first_number_fault (first_number (drop 1 words)) (highest (first_number words)) (drop 2 words) ≡ None

-- a fourth word
pub one_too_many : (words : List (List ℕ)) → AreRight words → 3 < length words
    → sweep_answer words ≡ Err (record { index = 5; kind = Extra })
one_too_many [] r h = absurd (omega arith)
one_too_many (n ∷ []) r h = absurd (omega arith)
one_too_many (n ∷ l ∷ []) r h = absurd (omega arith)
one_too_many (n ∷ l ∷ h ∷ []) r k = absurd (omega arith)
one_too_many (n ∷ l ∷ h ∷ x ∷ words) r k = rw r.dim (rw r.low (rw r.high refl))

-- three right numbers
pub all_right : (words : List (List ℕ)) → AreRight words → length words ≤ 3
    → sweep_answer words ≡ Ok (Sweep (record {
      dim = first_number words;
      low = first_number (drop 1 words);
      high = first_number (drop 2 words);
    }))
all_right [] r h = let d = r.dim in cc
all_right (n ∷ []) r h = let d = r.low in cc
all_right (n ∷ l ∷ []) r h = let d = r.high in cc
all_right (n ∷ l ∷ h ∷ []) r k = rw r.dim (rw r.low (rw r.high refl))
all_right (n ∷ l ∷ h ∷ x ∷ words) r k = absurd (omega arith)

-- the third number, by the first two
pub high_right : (words : List (List ℕ)) (dim low limit : ℕ) → dim ≡ first_number words → low ≡ first_number (drop 1 words)
    → limit ≡ highest dim → first_number_fault low limit (drop 2 words) ≡ None
    → first_number_fault (first_number (drop 1 words)) (highest (first_number words)) (drop 2 words) ≡ None
high_right words dim low limit d l m h =
    ap (λ (x : ℕ). first_number_fault x (highest (first_number words)) (drop 2 words)) (sym l)
    ∙ ap (λ (x : ℕ). first_number_fault low x (drop 2 words)) (sym (m ∙ ap highest d)) ∙ h
