-- The words of `nef`, word by word.
use Rattle.std.proofs.Common.{◌≡◌, ℕ, ◌+◌, Bool, true, false, ◌||◌, cond, List, [], ◌∷◌, ◌++◌, take, drop, Option, None, is_some, refl, sym, ap, ◌∙◌}
use lib.Chars.{codes}
use Rattle.std.specs.List.{list_any}
use Rattle.std.specs.Option.{unwrap_or}
use Rattle.palp_words.specs.Numbers.{number_fault, number_of}
use Rattle.palp_words.specs.Words.{nef_fault, is_codim_word, codim_of, kind_or, conflict_where, letters_fault, are_both_given}
use Rattle.palp_words.specs.declared.fault.WordKind.{WordKind}
use Rattle.palp_words.proofs.Faults.{IsNext, any_next}

module _ (before : List (List ℕ)) (word : List ℕ) where
  -- the fault of a `-c` word
  pub codim_word_fault : (codim : Option ℕ) (kind : Option WordKind) → is_codim_word word ≡ true
      → is_some codim ≡ list_any is_codim_word before
      → kind_or (number_fault 1 3 (drop 2 word)) (conflict_where (is_some codim)) ≡ kind → nef_fault before word ≡ kind
  codim_word_fault codim kind test given e =
      ap (λ (b : Bool). cond b (kind_or (number_fault 1 3 (drop 2 word)) (conflict_where (list_any is_codim_word before)))
      (letters_fault (codes "pH") (are_both_given (codes "p") (codes "H") (before ++ word ∷ [])) word)) test
      ∙ ap (λ (b : Bool). kind_or (number_fault 1 3 (drop 2 word)) (conflict_where b)) (sym given) ∙ e

  -- the fault of another word
  pub other_word_fault : (conflict : Bool) (kind : Option WordKind) → is_codim_word word ≡ false
      → conflict ≡ are_both_given (codes "p") (codes "H") (before ++ word ∷ [])
      → letters_fault (codes "pH") conflict word ≡ kind → nef_fault before word ≡ kind
  other_word_fault conflict kind test both e =
      ap (λ (b : Bool). cond b (kind_or (number_fault 1 3 (drop 2 word)) (conflict_where (list_any is_codim_word before)))
      (letters_fault (codes "pH") (are_both_given (codes "p") (codes "H") (before ++ word ∷ [])) word)) test
      ∙ ap (λ (b : Bool). letters_fault (codes "pH") b word) (sym both) ∙ e

-- a right `-c` word
pub no_codim_fault : (digits : List ℕ) (codim : Option ℕ) → codim ≡ None → number_fault 1 3 digits ≡ None
    → kind_or (number_fault 1 3 digits) (conflict_where (is_some codim)) ≡ None
no_codim_fault digits codim none right =
    ap (λ (k : Option WordKind). kind_or k (conflict_where (is_some codim))) right
    ∙ ap (λ (o : Option ℕ). conflict_where (is_some o)) none

-- a test or true, and a test or false
pub or_true : (b : Bool) → (b || true) ≡ true
or_true true = refl
or_true false = refl

pub or_false : (b : Bool) → (b || false) ≡ b
or_false true = refl
or_false false = refl

module _ (words : List (List ℕ)) (i : ℕ) (word : List ℕ) (next : IsNext words i word) where
  -- whether a `-c` word is given, with one word more
  pub codim_given_next : (before : Option ℕ) (here : Bool) → is_some before ≡ list_any is_codim_word (take i words)
      → here ≡ is_codim_word word → (is_some before || here) ≡ list_any is_codim_word (take (i + 1) words)
  codim_given_next before here b h = any_next is_codim_word words i word _ _ next b h

  -- the codimension behind a word
  pub codim_of_next : codim_of (drop i words) ≡ cond (is_codim_word word) (number_of (drop 2 word)) (codim_of (drop (i + 1) words))
  codim_of_next = ap codim_of next.back

  -- the first `-c` word gives the codimension
  pub codim_found : (codim : Option ℕ) (n : ℕ) → codim ≡ None → is_codim_word word ≡ true → n ≡ number_of (drop 2 word)
      → codim_of words ≡ unwrap_or codim (codim_of (drop i words)) → codim_of words ≡ n
  codim_found codim n none test e h =
      h ∙ ap (λ (o : Option ℕ). unwrap_or o (codim_of (drop i words))) none ∙ codim_of_next
      ∙ ap (λ (b : Bool). cond b (number_of (drop 2 word)) (codim_of (drop (i + 1) words))) test ∙ sym e

  -- another word doesn't change it
  pub codim_stays : (codim : Option ℕ) → is_codim_word word ≡ false
      → codim_of words ≡ unwrap_or codim (codim_of (drop i words)) → codim_of words ≡ unwrap_or codim (codim_of (drop (i + 1) words))
  codim_stays codim test h =
      h ∙ ap (λ (n : ℕ). unwrap_or codim n)
      (codim_of_next ∙ ap (λ (b : Bool). cond b (number_of (drop 2 word)) (codim_of (drop (i + 1) words))) test)
