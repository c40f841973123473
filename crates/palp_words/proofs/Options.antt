-- The words `-r` of `cws`, before the numbers and behind them.
use Rattle.std.proofs.Common.{◌≡◌, ℕ, ◌+◌, ◌<◌, ◌≤◌, Bool, true, false, cond, List, [], ◌∷◌, ◌++◌, length, drop, Option, Some, None, refl, sym, ap, ◌∙◌, arith, length-append, append_assoc}
use Rattle.palp_words.specs.Numbers.{number_fault, number_of, largest}
use Rattle.palp_words.specs.Places.{size_fault}
use Rattle.palp_words.specs.Words.{first_fault, fault_or, cws_fault, cws_fault_behind, is_option, without_options, highest}
use Rattle.palp_words.specs.declared.fault.WordKind.{WordKind}
use Rattle.palp_words.specs.declared.fault.WordKind.TheVariants.{Extra}
use Rattle.palp_words.proofs.Faults.{IsNext}

-- a word that is `-r`, and one that isn't
pub skips : (word : List ℕ) (words : List (List ℕ)) → is_option word ≡ true → without_options (word ∷ words) ≡ without_options words
skips word words e = ap (λ (b : Bool). cond b (without_options words) (word ∷ words)) e

pub stops : (word : List ℕ) (words : List (List ℕ)) → is_option word ≡ false → without_options (word ∷ words) ≡ word ∷ words
stops word words e = ap (λ (b : Bool). cond b (without_options words) (word ∷ words)) e

-- the words from a place on, where the word there is `-r` or isn't
pub skips_at : (words : List (List ℕ)) (i : ℕ) (word : List ℕ) → IsNext words i word → is_option word ≡ true
    → without_options (drop i words) ≡ without_options (drop (i + 1) words)
skips_at words i word next e = ap without_options next.back ∙ skips word (drop (i + 1) words) e

pub stops_at : (words : List (List ℕ)) (i : ℕ) (word : List ℕ) → IsNext words i word → is_option word ≡ false
    → without_options (drop i words) ≡ drop i words
stops_at words i word next e = ap without_options next.back ∙ stops word (drop (i + 1) words) e ∙ sym next.back

-- the words behind words that are all `-r`
without_append_case : (first : List ℕ) (before more : List (List ℕ)) (b : Bool) → is_option first ≡ b
    → without_options (first ∷ before) ≡ []
    → (without_options before ≡ [] → without_options (before ++ more) ≡ without_options more)
    → without_options (first ∷ (before ++ more)) ≡ without_options more
without_append_case first before more true e h rest = skips first (before ++ more) e ∙ rest (sym (skips first before e) ∙ h)
without_append_case first before more false e h rest = let s = sym (stops first before e) ∙ h in cc

pub without_append : (before more : List (List ℕ)) → without_options before ≡ [] → without_options (before ++ more) ≡ without_options more
without_append [] more h = refl
without_append (first ∷ before) more h =
    without_append_case first before more (is_option first) refl h (without_append before more)

-- the words that are left of more words are no fewer
grows_case : (first : List ℕ) (before more : List (List ℕ)) (b : Bool) → is_option first ≡ b
    → length (without_options before) ≤ length (without_options (before ++ more))
    → length (without_options (first ∷ before)) ≤ length (without_options (first ∷ (before ++ more)))
grows_case first before more true e h = rw (skips first before e, skips first (before ++ more) e) h
grows_case first before more false e h =
    rw (stops first before e, stops first (before ++ more) e) (simp length-append (omega arith))

pub without_grows : (before more : List (List ℕ)) → length (without_options before) ≤ length (without_options (before ++ more))
without_grows [] more = omega arith
without_grows (first ∷ before) more = grows_case first before more (is_option first) refl (without_grows before more)

-- the first of the words that are left isn't `-r`
first_left_case : (first : List ℕ) (words : List (List ℕ)) (word : List ℕ) (rest : List (List ℕ)) (b : Bool) → is_option first ≡ b
    → (without_options words ≡ word ∷ rest → is_option word ≡ false)
    → without_options (first ∷ words) ≡ word ∷ rest → is_option word ≡ false
first_left_case first words word rest true e ih h = ih (sym (skips first words e) ∙ h)
first_left_case first words word rest false e ih h =
    let s = sym (stops first words e) ∙ h in
    let same : first ≡ word = cc in ap is_option (sym same) ∙ e

pub first_left : (words : List (List ℕ)) (word : List ℕ) (rest : List (List ℕ)) → without_options words ≡ word ∷ rest
    → is_option word ≡ false
first_left [] word rest h = cc
first_left (first ∷ words) word rest h =
    first_left_case first words word rest (is_option first) refl (first_left words word rest) h

-- the words `-r` in front of the others have no fault
pub record Head (before words : List (List ℕ)) : Type 0 where
  pub front : List (List ℕ)
  pub passed : first_fault cws_fault before words ≡ first_fault cws_fault front (without_options words)
  pub only : without_options front ≡ []
  pub count : length front + length (without_options words) ≡ length before + length words

option_passes : (before : List (List ℕ)) (word : List ℕ) (words : List (List ℕ)) → without_options before ≡ [] → is_option word ≡ true
    → first_fault cws_fault before (word ∷ words) ≡ first_fault cws_fault (before ++ word ∷ []) words
option_passes before word words only e =
    let right : cws_fault before word ≡ None =
    ap (λ (ws : List (List ℕ)). cws_fault_behind ws word) only ∙ ap (λ (b : Bool). cond b None (size_fault word)) e in
    ap (λ (k : Option WordKind). fault_or k (length before + 2) (first_fault cws_fault (before ++ word ∷ []) words)) right

head_case : (before : List (List ℕ)) (word : List ℕ) (words : List (List ℕ)) (b : Bool) → is_option word ≡ b → without_options before ≡ []
    → (without_options (before ++ word ∷ []) ≡ [] → Head (before ++ word ∷ []) words) → Head before (word ∷ words)
head_case before word words true e only rest =
    let more = rest (without_append before (word ∷ []) only ∙ skips word [] e) in
    record {
      front = more.front;
      passed = option_passes before word words only e ∙ more.passed
          ∙ ap (λ (ws : List (List ℕ)). first_fault cws_fault more.front ws) (sym (skips word words e));
      only = more.only;
      count = let c = more.count in rw (skips word words e) (omega (arith, simp length-append at c));
    }
head_case before word words false e only rest = record {
  front = before;
  passed = ap (λ (ws : List (List ℕ)). first_fault cws_fault before ws) (sym (stops word words e));
  only = only;
  count = rw (stops word words e) refl;
}

pub head_of : (before words : List (List ℕ)) → without_options before ≡ [] → Head before words
head_of before [] only = record { front = before; passed = refl; only = only; count = refl }
head_of before (word ∷ words) only =
    head_case before word words (is_option word) refl only (head_of (before ++ word ∷ []) words)

module _ (front : List (List ℕ)) (size low high : List ℕ) (only : without_options front ≡ []) (other : is_option size ≡ false) where
  -- the fault in the place of the `-w` word
  pub size_place : cws_fault front size ≡ size_fault size
  size_place = ap (λ (ws : List (List ℕ)). cws_fault_behind ws size) only ∙ ap (λ (b : Bool). cond b None (size_fault size)) other

  behind_size : (more : List (List ℕ)) → without_options (front ++ size ∷ more) ≡ size ∷ more
  behind_size more = without_append front (size ∷ more) only ∙ stops size more other

  -- the fault in the place of the least degree
  pub low_place : cws_fault (front ++ size ∷ []) low ≡ number_fault 1 largest low
  low_place = ap (λ (ws : List (List ℕ)). cws_fault_behind ws low) (behind_size [])

  -- the fault in the place of the largest degree
  pub high_place : cws_fault (front ++ size ∷ [] ++ low ∷ []) high ≡ number_fault (number_of low) (highest (number_of (drop 2 size))) high
  high_place = ap (λ (ws : List (List ℕ)). cws_fault_behind (without_options ws) high) (append_assoc front (size ∷ []) (low ∷ []))
      ∙ ap (λ (ws : List (List ℕ)). cws_fault_behind ws high) (behind_size (low ∷ []))

  -- three words are left of those before the last `-r`
  pub three_left : without_options (front ++ size ∷ [] ++ low ∷ [] ++ high ∷ []) ≡ size ∷ low ∷ high ∷ []
  three_left =
      ap without_options (append_assoc (front ++ size ∷ []) (low ∷ []) (high ∷ []) ∙ append_assoc front (size ∷ []) (low ∷ high ∷ []))
      ∙ behind_size (low ∷ high ∷ [])

-- the fault of a word behind the numbers
late_fault : (left : List (List ℕ)) (word : List ℕ) → 3 ≤ length left → cws_fault_behind left word ≡ cond (is_option word) None (Some Extra)
late_fault [] word h = absurd (omega arith)
late_fault (a ∷ []) word h = absurd (omega arith)
late_fault (a ∷ b ∷ []) word h = absurd (omega arith)
late_fault (a ∷ b ∷ c ∷ left) word h = refl

late_step : (before : List (List ℕ)) (word : List ℕ) (words : List (List ℕ)) (b : Bool) → is_option word ≡ b
    → 3 ≤ length (without_options before)
    → first_fault cws_fault before (word ∷ words) ≡ fault_or (cond b None (Some Extra)) (length before + 2)
    (first_fault cws_fault (before ++ word ∷ []) words)
late_step before word words b e h =
    ap (λ (k : Option WordKind). fault_or k (length before + 2) (first_fault cws_fault (before ++ word ∷ []) words))
    (late_fault (without_options before) word h ∙ ap (λ (x : Bool). cond x None (Some Extra)) e)

keeps_three : (before : List (List ℕ)) (word : List ℕ) → 3 ≤ length (without_options before)
    → 3 ≤ length (without_options (before ++ word ∷ []))
keeps_three before word h = omega (arith, without_grows before (word ∷ []))

-- only `-r` behind the numbers
right_case : (before : List (List ℕ)) (word : List ℕ) (words : List (List ℕ)) (b : Bool) → is_option word ≡ b
    → 3 ≤ length (without_options before)
    → without_options (word ∷ words) ≡ [] → (without_options words ≡ [] → first_fault cws_fault (before ++ word ∷ []) words ≡ None)
    → first_fault cws_fault before (word ∷ words) ≡ None
right_case before word words true e h none rest = late_step before word words true e h ∙ rest (sym (skips word words e) ∙ none)
right_case before word words false e h none rest = let s = sym (stops word words e) ∙ none in cc

pub tail_right : (before words : List (List ℕ)) → 3 ≤ length (without_options before) → without_options words ≡ []
    → first_fault cws_fault before words ≡ None
tail_right before [] h none = refl
tail_right before (word ∷ words) h none =
    right_case before word words (is_option word) refl h none (tail_right (before ++ word ∷ []) words (keeps_three before word h))

-- another word behind the numbers
wrong_case : (before : List (List ℕ)) (word : List ℕ) (words : List (List ℕ)) (place : ℕ) (b : Bool) → is_option word ≡ b
    → 3 ≤ length (without_options before) → place + length (without_options (word ∷ words)) ≡ length before + length (word ∷ words)
    → (place + length (without_options words) ≡ length (before ++ word ∷ []) + length words
    → 0 < length (without_options words)
    → first_fault cws_fault (before ++ word ∷ []) words ≡ Some (record { index = place + 2; kind = Extra }))
    → 0 < length (without_options (word ∷ words))
    → first_fault cws_fault before (word ∷ words) ≡ Some (record { index = place + 2; kind = Extra })
wrong_case before word words place true e h count rest some =
    let s = skips word words e in
    late_step before word words true e h
    ∙ rest (simp length-append (let c = rw s at count in omega arith)) (rw s at some)
wrong_case before word words place false e h count rest some =
    let c = rw (stops word words e) at count in
    let p : place ≡ length before = omega arith in
    late_step before word words false e h ∙ ap (λ (n : ℕ). Some (record { index = n + 2; kind = Extra })) (sym p)

pub tail_wrong : (before words : List (List ℕ)) (place : ℕ) → 3 ≤ length (without_options before)
    → place + length (without_options words) ≡ length before + length words → 0 < length (without_options words)
    → first_fault cws_fault before words ≡ Some (record { index = place + 2; kind = Extra })
tail_wrong before [] place h count some = absurd (omega arith)
tail_wrong before (word ∷ words) place h count some =
    wrong_case before word words place (is_option word) refl h count
    (tail_wrong (before ++ word ∷ []) words place (keeps_three before word h)) some
