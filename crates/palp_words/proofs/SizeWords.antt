-- The answer of `cws`, number by number.
use Rattle.std.proofs.Common.{◌≡◌, ℕ, ◌+◌, ◌-◌, ◌<◌, ◌≤◌, Bool, false, List, [], ◌∷◌, ◌++◌, length, drop, Option, Some, None, Result, Ok, Err, refl, sym, ap, ◌∙◌, arith, length-append, length-drop}
use Rattle.std.proofs.lemmas.List.{drop-drop, drop_all}
use Rattle.std.specs.List.{list_any}
use Rattle.palp_words.specs.Numbers.{largest}
use Rattle.palp_words.specs.Places.{first_size_fault, first_size, first_number_fault, first_number}
use Rattle.palp_words.specs.Words.{first_fault, fault_or, answer_of, command_answer, cws_fault, cws_job, cws_job_of, is_option, without_options, highest}
use Rattle.palp_words.specs.declared.fault.WordKind.{WordKind}
use Rattle.palp_words.specs.declared.fault.WordKind.TheVariants.{Missing, Extra}
use Rattle.palp_words.specs.declared.fault.WordFault.{WordFault}
use Rattle.palp_words.specs.declared.job.Job.{Job}
use Rattle.palp_words.specs.declared.job.Job.TheVariants.{Cws}
use Rattle.palp_words.proofs.Options.{head_of, Head, first_left, size_place, low_place, high_place, three_left, tail_right, tail_wrong}

abbrev pub cws_answer : List (List ℕ) → Result Job WordFault
cws_answer words = command_answer cws_fault (cws_job words) words

-- a word that is right, and one that isn't
passes : (before : List (List ℕ)) (word : List ℕ) (words : List (List ℕ)) → cws_fault before word ≡ None
    → first_fault cws_fault before (word ∷ words) ≡ first_fault cws_fault (before ++ word ∷ []) words
passes before word words e =
    ap (λ (k : Option WordKind). fault_or k (length before + 2) (first_fault cws_fault (before ++ word ∷ []) words)) e

fails : (before : List (List ℕ)) (word : List ℕ) (words : List (List ℕ)) (kind : WordKind) (index : ℕ) → cws_fault before word ≡ Some kind
    → length before + 2 ≡ index → first_fault cws_fault before (word ∷ words) ≡ Some (record { index = index; kind = kind })
fails before word words kind index e at =
    ap (λ (k : Option WordKind). fault_or k (length before + 2) (first_fault cws_fault (before ++ word ∷ []) words)) e
    ∙ ap (λ (i : ℕ). Some (record { index = i; kind = kind })) at

-- a missing word
missing_at : (next index : ℕ) (kind : WordKind) → next ≡ index → Some Missing ≡ Some kind
    → answer_of None None next ≡ Err (record { index = index; kind = kind })
missing_at next index kind e h = cc

-- the first word isn't `-r`
abbrev IsStart : List (List ℕ) → Type 0
IsStart left = (word : List ℕ) (words : List (List ℕ)) → left ≡ word ∷ words → is_option word ≡ false

-- the numbers are right
record AreRight (left : List (List ℕ)) : Type 0 where
  dim : first_size_fault left ≡ None
  low : first_number_fault 1 largest (drop 1 left) ≡ None
  high : first_number_fault (first_number (drop 1 left)) (highest (first_size left)) (drop 2 left) ≡ None

module _ (front : List (List ℕ)) (only : without_options front ≡ []) (reflexive : Bool) where
  abbrev answer_behind : List (List ℕ) → ℕ → Result Job WordFault
  answer_behind left next = answer_of (first_fault cws_fault front left) (cws_job_of reflexive left) next

  size_wrong : (left : List (List ℕ)) (next : ℕ) (kind : WordKind) → IsStart left → next ≡ length front + length left + 2
      → first_size_fault left ≡ Some kind → answer_behind left next ≡ Err (record { index = length front + 2; kind = kind })
  size_wrong [] next kind start e h = let m : next ≡ length front + 2 = omega arith in cc
  size_wrong (w ∷ left) next kind start e h =
      ap (λ (f : Option WordFault). answer_of f (cws_job_of reflexive (w ∷ left)) next)
      (fails front w left kind (length front + 2) (size_place front w w w only (start w left refl) ∙ h) refl)

  low_wrong : (left : List (List ℕ)) (next : ℕ) (kind : WordKind) → IsStart left → next ≡ length front + length left + 2
      → first_size_fault left ≡ None → first_number_fault 1 largest (drop 1 left) ≡ Some kind
      → answer_behind left next ≡ Err (record { index = length front + 3; kind = kind })
  low_wrong [] next kind start e d h = cc
  low_wrong (w ∷ []) next kind start e d h =
      let m : next ≡ length front + 3 = omega arith in
      let same = missing_at next (length front + 3) kind m h in
      ap (λ (f : Option WordFault). answer_of f (cws_job_of reflexive (w ∷ [])) next)
      (passes front w [] (size_place front w w w only (start w [] refl) ∙ d)) ∙ same
  low_wrong (w ∷ l ∷ left) next kind start e d h =
      let o = start w (l ∷ left) refl in
      ap (λ (f : Option WordFault). answer_of f (cws_job_of reflexive (w ∷ l ∷ left)) next)
      (passes front w (l ∷ left) (size_place front w l l only o ∙ d)
      ∙ fails (front ++ w ∷ []) l left kind (length front + 3) (low_place front w l l only o ∙ h) (simp length-append (omega arith)))

  high_wrong : (left : List (List ℕ)) (next : ℕ) (kind : WordKind) → IsStart left → next ≡ length front + length left + 2
      → first_size_fault left ≡ None → first_number_fault 1 largest (drop 1 left) ≡ None
      → first_number_fault (first_number (drop 1 left)) (highest (first_size left)) (drop 2 left) ≡ Some kind
      → answer_behind left next ≡ Err (record { index = length front + 4; kind = kind })
  high_wrong [] next kind start e d l h = cc
  high_wrong (w ∷ []) next kind start e d l h = cc
  high_wrong (w ∷ l ∷ []) next kind start e d f h =
      let o = start w (l ∷ []) refl in
      let m : next ≡ length front + 4 = omega arith in
      let same = missing_at next (length front + 4) kind m h in
      ap (λ (f : Option WordFault). answer_of f (cws_job_of reflexive (w ∷ l ∷ [])) next)
      (passes front w (l ∷ []) (size_place front w l l only o ∙ d)
      ∙ passes (front ++ w ∷ []) l [] (low_place front w l l only o ∙ f)) ∙ same
  high_wrong (w ∷ l ∷ h ∷ left) next kind start e d f g =
      let o = start w (l ∷ h ∷ left) refl in
      ap (λ (f : Option WordFault). answer_of f (cws_job_of reflexive (w ∷ l ∷ h ∷ left)) next)
      (passes front w (l ∷ h ∷ left) (size_place front w l h only o ∙ d)
      ∙ passes (front ++ w ∷ []) l (h ∷ left) (low_place front w l h only o ∙ f)
      ∙ fails (front ++ w ∷ [] ++ l ∷ []) h left kind (length front + 4) (high_place front w l h only o ∙ g)
      (simp length-append (omega arith)))

  module _ (w l h : List ℕ) (left : List (List ℕ)) (other : is_option w ≡ false) (right : AreRight (w ∷ l ∷ h ∷ left)) where
    three_passed : first_fault cws_fault front (w ∷ l ∷ h ∷ left) ≡ first_fault cws_fault (front ++ w ∷ [] ++ l ∷ [] ++ h ∷ []) left
    three_passed =
        passes front w (l ∷ h ∷ left) (size_place front w l h only other ∙ right.dim)
        ∙ passes (front ++ w ∷ []) l (h ∷ left) (low_place front w l h only other ∙ right.low)
        ∙ passes (front ++ w ∷ [] ++ l ∷ []) h left (high_place front w l h only other ∙ right.high)

    three : 3 ≤ length (without_options (front ++ w ∷ [] ++ l ∷ [] ++ h ∷ []))
    three = rw (three_left front w l h only other) (omega arith)

  extra_wrong : (left : List (List ℕ)) (next place : ℕ) → IsStart left → AreRight left
      → place + length (without_options (drop 3 left)) ≡ length front + length left → 0 < length (without_options (drop 3 left))
      → answer_behind left next ≡ Err (record { index = place + 2; kind = Extra })
  extra_wrong [] next place start right count some = let d = right.dim in cc
  extra_wrong (w ∷ []) next place start right count some = let d = right.low in cc
  extra_wrong (w ∷ l ∷ []) next place start right count some = let d = right.high in cc
  extra_wrong (w ∷ l ∷ h ∷ left) next place start right count some =
      let o = start w (l ∷ h ∷ left) refl in
      ap (λ (f : Option WordFault). answer_of f (cws_job_of reflexive (w ∷ l ∷ h ∷ left)) next)
      (three_passed w l h left o right
      ∙ tail_wrong (front ++ w ∷ [] ++ l ∷ [] ++ h ∷ []) left place (three w l h left o right) (simp length-append (omega arith)) some)

  all_right : (left : List (List ℕ)) (next : ℕ) → IsStart left → AreRight left → without_options (drop 3 left) ≡ []
      → answer_behind left next ≡ Ok (Cws (record {
        dim = first_size left;
        low = first_number (drop 1 left);
        high = first_number (drop 2 left);
        reflexive_only = reflexive;
      }))
  all_right [] next start right none = let d = right.dim in cc
  all_right (w ∷ []) next start right none = let d = right.low in cc
  all_right (w ∷ l ∷ []) next start right none = let d = right.high in cc
  all_right (w ∷ l ∷ h ∷ left) next start right none =
      let o = start w (l ∷ h ∷ left) refl in
      ap (λ (f : Option WordFault). answer_of f (cws_job_of reflexive (w ∷ l ∷ h ∷ left)) next)
      (three_passed w l h left o right
      ∙ tail_right (front ++ w ∷ [] ++ l ∷ [] ++ h ∷ []) left (three w l h left o right) none)

-- where the words from a place on are those from the first one on that isn't `-r`
pub record StartsAt (words : List (List ℕ)) (start : ℕ) : Type 0 where
  pub rest : drop start words ≡ without_options words
  pub within : start ≤ length words

module _ (words : List (List ℕ)) (start : ℕ) (s : StartsAt words start) where
  abbrev head : Head [] words
  head = head_of [] words refl

  abbrev reflexive : Bool
  reflexive = list_any is_option words

  is_start : IsStart (without_options words)
  is_start word more e = first_left words word more e

  start_is : length head.front ≡ start
  start_is =
      let c = head.count in
      let l : length words - start ≡ length (without_options words) = sym (length-drop start words) ∙ ap length s.rest in
      let w = s.within in omega arith

  count : length words + 2 ≡ length head.front + length (without_options words) + 2
  count = let c = head.count in omega arith

  behind : (n : ℕ) → drop (start + n) words ≡ drop n (without_options words)
  behind n = sym (drop-drop n start words) ∙ ap (λ (ws : List (List ℕ)). drop n ws) s.rest

  answer_is : cws_answer words ≡ answer_of (first_fault cws_fault head.front (without_options words)) (cws_job words) (length words + 2)
  answer_is = ap (λ (f : Option WordFault). answer_of f (cws_job words) (length words + 2)) head.passed

  -- the `-w` word is wrong
  pub cws_size_wrong : (fault : WordFault) → first_size_fault (drop start words) ≡ Some fault.kind → fault.index ≡ start + 2
      → cws_answer words ≡ Err fault
  cws_size_wrong fault e at =
      answer_is ∙ size_wrong head.front head.only reflexive (without_options words) (length words + 2) fault.kind is_start count
      (ap first_size_fault (sym s.rest) ∙ e)
      ∙ ap (λ (i : ℕ). Err (record { index = i; kind = fault.kind })) (let i = start_is in omega arith)

  module _ (dim low limit : ℕ) (size_right : first_size_fault (drop start words) ≡ None)
      (dim_is : dim ≡ first_size (drop start words)) where
    size_at_start : first_size_fault (without_options words) ≡ None
    size_at_start = ap first_size_fault (sym s.rest) ∙ size_right

    -- the least degree is wrong
    pub cws_low_wrong : (fault : WordFault) → first_number_fault 1 largest (drop (start + 1) words) ≡ Some fault.kind
        → fault.index ≡ start + 1 + 2 → cws_answer words ≡ Err fault
    cws_low_wrong fault e at =
        answer_is ∙ low_wrong head.front head.only reflexive (without_options words) (length words + 2) fault.kind is_start count
        size_at_start (ap (λ (ws : List (List ℕ)). first_number_fault 1 largest ws) (sym (behind 1)) ∙ e)
        ∙ ap (λ (i : ℕ). Err (record { index = i; kind = fault.kind })) (let i = start_is in omega arith)

    module _ (low_right : first_number_fault 1 largest (drop (start + 1) words) ≡ None)
        (low_is : low ≡ first_number (drop (start + 1) words))
        (limit_is : limit ≡ highest dim) where
      low_behind : first_number_fault 1 largest (drop 1 (without_options words)) ≡ None
      low_behind = ap (λ (ws : List (List ℕ)). first_number_fault 1 largest ws) (sym (behind 1)) ∙ low_right

      range_is : first_number_fault low limit (drop (start + 2) words)
          ≡ first_number_fault (first_number (drop 1 (without_options words))) (highest (first_size (without_options words)))
          (drop 2 (without_options words))
      range_is =
          ap (λ (n : ℕ). first_number_fault n limit (drop (start + 2) words)) (low_is ∙ ap first_number (behind 1))
          ∙ ap (λ (n : ℕ). first_number_fault (first_number (drop 1 (without_options words))) n (drop (start + 2) words))
          (limit_is ∙ ap highest (dim_is ∙ ap first_size s.rest))
          ∙ ap (λ (ws : List (List ℕ)). first_number_fault (first_number (drop 1 (without_options words)))
          (highest (first_size (without_options words))) ws) (behind 2)

      -- the largest degree is wrong
      pub cws_high_wrong : (fault : WordFault) → first_number_fault low limit (drop (start + 2) words) ≡ Some fault.kind
          → fault.index ≡ start + 2 + 2 → cws_answer words ≡ Err fault
      cws_high_wrong fault e at =
          answer_is ∙ high_wrong head.front head.only reflexive (without_options words) (length words + 2) fault.kind is_start count
          size_at_start low_behind (sym range_is ∙ e)
          ∙ ap (λ (i : ℕ). Err (record { index = i; kind = fault.kind })) (let i = start_is in omega arith)

      module _ (high_right : first_number_fault low limit (drop (start + 2) words) ≡ None) where
        right : AreRight (without_options words)
        right = record { dim = size_at_start; low = low_behind; high = sym range_is ∙ high_right }

        -- a word behind the numbers that isn't `-r`
        pub cws_extra : (place : ℕ) → drop place words ≡ without_options (drop (start + 3) words) → place < length words
            → cws_answer words ≡ Err (record { index = place + 2; kind = Extra })
        cws_extra place e lt =
            let l : length words - place ≡ length (without_options (drop 3 (without_options words))) =
            sym (length-drop place words) ∙ ap length (e ∙ ap without_options (behind 3)) in
            let c = count in
            answer_is ∙ extra_wrong head.front head.only reflexive (without_options words) (length words + 2) place is_start right
            (omega arith) (omega arith)

        -- everything is right
        pub cws_right : (place high : ℕ) → drop place words ≡ without_options (drop (start + 3) words) → length words ≤ place
            → high ≡ first_number (drop (start + 2) words)
            → cws_answer words ≡ Ok (Cws (record { dim = dim; low = low; high = high; reflexive_only = reflexive }))
        cws_right place high e le high_is =
            answer_is ∙ all_right head.front head.only reflexive (without_options words) (length words + 2) is_start right
            (sym (e ∙ ap without_options (behind 3)) ∙ drop_all place words le)
            ∙ ap (λ (n : ℕ). Ok (Cws (record {
              dim = n;
              low = first_number (drop 1 (without_options words));
              high = first_number (drop 2 (without_options words));
              reflexive_only = reflexive;
            })))
            (sym (dim_is ∙ ap first_size s.rest))
            ∙ ap (λ (n : ℕ). Ok (Cws (record {
              dim = dim;
              low = n;
              high = first_number (drop 2 (without_options words));
              reflexive_only = reflexive;
            })))
            (sym (low_is ∙ ap first_number (behind 1)))
            ∙ ap (λ (n : ℕ). Ok (Cws (record { dim = dim; low = low; high = n; reflexive_only = reflexive })))
            (sym (high_is ∙ ap first_number (behind 2)))
