-- The first fault from the left, word by word.
use Rattle.std.proofs.Common.{◌≡◌, ℕ, ◌+◌, ◌<◌, Bool, true, false, ◌||◌, ◌&&◌, List, [], ◌∷◌, ◌++◌, length, take, drop, get_or, map, Option, Some, None, String, Global, string_bytes, refl, sym, ap, ◌∙◌, arith}
use Rattle.std.proofs.lemmas.List.{length-map, drop_more, take_more, length-take-le, get_or-map}
use Rattle.std.specs.List.{list_any}
use Rattle.palp_words.specs.Letters.{has_one_of, given}
use Rattle.palp_words.specs.Words.{first_fault, fault_or, are_both_given}
use Rattle.palp_words.specs.declared.fault.WordKind.{WordKind}

-- the word at place i
pub record IsNext (words : List (List ℕ)) (i : ℕ) (word : List ℕ) : Type 0 where
  pub front : take (i + 1) words ≡ take i words ++ word ∷ []
  pub back : drop i words ≡ word ∷ drop (i + 1) words
  pub place : length (take i words) ≡ i

-- a word as the code reads it
pub next_word : (words : List (String Global)) (i : ℕ) (word : String Global) (bytes : List ℕ) → i < length words
    → word ≡ get_or words i word → bytes ≡ string_bytes word → IsNext (map string_bytes words) i bytes
next_word words i word bytes lt e h =
    let lt' : i < length (map (string_bytes {Z = Global}) words) = simp length-map lt in
    let w : get_or (map string_bytes words) i bytes ≡ bytes =
    get_or-map string_bytes words i word bytes lt ∙ ap string_bytes (sym e) ∙ sym h in
    record {
      front = take_more (map string_bytes words) i bytes lt'
          ∙ ap (λ (x : List ℕ). take i (map string_bytes words) ++ x ∷ []) w;
      back = drop_more (map string_bytes words) i bytes lt'
          ∙ ap (λ (x : List ℕ). x ∷ drop (i + 1) (map string_bytes words)) w;
      place = length-take-le i (map string_bytes words) (omega arith);
    }

module _ (fault_behind : List (List ℕ) → List ℕ → Option WordKind) (words : List (List ℕ)) (i : ℕ) (word : List ℕ) where
  -- the fault at a word, or else behind it
  pub fault_step : IsNext words i word
      → first_fault fault_behind (take i words) (drop i words)
      ≡ fault_or (fault_behind (take i words) word) (i + 2) (first_fault fault_behind (take (i + 1) words) (drop (i + 1) words))
  fault_step h = rw (h.back, h.front, h.place) refl

  -- the word is the first wrong one
  pub fault_found : (kind : WordKind) → IsNext words i word → fault_behind (take i words) word ≡ Some kind
      → first_fault fault_behind (take i words) (drop i words) ≡ Some (record { index = i + 2; kind = kind })
  fault_found kind h e = fault_step h
      ∙ ap (λ (k : Option WordKind). fault_or k (i + 2) (first_fault fault_behind (take (i + 1) words) (drop (i + 1) words))) e

  -- the word is right
  pub fault_passed : IsNext words i word → fault_behind (take i words) word ≡ None
      → first_fault fault_behind (take i words) (drop i words) ≡ first_fault fault_behind (take (i + 1) words) (drop (i + 1) words)
  fault_passed h e = fault_step h
      ∙ ap (λ (k : Option WordKind). fault_or k (i + 2) (first_fault fault_behind (take (i + 1) words) (drop (i + 1) words))) e

-- a test of one word more
pub any_push : (test : List ℕ → Bool) (words : List (List ℕ)) (word : List ℕ)
    → list_any test (words ++ word ∷ []) ≡ (list_any test words || test word)
any_push test [] word = elim (test word) as (λ b. (b || false) ≡ b) [ true ↦ refl | false ↦ refl ]
any_push test (first ∷ words) word =
    ap (λ (b : Bool). test first || b) (any_push test words word)
    ∙ elim (test first) as (λ b. (b || (list_any test words || test word)) ≡ ((b || list_any test words) || test word))
    [ true ↦ refl | false ↦ refl ]

-- whether a word passes a test, with one word more
pub any_next : (test : List ℕ → Bool) (words : List (List ℕ)) (i : ℕ) (word : List ℕ) (before here : Bool) → IsNext words i word
    → before ≡ list_any test (take i words) → here ≡ test word
    → (before || here) ≡ list_any test (take (i + 1) words)
any_next test words i word before here next b h =
    ap (λ (x : Bool). x || here) b ∙ ap (λ (x : Bool). list_any test (take i words) || x) h
    ∙ sym (any_push test (take i words) word) ∙ ap (λ (ws : List (List ℕ)). list_any test ws) (sym next.front)

-- whether a letter is given, with one word more
pub given_next : (letters : List ℕ) (words : List (List ℕ)) (i : ℕ) (word : List ℕ) (before here : Bool) → IsNext words i word
    → before ≡ given letters (take i words) → here ≡ has_one_of letters word
    → (before || here) ≡ given letters (take (i + 1) words)
given_next letters words i word before here next b h = any_next (has_one_of letters) words i word before here next b h

-- whether letters that exclude each other are given, with one word more
pub both_next : (letters others : List ℕ) (words : List (List ℕ)) (i : ℕ) (word : List ℕ) (one other : Bool) → IsNext words i word
    → one ≡ given letters (take (i + 1) words) → other ≡ given others (take (i + 1) words)
    → (one && other) ≡ are_both_given letters others (take i words ++ word ∷ [])
both_next letters others words i word one other next a b =
    ap (λ (x : Bool). x && other) a ∙ ap (λ (x : Bool). given letters (take (i + 1) words) && x) b
    ∙ ap (λ (ws : List (List ℕ)). are_both_given letters others ws) next.front
