-- The words of `cws` and `sweep` give ranges that can be searched, and those of `nef` one part or more.
use Rattle.std.proofs.Common.{◌≡◌, ℕ, suc, ◌+◌, ◌≤◌, Bool, true, false, cond, List, [], ◌∷◌, ◌++◌, length, drop, Option, Some, None, Result}
use Rattle.std.proofs.Common.{Ok, Err, refl, sym, ap, ◌∙◌, subst, arith}
use Rattle.std.specs.Prelude.{◌&&◌, ◌==◌, nat_le}
use Rattle.std.specs.Str.{bytes_eq}
use lib.Chars.{codes}
use Rattle.std.proofs.lemmas.Bool.{leb-true, and_parts}
use Rattle.std.proofs.lemmas.Bool.Decides.{Decides-eqb}
use Rattle.std.proofs.lemmas.List.{drop-drop}
use Rattle.std.specs.List.{list_any}
use Rattle.palp_words.specs.Numbers.{is_number_word, number_of, number_fault, largest}
use Rattle.palp_words.specs.Places.{first_number_fault, first_number, first_size_fault, first_size}
use Rattle.palp_words.specs.Words.{kind_or, fault_or, is_codim_word, codim_of, first_fault, answer_of, command_answer, poly_fault}
use Rattle.palp_words.specs.Words.{poly_flags, nef_fault, nef_words, cws_fault, cws_job, cws_job_of, sweep_fault, sweep_job, is_option}
use Rattle.palp_words.specs.Words.{is_size_word, without_options, highest, words_of}
use Rattle.palp_words.specs.declared.fault.WordKind.{WordKind}
use Rattle.palp_words.specs.declared.fault.WordKind.TheVariants.{Command, Range, Number, Flag}
use Rattle.palp_words.specs.declared.fault.WordFault.{WordFault}
use Rattle.palp_words.specs.declared.job.Job.{Job}
use Rattle.palp_words.specs.declared.job.Job.TheVariants.{Poly, Nef, Cws, Sweep}
use Rattle.palp_words.specs.declared.job.CwsWords.{CwsWords}
use Rattle.palp_words.specs.declared.job.SweepWords.{SweepWords}
use Rattle.palp_words.specs.declared.job.NefWords.{NefWords}
use Rattle.palp_words.proofs.Options.{skips, stops}
use Rattle.palp_words.proofs.Sweeping.{sweep_answer, dim_wrong, low_wrong, high_wrong}
use Rattle.palp_words.proofs.SizeWords.{StartsAt, cws_answer, cws_size_wrong, cws_low_wrong, cws_high_wrong}
use Rattle.weight_lists.specs.Answers.{IsRange}
use Rattle.palp_engine.specs.Commands.{HasSomeParts}
use Rattle.palp_engine.specs.RunSteps.{IsGiven}

-- a word that is right in the place of a number
record IsWithin (low high : ℕ) (number : ℕ) : Type 0 where
  least : low ≤ number
  most : number ≤ high

number_by : (low high : ℕ) (word : List ℕ) (a b : Bool) → a ≡ is_number_word word → b ≡ nat_le low (number_of word) && nat_le (number_of word) high
    → cond a (cond b None (Some Range)) (Some Number) ≡ None → IsWithin low high (number_of word)
number_by low high word true true e f h =
    let parts = and_parts (nat_le low (number_of word)) (nat_le (number_of word) high) (sym f) in
    record { least = leb-true low (number_of word) parts.0; most = leb-true (number_of word) high parts.1 }
number_by low high word true false e f h = cc
number_by low high word false b e f h = cc

number_within : (low high : ℕ) (word : List ℕ) → number_fault low high word ≡ None → IsWithin low high (number_of word)
number_within low high word h = number_by low high word _ _ refl refl h

size_by : (word : List ℕ) (a : Bool) → cond a (number_fault 1 5 (drop 2 word)) (Some Flag) ≡ None → IsWithin 1 5 (number_of (drop 2 word))
size_by word true h = number_within 1 5 (drop 2 word) h
size_by word false h = cc

-- the range of a dimension, with degrees up to the highest
range_by : (dim low high : ℕ) (six : Bool) → six ≡ (dim == 5) → 1 ≤ dim → dim ≤ 5 → 1 ≤ low → low ≤ high → high ≤ cond six 250 4095
    → IsRange dim low high
range_by dim low high true e least most some order limit = record {
  searched = record {
    some = omega (arith, least);
    few = omega (arith, most);
    limit = omega (arith, limit);
    limit_of_six = λ s. limit;
  };
  least = some;
  in_order = order;
}
range_by dim low high false e least most some order limit = record {
  searched = record {
    some = omega (arith, least);
    few = omega (arith, most);
    limit = limit;
    limit_of_six = λ s. absurd (other (omega (arith, s)));
  };
  least = some;
  in_order = order;
}
  where
    other : dim ≡ 5 → ⊥
    other five = let t = (Decides-eqb dim 5).1 five in let both = e ∙ t in cc

range_of : (dim low high : ℕ) → IsWithin 1 5 dim → IsWithin 1 largest low → IsWithin low (highest dim) high → IsRange dim low high
range_of dim low high d l h = range_by dim low high (dim == 5) refl d.least d.most l.least h.least h.most

no_fault : {Z : Type 0} (answer : Result Job WordFault) (job : Job) (fault : WordFault) → answer ≡ Ok job → answer ≡ Err fault → Z
no_fault answer job fault e f = absurd (let d = sym e ∙ f in cc)

-- a fault, or none
module _ (job : Job) (answer : Result Job WordFault) (gives : answer ≡ Ok job) where
  none_of : (o : Option WordKind) → ((kind : WordKind) → o ≡ Some kind → (fault : WordFault) × (answer ≡ Err fault)) → o ≡ None
  none_of None wrong = refl
  none_of (Some kind) wrong = let w = wrong kind refl in no_fault answer job w.0 gives w.1

job_of : (o : Option WordFault) (j : Option Job) (next : ℕ) (job : Job) → answer_of o j next ≡ Ok job → j ≡ Some job
job_of (Some fault) j next job e = cc
job_of None (Some other) next job e = let d = e in cc
job_of None None next job e = cc

-- `sweep`
sweep_range : (words : List (List ℕ)) (w : SweepWords) → sweep_answer words ≡ Ok (Sweep w) → IsRange w.dim w.low w.high
sweep_range words w e =
    let dim = none_of (Sweep w) (sweep_answer words) e (first_number_fault 1 5 words) (λ kind h. (record { index = 2; kind = kind }, dim_wrong words kind h)) in
    let low = none_of (Sweep w) (sweep_answer words) e (first_number_fault 1 largest (drop 1 words))
    (λ kind h. (record { index = 3; kind = kind }, low_wrong words kind dim h)) in
    let high = none_of (Sweep w) (sweep_answer words) e
    (first_number_fault (first_number (drop 1 words)) (highest (first_number words)) (drop 2 words))
    (λ kind h. (record { index = 4; kind = kind }, high_wrong words kind dim low h)) in
    by words dim low high (job_of (first_fault sweep_fault [] words) (sweep_job words) (length words + 2) (Sweep w) e)
  where
    same : (v : SweepWords) → Some (Sweep v) ≡ Some (Sweep w) → v ≡ w
    same v e = cc

    by : (ws : List (List ℕ)) → first_number_fault 1 5 ws ≡ None → first_number_fault 1 largest (drop 1 ws) ≡ None
        → first_number_fault (first_number (drop 1 ws)) (highest (first_number ws)) (drop 2 ws) ≡ None → sweep_job ws ≡ Some (Sweep w)
        → IsRange w.dim w.low w.high
    by [] d l h e = cc
    by (a ∷ []) d l h e = cc
    by (a ∷ b ∷ []) d l h e = cc
    by (a ∷ b ∷ c ∷ ws) d l h e = subst (λ (v : SweepWords). IsRange v.dim v.low v.high)
        (same (record { dim = number_of a; low = number_of b; high = number_of c }) e)
        (range_of (number_of a) (number_of b) (number_of c) (number_within 1 5 a d) (number_within 1 largest b l)
        (number_within (number_of b) (highest (number_of a)) c h))

-- `cws`
starts_by : (word : List ℕ) (words : List (List ℕ)) (b : Bool) → is_option word ≡ b → (start : ℕ) × StartsAt words start
    → (start : ℕ) × StartsAt (word ∷ words) start
starts_by word words true e (start, s) =
    let within = s.within in (suc start, record { rest = s.rest ∙ sym (skips word words e); within = omega (arith, within) })
starts_by word words false e s = (0, record { rest = sym (stops word words e); within = omega arith })

starts : (words : List (List ℕ)) → (start : ℕ) × StartsAt words start
starts [] = (0, record { rest = refl; within = omega arith })
starts (word ∷ words) = starts_by word words (is_option word) refl (starts words)

cws_by : (words : List (List ℕ)) (w : CwsWords) (start : ℕ) → StartsAt words start → cws_answer words ≡ Ok (Cws w)
    → IsRange w.dim w.low w.high
cws_by words w start s e =
    let size = none_of (Cws w) (cws_answer words) e (first_size_fault (drop start words))
    (λ kind h. (
      record { index = start + 2; kind = kind },
      cws_size_wrong words start s (record { index = start + 2; kind = kind }) h refl,
    )) in
    let low = none_of (Cws w) (cws_answer words) e (first_number_fault 1 largest (drop (start + 1) words))
    (λ kind h. (
      record { index = start + 1 + 2; kind = kind },
      cws_low_wrong words start s (first_size (drop start words)) 0 0 size refl (record { index = start + 1 + 2; kind = kind }) h refl,
    )) in
    let high = none_of (Cws w) (cws_answer words) e
    (first_number_fault (first_number (drop (start + 1) words)) (highest (first_size (drop start words))) (drop (start + 2) words))
    (λ kind h. (
      record { index = start + 2 + 2; kind = kind },
      cws_high_wrong words start s (first_size (drop start words)) (first_number (drop (start + 1) words)) (highest (first_size (drop start words)))
          size refl low refl refl (record { index = start + 2 + 2; kind = kind }) h refl,
    )) in
    by (drop start words) (drop (start + 1) words) (drop (start + 2) words) (behind 1) (behind 2) size low high
    (ap (cws_job_of (list_any is_option words)) s.rest
    ∙ job_of (first_fault cws_fault [] words) (cws_job words) (length words + 2) (Cws w) e)
  where
    behind : (n : ℕ) → drop (start + n) words ≡ drop n (drop start words)
    behind n = sym (drop-drop n start words)

    same : (v : CwsWords) → Some (Cws v) ≡ Some (Cws w) → v ≡ w
    same v e = cc

    by : (ws bs cs : List (List ℕ)) → bs ≡ drop 1 ws → cs ≡ drop 2 ws → first_size_fault ws ≡ None → first_number_fault 1 largest bs ≡ None
        → first_number_fault (first_number bs) (highest (first_size ws)) cs ≡ None
        → cws_job_of (list_any is_option words) ws ≡ Some (Cws w) → IsRange w.dim w.low w.high
    by [] bs cs e f d l h j = cc
    by (a ∷ []) bs cs e f d l h j = cc
    by (a ∷ b ∷ []) bs cs e f d l h j = cc
    by (a ∷ b ∷ c ∷ ws) bs cs e f d l h j = subst (λ (v : CwsWords). IsRange v.dim v.low v.high)
        (same (record { dim = number_of (drop 2 a); low = number_of b; high = number_of c; reflexive_only = list_any is_option words }) j)
        (range_of (number_of (drop 2 a)) (number_of b) (number_of c) (size_by a (is_size_word a) d)
        (number_within 1 largest b (subst (λ (xs : List (List ℕ)). first_number_fault 1 largest xs ≡ None) e l))
        (number_within (number_of b) (highest (number_of (drop 2 a))) c
        (subst (λ (xs : List (List ℕ)). first_number_fault (number_of b) (highest (number_of (drop 2 a))) xs ≡ None) f
        (subst (λ (xs : List (List ℕ)). first_number_fault (first_number xs) (highest (number_of (drop 2 a))) cs ≡ None) e h))))

cws_range : (words : List (List ℕ)) (w : CwsWords) → cws_answer words ≡ Ok (Cws w) → IsRange w.dim w.low w.high
cws_range words w e = let s = starts words in cws_by words w s.0 s.1 e

-- `nef`
fault_is_none : (o : Option WordKind) (index : ℕ) (other : Option WordFault) → fault_or o index other ≡ None → (o ≡ None) × (other ≡ None)
fault_is_none (Some kind) index other e = absurd (cc)
fault_is_none None index other e = (refl, e)

kind_is_none : (o other : Option WordKind) → kind_or o other ≡ None → o ≡ None
kind_is_none (Some kind) other e = cc
kind_is_none None other e = refl

some_parts_by : (b : Bool) (word : List ℕ) (conflict letters : Option WordKind) (rest : ℕ)
    → cond b (kind_or (number_fault 1 3 (drop 2 word)) conflict) letters ≡ None → 1 ≤ rest → 1 ≤ cond b (number_of (drop 2 word)) rest
some_parts_by true word conflict letters rest e h = (number_within 1 3 (drop 2 word) (kind_is_none (number_fault 1 3 (drop 2 word)) conflict e)).least
some_parts_by false word conflict letters rest e h = h

some_parts : (before words : List (List ℕ)) → first_fault nef_fault before words ≡ None → 1 ≤ codim_of words
some_parts before [] e = omega arith
some_parts before (word ∷ words) e =
    let both = fault_is_none (nef_fault before word) (length before + 2) (first_fault nef_fault (before ++ word ∷ []) words) e in
    some_parts_by (is_codim_word word) word _ _ (codim_of words) both.0 (some_parts (before ++ word ∷ []) words both.1)

none_wrong : (o : Option WordFault) (j : Option Job) (next : ℕ) (job : Job) → answer_of o j next ≡ Ok job → o ≡ None
none_wrong (Some fault) j next job e = cc
none_wrong None j next job e = refl

nef_range : (words : List (List ℕ)) (w : NefWords) → command_answer nef_fault (Some (Nef (nef_words words))) words ≡ Ok (Nef w) → 1 ≤ w.codim
nef_range words w e = subst (λ (v : NefWords). 1 ≤ v.codim)
    (same (nef_words words) (job_of (first_fault nef_fault [] words) (Some (Nef (nef_words words))) (length words + 2) (Nef w) e))
    (some_parts [] words (none_wrong (first_fault nef_fault [] words) (Some (Nef (nef_words words))) (length words + 2) (Nef w) e))
  where
    same : (v : NefWords) → Some (Nef v) ≡ Some (Nef w) → v ≡ w
    same v e = cc

-- which command a job is of
other_job : {Z : Type 0} (fault_behind : List (List ℕ) → List ℕ → Option WordKind) (j : Option Job) (words : List (List ℕ)) (job : Job)
    → command_answer fault_behind j words ≡ Ok job → (j ≡ Some job → Z) → Z
other_job fault_behind j words job e f = f (job_of (first_fault fault_behind [] words) j (length words + 2) job e)

no_sweep : {Z : Type 0} (words : List (List ℕ)) (w : CwsWords) → sweep_job words ≡ Some (Cws w) → Z
no_sweep [] w e = absurd (cc)
no_sweep (a ∷ []) w e = absurd (cc)
no_sweep (a ∷ b ∷ []) w e = absurd (cc)
no_sweep (a ∷ b ∷ c ∷ words) w e = absurd (cc)

no_cws : {Z : Type 0} (b : Bool) (left : List (List ℕ)) (w : SweepWords) → cws_job_of b left ≡ Some (Sweep w) → Z
no_cws r [] w e = absurd (cc)
no_cws r (a ∷ []) w e = absurd (cc)
no_cws r (a ∷ b ∷ []) w e = absurd (cc)
no_cws r (a ∷ b ∷ c ∷ left) w e = absurd (cc)

no_nef_sweep : {Z : Type 0} (words : List (List ℕ)) (w : NefWords) → sweep_job words ≡ Some (Nef w) → Z
no_nef_sweep [] w e = absurd (cc)
no_nef_sweep (a ∷ []) w e = absurd (cc)
no_nef_sweep (a ∷ b ∷ []) w e = absurd (cc)
no_nef_sweep (a ∷ b ∷ c ∷ words) w e = absurd (cc)

no_nef_cws : {Z : Type 0} (b : Bool) (left : List (List ℕ)) (w : NefWords) → cws_job_of b left ≡ Some (Nef w) → Z
no_nef_cws r [] w e = absurd (cc)
no_nef_cws r (a ∷ []) w e = absurd (cc)
no_nef_cws r (a ∷ b ∷ []) w e = absurd (cc)
no_nef_cws r (a ∷ b ∷ c ∷ left) w e = absurd (cc)

nef_from : (a b c d : Bool) (further : List (List ℕ)) (w : NefWords)
    → cond a (command_answer poly_fault (Some (Poly (poly_flags further))) further)
    (cond b (command_answer nef_fault (Some (Nef (nef_words further))) further)
    (cond c (command_answer cws_fault (cws_job further) further)
    (cond d (command_answer sweep_fault (sweep_job further) further) (Err (record { index = 1; kind = Command }))))) ≡ Ok (Nef w)
    → 1 ≤ w.codim
nef_from true b c d further w e = other_job poly_fault (Some (Poly (poly_flags further))) further (Nef w) e (λ j. absurd (cc))
nef_from false true c d further w e = nef_range further w e
nef_from false false true d further w e =
    other_job cws_fault (cws_job further) further (Nef w) e (λ j. no_nef_cws (list_any is_option further) (without_options further) w j)
nef_from false false false true further w e = other_job sweep_fault (sweep_job further) further (Nef w) e (λ j. no_nef_sweep further w j)
nef_from false false false false further w e = absurd (cc)

cws_from : (a b c d : Bool) (further : List (List ℕ)) (w : CwsWords)
    → cond a (command_answer poly_fault (Some (Poly (poly_flags further))) further)
    (cond b (command_answer nef_fault (Some (Nef (nef_words further))) further)
    (cond c (command_answer cws_fault (cws_job further) further)
    (cond d (command_answer sweep_fault (sweep_job further) further) (Err (record { index = 1; kind = Command }))))) ≡ Ok (Cws w)
    → IsRange w.dim w.low w.high
cws_from true b c d further w e =
    other_job poly_fault (Some (Poly (poly_flags further))) further (Cws w) e (λ j. absurd (cc))
cws_from false true c d further w e = other_job nef_fault (Some (Nef (nef_words further))) further (Cws w) e (λ j. absurd (cc))
cws_from false false true d further w e = cws_range further w e
cws_from false false false true further w e = other_job sweep_fault (sweep_job further) further (Cws w) e (λ j. no_sweep further w j)
cws_from false false false false further w e = absurd (cc)

sweep_from : (a b c d : Bool) (further : List (List ℕ)) (w : SweepWords)
    → cond a (command_answer poly_fault (Some (Poly (poly_flags further))) further)
    (cond b (command_answer nef_fault (Some (Nef (nef_words further))) further)
    (cond c (command_answer cws_fault (cws_job further) further)
    (cond d (command_answer sweep_fault (sweep_job further) further) (Err (record { index = 1; kind = Command }))))) ≡ Ok (Sweep w)
    → IsRange w.dim w.low w.high
sweep_from true b c d further w e =
    other_job poly_fault (Some (Poly (poly_flags further))) further (Sweep w) e (λ j. absurd (cc))
sweep_from false true c d further w e = other_job nef_fault (Some (Nef (nef_words further))) further (Sweep w) e (λ j. absurd (cc))
sweep_from false false true d further w e =
    other_job cws_fault (cws_job further) further (Sweep w) e (λ j. no_cws (list_any is_option further) (without_options further) w j)
sweep_from false false false true further w e = sweep_range further w e
sweep_from false false false false further w e = absurd (cc)

pub cws_ranges : (words : List (List ℕ)) (w : CwsWords) → words_of words ≡ Ok (Cws w) → IsRange w.dim w.low w.high
cws_ranges [] w e = absurd (cc)
cws_ranges (command ∷ further) w e = cws_from (bytes_eq command (codes "poly")) (bytes_eq command (codes "nef")) (bytes_eq command (codes "cws"))
    (bytes_eq command (codes "sweep")) further w e

pub sweep_ranges : (words : List (List ℕ)) (w : SweepWords) → words_of words ≡ Ok (Sweep w) → IsRange w.dim w.low w.high
sweep_ranges [] w e = absurd (cc)
sweep_ranges (command ∷ further) w e = sweep_from (bytes_eq command (codes "poly")) (bytes_eq command (codes "nef"))
    (bytes_eq command (codes "cws")) (bytes_eq command (codes "sweep")) further w e

pub nef_parts : (words : List (List ℕ)) (w : NefWords) → words_of words ≡ Ok (Nef w) → 1 ≤ w.codim
nef_parts [] w e = absurd (cc)
nef_parts (command ∷ further) w e = nef_from (bytes_eq command (codes "poly")) (bytes_eq command (codes "nef")) (bytes_eq command (codes "cws"))
    (bytes_eq command (codes "sweep")) further w e

-- a job that words give asks for one part or more, where it asks for parts
pub given_some_parts : (job : Job) → IsGiven job → HasSomeParts job
given_some_parts (Poly flags) g = tt
given_some_parts (Nef words) g = nef_parts g.0 words g.1
given_some_parts (Cws words) g = tt
given_some_parts (Sweep words) g = tt
