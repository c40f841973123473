-- The words of the command line: the fault of a word behind the words before it, the first fault
-- from the left, and the job that the words give. The words behind the command are the further
-- words. This project's own.
use Rattle.std.specs.Prelude.{ℕ, ◌+◌, Bool, ◌&&◌, ◌||◌, not, List, [], ◌∷◌, ◌++◌, length, drop, Option, Some, None, Result, Ok, Err, if◌then◌else◌, ◌==◌, eqb}
use Rattle.std.specs.List.{list_any, starts_with}
use Rattle.std.specs.Str.{bytes_eq}
use lib.Chars.{codes}
use Rattle.palp_words.specs.Numbers.{number_fault, number_of, largest}
use Rattle.palp_words.specs.Letters.{is_letter_word, given}
use Rattle.palp_words.specs.declared.fault.WordKind.{WordKind}
use Rattle.palp_words.specs.declared.fault.WordKind.TheVariants.{Missing, Command, Flag, Extra, Conflict}
use Rattle.palp_words.specs.declared.fault.WordFault.{WordFault}
use Rattle.palp_words.specs.declared.job.Job.{Job}
use Rattle.palp_words.specs.declared.job.Job.TheVariants.{Poly, Nef, Cws, Sweep}
use Rattle.palp_words.specs.declared.job.PolyFlags.{PolyFlags}
use Rattle.palp_words.specs.declared.job.NefWords.{NefWords}

-- a Conflict where the test holds
abbrev pub conflict_where : Bool → Option WordKind
conflict_where test = if test then Some Conflict else None

-- the first kind, or else the second
abbrev pub kind_or : Option WordKind → Option WordKind → Option WordKind
kind_or (Some kind) other = Some kind
kind_or None other = other

-- a word of letters, with a conflict or without
abbrev pub letters_fault : List ℕ → Bool → List ℕ → Option WordKind
letters_fault letters conflict word = if is_letter_word letters word then conflict_where conflict else Some Flag

-- both a letter of the first list and one of the second stand in the words
abbrev pub are_both_given : List ℕ → List ℕ → List (List ℕ) → Bool
are_both_given letters others words = given letters words && given others words

-- `poly`: words of letters; `n` excludes `a`, `d` and `D`
abbrev pub poly_fault : List (List ℕ) → List ℕ → Option WordKind
poly_fault before word =
    letters_fault (codes "gpvemdiarDn") (are_both_given (codes "n") (codes "adD") (before ++ word ∷ [])) word

-- a letter is on where it stands in some word; `a` stands for g, p, v, e, m and d; g is on where
-- no block is asked
abbrev pub poly_flags : List (List ℕ) → PolyFlags
poly_flags words = record {
  general = given (codes "ga") words || not (given (codes "gpvemdia") words);
  points = given (codes "pa") words;
  vertices = given (codes "va") words;
  equations = given (codes "ea") words;
  matrix = given (codes "ma") words;
  dual_points = given (codes "da") words;
  incidence = given (codes "i") words;
  reflexive_only = given (codes "r") words;
  dual_input = given (codes "D") words;
  plain = given (codes "n") words;
}

-- begins with `-c`
abbrev pub is_codim_word : List ℕ → Bool
is_codim_word word = starts_with eqb word (codes "-c")

-- `nef`: at most one `-c` word, with a number from 1 to 3, and words of letters; `p` excludes `H`
abbrev pub nef_fault : List (List ℕ) → List ℕ → Option WordKind
nef_fault before word =
    if is_codim_word word
    then kind_or (number_fault 1 3 (drop 2 word)) (conflict_where (list_any is_codim_word before))
    else letters_fault (codes "pH") (are_both_given (codes "p") (codes "H") (before ++ word ∷ [])) word

-- the number of the first `-c` word, and 2 where there is none
abbrev pub codim_of : List (List ℕ) → ℕ
codim_of [] = 2
codim_of (word ∷ words) = if is_codim_word word then number_of (drop 2 word) else codim_of words

abbrev pub nef_words : List (List ℕ) → NefWords
nef_words words = record {
  codim = codim_of words;
  list_only = given (codes "p") words;
  full = given (codes "H") words;
}

-- the largest degree of systems with n + 1 weights
abbrev pub highest : ℕ → ℕ
highest n = if n == 5 then 250 else 4_095

-- three number words N, L and H: behind none of them, N is from 1 to 5; behind N, L is at least
-- 1; behind both, H is from L to the largest degree
abbrev pub sweep_fault : List (List ℕ) → List ℕ → Option WordKind
sweep_fault [] word = number_fault 1 5 word
sweep_fault (n ∷ []) word = number_fault 1 largest word
sweep_fault (n ∷ l ∷ []) word = number_fault (number_of l) (highest (number_of n)) word
sweep_fault (n ∷ l ∷ h ∷ more) word = Some Extra

-- none where a word is missing
abbrev pub sweep_job : List (List ℕ) → Option Job
sweep_job [] = None
sweep_job (n ∷ []) = None
sweep_job (n ∷ l ∷ []) = None
sweep_job (n ∷ l ∷ h ∷ more) = Some (Sweep (record { dim = number_of n; low = number_of l; high = number_of h }))

-- the word `-r`
abbrev pub is_option : List ℕ → Bool
is_option word = bytes_eq word (codes "-r")

-- the words from the first one on that isn't `-r`
abbrev pub without_options : List (List ℕ) → List (List ℕ)
without_options [] = []
without_options (word ∷ words) = if is_option word then without_options words else word ∷ words

-- begins with `-w`
abbrev pub is_size_word : List ℕ → Bool
is_size_word word = starts_with eqb word (codes "-w")

-- `cws` behind words that are `-r` only, and behind others without the `-r` in front: the three
-- numbers of `sweep`, the first of them behind `-w`, and `-r` before and after them
abbrev pub cws_fault_behind : List (List ℕ) → List ℕ → Option WordKind
cws_fault_behind [] word =
    if is_option word then None
    else (if is_size_word word then sweep_fault [] (drop 2 word) else Some Flag)
cws_fault_behind (size ∷ []) word = sweep_fault (drop 2 size ∷ []) word
cws_fault_behind (size ∷ l ∷ []) word = sweep_fault (drop 2 size ∷ l ∷ []) word
cws_fault_behind (size ∷ l ∷ h ∷ more) word = if is_option word then None else Some Extra

abbrev pub cws_fault : List (List ℕ) → List ℕ → Option WordKind
cws_fault before word = cws_fault_behind (without_options before) word

abbrev pub cws_job_of : Bool → List (List ℕ) → Option Job
cws_job_of reflexive [] = None
cws_job_of reflexive (size ∷ []) = None
cws_job_of reflexive (size ∷ l ∷ []) = None
cws_job_of reflexive (size ∷ l ∷ h ∷ more) = Some (Cws (record {
  dim = number_of (drop 2 size);
  low = number_of l;
  high = number_of h;
  reflexive_only = reflexive;
}))

abbrev pub cws_job : List (List ℕ) → Option Job
cws_job words = cws_job_of (list_any is_option words) (without_options words)

-- the first fault from the left: a word's own, or else that of the words behind it
abbrev pub fault_or : Option WordKind → ℕ → Option WordFault → Option WordFault
fault_or (Some kind) index other = Some (record { index = index; kind = kind })
fault_or None index other = other

-- the first fault from the left of some further words that stand behind others, where
-- `fault_behind before word` is the fault of a word behind the words before it; the command is
-- word 1
abbrev pub first_fault : (List (List ℕ) → List ℕ → Option WordKind) → List (List ℕ) → List (List ℕ) → Option WordFault
first_fault fault_behind before [] = None
first_fault fault_behind before (word ∷ words) =
    fault_or (fault_behind before word) (length before + 2) (first_fault fault_behind (before ++ word ∷ []) words)

-- the first fault, or else the job, or else the missing word behind the last one
abbrev pub answer_of : Option WordFault → Option Job → ℕ → Result Job WordFault
answer_of (Some fault) job next = Err fault
answer_of None (Some job) next = Ok job
answer_of None None next = Err (record { index = next; kind = Missing })

-- the answer for a command, by the fault of a word behind others and by the job
abbrev pub command_answer : (List (List ℕ) → List ℕ → Option WordKind) → Option Job → List (List ℕ) → Result Job WordFault
command_answer fault_behind job further = answer_of (first_fault fault_behind [] further) job (length further + 2)

-- the job that the words give, or the first fault from the left
abbrev pub words_of : List (List ℕ) → Result Job WordFault
words_of [] = Err (record { index = 1; kind = Missing })
words_of (command ∷ further) =
    if bytes_eq command (codes "poly") then command_answer poly_fault (Some (Poly (poly_flags further))) further
    else (if bytes_eq command (codes "nef") then command_answer nef_fault (Some (Nef (nef_words further))) further
    else (if bytes_eq command (codes "cws") then command_answer cws_fault (cws_job further) further
    else (if bytes_eq command (codes "sweep") then command_answer sweep_fault (sweep_job further) further
    else Err (record { index = 1; kind = Command }))))
