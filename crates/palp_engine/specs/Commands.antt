-- What jobs say of an item. This project's own.
use Rattle.std.specs.Prelude.{◌≡◌, ℕ, ◌≤◌, List, Ok}
use Rattle.lattice_core.specs.declared.faults.Refusal.{Refusal}
use Rattle.report_theory.specs.Report.{Whole, Ends, Step, Piece, Close}
use Rattle.palp_words.specs.Words.{words_of}
use Rattle.palp_words.specs.declared.job.Job.{Job}
use Rattle.palp_words.specs.declared.job.Job.TheVariants.{Poly, Nef, Cws, Sweep}
use Rattle.palp_words.specs.declared.job.PolyFlags.{PolyFlags}
use Rattle.palp_words.specs.declared.job.NefWords.{NefWords}
use Rattle.palp_input.specs.Grammar.{Listed}
use Rattle.weight_lists.specs.Entries.{ListEntry}
use Rattle.weight_lists.specs.Lists.{CwsSays}
use Rattle.weight_lists.specs.Sweeps.{SweepSays}
use Rattle.nef_report.specs.Partitions.{PartitionsSay}
use Rattle.palp_engine.specs.Items.{IsItemRefused, IsPiece, IsUnwanted}
use Rattle.palp_engine.specs.Entries.{Entry, TextItem, OfList}

-- `nef` asks for one part or more
abbrev pub HasSomeParts : Job → Type 0
HasSomeParts (Poly flags) = Unit {0}
HasSomeParts (Nef words) = 1 ≤ words.codim
HasSomeParts (Cws words) = Unit {0}
HasSomeParts (Sweep words) = Unit {0}

-- the job reads a text, and reports of its items
abbrev pub ReadsText : Job → Type 0
ReadsText (Poly flags) = Unit {0}
ReadsText (Nef words) = Unit {0}
ReadsText (Cws words) = ⊥
ReadsText (Sweep words) = ⊥

-- the words give a job
pub record GiveJob (words : List (List ℕ)) : Type 0 where
  pub job : Job
  pub gives : words_of words ≡ Ok job

-- `poly` says of an item its one piece and then no more, or no piece, or its refusal
pub data BlocksSay (flags : PolyFlags) (item : Listed) : ℕ → Step Refusal → Type 0 where
  printed : {bytes : List ℕ} → IsPiece flags item bytes → BlocksSay flags item 0 (Piece bytes)
  whole : BlocksSay flags item 1 (Close Whole)
  unwanted : IsUnwanted flags item → BlocksSay flags item 0 (Close Whole)
  refused : {cause : Refusal} → IsItemRefused flags item cause → BlocksSay flags item 0 (Close (Ends cause))

-- What `poly` says of an entry, which is an item of a text.
abbrev pub PolySays : PolyFlags → Entry → ℕ → Step Refusal → Type 0
PolySays flags (TextItem item) k step = BlocksSay flags item k step
PolySays flags (OfList entry) k step = ⊥

-- What is said of an entry of a list, and of no other.
abbrev pub ListSays : (ListEntry → ℕ → Step Refusal → Type 0) → Entry → ℕ → Step Refusal → Type 0
ListSays says (TextItem item) k step = ⊥
ListSays says (OfList entry) k step = says entry k step

-- What `nef` says of an entry, which is an item of a text: its nef partitions, one after another, as the words ask.
abbrev pub NefSays : NefWords → Entry → ℕ → Step Refusal → Type 0
NefSays words (TextItem item) k step = PartitionsSay words item k step
NefSays words (OfList entry) k step = ⊥

-- What a job says of an entry: what comes next after so many of its pieces.
abbrev pub Says : Job → Entry → ℕ → Step Refusal → Type 0
Says (Poly flags) entry k step = PolySays flags entry k step
Says (Nef words) entry k step = NefSays words entry k step
Says (Cws words) entry k step = ListSays (CwsSays words.reflexive_only) entry k step
Says (Sweep words) entry k step = ListSays SweepSays entry k step
