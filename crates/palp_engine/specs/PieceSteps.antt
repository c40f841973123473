-- What the steps towards an item's piece answer. This project's own.
use Rattle.std.specs.Prelude.{◌≡◌, ℕ, Bool, true, false, ◌||◌, List, ◌++◌, length, IsTrue}
use Rattle.lattice_core.specs.Dimensions.{dimension_of}
use Rattle.lattice_core.specs.declared.faults.Refusal.{Refusal}
use Rattle.palp_words.specs.declared.job.PolyFlags.{PolyFlags}
use Rattle.palp_input.specs.Grammar.{Listed}
use Rattle.face_theory.specs.Pairings.{valued}
use Rattle.face_closing.specs.Tables.{HasMoreFaces}
use Rattle.face_poset.specs.Counts.{AreFaceCounts}
use Rattle.dual_pair.specs.Polytopes.{PolytopeState}
use Rattle.dual_pair.specs.Pairs.{PairState, IsPair}
use Rattle.dual_pair.specs.Faces.{on_facets}
use Rattle.batyrev.specs.declared.line.HodgeLine.{HodgeLine}
use Rattle.palp_print.specs.Lists.{item_echo, body_line}
use Rattle.palp_print.specs.Blocks.{columns, pairing, incidence}
use Rattle.palp_print.specs.declared.titles.Title.TheVariants.{Vertices, Points}
use Rattle.palp_engine.specs.Shown.{ask_dual, Paired, own_side, AskFaces, AreNumbersOf}
use Rattle.palp_engine.specs.Items.{facet_block, asked, blocks, IsPiece, IsUnwanted}
use Rattle.palp_engine.specs.FaceSteps.{HaveFewFaces, IsFaceLimit}
use Rattle.palp_engine.specs.declared.polytopes.Polytope.{Polytope}

-- the lattice points are listed: they are to be printed, or Batyrev's numbers may be asked
abbrev pub list_points : PolyFlags → Bool
list_points flags = flags.points || ask_dual flags

-- the lists that are kept
abbrev pub lists_of : Polytope → PolytopeState
lists_of kept = record { vertices = kept.vertices.items; facets = kept.facets.items; points = kept.lattice.items }

-- the blocks that the letters ask of an item whose polytope is printed alone, with the numbers of its faces where they are asked
abbrev pub blocks_of : PolyFlags → Listed → Polytope → List ℕ → List ℕ
blocks_of flags item kept counts =
    asked flags.general (item_echo item ++ body_line kept.count (length kept.vertices.items) (length kept.facets.items))
    ++ (asked flags.points (columns Points kept.lattice.items) ++ (asked flags.vertices (columns Vertices kept.vertices.items)
    ++ (asked flags.equations (facet_block kept.facets.items) ++ (asked flags.matrix (pairing kept.facets.items kept.vertices.items)
    ++ asked flags.incidence (incidence counts kept.facets.items kept.vertices.items)))))

-- the pair of a polytope, whose sides are exchanged where the dual takes its place
pub record IsPairOf (turned : Bool) (p : PolytopeState) (pair : PairState) : Type 0 where
  pub is_pair : IsPair pair
  pub own : own_side turned pair ≡ p

-- the blocks of a polytope alone were written
pub record IsAloneWritten (flags : PolyFlags) (item : Listed) (kept : Polytope) (before now : List ℕ) : Type 0 where
  pub counts : List ℕ
  pub faces : IsTrue flags.incidence
      → HaveFewFaces (valued kept.vertices.items kept.facets.items) (dimension_of kept.vertices.items) counts
  pub written : now ≡ before ++ blocks_of flags item kept counts

-- the blocks of a pair were written
pub record IsPairWritten (flags : PolyFlags) (item : Listed) (pair : PairState) (before now : List ℕ) : Type 0 where
  pub few_faces : AskFaces flags (Paired pair) → HasMoreFaces (on_facets pair.m) → ⊥
  pub numbers : HodgeLine
  pub are_numbers : AreNumbersOf flags (Paired pair) numbers
  pub counts : List ℕ
  pub are_counts : IsTrue flags.incidence → AreFaceCounts (on_facets pair.m) (dimension_of pair.m.vertices) counts
  pub written : now ≡ before ++ blocks flags item (Paired pair) numbers counts

-- the faces of a pair's polytope are asked, but too many
abbrev pub IsPairStop : PolyFlags → PairState → Refusal → Type 0
IsPairStop flags pair cause = AskFaces flags (Paired pair) × IsFaceLimit (on_facets pair.m) cause

-- the piece was written, or there is none
abbrev pub IsWritten : PolyFlags → Listed → List ℕ → Bool → Type 0
IsWritten flags item page true = IsPiece flags item page
IsWritten flags item page false = IsUnwanted flags item
