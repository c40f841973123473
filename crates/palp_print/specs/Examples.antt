-- Worked examples: the blocks of the triangle with the vertices (-1, -1), (-1, 2) and (2, -1), and single lines. This project's own.
use Rattle.std.specs.Prelude.{◌≡◌, List, [], ◌∷◌, ℤ, pos, negsuc, codes}
use Rattle.lattice_theory.specs.Affine.{Affine}
use Rattle.lattice_theory.specs.Examples.{in_plane, function, minus1}
use Rattle.lattice_core.specs.Weights.{Weighted}
use Rattle.palp_print.specs.Blocks.{columns, dual_rows, equations, pairing, incidence}
use Rattle.palp_print.specs.Lists.{echo, body_line, pair_line, nef_line, weights_line, closing, sweep_line}
use Rattle.palp_print.specs.Partitions.{partition, partition_with, diamond}
use Rattle.batyrev.specs.declared.line.HodgeLine.TheVariants as numbers
use Rattle.palp_print.specs.Notes.{note_line}
use Rattle.palp_print.specs.declared.titles.Title.TheVariants.{Vertices}
use Rattle.palp_print.specs.declared.titles.CountTitle.TheVariants.{Nef}
use Rattle.palp_print.specs.declared.notes.Note.TheVariants.{Refused}
use Rattle.lattice_core.specs.declared.faults.Refusal.TheVariants.{Flat, Limit}
use Rattle.lattice_core.specs.declared.faults.LimitName.TheVariants.{Points}

abbrev pub corners : List (List ℤ)
corners = in_plane minus1 minus1 ∷ (in_plane minus1 (pos 2) ∷ (in_plane (pos 2) minus1 ∷ []))

abbrev pub sides : List Affine
sides = function (in_plane minus1 minus1) (pos 1) ∷ (function (in_plane (pos 0) (pos 1)) (pos 1)
    ∷ (function (in_plane (pos 1) (pos 0)) (pos 1) ∷ []))

abbrev pub plane : Weighted
plane = record { degree = 3; weights = 1 ∷ (1 ∷ (1 ∷ [])) }

-- the blocks
pub record AreBlocks : Type 0 where
  pub columns_are : columns Vertices corners ≡ codes "2 3 Vertices\n-1 -1 2\n-1 2 -1\n"
  pub rows_are : dual_rows sides ≡ codes "3 2 Vertices of P-dual\n-1 -1\n0 1\n1 0\n"
  pub equations_are : equations sides ≡ codes "Equations 3 2\n-1 -1 1\n0 1 1\n1 0 1\n"
  pub pairing_is : pairing sides corners ≡ codes "Pairing 3 3\n3 0 0\n0 3 0\n0 0 3\n"
  pub incidence_is : incidence (3 ∷ (3 ∷ [])) sides corners ≡ codes "Faces: 3 3\nIncidence 3 3\n011\n101\n110\n"

-- the lines
pub record AreLines : Type 0 where
  pub echo_is : echo (plane ∷ []) ≡ codes "3 1 1 1 "
  pub body_is : body_line 10 3 3 ≡ codes "M:10 3 F:3\n"
  pub plane_is : pair_line 4 3 10 3 numbers.None ≡ codes "M:4 3 N:10 3\n"
  pub quartic_is : pair_line 35 4 5 4 (numbers.Pic (pos 1) (pos 0)) ≡ codes "M:35 4 N:5 4 Pic:1 Cor:0\n"
  pub quintic_is : pair_line 126 5 6 5 (numbers.Three (pos 1) (pos 101) (negsuc 199)) ≡ codes "M:126 5 N:6 5 H:1,101 [-200]\n"
  pub sextic_is : pair_line 462 6 7 6 (numbers.Four (pos 1) (pos 0) (pos 426) (pos 2610)) ≡ codes "M:462 6 N:7 6 H:1,0,426 [2610]\n"
  pub nef_is : nef_line 35 4 5 4 2 ≡ codes "M:35 4 N:5 4 codim=2\n"
  pub weights_are : weights_line plane ≡ codes "3 1 1 1\n"
  pub count_is : closing Nef 7 ≡ codes "#nef:7\n"
  pub sweep_is : sweep_line 3 3 26 16 ≡ codes "systems:3 reflexive:3 M:26 N:16\n"

-- the lines of partitions, for a curve, the complete intersections of degrees 1 and 5 in projective space of dimension 5, and the quintic threefold
abbrev pub quintic : List ℤ
quintic = pos 1 ∷ (pos 0 ∷ (pos 0 ∷ (pos 1 ∷ (pos 0 ∷ (pos 1 ∷ (pos 101 ∷ (pos 0 ∷ (pos 0 ∷ (pos 101 ∷ (pos 1 ∷ (pos 0 ∷ (pos 1 ∷ (pos 0
    ∷ (pos 0 ∷ (pos 1 ∷ [])))))))))))))))

pub record ArePartitions : Type 0 where
  pub partition_is : partition 2 (0 ∷ (0 ∷ (1 ∷ (0 ∷ [])))) ≡ codes "P:2 V:0 0 1 0\n"
  pub curve_is : partition_with 3 (0 ∷ (0 ∷ (1 ∷ (1 ∷ [])))) (pos 1 ∷ []) (pos 0) ≡ codes "P:3 V:0 0 1 1 H:1 [0]\n"
  pub threefold_is : partition_with 1 (0 ∷ (0 ∷ (0 ∷ (0 ∷ (0 ∷ (1 ∷ [])))))) (pos 1 ∷ (pos 101 ∷ [])) (negsuc 199)
      ≡ codes "P:1 V:0 0 0 0 0 1 H:1,101 [-200]\n"
  pub curve_diamond_is : diamond 1 (pos 1 ∷ (pos 1 ∷ (pos 1 ∷ (pos 1 ∷ [])))) ≡ codes "h0: 1 1\nh1: 1 1\n"
  pub quintic_diamond_is : diamond 3 quintic ≡ codes "h0: 1 0 0 1\nh1: 0 1 101 0\nh2: 0 101 1 0\nh3: 1 0 0 1\n"

-- notes
pub record AreNotes : Type 0 where
  pub flat_is : note_line (Refused 1 (Flat (function (in_plane minus1 (pos 1)) (pos 0)))) ≡ codes "palp: item 1: flat: -1 1 0\n"
  pub limit_is : note_line (Refused 1 (Limit Points 16385)) ≡ codes "palp: item 1: limit Points: 16385\n"
