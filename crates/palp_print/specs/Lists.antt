-- Single lines: of weights, and of counts. Weight lines follow PALP's manual (arXiv:1205.4147, section 3), as do the numbers of points and
-- vertices; the forms of the lines are this project's own.
use Rattle.std.specs.Prelude.{ℕ, List, [], ◌++◌, codes}
use Rattle.std.specs.Fmt.{decimal, signed_decimal}
use Rattle.lattice_core.specs.Weights.{Weighted}
use Rattle.palp_input.specs.Grammar.{Listed, ListedWeights, ListedPoints}
use Rattle.palp_input.specs.Systems.{numbers_in}
use Rattle.batyrev.specs.declared.line.HodgeLine.{HodgeLine}
use Rattle.batyrev.specs.declared.line.HodgeLine.TheVariants as numbers
use Rattle.palp_print.specs.Texts.{before_spaces, behind_spaces}
use Rattle.palp_print.specs.declared.titles.CountTitle.{CountTitle}
use Rattle.palp_print.specs.declared.titles.CountTitle.TheVariants.{Nef, Ip, Ref}

-- what stands in front of a weight item's first line: the numbers of its weight line, each with a space behind it
abbrev pub echo : List Weighted → List ℕ
echo systems = before_spaces decimal (numbers_in systems)

-- the same of any item: nothing stands in front of a matrix's first line
abbrev pub item_echo : Listed → List ℕ
item_echo (ListedWeights systems) = echo systems
item_echo (ListedPoints lines columns entries) = []

-- the line that tells the numbers of lattice points, vertices and facets
abbrev pub body_line : ℕ → ℕ → ℕ → List ℕ
body_line points vertices facets =
    codes "M:" ++ (decimal points ++ (codes " " ++ (decimal vertices ++ (codes " F:" ++ (decimal facets ++ codes "\n")))))

-- Batyrev's numbers behind the line of a reflexive polytope and its dual: in dimension 3 the Picard number and the correction, in dimension 4 and 5 the
-- Hodge numbers and the Euler number, and nothing otherwise
abbrev pub numbers_text : HodgeLine → List ℕ
numbers_text numbers.None = []
numbers_text (numbers.Pic pic cor) = codes " Pic:" ++ (signed_decimal pic ++ (codes " Cor:" ++ signed_decimal cor))
numbers_text (numbers.Three h11 h21 euler) = codes " H:" ++ (signed_decimal h11 ++ (codes "," ++ (signed_decimal h21 ++ (codes " ["
    ++ (signed_decimal euler ++ codes "]")))))
numbers_text (numbers.Four h11 h21 h31 euler) = codes " H:" ++ (signed_decimal h11 ++ (codes "," ++ (signed_decimal h21 ++ (codes ","
    ++ (signed_decimal h31 ++ (codes " [" ++ (signed_decimal euler ++ codes "]")))))))

-- the line that tells the numbers of lattice points and vertices of a reflexive polytope and its dual, with these numbers
abbrev pub pair_line : ℕ → ℕ → ℕ → ℕ → HodgeLine → List ℕ
pair_line points vertices dual_points dual_vertices tail =
    codes "M:" ++ (decimal points ++ (codes " " ++ (decimal vertices ++ (codes " N:" ++ (decimal dual_points ++ (codes " "
    ++ (decimal dual_vertices ++ (numbers_text tail ++ codes "\n"))))))))

-- the line that tells the numbers of lattice points and vertices of a polytope and its dual, and a codimension
abbrev pub nef_line : ℕ → ℕ → ℕ → ℕ → ℕ → List ℕ
nef_line points vertices dual_points dual_vertices codimension =
    codes "M:" ++ (decimal points ++ (codes " " ++ (decimal vertices ++ (codes " N:" ++ (decimal dual_points ++ (codes " "
    ++ (decimal dual_vertices ++ (codes " codim=" ++ (decimal codimension ++ codes "\n")))))))))

-- a weight system: the degree and the weights
abbrev pub weights_line : Weighted → List ℕ
weights_line system = decimal system.degree ++ (behind_spaces decimal system.weights ++ codes "\n")

-- what a count counts: nef partitions, interior-point weight systems, those with a reflexive polytope
abbrev pub count_text : CountTitle → List ℕ
count_text Nef = codes "#nef:"
count_text Ip = codes "#ip:"
count_text Ref = codes "#ref:"

-- the line of a count
abbrev pub closing : CountTitle → ℕ → List ℕ
closing title count = count_text title ++ (decimal count ++ codes "\n")

-- the summary of a range of weight systems: how many there are and how many are reflexive, and the sums of the numbers of lattice points
abbrev pub sweep_line : ℕ → ℕ → ℕ → ℕ → List ℕ
sweep_line systems reflexive points dual_points = codes "systems:" ++ (decimal systems ++ (codes " reflexive:" ++ (decimal reflexive
    ++ (codes " M:" ++ (decimal points ++ (codes " N:" ++ (decimal dual_points ++ codes "\n")))))))
