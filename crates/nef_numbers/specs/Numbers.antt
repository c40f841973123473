-- The stringy numbers of a nef partition, and why it has none that are told: its cone exceeds a limit (alg-geom/9509009; the limits, and their
-- order, are this project's own).
use Rattle.std.specs.Prelude.{◌≡◌, ℕ, ◌+◌, ◌≤◌, List, length, ℤ, nat_abs}
use Rattle.face_theory.specs.Pairings.{paired}
use Rattle.lattice_core.specs.declared.faults.Refusal.{Refusal}
use Rattle.lattice_core.specs.declared.faults.Refusal.TheVariants as refusals
use Rattle.lattice_core.specs.declared.faults.LimitName.{LimitName}
use Rattle.lattice_core.specs.declared.faults.LimitName.TheVariants as limits
use Rattle.face_closing.specs.Tables.{HasMoreFaces}
use Rattle.face_closing.specs.declared.limits.TheConstants.{MOST_FACES}
use Rattle.face_poset.specs.Faces.{TableState, IsTableOf}
use Rattle.poset_g.specs.Values.{AreSmall, IsFirstLarge}
use Rattle.stringy.specs.ConeNumbers.{IsNumerator}
use Rattle.stringy.specs.Numbers.{EState}
use Rattle.dual_pair.specs.Pairs.{PairState}
use Rattle.cayley.specs.PairCones.{ConeState, IsPartition, IsConeOf}
use Rattle.cone_counts.specs.FaceCounts.{CountsState, HasCounts, numbers_of}
use Rattle.cone_counts.specs.Limits.{IsCountLimit, IsCountRefusal}

-- a nef partition of the pair into r parts, whose points have these places
pub record IsPartitionInto (pair : PairState) (r : ℕ) (part_of places : List ℕ) : Type 0 where
  pub is_partition : IsPartition pair part_of places
  pub parts_are : is_partition.parts ≡ r

-- its cone
pub record IsConeInto (pair : PairState) (r : ℕ) (part_of : List ℕ) (cone : ConeState) : Type 0 where
  pub is_cone : IsConeOf pair part_of cone
  pub parts_are : cone.parts ≡ r

-- all faces of the cone, of which there aren't too many
pub record HasFaces (cone : ConeState) (table : TableState) : Type 0 where
  pub are_faces : IsTableOf (paired cone.members cone.functions) table
  pub few : length table.faces ≤ MOST_FACES

-- the stringy numbers of a cone: those of its faces with their numbers of integer vectors, where no coefficient of G or G' is large. The largest p and
-- q of e(p,q) is the dimension of the polytope less the number of parts
pub record HasConeNumbers (cone : ConeState) (e : EState) : Type 0 where
  pub table : TableState
  pub has_faces : HasFaces cone table
  pub counts : CountsState
  pub has_counts : HasCounts cone table counts
  pub small : AreSmall table
  pub dim_is : e.dim + cone.parts ≡ cone.dim
  pub codim_is : e.codim ≡ cone.parts
  pub numerator_is : IsNumerator table (numbers_of counts) e.numerator

-- those of a nef partition into r parts: of its cone
pub record HasNumbers (pair : PairState) (r : ℕ) (part_of : List ℕ) (e : EState) : Type 0 where
  pub cone : ConeState
  pub is_cone : IsConeInto pair r part_of cone
  pub numbers : HasConeNumbers cone e

-- a coefficient of G or G' of the cone's faces is large: of the first one the absolute value is told. The faces aren't too many, and the numbers of
-- vectors aren't too large
pub record HasLargeCoefficient (cone : ConeState) (told : ℕ) : Type 0 where
  pub table : TableState
  pub has_faces : HasFaces cone table
  pub counted : (cause : Refusal) → IsCountRefusal cone cause → ⊥
  pub from : ℕ
  pub to : ℕ
  pub degree : ℕ
  pub value : ℤ
  pub is_first : IsFirstLarge table from to degree value
  pub told_is : told ≡ nat_abs value

-- the limits, in order: on the faces, of which the limit and one are told, on the integer vectors of a degree in the cone and in its dual, and on the
-- coefficients
abbrev pub IsConeLimit : ConeState → LimitName → ℕ → Type 0
IsConeLimit cone limits.ConeFaces told = HasMoreFaces (paired cone.members cone.functions) × (told ≡ MOST_FACES + 1)
IsConeLimit cone limits.ConeM told = (HasMoreFaces (paired cone.members cone.functions) → ⊥) × IsCountLimit cone limits.ConeM told
IsConeLimit cone limits.ConeN told = (HasMoreFaces (paired cone.members cone.functions) → ⊥) × IsCountLimit cone limits.ConeN told
IsConeLimit cone limits.Coef told = HasLargeCoefficient cone told
IsConeLimit cone other told = ⊥

-- why a cone has no numbers that are told
abbrev pub IsConeRefusal : ConeState → Refusal → Type 0
IsConeRefusal cone (refusals.Flat f) = ⊥
IsConeRefusal cone (refusals.Limit name told) = IsConeLimit cone name told

-- why a nef partition into r parts has none: its cone has none
pub record IsNumbersRefusal (pair : PairState) (r : ℕ) (part_of : List ℕ) (cause : Refusal) : Type 0 where
  pub cone : ConeState
  pub is_cone : IsConeInto pair r part_of cone
  pub refused : IsConeRefusal cone cause
