-- The walk of a nef guide lists the nef partitions.
use Rattle.std.proofs.Common.{ℕ, suc, max, List, [], length}
use Rattle.lattice_theory.specs.Order.{Lists}
use Rattle.walk_theory.specs.Walks.{NumbersLess, LosesNone, IsSought, walk}
use Rattle.walk_theory.proofs.Walks.{walk_lists}
use Rattle.nef_theory.specs.Nef.{IsGrowthList, IsNefPartition}
use Rattle.nef_theory.specs.Laws.{NefWalk}
use Rattle.nef_theory.proofs.GrowthLists.{growth_none, growth_push, growth_next}
use Rattle.nef_theory.proofs.Agreements.{nef_by_agreement_lem, dead_beginnings_lem}

-- a beginning that is a growth list of some numbers
abbrev IsSomeGrowth : List ℕ → Type 0
IsSomeGrowth b = (used : ℕ) × IsGrowthList used b

pub nef_walk_lem : NefWalk
nef_walk_lem n vertices normals points r g are s = record {
  ascends = lists.ascends;
  members = λ x. ((λ c. ((lists.members x).0 c).holds), (λ nef. (lists.members x).1 (record { places = nef.count; holds = nef })));
}
  where
    loses_none : LosesNone (IsNefPartition n vertices normals r) IsSomeGrowth (length normals) g
    loses_none = record {
      starts = (0, growth_none);
      goes_on = λ b v h t. (max h.0 (suc v), growth_push h.0 v b h.1 ((s.tries_these b h.0 v h.1).0 t).0);
      keeps = λ x l h. (
        (λ e. (nef_by_agreement_lem n vertices normals points r x are).1 ((s.keeps x h.0 l h.1).0 e)),
        (λ nef. (s.keeps x h.0 l h.1).1 ((nef_by_agreement_lem n vertices normals points r x are).0 nef)),
      );
      tries = λ b v rest l h nef. (s.tries_these b h.0 v h.1).1 (growth_next r h.0 v b rest h.1 nef.growth);
      spares = λ b rest e l nef. dead_beginnings_lem n vertices normals points r b rest are (s.spares b e) nef;
    }

    lists : Lists NumbersLess (IsSought (IsNefPartition n vertices normals r) (length normals)) (walk g (length normals) [])
    lists = walk_lists (IsNefPartition n vertices normals r) IsSomeGrowth (length normals) g loses_none
