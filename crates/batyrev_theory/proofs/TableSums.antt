-- Sums over faces by a table of all faces.
use Rattle.std.proofs.Common.{◌≡◌, ◌≢◌, ℕ, suc, ◌+◌, ◌==◌, Bool, true, List, [], ◌∷◌, length, map, ℤ, refl, sym, ap, ◌∙◌, subst, arith, sum_by, AllPairs, Contains, filter, ◌↔◌}
use Rattle.std.proofs.lemmas.Bool.{eqb-true, eq-eqb}
use Rattle.std.proofs.lemmas.List.Sums.{sum_by-cons}
use Rattle.std.proofs.lemmas.List.Kept.{AllPairs-cons, AllPairs-filter}
use Rattle.lattice_theory.specs.Affine.{Affine}
use Rattle.lattice_theory.specs.Points.{AreLatticePoints}
use Rattle.lattice_theory.proofs.Members.{In, all_from_each, each_from_all, each_from_in, each_in, each_map, in_from_contains, contains_from_in}
use Rattle.lattice_theory.proofs.Sublists.{IsKept, in_filter, from_filter, in_map, IsImage, from_map}
use Rattle.face_theory.specs.Faces.{TightRelation, IsFace, IsRank, IsCorank, IsDualFace}
use Rattle.face_theory.specs.Pairings.{valued}
use Rattle.face_theory.proofs.Heights.{rank_is_unique_lem, corank_is_unique_lem}
use Rattle.duality_theory.specs.Lists.{AreDualPoints}
use Rattle.batyrev_theory.specs.Interior.{IsInteriorCount, IsDualInteriorCount}
use Rattle.batyrev_theory.specs.FaceSums.{CountedFace, IsFaceSum}
use Rattle.batyrev_theory.specs.Numbers.{IsInteriorProduct, IsProductSum, IsDivisorNumber, IsDeformationNumber}
use Rattle.batyrev_theory.specs.Tables.{FaceEntry, IsFaceTable, inner_of, outer_of, product_of, rank_sum, corank_sum, divisors_by, deformations_by}
use Rattle.batyrev_theory.specs.Laws.{DivisorsByTable, DeformationsByTable, ProductsByTable}
use Rattle.batyrev_theory.proofs.InteriorLists.{interior_by_list_lem, dual_interior_by_list_lem}

-- a relation between all pairs of images
all_pairs_map : {X Y : Type 0} (R : Y → Y → Type 0) (f : X → Y) (xs : List X) → AllPairs (λ a b. R (f a) (f b)) xs → AllPairs R (map f xs)
all_pairs_map R f [] h = λ i j d l m. absurd (omega arith)
all_pairs_map R f (x ∷ xs) h = AllPairs-cons R (f x) (map f xs)
    (all_from_each (each_map (R (f x)) f (each_from_all (λ y. R (f x) (f y)) xs (λ k d l. h 0 (suc k) d (omega arith) (omega arith)))))
    (all_pairs_map R f xs (λ i j d l m. h (suc i) (suc j) d (omega arith) (omega arith)))

-- an entry with one of its numbers
abbrev counted : (FaceEntry → ℕ) → FaceEntry → CountedFace
counted number e = record { set = e.set; number = number e }

sum-counted : (number : FaceEntry → ℕ) (table : List FaceEntry) → sum_by (λ (c : CountedFace). c.number) (map (counted number) table)
    ≡ sum_by number table
sum-counted number [] = refl
sum-counted number (e ∷ table) = sum_by-cons (λ (c : CountedFace). c.number) (counted number e) (map (counted number) table)
    ∙ ap (λ (k : ℕ). number e + k) (sum-counted number table) ∙ sym (sum_by-cons number e table)

module _ (R : TightRelation) (table : List FaceEntry) (all : IsFaceTable R table) where
  -- the entry of a face
  record EntryOf (x : List Bool) : Type 0 where
    entry : FaceEntry
    member : In entry table
    is : entry.set ≡ x

  entry_of : (x : List Bool) → IsFace R x → EntryOf x
  entry_of x face = by (from_map (λ (e : FaceEntry). e.set) table (in_from_contains (map (λ e. e.set) table) ((all.faces x).1 face)))
    where
      by : IsImage (λ (e : FaceEntry). e.set) table x → EntryOf x
      by i = record { entry = i.source; member = i.member; is = sym i.is }

  -- the sum over the entries that pass a test is that over the faces of which P holds, where the test tells P
  pub sum_by_test : (P : List Bool → Type 0) (N : List Bool → ℕ → Type 0) (number : FaceEntry → ℕ) (test : FaceEntry → Bool)
      → ((e : FaceEntry) → In e table → (test e ≡ true) ↔ P e.set) → ((e : FaceEntry) → In e table → N e.set (number e))
      → IsFaceSum R P N (sum_by number (filter test table))
  sum_by_test P N number test tells numbers = record {
    faces = map (counted number) (filter test table);
    once = all_pairs_map (λ a b. a.set ≢ b.set) (counted number) (filter test table) (AllPairs-filter (λ a b. a.set ≢ b.set) test table all.once);
    each = all_from_each {P = λ c. IsFace R c.set × P c.set × N c.set c.number}
        (each_map (λ c. IsFace R c.set × P c.set × N c.set c.number) (counted number) (each_from_in (filter test table)
        (λ e i. kept e (from_filter test table i))));
    all = λ x face p. found x p (entry_of x face);
    sum = sum-counted number (filter test table);
  }
    where
      kept : (e : FaceEntry) → IsKept test e table → IsFace R e.set × P e.set × N e.set (number e)
      kept e k = (
        (all.faces e.set).0 (contains_from_in (in_map (λ (f : FaceEntry). f.set) k.member)),
        (tells e k.member).0 k.passes,
        numbers e k.member,
      )

      found : (x : List Bool) → P x → EntryOf x → Contains (map (λ c. c.set) (map (counted number) (filter test table))) x
      found x p t = subst (Contains (map (λ c. c.set) (map (counted number) (filter test table)))) t.is
          (contains_from_in (in_map (λ (c : CountedFace). c.set) (in_map (counted number) (in_filter test table t.member
          ((tells t.entry t.member).1 (subst P (sym t.is) p))))))

  -- over a rank
  pub sum_by_rank : (N : List Bool → ℕ → Type 0) (number : FaceEntry → ℕ) (r : ℕ) → ((e : FaceEntry) → In e table → N e.set (number e))
      → IsFaceSum R (λ face. IsRank R face r) N (rank_sum r number table)
  sum_by_rank N number r numbers = sum_by_test (λ face. IsRank R face r) N number (λ e. e.rank == r) tells numbers
    where
      rank : (e : FaceEntry) → In e table → IsRank R e.set e.rank
      rank e i = each_in (each_from_all (λ f. IsRank R f.set f.rank) table all.ranks) i

      tells : (e : FaceEntry) → In e table → ((e.rank == r) ≡ true) ↔ IsRank R e.set r
      tells e i = (
        (λ h. subst (IsRank R e.set) (eqb-true e.rank r h) (rank e i)),
        (λ h. eq-eqb e.rank r (rank_is_unique_lem R e.set e.rank r (rank e i) h)),
      )

  -- over a corank
  pub sum_by_corank : (N : List Bool → ℕ → Type 0) (number : FaceEntry → ℕ) (c : ℕ) → ((e : FaceEntry) → In e table → N e.set (number e))
      → IsFaceSum R (λ face. IsCorank R face c) N (corank_sum c number table)
  sum_by_corank N number c numbers = sum_by_test (λ face. IsCorank R face c) N number (λ e. e.corank == c) tells numbers
    where
      corank : (e : FaceEntry) → In e table → IsCorank R e.set e.corank
      corank e i = each_in (each_from_all (λ f. IsCorank R f.set f.corank) table all.coranks) i

      tells : (e : FaceEntry) → In e table → ((e.corank == c) ≡ true) ↔ IsCorank R e.set c
      tells e i = (
        (λ h. subst (IsCorank R e.set) (eqb-true e.corank c h) (corank e i)),
        (λ h. eq-eqb e.corank c (corank_is_unique_lem R e.set e.corank c (corank e i) h)),
      )

module _ (n : ℕ) (vertices : List (List ℤ)) (facets : List Affine) (points dual_points : List (List ℤ)) (table : List FaceEntry)
    (are_points : AreLatticePoints n vertices points) (are_dual : AreDualPoints n vertices dual_points)
    (all : IsFaceTable (valued vertices facets) table) where
  inner : (e : FaceEntry) → In e table → IsInteriorCount n vertices facets e.set (inner_of facets points e)
  inner e i = interior_by_list_lem n vertices facets points e.set e.dual are_points
      (each_in (each_from_all (λ f. IsDualFace (valued vertices facets) f.set f.dual) table all.duals) i)

  outer : (e : FaceEntry) → In e table → IsDualInteriorCount n vertices e.set (outer_of vertices dual_points e)
  outer e i = dual_interior_by_list_lem n vertices dual_points e.set are_dual

  product : (e : FaceEntry) → In e table → IsInteriorProduct n vertices facets e.set (product_of vertices facets points dual_points e)
  product e i = record {
    inner = inner_of facets points e;
    outer = outer_of vertices dual_points e;
    inner_is = inner e i;
    outer_is = outer e i;
    product = refl;
  }

  pub products_by_table : (r : ℕ) → IsProductSum n vertices facets r (rank_sum r (product_of vertices facets points dual_points) table)
  products_by_table r = sum_by_rank (valued vertices facets) table all (IsInteriorProduct n vertices facets)
      (product_of vertices facets points dual_points) r product

  pub divisors_by_table : IsDivisorNumber n vertices facets (divisors_by n vertices facets points dual_points table)
  divisors_by_table = record {
    points = length dual_points;
    inside_facets = rank_sum 1 (outer_of vertices dual_points) table;
    products = rank_sum 2 (product_of vertices facets points dual_points) table;
    points_are = record { list = dual_points; lists = are_dual; length_is = refl };
    inside_facets_are = sum_by_rank (valued vertices facets) table all (IsDualInteriorCount n vertices) (outer_of vertices dual_points) 1 outer;
    products_are = products_by_table 2;
    is = refl;
  }

  pub deformations_by_table : IsDeformationNumber n vertices facets (deformations_by n vertices facets points dual_points table)
  deformations_by_table = record {
    points = length points;
    inside_facets = corank_sum 1 (inner_of facets points) table;
    products = corank_sum 2 (product_of vertices facets points dual_points) table;
    points_are = record { list = points; lists = are_points; length_is = refl };
    inside_facets_are = sum_by_corank (valued vertices facets) table all (IsInteriorCount n vertices facets) (inner_of facets points) 1 inner;
    products_are = sum_by_corank (valued vertices facets) table all (IsInteriorProduct n vertices facets)
        (product_of vertices facets points dual_points) 2 product;
    is = refl;
  }

-- the laws
pub divisors_by_table_lem : DivisorsByTable
divisors_by_table_lem n vertices facets points dual_points table are_points are_dual all =
    divisors_by_table n vertices facets points dual_points table are_points are_dual all

pub deformations_by_table_lem : DeformationsByTable
deformations_by_table_lem n vertices facets points dual_points table are_points are_dual all =
    deformations_by_table n vertices facets points dual_points table are_points are_dual all

pub products_by_table_lem : ProductsByTable
products_by_table_lem n vertices facets points dual_points table r are_points are_dual all =
    products_by_table n vertices facets points dual_points table are_points are_dual all r
