-- There is a table of all faces of a relation, each once.
use Rattle.std.proofs.Common.{◌≡◌, ◌≢◌, ℕ, suc, Bool, true, false, not, List, [], ◌∷◌, map, ◌⊎◌, inl, inr, refl, sym, ap, subst, arith, AllPairs, Contains, filter}
use Rattle.std.proofs.lemmas.Bool.{cases_Bool, not-true, not_from_false}
use Rattle.std.proofs.lemmas.List.Kept.{AllPairs-cons, AllPairs-filter}
use Rattle.lattice_theory.proofs.Members.{In, here, there, Each, empty, more, all_from_each, each_from_all, each_from_in, each_in, in_from_contains, contains_from_in}
use Rattle.lattice_theory.proofs.Sublists.{IsKept, in_filter, from_filter, in_map}
use Rattle.face_theory.specs.Sets.{is_same}
use Rattle.face_theory.specs.Faces.{TightRelation, IsFace, AreFaces, IsRank, IsCorank, IsDualFace}
use Rattle.face_theory.proofs.Sets.{true_false, is_same-true, is_same_refl}
use Rattle.face_theory.proofs.DualFaces.{dual_exists_lem}
use Rattle.face_theory.proofs.FaceLists.{faces_are_listed_lem, rank_exists_lem, corank_exists_lem}
use Rattle.batyrev_theory.specs.Tables.{FaceEntry, IsFaceTable}
use Rattle.batyrev_theory.specs.Laws.{FaceTableExists}

-- the same sets, each once
record Distinct (xs : List (List Bool)) : Type 0 where
  list : List (List Bool)
  once : AllPairs (λ a b. a ≢ b) list
  from : (x : List Bool) → In x list → In x xs
  to : (x : List Bool) → In x xs → In x list

distinct : (xs : List (List Bool)) → Distinct xs
distinct [] = record { list = []; once = λ i j d l m. absurd (omega arith); from = λ x i. i; to = λ x i. i }
distinct (x ∷ xs) = by (distinct xs)
  where
    other : List Bool → Bool
    other y = not (is_same y x)

    by : Distinct xs → Distinct (x ∷ xs)
    by d = record {
      list = x ∷ filter other d.list;
      once = AllPairs-cons (λ a b. a ≢ b) x (filter other d.list)
          (all_from_each {P = λ y. x ≢ y} (each_from_in (filter other d.list) (λ y i. differs y (from_filter other d.list i))))
          (AllPairs-filter (λ a b. a ≢ b) other d.list d.once);
      from = from;
      to = to;
    }
      where
        differs : (y : List Bool) → IsKept other y d.list → x ≢ y
        differs y k e = true_false (subst (λ (z : List Bool). is_same z x ≡ true) e (is_same_refl x)) (not-true (is_same y x) k.passes)

        from : (y : List Bool) → In y (x ∷ filter other d.list) → In y (x ∷ xs)
        from y here = here
        from y (there i) = there (d.from y (from_filter other d.list i).member)

        kept : (y : List Bool) → In y xs → (is_same y x ≡ true) ⊎ (is_same y x ≡ false) → In y (x ∷ filter other d.list)
        kept y i (inl e) = subst (λ (z : List Bool). In z (x ∷ filter other d.list)) (sym (is_same-true y x e)) here
        kept y i (inr e) = there (in_filter other d.list (d.to y i) (not_from_false (is_same y x) e))

        to : (y : List Bool) → In y (x ∷ xs) → In y (x ∷ filter other d.list)
        to y here = here
        to y (there i) = kept y i (cases_Bool (is_same y x))

-- a table of some faces
record Entries (R : TightRelation) (faces : List (List Bool)) : Type 0 where
  table : List FaceEntry
  sets : map (λ e. e.set) table ≡ faces
  duals : Each (λ e. IsDualFace R e.set e.dual) table
  ranks : Each (λ e. IsRank R e.set e.rank) table
  coranks : Each (λ e. IsCorank R e.set e.corank) table

entries : (R : TightRelation) (faces : List (List Bool)) → Each (IsFace R) faces → Entries R faces
entries R [] h = record { table = []; sets = refl; duals = empty; ranks = empty; coranks = empty }
entries R (x ∷ faces) (more face rest) = by (dual_exists_lem R x face.width) (rank_exists_lem R x face) (corank_exists_lem R x face)
    (entries R faces rest)
  where
    by : (dual : List Bool) × IsDualFace R x dual → (k : ℕ) × IsRank R x k → (c : ℕ) × IsCorank R x c → Entries R faces → Entries R (x ∷ faces)
    by (dual, is_dual) (k, is_rank) (c, is_corank) t = record {
      table = record { set = x; dual = dual; rank = k; corank = c } ∷ t.table;
      sets = ap (λ (xs : List (List Bool)). x ∷ xs) t.sets;
      duals = more is_dual t.duals;
      ranks = more is_rank t.ranks;
      coranks = more is_corank t.coranks;
    }

-- sets that all differ are those of entries that do
once_back : (table : List FaceEntry) → AllPairs (λ a b. a ≢ b) (map (λ (e : FaceEntry). e.set) table) → AllPairs (λ a b. a.set ≢ b.set) table
once_back [] h = λ i j d l m. absurd (omega arith)
once_back (e ∷ table) h = AllPairs-cons (λ (a b : FaceEntry). a.set ≢ b.set) e table
    (all_from_each {P = λ (f : FaceEntry). e.set ≢ f.set} (each_from_in table (λ f i. first f (in_map (λ (g : FaceEntry). g.set) i))))
    (once_back table (λ i j d l m. h (suc i) (suc j) d (omega arith) (omega arith)))
  where
    first : (f : FaceEntry) → In f.set (map (λ (g : FaceEntry). g.set) table) → e.set ≢ f.set
    first f i = each_in (each_from_all (λ x. e.set ≢ x) (map (λ (g : FaceEntry). g.set) table) (λ k d l. h 0 (suc k) d (omega arith) (omega arith))) i

pub face_table_exists_lem : FaceTableExists
face_table_exists_lem R = by (faces_are_listed_lem R)
  where
    by : (faces : List (List Bool)) × AreFaces R faces → (table : List FaceEntry) × IsFaceTable R table
    by (faces, all) = at (distinct faces)
      where
        at : Distinct faces → (table : List FaceEntry) × IsFaceTable R table
        at d = done (entries R d.list (each_from_in d.list (λ x i. (all x).0 (contains_from_in (d.from x i)))))
          where
            done : Entries R d.list → (table : List FaceEntry) × IsFaceTable R table
            done t = (
              t.table,
              record {
                faces = λ x. (
                  (λ c. (all x).0 (contains_from_in (d.from x (in_from_contains d.list (subst (λ (xs : List (List Bool)). Contains xs x) t.sets c))))),
                  (λ face. subst (λ (xs : List (List Bool)). Contains xs x) (sym t.sets)
                      (contains_from_in (d.to x (in_from_contains faces ((all x).1 face))))),
                );
                once = once_back t.table (subst (AllPairs (λ a b. a ≢ b)) (sym t.sets) d.once);
                duals = all_from_each t.duals;
                ranks = all_from_each t.ranks;
                coranks = all_from_each t.coranks;
              },
            )
