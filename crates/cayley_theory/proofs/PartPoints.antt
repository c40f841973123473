-- That a part has at most one point at a vertex: a vector is told by its pairings with the normals on which the vertex is -1.
use Rattle.std.proofs.Common.{◌≡◌, ◌⊎◌, ℕ, ◌<◌, List, [], length, ℤ, pos, negsuc, ◌+ℤ◌, ◌*ℤ◌, sym, ap, ◌∙◌, subst, inl, inr, arith, slice_index_or}
use Rattle.std.proofs.lemmas.Bool.{cases_eq}
use Rattle.std.proofs.lemmas.List.{get_or_default}
use Rattle.lattice_theory.specs.Vector.{entry, dot}
use Rattle.lattice_theory.specs.Affine.{Affine, IsMultiple, VanishesWith}
use Rattle.lattice_theory.specs.Facet.{IsFacet}
use Rattle.lattice_theory.proofs.Integers.{linear, zero-*ℤ, *ℤ-zero, one-*ℤ, *ℤ-one, minus_one-*ℤ, factor_zero}
use Rattle.lattice_theory.proofs.Vectors.{combined, dot-combined_left, length-combined, entry-combined, entry-scaled, same_from_entries}
use Rattle.duality_theory.specs.Reflexive.{with_one}
use Rattle.nef_theory.specs.Nef.{part_at, pairing_at, IsPartPoint}
use Rattle.cayley_theory.specs.Laws.{PartPointsAreSingle}

-- steps over plain numbers
zero_factor : (a b : ℤ) → a *ℤ pos 0 ≡ b *ℤ pos 1 → b ≡ pos 0
zero_factor a b e = sym (*ℤ-one b) ∙ sym e ∙ *ℤ-zero a

difference_of_same : (a b c : ℤ) → c ≡ pos 1 *ℤ a +ℤ negsuc 0 *ℤ b → a ≡ b → c ≡ pos 0
difference_of_same a b c e h = let f = one-*ℤ a in let g = minus_one-*ℤ b in omega (arith, linear)

same_from_difference : (a b c : ℤ) → c ≡ pos 1 *ℤ a +ℤ negsuc 0 *ℤ b → c ≡ pos 0 → a ≡ b
same_from_difference a b c e h = let f = one-*ℤ a in let g = minus_one-*ℤ b in omega (arith, linear)

one_more : (a : ℤ) → a +ℤ pos 1 ≡ pos 0 → a ≡ negsuc 0
one_more a e = omega (arith, linear)

-- where (m, 1) is a facet of the normals, vectors that pair alike with the normals on which m is -1 are the same
module _ (n : ℕ) (normals : List (List ℤ)) (m x y : List ℤ) (dx : length x ≡ n) (dy : length y ≡ n)
    (alike_at : (e : ℕ) → e < length normals → pairing_at normals m e ≡ negsuc 0 → pairing_at normals x e ≡ pairing_at normals y e) where
  -- the difference of the two, as a function
  abbrev of_difference : Affine
  of_difference = record { normal = combined (pos 1) x (negsuc 0) y; constant = pos 0 }

  vanishes : VanishesWith normals (with_one m) of_difference
  vanishes v c t =
      let same : slice_index_or normals c.0 [] ≡ v = get_or_default normals c.0 [] v c.1 ∙ c.2 in
      let low : dot m v ≡ negsuc 0 = one_more (dot m v) t in
      let alike : dot x v ≡ dot y v = subst (λ (w : List ℤ). dot x w ≡ dot y w) same
      (alike_at c.0 c.1 (subst (λ (w : List ℤ). dot m w ≡ negsuc 0) (sym same) low)) in
      let zero = difference_of_same (dot x v) (dot y v) (dot (combined (pos 1) x (negsuc 0) y) v)
      (dot-combined_left (pos 1) x (negsuc 0) y v) alike in
      omega (arith, linear, zero)

  entries : IsMultiple of_difference (with_one m) → (k : ℕ) → entry x k ≡ entry y k
  entries h k =
      let a = entry-scaled h.left (combined (pos 1) x (negsuc 0) y) k in
      let b = entry-scaled h.right m k in
      let c = ap (λ (z : List ℤ). entry z k) h.normals in
      let d : h.right *ℤ entry m k ≡ pos 0 = ap (λ (z : ℤ). z *ℤ entry m k) (zero_factor h.left h.right h.constants) ∙ zero-*ℤ (entry m k) in
      let e = factor_zero h.left (entry (combined (pos 1) x (negsuc 0) y) k) h.nonzero (sym a ∙ c ∙ b ∙ d) in
      same_from_difference (entry x k) (entry y k) (entry (combined (pos 1) x (negsuc 0) y) k) (entry-combined (pos 1) x (negsuc 0) y k) e

  pub same_where_tight : IsFacet n normals (with_one m) → x ≡ y
  same_where_tight facet = same_from_entries x y (dx ∙ sym dy)
      (entries (facet.determined of_difference (length-combined n (pos 1) x (negsuc 0) y dx dy) vanishes))

module _ (n : ℕ) (normals : List (List ℤ)) (parts : List ℕ) (m : List ℤ) (i : ℕ) (x y : List ℤ) (p : IsPartPoint n normals parts m i x)
    (q : IsPartPoint n normals parts m i y) where
  -- points of a part pair alike with the normals on which the vertex is -1
  alike_tight : (e : ℕ) → e < length normals → pairing_at normals m e ≡ negsuc 0 → pairing_at normals x e ≡ pairing_at normals y e
  alike_tight e l t = by (cases_eq (part_at parts e) i)
    where
      by : (part_at parts e ≡ i) ⊎ (part_at parts e ≡ i → ⊥) → pairing_at normals x e ≡ pairing_at normals y e
      by (inl s) = p.own e l t s ∙ sym (q.own e l t s)
      by (inr s) = p.others e l t s ∙ sym (q.others e l t s)

pub part_points_are_single_lem : PartPointsAreSingle
part_points_are_single_lem n normals parts m i x y facet p q =
    same_where_tight n normals m x y p.dimension q.dimension (alike_tight n normals parts m i x y p q) facet
