-- A cone has the same numbers by any table of its faces.
use Rattle.std.specs.List.{All, range_with_len}
use Rattle.std.proofs.Common.{◌≡◌, ⊎_elim, ℕ, zero, suc, ◌+◌, ◌-◌, ◌<◌, ◌≤◌, nat_lt, max, Bool, List, length, ℤ, pos, ◌*ℤ◌, sym, ap, ap₂, ◌∙◌, subst, arith}
use Rattle.std.proofs.Math.Bool.{cond}
use Rattle.std.proofs.Math.Nat.{max-le}
use Rattle.std.proofs.lemmas.Bool.{cases_lt, cond-false, le-ltb}
use Rattle.std.proofs.lemmas.List.Elements.{All-get_or}
use Rattle.lattice_theory.proofs.Integers.{linear}
use Rattle.lattice_theory.proofs.Members.{In, contains_from_in}
use Rattle.polynomial_theory.specs.Sums.{sum_of_splits, sign}
use Rattle.polynomial_theory.specs.Series.{Series}
use Rattle.stringy_theory.specs.HStar.{choose, alternating, h_star}
use Rattle.stringy_theory.specs.CountedFaces.{series_of}
use Rattle.stringy_theory.specs.Stringy.{numerator}
use Rattle.stringy_theory.proofs.RankedTables.{number_within}
use Rattle.face_theory.specs.Pairings.{paired}
use Rattle.face_poset.specs.Faces.{FaceState, TableState, no_face, face_at, IsTableOf, IsTopRank}
use Rattle.dual_pair.specs.declared.side.Side.TheVariants as sides
use Rattle.poset_g.specs.Numbered.{numbered}
use Rattle.stringy.specs.ConeNumbers.{points_of, counted_faces}
use Rattle.cayley_theory.specs.Counts.{CountsOnFace, CountsOnDualFace}
use Rattle.cayley_theory.proofs.ConeCounts.{counts_are_single_lem, dual_counts_are_single_lem}
use Rattle.cayley.specs.PairCones.{ConeState}
use Rattle.cone_counts.specs.FaceCounts.{CountsState, HasCounts, face_set, count_of, numbers_of}
use Rattle.nef_numbers.proofs.AlikeFaces.{HaveAlike, g_alike, g_dual_alike, numerator_alike}
use Rattle.nef_numbers.proofs.SameFaces.{same_length, same_set, same_rank, orders_alike}

-- sums over splits whose terms are the same
splits_alike : (n : ℕ) (f h : ℕ → ℕ → ℤ) → ((a b : ℕ) → a + b ≡ n → f a b ≡ h a b) → sum_of_splits n f ≡ sum_of_splits n h
splits_alike zero f h e = e 0 0 (omega arith)
splits_alike (suc n) f h e =
    let first = e 0 (suc n) (omega arith) in
    let rest = splits_alike n (λ a b. f (suc a) b) (λ a b. h (suc a) b) (λ a b i. e (suc a) b (omega arith)) in
    omega (arith, linear)

-- h* of numbers that begin alike
stars_begin : (rank : ℕ) (l m : Series) → ((s : ℕ) → s < max rank 1 → l s ≡ m s) → (k : ℕ) → h_star rank l k ≡ h_star rank m k
stars_begin rank l m h k = ⊎_elim
    (λ (j : k < max rank 1). ap (λ (z : ℤ). cond (nat_lt k (max rank 1)) z (pos 0))
    (splits_alike k (λ s j. sign j *ℤ (pos (choose rank j) *ℤ l s)) (λ s j. sign j *ℤ (pos (choose rank j) *ℤ m s))
    (λ a b e. ap (λ (z : ℤ). sign b *ℤ (pos (choose rank b) *ℤ z)) (h a (omega arith)))))
    (λ (j : max rank 1 ≤ k). cond-false (nat_lt k (max rank 1)) (alternating rank l k) (pos 0) (le-ltb k (max rank 1) j)
    ∙ sym (cond-false (nat_lt k (max rank 1)) (alternating rank m k) (pos 0) (le-ltb k (max rank 1) j)))
    (cases_lt k (max rank 1))

stars_alike : (rank other : ℕ) (l m : Series) → rank ≡ other → ((s : ℕ) → s < max rank 1 → l s ≡ m s) → (k : ℕ) → h_star rank l k ≡ h_star other m k
stars_alike rank other l m e h k = stars_begin rank l m h k ∙ ap (λ (n : ℕ). h_star n m k) e

module _ (cone : ConeState) (a b : TableState) (s : IsTableOf (paired cone.members cone.functions) a) (t : IsTableOf (paired cone.members cone.functions) b)
    (c d : CountsState) (u : HasCounts cone a c) (v : HasCounts cone b d) (some : 1 ≤ cone.dim + cone.parts)
    (ranks : All (λ face. face.rank ≤ cone.dim + cone.parts) a.faces) where
  -- the highest rank is one, and isn't above n + r
  top_most : (top : ℕ) → IsTopRank a.faces top → top ≤ cone.dim + cone.parts
  top_most top h =
      let m = All-get_or (λ (face : FaceState). face.rank ≤ cone.dim + cone.parts) a.faces h.place no_face h.within ranks in
      let e = h.reached in omega arith

  pub same_top : (top other : ℕ) → IsTopRank a.faces top → IsTopRank b.faces other → top ≡ other
  same_top top other h k =
      let n = same_length (paired cone.members cone.functions) a b s t in
      let within : k.place < length a.faces = let l = k.within in omega arith in
      let upper = All-get_or (λ (face : FaceState). face.rank ≤ top) a.faces k.place no_face within h.most in
      let e = same_rank (paired cone.members cone.functions) a b s t k.place within in
      let lower = All-get_or (λ (face : FaceState). face.rank ≤ other) b.faces h.place no_face (let l = h.within in omega arith) k.most in
      let f = same_rank (paired cone.members cone.functions) a b s t h.place h.within in
      let g = h.reached in
      let i = k.reached in
      omega arith

  -- the numbers of vectors are the same
  counts_alike : (x degree : ℕ) → x < length a.faces → degree < cone.dim + cone.parts
      → points_of (numbers_of c) sides.M x degree ≡ points_of (numbers_of d) sides.M x degree
  counts_alike x degree l m = ap pos (counts_are_single_lem cone.dim cone.parts cone.members cone.functions (face_set cone b x) degree
      (count_of c sides.M degree x) (count_of d sides.M degree x)
      (subst (λ (set : List Bool). CountsOnFace cone.dim cone.parts cone.members cone.functions set degree (count_of c sides.M degree x))
      (same_set (paired cone.members cone.functions) a b s t x l) (u.on_face x degree l m))
      (v.on_face x degree (let n = same_length (paired cone.members cone.functions) a b s t in omega arith) m))

  dual_counts_alike : (x degree : ℕ) → x < length a.faces → degree < cone.dim + cone.parts
      → points_of (numbers_of c) sides.N x degree ≡ points_of (numbers_of d) sides.N x degree
  dual_counts_alike x degree l m = ap pos (dual_counts_are_single_lem cone.dim cone.parts cone.members (face_set cone b x) degree
      (count_of c sides.N degree x) (count_of d sides.N degree x)
      (subst (λ (set : List Bool). CountsOnDualFace cone.dim cone.parts cone.members set degree (count_of c sides.N degree x))
      (same_set (paired cone.members cone.functions) a b s t x l) (u.on_dual_face x degree l m))
      (v.on_dual_face x degree (let n = same_length (paired cone.members cone.functions) a b s t in omega arith) m))

  in_range : (n degree : ℕ) → n ≤ cone.dim + cone.parts → degree < max n 1 → degree < cone.dim + cone.parts
  in_range n degree h l = let m : max n 1 ≤ cone.dim + cone.parts = max-le h some in omega arith

  module _ (top other : ℕ) (h : IsTopRank a.faces top) (k : IsTopRank b.faces other) where
    rank_alike : (x : ℕ) → In x (range_with_len 0 (length a.faces)) → (face_at a.faces x).rank ≡ (face_at b.faces x).rank
    rank_alike x i = same_rank (paired cone.members cone.functions) a b s t x (number_within (length a.faces) x (contains_from_in i))

    stars_on_m : (x : ℕ) → In x (range_with_len 0 (length a.faces)) → (j : ℕ)
        → h_star (face_at a.faces x).rank (points_of (numbers_of c) sides.M x) j ≡ h_star (face_at b.faces x).rank (points_of (numbers_of d) sides.M x) j
    stars_on_m x i j =
        let l = number_within (length a.faces) x (contains_from_in i) in
        stars_alike (face_at a.faces x).rank (face_at b.faces x).rank (points_of (numbers_of c) sides.M x) (points_of (numbers_of d) sides.M x)
        (rank_alike x i) (λ degree m. counts_alike x degree l (in_range (face_at a.faces x).rank degree
        (All-get_or (λ (face : FaceState). face.rank ≤ cone.dim + cone.parts) a.faces x no_face l ranks) m)) j

    stars_on_n : (x : ℕ) → In x (range_with_len 0 (length a.faces)) → (j : ℕ)
        → h_star (top - (face_at a.faces x).rank) (points_of (numbers_of c) sides.N x) j
        ≡ h_star (other - (face_at b.faces x).rank) (points_of (numbers_of d) sides.N x) j
    stars_on_n x i j =
        let l = number_within (length a.faces) x (contains_from_in i) in
        stars_alike (top - (face_at a.faces x).rank) (other - (face_at b.faces x).rank) (points_of (numbers_of c) sides.N x)
        (points_of (numbers_of d) sides.N x) (ap₂ (λ (m n : ℕ). m - n) (same_top top other h k) (rank_alike x i))
        (λ degree m. dual_counts_alike x degree l (in_range (top - (face_at a.faces x).rank) degree (let n = top_most top h in omega arith) m)) j

    series_alike : HaveAlike (series_of (counted_faces a top (numbers_of c))) (series_of (counted_faces b other (numbers_of d)))
    series_alike = let o = orders_alike (paired cone.members cone.functions) a b s t in record {
      faces = o.members;
      below = o.below;
      rank = rank_alike;
      h = stars_on_m;
      h_dual = stars_on_n;
      g = g_alike (numbered a) (numbered b) o;
      g_dual = g_dual_alike (numbered a) (numbered b) o;
    }

    pub same_numerator : (p : ℤ) (q : ℕ) → numerator (series_of (counted_faces a top (numbers_of c))) p q
        ≡ numerator (series_of (counted_faces b other (numbers_of d))) p q
    same_numerator p q = numerator_alike (series_of (counted_faces a top (numbers_of c))) (series_of (counted_faces b other (numbers_of d))) series_alike p q
