-- A weight line has one list of points, and one reason why it is refused before their hull.
use Rattle.std.proofs.Common.{◌≡◌, ℕ, ◌<◌, ◌≤◌, List, [], ◌∷◌, ◌++◌, length, ℤ, None, Some, refl, sym, ◌∙◌, ap, subst, arith}
use Rattle.std.proofs.lemmas.Option.{none-some, same_Some}
use Rattle.std.proofs.lemmas.List.Elements.{All-head, All-tail}
use Rattle.lattice_theory.specs.Order.{LexLess}
use Rattle.lattice_theory.proofs.Orders.{lex_asymmetric}
use Rattle.lattice_theory.proofs.Unique.{lists_unique}
use Rattle.lattice_core.specs.Weights.{Weighted, columns_of, IsMonomial, monomial_point}
use Rattle.lattice_core.specs.declared.faults.Refusal.{Refusal}
use Rattle.lattice_core.specs.declared.faults.Refusal.TheVariants.{Limit}
use Rattle.lattice_core.specs.declared.faults.LimitName.TheVariants.{Frame, Dim, Monomials}
use Rattle.weight_points.specs.Members.{AreMonomials}
use Rattle.lattice_core.specs.declared.limits.TheConstants.{MOST_FRAME_ENTRY}
use Rattle.weight_frame.specs.Frame.{largest, AreWithinEntryLimit, IsFirstAboveLimit}
use Rattle.weight_frame.specs.Answers.{ExceedsEntryLimit, IsFrameWithinLimit, HasOtherDimension}
use Rattle.weight_frame.specs.Bases.{IsIntegerBasis}
use Rattle.weight_frame.proofs.Frames.{frame_is_unique, frame_is_basis, not_exceeding, not_other_dimension}
use Rattle.item_points.specs.WeightLines.{numbers_refusal, HasFrame, HaveCoordinates, AreWeightPoints, HaveManyMonomials}
use Rattle.item_points.specs.WeightLines.{IsWeightRefusal, number, entry, other_dimension, many_monomials}

-- coordinates in a basis are determined
same_coordinates : (systems : List Weighted) (vectors members points others : List (List ℤ)) → IsIntegerBasis systems vectors
    → HaveCoordinates (columns_of systems) vectors members points → HaveCoordinates (columns_of systems) vectors members others
    → points ≡ others
same_coordinates systems vectors [] [] [] b h k = refl
same_coordinates systems vectors [] [] (q ∷ others) b h k = absurd k
same_coordinates systems vectors [] (p ∷ points) others b h k = absurd h
same_coordinates systems vectors (a ∷ members) [] others b h k = absurd h
same_coordinates systems vectors (a ∷ members) (p ∷ points) [] b h k = absurd k
same_coordinates systems vectors (a ∷ members) (p ∷ points) (q ∷ others) b h k =
    let one = b.spans (monomial_point a) (b.inside (monomial_point a) p h.0.combination) in
    let first : p ≡ q = one.only p h.0 ∙ sym (one.only q k.0) in
    let later = same_coordinates systems vectors members points others b h.1 k.1 in
    λ i. first i ∷ later i

-- points that have coordinates of the same vectors in the same frame
moved_coordinates : (n : ℕ) (vectors others members further points : List (List ℤ)) → vectors ≡ others → members ≡ further
    → HaveCoordinates n others further points → HaveCoordinates n vectors members points
moved_coordinates n vectors others members further points e f h =
    let same_members = subst (λ (xs : List (List ℤ)). HaveCoordinates n others xs points) (sym f) h in
    subst (λ (xs : List (List ℤ)). HaveCoordinates n xs members points) (sym e) same_members

-- where there is a vector there is a point
pub has_point : (n : ℕ) (vectors members points : List (List ℤ)) → 1 ≤ length members → HaveCoordinates n vectors members points
    → 0 < length points
has_point n vectors [] points some h = absurd (omega (arith, some))
has_point n vectors (a ∷ members) [] some h = absurd h
has_point n vectors (a ∷ members) (p ∷ points) some h = omega arith

-- the exponent vectors are listed in one way
same_monomials : (systems : List Weighted) (xs ys : List (List ℤ)) → AreMonomials systems xs → AreMonomials systems ys → xs ≡ ys
same_monomials systems xs ys h k = lists_unique LexLess lex_asymmetric (IsMonomial systems) xs ys h k

-- frames within the limit are the same
same_vectors : (systems : List Weighted) (vectors others : List (List ℤ)) → IsFrameWithinLimit systems vectors
    → IsFrameWithinLimit systems others
    → vectors ≡ others
same_vectors systems vectors others f g = (frame_is_unique systems vectors f.made others g.made f.recursion g.recursion).0

-- the points of a weight line are determined
pub same_weight_points : (systems : List Weighted) (points others : List (List ℤ)) → AreWeightPoints systems points
    → AreWeightPoints systems others
    → points ≡ others
same_weight_points systems points others a b =
    let vectors = same_vectors systems a.frame.vectors b.frame.vectors a.frame.is_frame b.frame.is_frame in
    let members = same_monomials systems a.members b.members a.are_monomials b.are_monomials in
    let basis = frame_is_basis systems a.frame.vectors (record { made = a.frame.is_frame.made; recursion = a.frame.is_frame.recursion }) in
    let n = columns_of systems in
    let coordinates = moved_coordinates n a.frame.vectors b.frame.vectors a.members b.members others vectors members b.coordinates in
    same_coordinates systems a.frame.vectors a.members points others basis a.coordinates coordinates

-- numbers that are refused aren't within their limits
not_numbers : (systems : List Weighted) (cause : Refusal) → numbers_refusal systems ≡ Some cause → numbers_refusal systems ≡ None → ⊥
not_numbers systems cause some none = none-some cause (sym none ∙ some)

-- the first vector above the limit is determined
abbrev first_vector : List (List ℤ) → List ℤ
first_vector [] = []
first_vector (x ∷ xs) = x

abbrev behind_first : List (List ℤ) → List (List ℤ)
behind_first [] = []
behind_first (x ∷ xs) = xs

above_and_within : (x y : List ℤ) → x ≡ y → MOST_FRAME_ENTRY < largest x → largest y ≤ MOST_FRAME_ENTRY → ⊥
above_and_within x y e above within = let same = ap largest e in omega (arith, same, above, within)

same_first_above : (before further behind others : List (List ℤ)) (x y : List ℤ) → before ++ (x ∷ behind) ≡ further ++ (y ∷ others)
    → AreWithinEntryLimit before → AreWithinEntryLimit further → MOST_FRAME_ENTRY < largest x → MOST_FRAME_ENTRY < largest y → x ≡ y
same_first_above [] [] behind others x y e w v a b = ap first_vector e
same_first_above [] (z ∷ further) behind others x y e w v a b =
    absurd (above_and_within x z (ap first_vector e) a (All-head (λ (u : List ℤ). largest u ≤ MOST_FRAME_ENTRY) z further v))
same_first_above (z ∷ before) [] behind others x y e w v a b =
    absurd (above_and_within y z (sym (ap first_vector e)) b (All-head (λ (u : List ℤ). largest u ≤ MOST_FRAME_ENTRY) z before w))
same_first_above (z ∷ before) (u ∷ further) behind others x y e w v a b =
    same_first_above before further behind others x y (ap behind_first e)
    (All-tail (λ (u : List ℤ). largest u ≤ MOST_FRAME_ENTRY) z before w)
    (All-tail (λ (u : List ℤ). largest u ≤ MOST_FRAME_ENTRY) u further v) a b

told_above : (vectors others : List (List ℤ)) (told other : ℕ) → vectors ≡ others → IsFirstAboveLimit vectors told
    → IsFirstAboveLimit others other
    → told ≡ other
told_above vectors others told other e a b =
    let above_a = subst (λ (k : ℕ). MOST_FRAME_ENTRY < k) a.value a.above in
    let above_b = subst (λ (k : ℕ). MOST_FRAME_ENTRY < k) b.value b.above in
    let split = sym a.split ∙ (e ∙ b.split) in
    let same = same_first_above a.before b.before a.behind b.behind a.vector b.vector split a.within b.within above_a above_b in
    a.value ∙ (ap largest same ∙ sym b.value)

same_exceeding : (systems : List Weighted) (told other : ℕ) → ExceedsEntryLimit systems told → ExceedsEntryLimit systems other
    → told ≡ other
same_exceeding systems told other a b =
    told_above a.made b.made told other (frame_is_unique systems a.vectors a.made b.vectors b.made a.recursion b.recursion).1 a.first
    b.first

same_other_dimension : (systems : List Weighted) (n other : ℕ) → HasOtherDimension systems n → HasOtherDimension systems other → n ≡ other
same_other_dimension systems n other a b = a.count ∙ (ap length (same_vectors systems a.vectors b.vectors a.frame b.frame) ∙ sym b.count)

-- what is refused at one step has passed the steps before
exceeding_or_frame : (systems : List Weighted) (told : ℕ) → ExceedsEntryLimit systems told → HasFrame systems → ⊥
exceeding_or_frame systems told x f = not_exceeding systems f.vectors told f.is_frame x

other_or_frame : (systems : List Weighted) (n : ℕ) → HasOtherDimension systems n → HasFrame systems → ⊥
other_or_frame systems n x f = not_other_dimension systems f.vectors n f.is_frame f.least f.most x

many_or_few_monomials : (systems : List Weighted) (told : ℕ) (points : List (List ℤ)) → HaveManyMonomials systems told
    → AreWeightPoints systems points → ⊥
many_or_few_monomials systems told points m f =
    let same = ap length (same_monomials systems m.members f.members m.are_monomials f.are_monomials) in
    omega (arith, m.many, f.few, same)

-- a weight line that is refused before the size of its points has no points
pub weight_refusal_or_points : (systems : List Weighted) (cause : Refusal) (points : List (List ℤ)) → IsWeightRefusal systems cause
    → AreWeightPoints systems points → ⊥
weight_refusal_or_points systems _ points (number {cause = cause} a) h = not_numbers systems cause a h.frame.numbers
weight_refusal_or_points systems _ points (entry {told = told} none a) h = exceeding_or_frame systems told a h.frame
weight_refusal_or_points systems _ points (other_dimension {n = k} none a) h = other_or_frame systems k a h.frame
weight_refusal_or_points systems _ points (many_monomials {told = told} a) h = many_or_few_monomials systems told points a h

pub one_weight_refusal : (systems : List Weighted) (cause other : Refusal) → IsWeightRefusal systems cause → IsWeightRefusal systems other
    → cause ≡ other
one_weight_refusal systems _ _ (number {cause = cause} a) (number {cause = other} b) = same_Some cause other (sym a ∙ b)
one_weight_refusal systems _ _ (number {cause = cause} a) (entry none b) = absurd (not_numbers systems cause a none)
one_weight_refusal systems _ _ (number {cause = cause} a) (other_dimension none b) = absurd (not_numbers systems cause a none)
one_weight_refusal systems _ _ (number {cause = cause} a) (many_monomials b) = absurd (not_numbers systems cause a b.frame.numbers)
one_weight_refusal systems _ _ (entry none a) (number {cause = cause} b) = absurd (not_numbers systems cause b none)
one_weight_refusal systems _ _ (entry {told = told} none a) (entry {told = other} also b) =
    ap (Limit Frame) (same_exceeding systems told other a b)
one_weight_refusal systems _ _ (entry {told = told} none a) (other_dimension also b) =
    absurd (not_exceeding systems b.vectors told b.frame a)
one_weight_refusal systems _ _ (entry {told = told} none a) (many_monomials b) = absurd (exceeding_or_frame systems told a b.frame)
one_weight_refusal systems _ _ (other_dimension none a) (number {cause = cause} b) = absurd (not_numbers systems cause b none)
one_weight_refusal systems _ _ (other_dimension none a) (entry {told = told} also b) =
    absurd (not_exceeding systems a.vectors told a.frame b)
one_weight_refusal systems _ _ (other_dimension {n = n} none a) (other_dimension {n = m} also b) =
    ap (Limit Dim) (same_other_dimension systems n m a b)
one_weight_refusal systems _ _ (other_dimension {n = n} none a) (many_monomials b) = absurd (other_or_frame systems n a b.frame)
one_weight_refusal systems _ _ (many_monomials a) (number {cause = cause} b) = absurd (not_numbers systems cause b a.frame.numbers)
one_weight_refusal systems _ _ (many_monomials a) (entry {told = told} none b) = absurd (exceeding_or_frame systems told b a.frame)
one_weight_refusal systems _ _ (many_monomials a) (other_dimension {n = n} none b) = absurd (other_or_frame systems n b a.frame)
one_weight_refusal systems _ _ (many_monomials a) (many_monomials b) = ap (Limit Monomials) (a.told_is ∙ sym b.told_is)
