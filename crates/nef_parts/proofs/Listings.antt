-- The list of all nef partitions, by tests.
use Rattle.std.specs.Prelude.{ℤ, pos, negsuc, not, ◌||◌, ◌&&◌, ◌==◌}
use Rattle.std.specs.Bool.{Decides}
use Rattle.std.specs.Ordering.{int_eq}
use Rattle.std.specs.List.{All, Contains}
use Rattle.std.proofs.Common.{◌≡◌, ◌≢◌, ℕ, zero, suc, ◌<◌, ◌≤◌, Bool, true, false, List, [], ◌∷◌, length, map, get_or, refl, sym, ◌∙◌, subst, arith}
use Rattle.std.proofs.lemmas.Bool.Decides.{Decides-eqb, Decides-int_eq, Decides-and, Decides-not, Decides-like, Decides-below_and, Decides-by_and, Decides-by_or}
use Rattle.std.proofs.lemmas.List.Elements.{All-contains, Contains-get_or, at_from_Contains}
use Rattle.lattice_theory.specs.Order.{LexLess}
use Rattle.lattice_theory.proofs.Members.{In, here, there, each_in, each_from_all, in_from_contains, contains_from_in}
use Rattle.lattice_theory.proofs.Sublists.{in_map, from_map, ascends_map}
use Rattle.lattice_core.specs.Dimensions.{dimension_of}
use Rattle.walk_theory.specs.Walks.{NumbersLess, walk}
use Rattle.nef_theory.specs.Nef.{part_at, pairing_at, IsGrowthList}
use Rattle.nef_theory.specs.Reflexive.{AreAtLeastMinusOne}
use Rattle.nef_theory.specs.Agreement.{Agrees, HasAgreeing}
use Rattle.nef_theory.specs.Walk.{IsNefGuide}
use Rattle.nef_theory.proofs.NefWalks.{nef_walk_lem}
use Rattle.nef_parts.specs.Lists.{PairLists}
use Rattle.nef_parts.specs.Partitions.{AreNefPartitions}
use Rattle.nef_parts.specs.Listing.{agrees_at, agrees_below, some_agrees, parts_agree, vertices_agree, number_used, growth_guide, partitions}

decides_implies : (x y : Bool) (P Q : Type 0) → Decides x P → Decides y Q → Decides (not x || y) (P → Q)
decides_implies true true P Q p q = ((λ e h. q.0 refl), (λ f. refl))
decides_implies true false P Q p q = ((λ e. absurd cc), (λ f. q.1 (f (p.0 refl))))
decides_implies false y P Q p q = ((λ e h. absurd (let t : false ≡ true = p.1 h in cc)), (λ f. refl))

-- what agreement asks of one place
pub record AgreesHere (normals : List (List ℤ)) (parts : List ℕ) (m : List ℤ) (i : ℕ) (x : List ℤ) (e : ℕ) : Type 0 where
  pub own : pairing_at normals m e ≡ negsuc 0 → part_at parts e ≡ i → pairing_at normals x e ≡ negsuc 0
  pub others : pairing_at normals m e ≡ negsuc 0 → part_at parts e ≢ i → pairing_at normals x e ≡ pos 0
  pub inside : pairing_at normals x e ≡ negsuc 0 → part_at parts e ≡ i

module _ (normals : List (List ℤ)) (parts : List ℕ) (m : List ℤ) (i : ℕ) where
  at_decides : (x : List ℤ) (e : ℕ) → Decides (agrees_at normals parts m i x e) (AgreesHere normals parts m i x e)
  at_decides x e =
      Decides-like (agrees_at normals parts m i x e) (λ h. record { own = h.0; others = h.1.0; inside = h.1.1 })
      (λ a. (a.own, (a.others, a.inside)))
      (Decides-and _ _
      (decides_implies _ _ _ _ tight_m (decides_implies _ _ _ _ part tight_x))
      (Decides-and _ _
      (decides_implies _ _ _ _ tight_m (decides_implies _ _ _ _ (Decides-not (part_at parts e == i) part) (Decides-int_eq (pairing_at normals x e) (pos 0))))
      (decides_implies _ _ _ _ tight_x part)))
    where
      tight_m : Decides (int_eq (pairing_at normals m e) (negsuc 0)) (pairing_at normals m e ≡ negsuc 0)
      tight_m = Decides-int_eq (pairing_at normals m e) (negsuc 0)

      tight_x : Decides (int_eq (pairing_at normals x e) (negsuc 0)) (pairing_at normals x e ≡ negsuc 0)
      tight_x = Decides-int_eq (pairing_at normals x e) (negsuc 0)

      part : Decides (part_at parts e == i) (part_at parts e ≡ i)
      part = Decides-eqb (part_at parts e) i

  below_decides : (x : List ℤ) (k : ℕ) → Decides (agrees_below normals parts m i x k) (Agrees normals k parts m i x)
  unfolding agrees_below
  below_decides x k =
      Decides-like (agrees_below normals parts m i x k)
      (λ h. record { own = λ e l. (h e l).own; others = λ e l. (h e l).others; inside = λ e l. (h e l).inside })
      (λ a. λ e l. record { own = a.own e l; others = a.others e l; inside = a.inside e l })
      (Decides-below_and (agrees_at normals parts m i x) (AgreesHere normals parts m i x) (agrees_below normals parts m i x)
      (λ e. at_decides x e) refl (λ _. refl) k)

  some_decides : (points : List (List ℤ)) → Decides (some_agrees normals parts m i points) (HasAgreeing normals points (length normals) parts m i)
  unfolding some_agrees
  some_decides points =
      Decides-like (some_agrees normals parts m i points)
      (λ h. record { point = get_or points h.0 []; member = Contains-get_or points h.0 [] h.1; agrees = h.2 [] })
      (λ a. let at = at_from_Contains points a.point a.member in
      (at.0, at.1, λ d. subst (Agrees normals (length normals) parts m i) (sym (at.2 d)) a.agrees))
      (Decides-by_or (λ x. agrees_below normals parts m i x (length normals)) (Agrees normals (length normals) parts m i)
      (some_agrees normals parts m i) (λ x. below_decides x (length normals)) refl (λ _ _. refl) points)

module _ (normals : List (List ℤ)) (parts : List ℕ) (points : List (List ℤ)) where
  parts_decide : (m : List ℤ) (r : ℕ) → Decides (parts_agree normals parts points m r) ((i : ℕ) → i < r → HasAgreeing normals points (length normals) parts m i)
  unfolding parts_agree
  parts_decide m r =
      Decides-below_and (λ i. some_agrees normals parts m i points) (λ i. HasAgreeing normals points (length normals) parts m i)
      (parts_agree normals parts points m) (λ i. some_decides normals parts m i points) refl (λ _. refl) r

  vertices_decide : (r : ℕ) (vertices : List (List ℤ)) → Decides (vertices_agree normals parts points r vertices)
      (All (λ m. (i : ℕ) → i < r → HasAgreeing normals points (length normals) parts m i) vertices)
  unfolding vertices_agree
  vertices_decide r vertices =
      Decides-by_and (λ m. parts_agree normals parts points m r) (λ m. (i : ℕ) → i < r → HasAgreeing normals points (length normals) parts m i)
      (vertices_agree normals parts points r) (λ m. parts_decide m r) refl (λ _ _. refl) vertices

-- the number of used part numbers
used_below : (x : List ℕ) (used : ℕ) → ((p : ℕ) → In p x → p < used) → number_used x ≤ used
used_below [] used h = omega arith
used_below (p ∷ x) used h = let first = h p here in let rest = used_below x used (λ q i. h q (there i)) in omega arith

used_above : (x : List ℕ) (p : ℕ) → In p x → p < number_used x
used_above [] p i = elim i [ ]
used_above (_ ∷ x) p here = omega arith
used_above (q ∷ x) p (there i) = let r = used_above x p i in omega arith

pub used_is : (used : ℕ) (x : List ℕ) → IsGrowthList used x → number_used x ≡ used
used_is zero x g =
    let most = used_below x 0 (λ p i. each_in (each_from_all (λ q. q < 0) x g.below) i) in
    omega arith
used_is (suc used) x g =
    let most = used_below x (suc used) (λ p i. each_in (each_from_all (λ q. q < suc used) x g.below) i) in
    let least = used_above x used (in_from_contains x (g.occur used (omega arith))) in
    omega arith

module _ (l : PairLists) (r : ℕ) (least : AreAtLeastMinusOne (dimension_of l.vertices) l.normals l.points) where
  kept_decides : (x : List ℕ) → Decides (number_used x == r && vertices_agree l.normals x l.points r l.vertices)
      ((number_used x ≡ r) × All (λ m. (i : ℕ) → i < r → HasAgreeing l.normals l.points (length l.normals) x m i) l.vertices)
  kept_decides x = Decides-and _ _ (Decides-eqb (number_used x) r) (vertices_decide l.normals x l.points r l.vertices)

  guides : IsNefGuide l.vertices l.normals l.points r (growth_guide l r)
  guides = record {
    tries_these = λ b used v g. let u = used_is used b g in (
      (λ t. let h = t.high in (omega arith, omega arith)),
      (λ h. record { low = omega arith; high = omega (arith, h.0, h.1, u) }),
    );
    keeps = λ x used e g. (
      (λ k. let h = (kept_decides x).0 k in record {
        count = e;
        growth = subst (λ (n : ℕ). IsGrowthList n x) (sym (used_is used x g) ∙ h.0) g;
        agreeing = λ m c. All-contains (λ m. (i : ℕ) → i < r → HasAgreeing l.normals l.points (length l.normals) x m i) l.vertices m h.1 c;
      }),
      (λ a. (kept_decides x).1 (
        used_is r x a.growth,
        λ k d h. a.agreeing (get_or l.vertices k d) (Contains-get_or l.vertices k d h),
      )),
    );
    spares = λ b e. absurd cc;
  }

  pub are_partitions : AreNefPartitions l r (partitions l r)
  unfolding partitions
  are_partitions =
      let lists = nef_walk_lem (dimension_of l.vertices) l.vertices l.normals l.points r (growth_guide l r) least guides in
      let walked = walk (growth_guide l r) (length l.normals) [] in
      record {
        ascends = ascends_map NumbersLess LexLess (λ parts. map pos parts) (λ x y h. h) walked lists.ascends;
        members = λ z. (
          (λ c.
              let image = from_map (λ parts. map pos parts) walked (in_from_contains _ c) in
              record { parts = image.source; is = sym image.is; nef = (lists.members image.source).0 (contains_from_in image.member) }),
          (λ v. subst (Contains (map (λ parts. map pos parts) walked)) v.is
              (contains_from_in (in_map (λ parts. map pos parts) (in_from_contains walked ((lists.members v.parts).1 v.nef))))),
        );
      }
