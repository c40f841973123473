-- A sum over faces is one number.
use Rattle.std.proofs.Common.{◌≡◌, ◌≢◌, ℕ, suc, ◌+◌, Bool, List, [], ◌∷◌, map, refl, sym, ◌∙◌, subst, arith, sum_by, AllPairs}
use Rattle.std.proofs.lemmas.List.Sums.{sum_by-cons}
use Rattle.lattice_theory.proofs.Members.{In, here, there, Each, each_from_all, each_from_in, each_in, in_from_contains}
use Rattle.lattice_theory.proofs.Sublists.{IsImage, from_map}
use Rattle.face_theory.specs.Faces.{TightRelation, IsFace}
use Rattle.batyrev_theory.specs.FaceSums.{CountedFace, IsFaceSum}

-- the sum of the numbers
abbrev total : List CountedFace → ℕ
total faces = sum_by (λ c. c.number) faces

total-cons : (c : CountedFace) (faces : List CountedFace) → total (c ∷ faces) ≡ c.number + total faces
total-cons c faces = sum_by-cons (λ (d : CountedFace). d.number) c faces

-- no set stands twice
data Apart : List CountedFace → Type 0 where
  none : Apart []
  apart : {c : CountedFace} {faces : List CountedFace} → Each (λ d. c.set ≢ d.set) faces → Apart faces → Apart (c ∷ faces)

apart_from : (faces : List CountedFace) → AllPairs (λ a b. a.set ≢ b.set) faces → Apart faces
apart_from [] h = none
apart_from (c ∷ faces) h = apart (each_from_all (λ d. c.set ≢ d.set) faces (λ k d l. h 0 (suc k) d (omega arith) (omega arith)))
    (apart_from faces (λ i j d l m. h (suc i) (suc j) d (omega arith) (omega arith)))

-- a list without one of its faces
record Without (c : CountedFace) (faces : List CountedFace) : Type 0 where
  rest : List CountedFace
  sums : total faces ≡ c.number + total rest
  still : Apart rest
  others : (d : CountedFace) → In d faces → d.set ≢ c.set → In d rest
  from : (d : CountedFace) → In d rest → In d faces × (d.set ≢ c.set)

without : {c : CountedFace} (faces : List CountedFace) → In c faces → Apart faces → Without c faces
without [] i a = elim i [ ]
without {c = c} (_ ∷ faces) here (apart h a) = record {
  rest = faces;
  sums = total-cons c faces;
  still = a;
  others = others;
  from = λ d i. (there i, λ e. each_in h i (sym e));
}
  where
    others : (d : CountedFace) → In d (c ∷ faces) → d.set ≢ c.set → In d faces
    others d here n = absurd (n refl)
    others d (there i) n = i
without {c = c} (f ∷ faces) (there i) (apart h a) = by (without faces i a)
  where
    by : Without c faces → Without c (f ∷ faces)
    by w = record {
      rest = f ∷ w.rest;
      sums = let p = total-cons f faces in let q = total-cons f w.rest in let s = w.sums in omega arith;
      still = apart (each_from_in w.rest (λ d j. each_in h (w.from d j).0)) w.still;
      others = others;
      from = from;
    }
      where
        others : (d : CountedFace) → In d (f ∷ faces) → d.set ≢ c.set → In d (f ∷ w.rest)
        others d here n = here
        others d (there j) n = there (w.others d j n)

        from : (d : CountedFace) → In d (f ∷ w.rest) → In d (f ∷ faces) × (d.set ≢ c.set)
        from d here = (here, each_in h i)
        from d (there j) = let r = w.from d j in (there r.0, r.1)

-- a face of a list with the set of c
record Twin (c : CountedFace) (faces : List CountedFace) : Type 0 where
  twin : CountedFace
  member : In twin faces
  set_is : twin.set ≡ c.set

-- lists with the same sets, and the same numbers of these, have one sum
same_total : (xs ys : List CountedFace) → Apart xs → Apart ys → ((c : CountedFace) → In c xs → Twin c ys) → ((d : CountedFace) → In d ys → Twin d xs)
    → ((c d : CountedFace) → In c xs → In d ys → d.set ≡ c.set → d.number ≡ c.number) → total xs ≡ total ys
same_total [] [] a b to from same = refl
same_total [] (d ∷ ys) a b to from same = absurd (no_twin (from d here))
  where
    no_twin : Twin d [] → ⊥
    no_twin t = elim t.member [ ]
same_total (c ∷ xs) ys (apart h a) b to from same = by (to c here) (λ rest. same_total xs rest a)
  where
    by : Twin c ys → ((rest : List CountedFace) → Apart rest → ((e : CountedFace) → In e xs → Twin e rest)
        → ((d : CountedFace) → In d rest → Twin d xs)
        → ((e d : CountedFace) → In e xs → In d rest → d.set ≡ e.set → d.number ≡ e.number) → total xs ≡ total rest) → total (c ∷ xs) ≡ total ys
    by t others = at (without ys t.member b)
      where
        at : Without t.twin ys → total (c ∷ xs) ≡ total ys
        at w =
            let first = total-cons c xs in let number = same c t.twin here t.member t.set_is in let s = w.sums in
            let rest = others w.rest w.still to_rest from_rest (λ e d i j. same e d (there i) (w.from d j).0) in omega arith
          where
            to_rest : (e : CountedFace) → In e xs → Twin e w.rest
            to_rest e i = let u = to e (there i) in record {
              twin = u.twin;
              member = w.others u.twin u.member (λ s. each_in h i (sym t.set_is ∙ sym s ∙ u.set_is));
              set_is = u.set_is;
            }

            later : (e : CountedFace) → In e (c ∷ xs) → e.set ≢ c.set → In e xs
            later e here n = absurd (n refl)
            later e (there i) n = i

            from_rest : (d : CountedFace) → In d w.rest → Twin d xs
            from_rest d j = let r = w.from d j in let u = from d r.0 in record {
              twin = u.twin;
              member = later u.twin u.member (λ e. r.1 (sym u.set_is ∙ e ∙ sym t.set_is));
              set_is = u.set_is;
            }

-- so where N tells one number of each face, the sum is one number
pub face_sum_is_single : (R : TightRelation) (P : List Bool → Type 0) (N : List Bool → ℕ → Type 0)
    → ((x : List Bool) (j k : ℕ) → N x j → N x k → j ≡ k) → (s t : ℕ) → IsFaceSum R P N s → IsFaceSum R P N t → s ≡ t
face_sum_is_single R P N single s t a b = sym a.sum ∙ same_total a.faces b.faces (apart_from a.faces a.once) (apart_from b.faces b.once)
    (λ c i. let h = each_in (each_from_all (λ e. IsFace R e.set × P e.set × N e.set e.number) a.faces a.each) i in twin b c h.0 h.1)
    (λ d i. let h = each_in (each_from_all (λ e. IsFace R e.set × P e.set × N e.set e.number) b.faces b.each) i in twin a d h.0 h.1)
    (λ c d i j e. same c d (number a c i) (number b d j) e) ∙ b.sum
  where
    twin : {u : ℕ} (f : IsFaceSum R P N u) (c : CountedFace) → IsFace R c.set → P c.set → Twin c f.faces
    twin f c face p = by (from_map (λ (e : CountedFace). e.set) f.faces (in_from_contains (map (λ e. e.set) f.faces) (f.all c.set face p)))
      where
        by : IsImage (λ (e : CountedFace). e.set) f.faces c.set → Twin c f.faces
        by i = record { twin = i.source; member = i.member; set_is = sym i.is }

    number : {u : ℕ} (f : IsFaceSum R P N u) (c : CountedFace) → In c f.faces → N c.set c.number
    number f c i = (each_in (each_from_all (λ e. IsFace R e.set × P e.set × N e.set e.number) f.faces f.each) i).2

    same : (c d : CountedFace) → N c.set c.number → N d.set d.number → d.set ≡ c.set → d.number ≡ c.number
    same c d m n e = single c.set d.number c.number (subst (λ (x : List Bool). N x d.number) e n) m
