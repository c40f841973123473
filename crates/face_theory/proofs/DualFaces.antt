-- Dual faces.
use Rattle.std.proofs.Common.{◌≡◌, ℕ, ◌<◌, Bool, true, false, List, length, ◌↔◌, ⊎_elim, refl, sym, ◌∙◌, subst, IsTrue}
use Rattle.face_theory.specs.Sets.{in_set, IsPart, numbers_with}
use Rattle.face_theory.specs.Faces.{TightRelation, transposed, IsTightOn, IsFace, IsDualFace}
use Rattle.face_theory.specs.Laws.{DualExists, DualIsUnique, DualReverses, DualTells, DualIsFace}
use Rattle.face_theory.proofs.Sets.{true_false, in_set_width, same_from_parts, length-numbers_with, in_set-numbers_with}
use Rattle.face_theory.proofs.Separations.{tight_or_not}

-- whether a function is tight on the set
tight_test : (R : TightRelation) (set : List Bool) → length set ≡ R.members → (f : ℕ) → (b : Bool) × (IsTrue b ↔ IsTightOn R set f)
tight_test R set w f = ⊎_elim
    (λ (x : (m : ℕ) × (in_set set m ≡ true) × (R.tight m f ≡ false)).
    (false, (λ e. absurd (true_false e refl), λ t. absurd (true_false (t x.0 x.1) x.2))))
    (λ (t : IsTightOn R set f). (true, (λ e. t, λ u. refl)))
    (tight_or_not R set w f)

pub dual_exists_lem : DualExists
dual_exists_lem R face w = let test = λ (f : ℕ). (tight_test R face w f).0 in (
  numbers_with R.functions test,
  record {
    width = length-numbers_with R.functions test;
    tight = λ f l. (
      λ h. (tight_test R face w f).1.0 (sym (in_set-numbers_with R.functions test f l) ∙ h),
      λ t. in_set-numbers_with R.functions test f l ∙ (tight_test R face w f).1.1 t,
    );
  },
)

-- in range
in_range : (row : List Bool) {n : ℕ} → length row ≡ n → (i : ℕ) → in_set row i ≡ true → i < n
in_range row w i h = subst (λ (k : ℕ). i < k) w (in_set_width row i h)

-- a function of the dual face is tight on the face
dual_tight : (R : TightRelation) (face dual : List Bool) → IsDualFace R face dual → (f : ℕ) → in_set dual f ≡ true → IsTightOn R face f
dual_tight R face dual d f h = (d.tight f (in_range dual d.width f h)).0 h

pub dual_is_unique_lem : DualIsUnique
dual_is_unique_lem R face d e hd he = same_from_parts d e (hd.width ∙ sym he.width)
    (λ f h. (he.tight f (in_range d hd.width f h)).1 (dual_tight R face d hd f h))
    (λ f h. (hd.tight f (in_range e he.width f h)).1 (dual_tight R face e he f h))

-- a smaller face has a larger dual face
reverses : (R : TightRelation) (a b d e : List Bool) → IsDualFace R a d → IsDualFace R b e → IsPart a b → IsPart e d
reverses R a b d e hd he w f h = (hd.tight f (in_range e he.width f h)).1 (λ m i. dual_tight R b e he f h m (w m i))

-- and back
reverses_back : (R : TightRelation) (a b d e : List Bool) → IsFace R a → IsFace R b → IsDualFace R a d → IsDualFace R b e → IsPart e d
    → IsPart a b
reverses_back R a b d e fa fb hd he w m h = (fb.closed m (in_range a fa.width m h)).1
    (λ f l t. dual_tight R a d hd f (w f ((he.tight f l).1 t)) m h)

pub dual_reverses_lem : DualReverses
dual_reverses_lem R a b d e fa fb hd he = (reverses R a b d e hd he, reverses_back R a b d e fa fb hd he)

pub dual_tells_lem : DualTells
dual_tells_lem R a b d fa fb ha hb = same_from_parts a b (fa.width ∙ sym fb.width)
    (reverses_back R a b d d fa fb ha hb (λ f h. h)) (reverses_back R b a d d fb fa hb ha (λ f h. h))

-- the other way round
dual_dual : (R : TightRelation) (face dual : List Bool) → IsFace R face → IsDualFace R face dual → IsDualFace (transposed R) dual face
dual_dual R face dual fa d = record {
  width = fa.width;
  tight = λ m l. (λ h f i. dual_tight R face dual d f i m h, λ t. (fa.closed m l).1 (λ f k u. t f ((d.tight f k).1 u)));
}

pub dual_is_face_lem : DualIsFace
dual_is_face_lem R face dual fa d = (
  record {
    width = d.width;
    closed = λ f l. (
      λ h m k t. t f h,
      λ all. (d.tight f l).1 (λ m i. all m (in_range face fa.width m i) (λ g j. dual_tight R face dual d g j m i)),
    );
  },
  dual_dual R face dual fa d,
)
