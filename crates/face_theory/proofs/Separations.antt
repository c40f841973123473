-- What a face says of a member that it hasn't: some function is tight on the face and not at that member.
use Rattle.std.proofs.Common.{◌≡◌, ℕ, ◌<◌, ◌≤◌, zero, suc, Bool, true, false, not, ◌||◌, List, length, ◌⊎◌, inl, inr, ⊎_elim, arith, subst, IsTrue}
use Rattle.std.proofs.lemmas.Bool.{cases_Bool, cases_lt}
use Rattle.face_theory.specs.Sets.{in_set}
use Rattle.face_theory.specs.Faces.{TightRelation, IsTightOn, IsFace}
use Rattle.face_theory.proofs.Sets.{true_false, in_set_width, Fails, fails_or_all, implied, not_implied}

-- members of the set that aren't tight, or none
pub tight_or_not : (R : TightRelation) (set : List Bool) → length set ≡ R.members → (f : ℕ)
    → ((m : ℕ) × (in_set set m ≡ true) × (R.tight m f ≡ false)) ⊎ IsTightOn R set f
tight_or_not R set w f = by (fails_or_all R.members (λ m. not (in_set set m) || R.tight m f))
  where
    by : Fails R.members (λ m. not (in_set set m) || R.tight m f) ⊎ ((m : ℕ) → m < R.members → (not (in_set set m) || R.tight m f) ≡ true)
        → ((m : ℕ) × (in_set set m ≡ true) × (R.tight m f ≡ false)) ⊎ IsTightOn R set f
    by (inl x) = let p = not_implied (in_set set x.place) (R.tight x.place f) x.fails in inl (x.place, p.0, p.1)
    by (inr all) = inr (λ m h. implied (in_set set m) (R.tight m f) (all m (subst (λ (k : ℕ). m < k) w (in_set_width set m h))) h)

-- a function that is tight on the set and not at m
pub record Separates (R : TightRelation) (set : List Bool) (m f : ℕ) : Type 0 where
  pub within : f < R.functions
  pub tight : IsTightOn R set f
  pub apart : R.tight m f ≡ false

-- seek it among the functions below k
separated_below : (R : TightRelation) (set : List Bool) → length set ≡ R.members → (m k : ℕ) → k ≤ R.functions
    → ((f : ℕ) × Separates R set m f) ⊎ ((f : ℕ) → f < k → IsTightOn R set f → IsTrue (R.tight m f))
separated_below R set w m zero h = inr (λ f l. absurd (omega arith))
separated_below R set w m (suc k) h = by (separated_below R set w m k (omega arith)) (tight_or_not R set w k) (cases_Bool (R.tight m k))
  where
    at : ((f : ℕ) → f < k → IsTightOn R set f → IsTrue (R.tight m f)) → (IsTightOn R set k → IsTrue (R.tight m k))
        → (f : ℕ) → f < suc k → IsTightOn R set f → IsTrue (R.tight m f)
    at below last f l = ⊎_elim (λ (i : f < k). below f i)
        (λ (i : k ≤ f). let e : k ≡ f = omega arith in subst (λ (g : ℕ). IsTightOn R set g → IsTrue (R.tight m g)) e last) (cases_lt f k)

    by : ((f : ℕ) × Separates R set m f) ⊎ ((f : ℕ) → f < k → IsTightOn R set f → IsTrue (R.tight m f))
        → ((n : ℕ) × (in_set set n ≡ true) × (R.tight n k ≡ false)) ⊎ IsTightOn R set k → (R.tight m k ≡ true) ⊎ (R.tight m k ≡ false)
        → ((f : ℕ) × Separates R set m f) ⊎ ((f : ℕ) → f < suc k → IsTightOn R set f → IsTrue (R.tight m f))
    by (inl s) t b = inl s
    by (inr below) t (inl b) = inr (at below (λ u. b))
    by (inr below) (inl x) (inr b) = inr (at below (λ u. absurd (true_false (u x.0 x.1) x.2)))
    by (inr below) (inr u) (inr b) = inl (k, record { within = omega arith; tight = u; apart = b })

-- a member that a face hasn't is told from it
pub separated : (R : TightRelation) (set : List Bool) → IsFace R set → (m : ℕ) → m < R.members → in_set set m ≡ false → (f : ℕ)
    × Separates R set m f
separated R set face m l e = by (separated_below R set face.width m R.functions (omega arith))
  where
    by : ((f : ℕ) × Separates R set m f) ⊎ ((f : ℕ) → f < R.functions → IsTightOn R set f → IsTrue (R.tight m f)) → (f : ℕ)
        × Separates R set m f
    by (inl s) = s
    by (inr all) = absurd (true_false ((face.closed m l).1 all) e)
