-- Refuters, by the two tests.
use Rattle.std.proofs.Common.{◌≡◌, ◌↔◌, ℕ, List, length, ℤ, pos, ◌≤ℤ◌, All, Bool, true, false, refl, sym, ◌∙◌}
use Rattle.std.proofs.lemmas.Bool.{false≢true}
use Rattle.lattice_theory.specs.Vector.{entry, dot}
use Rattle.lattice_theory.proofs.Vectors.{nonzero_entry, entries_from_zero}
use Rattle.interior_point_theory.specs.Certificates.{IsRefuter}

pub refuter_is : (points : List (List ℤ)) (f : List ℤ) → (All (λ a. a ≡ pos 0) f → ⊥)
    → All (λ y. pos 0 ≤ℤ dot f y) points → IsRefuter (length f) points f
refuter_is points f nonzero nonnegative =
    let (k, within, ends) = nonzero_entry f nonzero in
    record { dimension = refl; nonnegative = nonnegative; place = k; nonzero = ends.nonzero }

pub zero_is_none : (points : List (List ℤ)) (f : List ℤ) → All (λ a. a ≡ pos 0) f → IsRefuter (length f) points f → ⊥
zero_is_none points f zeros r = r.nonzero (entries_from_zero f zeros r.place)

-- what is false isn't true
pub not_both : (b : Bool) → b ≡ false → b ≡ true → ⊥
not_both b e h = false≢true (sym e ∙ h)
