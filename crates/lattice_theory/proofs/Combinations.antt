-- The values of a combination of two functions, and a combination told by them.
use Rattle.std.proofs.Common.{◌≡◌, ℕ, ◌<◌, ◌≤◌, List, [], length, ℤ, pos, ◌+ℤ◌, ◌*ℤ◌, sym, ap, ◌∙◌, arith, ⊎_elim}
use Rattle.std.proofs.lemmas.Bool.{cases_lt}
use Rattle.lattice_theory.specs.Vector.{entry, dot, scaled}
use Rattle.lattice_theory.specs.Affine.{Affine, value, value_over}
use Rattle.lattice_theory.proofs.Integers.{products_out, linear}
use Rattle.lattice_theory.proofs.Vectors.{combined, dot_comm, dot-nil, dot-scaled_left, dot-combined_left, entry-scaled, entry-combined, entry_past, length-scaled, length-combined, same_from_entries, unit, dot-unit}

module _ (w l r : ℤ) (f g h : Affine) where
  -- where w h = l f + r g by entries, so it is by values
  pub combination_value : (n : ℕ) → length f.normal ≡ n → length g.normal ≡ n → length h.normal ≡ n
      → ((i : ℕ) → w *ℤ entry h.normal i ≡ l *ℤ entry f.normal i +ℤ r *ℤ entry g.normal i)
      → w *ℤ h.constant ≡ l *ℤ f.constant +ℤ r *ℤ g.constant
      → (x : List ℤ) → w *ℤ value h x ≡ l *ℤ value f x +ℤ r *ℤ value g x
  combination_value n df dg dh normals constants x =
      let same : scaled w h.normal ≡ combined l f.normal r g.normal =
      same_from_entries _ _ (length-scaled w h.normal ∙ dh ∙ sym (length-combined n l f.normal r g.normal df dg))
      (λ i. entry-scaled w h.normal i ∙ normals i ∙ sym (entry-combined l f.normal r g.normal i)) in
      let dots = sym (dot-scaled_left w h.normal x) ∙ ap (λ (v : List ℤ). dot v x) same ∙ dot-combined_left l f.normal r g.normal x in
      both w l r (dot h.normal x) (dot f.normal x) (dot g.normal x) h.constant f.constant g.constant dots constants
    where
      both : (w l r dh df dg ch cf cg : ℤ) → w *ℤ dh ≡ l *ℤ df +ℤ r *ℤ dg → w *ℤ ch ≡ l *ℤ cf +ℤ r *ℤ cg
          → w *ℤ (dh +ℤ ch) ≡ l *ℤ (df +ℤ cf) +ℤ r *ℤ (dg +ℤ cg)
      both w l r dh df dg ch cf cg e k = simp products_out (omega (arith, linear))

  module _ (values : (x : List ℤ) (d : ℤ) → w *ℤ value_over h x d ≡ l *ℤ value_over f x d +ℤ r *ℤ value_over g x d) where
    -- and back: an entry is the value in the direction of a unit vector
    pub combination_entry : (n : ℕ) → length f.normal ≡ n → length g.normal ≡ n → length h.normal ≡ n
        → (i : ℕ) → w *ℤ entry h.normal i ≡ l *ℤ entry f.normal i +ℤ r *ℤ entry g.normal i
    combination_entry n df dg dh i = ⊎_elim within past (cases_lt i n)
      where
        at_infinity : (a b c x y z u v t : ℤ) → u ≡ x → v ≡ y → t ≡ z
            → w *ℤ (u +ℤ pos 0 *ℤ a) ≡ l *ℤ (v +ℤ pos 0 *ℤ b) +ℤ r *ℤ (t +ℤ pos 0 *ℤ c) → w *ℤ x ≡ l *ℤ y +ℤ r *ℤ z
        at_infinity a b c x y z u v t e e' e'' k = let k' = simp products_out at (rw (e, e', e'') at k) in omega (arith, linear)

        unit_value : (u : Affine) → i < n → dot u.normal (unit n i) ≡ entry u.normal i
        unit_value u b = dot_comm u.normal (unit n i) ∙ dot-unit n i u.normal b

        within : i < n → w *ℤ entry h.normal i ≡ l *ℤ entry f.normal i +ℤ r *ℤ entry g.normal i
        within b = at_infinity h.constant f.constant g.constant (entry h.normal i) (entry f.normal i) (entry g.normal i)
            (dot h.normal (unit n i)) (dot f.normal (unit n i)) (dot g.normal (unit n i)) (unit_value h b) (unit_value f b) (unit_value g b)
            (values (unit n i) (pos 0))

        nothing : (x y z : ℤ) → x ≡ pos 0 → y ≡ pos 0 → z ≡ pos 0 → w *ℤ x ≡ l *ℤ y +ℤ r *ℤ z
        nothing x y z e e' e'' = rw (e, e', e'') (simp products_out)

        past : n ≤ i → w *ℤ entry h.normal i ≡ l *ℤ entry f.normal i +ℤ r *ℤ entry g.normal i
        past b = nothing _ _ _ (entry_past h.normal i (omega arith)) (entry_past f.normal i (omega arith))
            (entry_past g.normal i (omega arith))

    -- and the constant that at the origin
    pub combination_constant : w *ℤ h.constant ≡ l *ℤ f.constant +ℤ r *ℤ g.constant
    combination_constant = at_origin h.constant f.constant g.constant (dot h.normal []) (dot f.normal []) (dot g.normal [])
        (dot-nil h.normal) (dot-nil f.normal) (dot-nil g.normal) (values [] (pos 1))
      where
        at_origin : (a b c x y z : ℤ) → x ≡ pos 0 → y ≡ pos 0 → z ≡ pos 0
            → w *ℤ (x +ℤ pos 1 *ℤ a) ≡ l *ℤ (y +ℤ pos 1 *ℤ b) +ℤ r *ℤ (z +ℤ pos 1 *ℤ c) → w *ℤ a ≡ l *ℤ b +ℤ r *ℤ c
        at_origin a b c x y z e e' e'' k = let k' = simp products_out at (rw (e, e', e'') at k) in omega (arith, linear)
