-- Vectors stand in the order of their coordinates in a frame: its vectors are in echelon form, so that the first coefficients that differ
-- tell the first entries that do.
use Rattle.std.proofs.Common.{◌≡◌, ◌⊎◌, inl, inr, ℕ, suc, ◌<◌, ◌≤◌, List, [], ◌∷◌, length, ℤ, pos, ◌+ℤ◌, ◌-ℤ◌, ◌*ℤ◌, ◌<ℤ◌, refl, sym, subst, ◌∙◌, arith}
use Rattle.std.proofs.lemmas.Bool.{cases_lt}
use Rattle.std.proofs.lemmas.Int.{ints}
use Rattle.lattice_theory.specs.Vector.{entry, dot}
use Rattle.lattice_theory.specs.Order.{LexLess}
use Rattle.lattice_theory.specs.Grid.{LexAtMost}
use Rattle.lattice_theory.proofs.Integers.{products_out, linear, product_positive}
use Rattle.lattice_theory.proofs.Vectors.{entry_past, same_from_entries}
use Rattle.lattice_theory.proofs.Orders.{lex_irreflexive, lex_asymmetric}
use Rattle.lattice_theory.proofs.LexPlaces.{lex_at, lex_total}
use Rattle.lattice_core.specs.Weights.{columns_of}
use Rattle.weight_frame.specs.Frame.{AreCoordinates}
use Rattle.weight_frame.specs.Laws.{FrameKeepsOrder}
use Rattle.weight_frame.specs.steps.Echelon.{LeadsAt, Leads, no_more, leads}
use Rattle.weight_frame.proofs.Leads.{column, leads_zero, zero_column, lead_column}
use Rattle.weight_frame.proofs.Frames.{frame_leads}

-- the first place at which two combinations of the vectors differ, where the second one has more
record DifferFirst (from : ℕ) (us : List (List ℤ)) (c d : List ℤ) : Type 0 where
  place : ℕ
  behind : from ≤ place
  agree : (j : ℕ) → j < place → dot c (column j us) ≡ dot d (column j us)
  less : dot c (column place us) <ℤ dot d (column place us)

multiple_less : (c d x r s : ℤ) → c <ℤ d → pos 0 <ℤ x → r ≡ c *ℤ x → s ≡ d *ℤ x → r <ℤ s
multiple_less c d x r s h k e f =
    let p = simp products_out at (product_positive (d -ℤ c) x (omega (arith, ints)) k) in omega (arith, linear)

-- the first coefficients differ
first_differ : (from place : ℕ) (u : List ℤ) (us : List (List ℤ)) (c d : ℤ) (cs ds : List ℤ) → from ≤ place → LeadsAt u place
    → Leads (suc place) us → c <ℤ d → DifferFirst from (u ∷ us) (c ∷ cs) (d ∷ ds)
first_differ from place u us c d cs ds i x m h =
    let zeros = leads_zero place (u ∷ us) (leads place (omega arith) x m) in
    record {
      place = place;
      behind = i;
      agree = λ j k. zero_column place j (u ∷ us) (c ∷ cs) k zeros ∙ sym (zero_column place j (u ∷ us) (d ∷ ds) k zeros);
      less = multiple_less c d (entry u place) (dot (c ∷ cs) (column place (u ∷ us))) (dot (d ∷ ds) (column place (u ∷ us))) h x.positive
          (lead_column u us c cs place m) (lead_column u us d ds place m);
    }

same_sum : (c d u r s : ℤ) → c ≡ d → r ≡ s → c *ℤ u +ℤ r ≡ d *ℤ u +ℤ s
same_sum c d u r s e f = rw (e, f) refl

less_sum : (c d u r s : ℤ) → c ≡ d → r <ℤ s → (c *ℤ u +ℤ r) <ℤ (d *ℤ u +ℤ s)
less_sum c d u r s e h = rw e (omega (arith, linear))

-- later ones do
later_differ : (from place : ℕ) (u : List ℤ) (us : List (List ℤ)) (c d : ℤ) (cs ds : List ℤ) → from ≤ place → c ≡ d
    → DifferFirst (suc place) us cs ds → DifferFirst from (u ∷ us) (c ∷ cs) (d ∷ ds)
later_differ from place u us c d cs ds i e r = record {
  place = r.place;
  behind = let b = r.behind in omega arith;
  agree = λ j k. same_sum c d (entry u j) (dot cs (column j us)) (dot ds (column j us)) e (r.agree j k);
  less = less_sum c d (entry u r.place) (dot cs (column r.place us)) (dot ds (column r.place us)) e r.less;
}

differ_first : (from : ℕ) (us : List (List ℤ)) (c d : List ℤ) → Leads from us → length c ≡ length us → length d ≡ length us → LexLess c d
    → DifferFirst from us c d
differ_first from _ [] d l e f h = absurd h
differ_first from _ (c ∷ cs) [] l e f h = absurd h
differ_first from _ (c ∷ cs) (d ∷ ds) no_more e f h = absurd (omega arith)
differ_first from _ (c ∷ cs) (d ∷ ds) (leads {u = u} {us = us} place i x m) e f (inl h) =
    first_differ from place u us c d cs ds i x m h
differ_first from _ (c ∷ cs) (d ∷ ds) (leads {u = u} {us = us} place i x m) e f (inr h) =
    later_differ from place u us c d cs ds i h.0 (differ_first (suc place) us cs ds m (omega arith) (omega arith) h.1)

-- entries that differ aren't both past the end
place_of_less : (x y : List ℤ) (place : ℕ) → length x ≡ length y → entry x place <ℤ entry y place → place < length x
place_of_less x y place e h = by (cases_lt place (length x))
  where
    nothing : (a b : ℤ) → a ≡ pos 0 → b ≡ pos 0 → a <ℤ b → ⊥
    nothing a b e f h = omega (arith, ints)

    by : (place < length x) ⊎ (length x ≤ place) → place < length x
    by (inl within) = within
    by (inr past) =
        absurd (nothing (entry x place) (entry y place) (entry_past x place past) (entry_past y place (omega arith)) h)

module _ (n : ℕ) (us : List (List ℤ)) (l : Leads 0 us) where
  -- the order of coordinates is that of the vectors
  vectors_ordered : (x y c d : List ℤ) → AreCoordinates n us x c → AreCoordinates n us y d → LexLess c d → LexLess x y
  vectors_ordered x y c d a b h =
      let r = differ_first 0 us c d l a.count b.count h in
      let same = a.combination.dimension ∙ sym b.combination.dimension in
      let less : entry x r.place <ℤ entry y r.place =
      rw (a.combination.entries r.place, b.combination.entries r.place) r.less in
      lex_at x y r.place same (record {
        within = place_of_less x y r.place same less;
        agrees = λ i k. b.combination.entries i ∙ sym (r.agree i k) ∙ sym (a.combination.entries i);
        less = less;
      })

  same_vectors : (x y c d : List ℤ) → AreCoordinates n us x c → AreCoordinates n us y d → d ≡ c → x ≡ y
  same_vectors x y c d a b e =
      same_from_entries x y (a.combination.dimension ∙ sym b.combination.dimension)
      (λ j. a.combination.entries j ∙ sym (subst (λ (v : List ℤ). entry y j ≡ dot v (column j us)) e (b.combination.entries j)))

  -- and back, for one of two different lists of coordinates comes before the other
  coordinates_ordered : (x y c d : List ℤ) → AreCoordinates n us x c → AreCoordinates n us y d → LexLess x y → LexLess c d
  coordinates_ordered x y c d a b h = by (lex_total c d (a.count ∙ sym b.count))
    where
      by : LexLess c d ⊎ LexAtMost d c → LexLess c d
      by (inl less) = less
      by (inr (inl more)) = absurd (lex_asymmetric x y h (vectors_ordered y x d c b a more))
      by (inr (inr same)) = absurd (lex_irreflexive y (subst (λ v. LexLess v y) (same_vectors x y c d a b same) h))

pub frame_keeps_order : FrameKeepsOrder
frame_keeps_order systems vectors x y c d f a b =
    let l = frame_leads systems vectors f.made f.recursion in
    let n = columns_of systems in
    (coordinates_ordered n vectors l x y c d a b, vectors_ordered n vectors l x y c d a b)
