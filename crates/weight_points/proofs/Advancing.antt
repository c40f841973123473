-- The steps from a vector of exponents to the first solution after it.
use Rattle.std.specs.Prelude.{ℤ, pos, true}
use Rattle.std.proofs.Common.{◌≡◌, ◌⊎◌, inl, inr, ℕ, ◌+◌, ◌<◌, ◌≤◌, List, length, map, sym, ◌∙◌, subst, arith}
use Rattle.std.proofs.Math.ListN.{set}
use Rattle.std.proofs.lemmas.Bool.{cases_lt}
use Rattle.std.proofs.lemmas.List.{get_or-set_same, get_or-set_other}
use Rattle.lattice_theory.specs.Order.{LexLess}
use Rattle.lattice_theory.specs.Grid.{AgreesTo, LexAtMost, IsNext}
use Rattle.lattice_theory.proofs.Orders.{lex_irreflexive}
use Rattle.lattice_core.specs.Weights.{Weighted, columns_of, IsMonomial}
use Rattle.weight_points.specs.steps.Search.{Solves, exponent, IsZeroFrom, IsCompletion, Completes}
use Rattle.weight_points.proofs.Integral.{DiffersAt, differs, comes_before, same_integral, same_exponent, agree_from, monomial_from_solution, solution_of}

-- at first nothing agrees and comes later
pub none_at_end : (systems : List Weighted) (old : List ℕ) → length old ≡ columns_of systems → (b : List ℕ) → Solves systems b
    → AgreesTo (length old) (map pos old) (map pos b) → LexLess (map pos old) (map pos b) → ⊥
none_at_end systems old columns b solves agrees later =
    let same = same_integral old b (columns ∙ sym solves.columns) agrees in
    lex_irreflexive (map pos old) (subst (LexLess (map pos old)) (sym same) later)

-- what holds of all solutions holds of all exponent vectors
pub none_follows : (systems : List Weighted) (old : List ℕ) → ((b : List ℕ) → Solves systems b → LexLess (map pos old) (map pos b) → ⊥)
    → (z : List ℤ) → IsMonomial systems z → LexLess (map pos old) z → ⊥
none_follows systems old none z m h =
    let s = solution_of systems z m in
    none s.exponents s.solves (subst (LexLess (map pos old)) (sym s.is) h)

module _ (systems : List Weighted) (old entries a : List ℕ) (m place from : ℕ) (next : m ≡ place + 1)
    (columns : length old ≡ columns_of systems) (within : place < length old)
    (agrees : AgreesTo m (map pos old) (map pos entries)) (a_is : a ≡ set entries place 0) (from_is : from ≡ exponent entries place + 1)
    (none : (b : List ℕ) → Solves systems b → AgreesTo m (map pos old) (map pos b) → LexLess (map pos old) (map pos b) → ⊥) where
  -- the beginning is kept
  pub agrees_before : AgreesTo place (map pos old) (map pos a)
  agrees_before = agree_from old a place
      (λ i h. rw a_is (get_or-set_other entries place i 0 0 (omega (arith, h)) ∙ same_exponent old entries m i agrees (omega (arith, h))))

  from_old : from ≡ exponent old place + 1
  from_old = let e = same_exponent old entries m place agrees (omega arith) in omega arith

  -- a solution that agrees up to the place and comes later is a completion of the beginning
  agrees_next : (b : List ℕ) (j : ℕ) → place < j → DiffersAt old b j → AgreesTo m (map pos old) (map pos b)
  agrees_next b j h d i k = d.agrees i (omega arith)

  completion_at : (b : List ℕ) → Solves systems b → DiffersAt old b place → IsCompletion systems place from a b
  completion_at b solves d = record {
    solves = solves;
    agrees = λ i k. d.agrees i k ∙ sym (agrees_before i k);
    above = let e = from_old in let l = d.less in omega arith;
  }

  -- the first of these comes next
  pub found_next : (new : List ℕ) → Completes systems place from a new true → IsNext (IsMonomial systems) (map pos old) (map pos new)
  found_next new found = record {
    holds = monomial_from_solution systems new found.0.solves;
    later = comes_before old new place (columns ∙ sym found.0.solves.columns) (record {
      within = within;
      agrees = front;
      less = let e = from_old in let l = found.0.above in omega arith;
    });
    first = λ z m h.
        let s = solution_of systems z m in
        let d = differs old s.exponents (subst (LexLess (map pos old)) (sym s.is) h) in
        subst (LexAtMost (map pos new)) s.is (by s.exponents s.solves d.0 d.1 (cases_lt d.0 place) (cases_lt place d.0));
  }
    where
      front : AgreesTo place (map pos old) (map pos new)
      front i k = found.0.agrees i k ∙ agrees_before i k

      by : (b : List ℕ) → Solves systems b → (j : ℕ) → DiffersAt old b j → (j < place) ⊎ (place ≤ j) → (place < j) ⊎ (j ≤ place)
          → LexAtMost (map pos new) (map pos b)
      by b solves j d (inl l) s = inl (comes_before new b j (found.0.solves.columns ∙ sym solves.columns) (record {
        within = let e = found.0.solves.columns in omega arith;
        agrees = λ i k. d.agrees i k ∙ sym (front i (omega arith));
        less = let e = same_exponent old new place j front l in let k = d.less in omega arith;
      }))
      by b solves j d (inr l) (inl m) = absurd (none b solves (agrees_next b j m d) (comes_before old b j (columns ∙ sym solves.columns) d))
      by b solves j d (inr l) (inr m) = let same : j ≡ place = omega arith in found.1 b (completion_at b solves (rw same at d))

  -- where there is none, nothing that agrees up to the place comes later
  pub none_before : ((b : List ℕ) → IsCompletion systems place from a b → ⊥) → (b : List ℕ) → Solves systems b
      → AgreesTo place (map pos old) (map pos b) → LexLess (map pos old) (map pos b) → ⊥
  none_before nothing b solves front h = let d = differs old b h in by d.0 d.1 (cases_lt d.0 place) (cases_lt place d.0)
    where
      by : (j : ℕ) → DiffersAt old b j → (j < place) ⊎ (place ≤ j) → (place < j) ⊎ (j ≤ place) → ⊥
      by j d (inl l) s = let e = same_exponent old b place j front l in let k = d.less in omega arith
      by j d (inr l) (inl m) = none b solves (agrees_next b j m d) h
      by j d (inr l) (inr m) = let same : j ≡ place = omega arith in nothing b (completion_at b solves (rw same at d))

  -- what is 0 from m on is 0 from the place on
  pub zeros_from : length entries ≡ length old → IsZeroFrom m entries → IsZeroFrom place a
  zeros_from same zeros i h = rw a_is (by (cases_lt place i))
    where
      by : (place < i) ⊎ (i ≤ place) → exponent (set entries place 0) i ≡ 0
      by (inl l) = get_or-set_other entries place i 0 0 (omega (arith, l)) ∙ zeros i (omega (arith, l))
      by (inr l) = let here : i ≡ place = omega (arith, h) in rw here (get_or-set_same entries place 0 0 (omega arith))
