-- The list of all exponent vectors: the vectors of a box that have the degree of each system.
use Rattle.std.specs.List.{All}
use Rattle.std.specs.Prelude.{ℤ, pos, ◌-ℤ◌, ◌≤ℤ◌, ◌==◌, nat_abs, replicate}
use Rattle.std.proofs.Common.{◌≡◌, ℕ, zero, suc, ◌<◌, ◌≤◌, true, List, length, refl, sym, ◌∙◌, arith, le_of_suc-le-suc}
use Rattle.std.proofs.lemmas.Bool.Decides.{Decides-eqb}
use Rattle.std.proofs.lemmas.Int.{ints}
use Rattle.std.proofs.lemmas.List.{length-replicate}
use Rattle.std.proofs.lemmas.List.Elements.{All-from_get_or}
use Rattle.lattice_theory.specs.Vector.{entry}
use Rattle.lattice_theory.specs.Order.{LexLess}
use Rattle.lattice_theory.specs.Grid.{grid, IsInBox}
use Rattle.lattice_theory.proofs.GridLists.{grid_lists}
use Rattle.lattice_theory.proofs.Members.{each_from_all, all_from_each, each_in, each_from_in, in_from_contains, contains_from_in}
use Rattle.lattice_theory.proofs.Sublists.{in_filter, from_filter, ascends_filter, each_passes, all_pass}
use Rattle.lattice_core.specs.declared.limits.TheConstants.{MOST_DEGREE}
use Rattle.lattice_core.specs.Weights.{Weighted, weighted_degree, columns_of, AreWellFormed, IsMonomial}
use Rattle.weight_points.specs.Members.{AreMonomials}
use Rattle.weight_points.specs.Listing.{solves, solutions}
use Rattle.weight_points.proofs.Entries.{entries_small}

-- the test of degrees
same_degree : (d e : ℤ) → (nat_abs (d -ℤ e) == 0) ≡ true → d ≡ e
same_degree d e h = let none = (Decides-eqb (nat_abs (d -ℤ e)) 0).0 h in omega (arith, ints)

passes_degree : (d e : ℤ) → d ≡ e → (nat_abs (d -ℤ e) == 0) ≡ true
passes_degree d e h = (Decides-eqb (nat_abs (d -ℤ e)) 0).1 (omega (arith, ints))

has_degrees : (systems : List Weighted) (x : List ℤ) → solves systems x ≡ true → All (λ s. weighted_degree s x ≡ pos s.degree) systems
unfolding solves
has_degrees systems x e =
    let passes = each_passes (λ (s : Weighted). nat_abs (weighted_degree s x -ℤ pos s.degree) == 0) systems e in
    all_from_each {P = λ s. weighted_degree s x ≡ pos s.degree}
    (each_from_in systems (λ s i. same_degree (weighted_degree s x) (pos s.degree) (each_in passes i)))

solves_degrees : (systems : List Weighted) (x : List ℤ) → All (λ s. weighted_degree s x ≡ pos s.degree) systems → solves systems x ≡ true
unfolding solves
solves_degrees systems x h =
    let each = each_from_all (λ (s : Weighted). weighted_degree s x ≡ pos s.degree) systems h in
    all_pass (λ (s : Weighted). nat_abs (weighted_degree s x -ℤ pos s.degree) == 0) systems
    (each_from_in systems (λ s i. passes_degree (weighted_degree s x) (pos s.degree) (each_in each i)))

-- the entries of a vector of equal entries
pub same_entries : (n i : ℕ) (v : ℤ) → i < n → entry (replicate n v) i ≡ v
same_entries zero i v h = absurd (omega arith)
same_entries (suc n) zero v h = refl
same_entries (suc n) (suc i) v h = same_entries n i v (le_of_suc-le-suc h)

module _ (systems : List Weighted) (formed : AreWellFormed systems) (small : All (λ s. s.degree ≤ MOST_DEGREE) systems) where
  abbrev count : ℕ
  count = columns_of systems

  abbrev low : List ℤ
  low = replicate count (pos 0)

  abbrev high : List ℤ
  high = replicate count (pos MOST_DEGREE)

  -- a vector of the box with these degrees is an exponent vector
  from_box : (x : List ℤ) → IsInBox low high x → solves systems x ≡ true → IsMonomial systems x
  from_box x box e = record {
    columns = columns;
    nonnegative = All-from_get_or (λ a. pos 0 ≤ℤ a) x (pos 0)
        (λ i h. let w = box.within i h in let z = same_entries count i (pos 0) (omega (arith, h, columns)) in rw z at w.0);
    degrees = has_degrees systems x e;
  }
    where
      columns : length x ≡ count
      columns = sym box.low_dimension ∙ length-replicate count (pos 0)

  -- and back
  in_box : (x : List ℤ) → IsMonomial systems x → IsInBox low high x
  in_box x m = record {
    low_dimension = length-replicate count (pos 0) ∙ sym m.columns;
    high_dimension = length-replicate count (pos MOST_DEGREE) ∙ sym m.columns;
    within = λ i h.
        let range = entries_small systems x formed small m i (pos 0) h in
        let e = m.columns in
        let z = same_entries count i (pos 0) (omega (arith, h)) in
        let t = same_entries count i (pos MOST_DEGREE) (omega (arith, h)) in
        (rw z range.0, rw t range.1);
  }

  pub are_monomials : AreMonomials systems (solutions systems)
  unfolding solutions
  are_monomials =
      let box = grid_lists low high (length-replicate count (pos 0) ∙ sym (length-replicate count (pos MOST_DEGREE))) in
      record {
        ascends = ascends_filter LexLess (solves systems) (grid low high) box.ascends;
        members = λ x. (
          λ c.
              let k = from_filter (solves systems) (grid low high) (in_from_contains _ c) in
              from_box x ((box.members x).0 (contains_from_in k.member)) k.passes,
          λ m. contains_from_in (in_filter (solves systems) (grid low high) (in_from_contains _ ((box.members x).1 (in_box x m)))
              (solves_degrees systems x m.degrees)),
        );
      }
