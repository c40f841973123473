-- What holds of a counter before its first visit.
use Rattle.std.proofs.Common.{◌≡◌, ◌⊎◌, inl, inr, ℕ, ◌+◌, ◌*◌, ◌<◌, ◌≤◌, List, [], ◌∷◌, length, get_or, replicate, sym, ap, ◌∙◌, subst, arith}
use Rattle.std.specs.Prelude.{ℤ}
use Rattle.std.proofs.lemmas.Bool.{cases_lt}
use Rattle.std.proofs.lemmas.List.{get_or-replicate, get_or_past, length-replicate}
use Rattle.std.proofs.lemmas.List.Elements.{All-from_get_or}
use Rattle.lattice_theory.specs.Affine.{Affine}
use Rattle.lattice_core.specs.Dimensions.{dimension_of}
use Rattle.dilate_counts.specs.Counters.{AreSets, AreBelow, IsCounter}

-- zeros are 0 at each place, and behind them
zero_at : (n i : ℕ) (zeros : List ℕ) → zeros ≡ replicate n 0 → get_or zeros i 0 ≡ 0
zero_at n i zeros e = by (cases_lt i n)
  where
    by : (i < n) ⊎ (n ≤ i) → get_or zeros i 0 ≡ 0
    by (inl h) = rw e (get_or-replicate n i 0 0 h)
    by (inr h) = get_or_past zeros i 0 (let size = ap length e ∙ length-replicate {A = ℕ} n 0 in omega (arith, size, h))

zeros_below : (n : ℕ) (zeros : List ℕ) → zeros ≡ replicate n 0 → AreBelow 4194304 zeros
zeros_below n zeros e =
    All-from_get_or (λ count. count + 4194304 ≤ 4194304) zeros 0 (λ i h. let none = zero_at n i zeros e in omega (arith, none))

pub zeros_whole : (many : ℕ) (rows : List (List ℕ)) (counts : List ℕ) → counts ≡ replicate (many * 7) 0 → many ≡ length rows
    → length counts ≡ length rows * 7
zeros_whole many rows counts e f = ap length e ∙ length-replicate {A = ℕ} (many * 7) 0 ∙ ap (λ (k : ℕ). k * 7) f

pub first_counter : (n r : ℕ) (vs : List Affine) (many : ℕ) (rows : List (List ℕ)) (row_words : ℕ) (classes : List (List ℕ)) (seen counts : List ℕ) (k : ℕ)
    → AreSets n r vs many rows → many ≡ row_words → seen ≡ replicate 28672 0 → counts ≡ replicate (k * 7) 0 → k ≡ length rows
    → IsCounter n r vs many rows row_words classes seen counts 4194304
first_counter n r vs many rows row_words classes seen counts k sets row none zeros size = record {
  sets = sets;
  row = row;
  whole = zeros_whole k rows counts zeros size;
  places = ap length none ∙ length-replicate {A = ℕ} 28672 0;
  clear = λ i h. zero_at 28672 i seen none;
  below = zeros_below (k * 7) counts zeros;
  seen_below = zeros_below 28672 seen none;
}

-- vectors and sets of them, by the numbers that the call has
pub sets_as : (n m r s : ℕ) (vs : List Affine) (many words : ℕ) (rows : List (List ℕ)) → AreSets n r vs many rows → m ≡ n → s ≡ r → words ≡ many
    → AreSets m s vs words rows
sets_as n m r s vs many words rows sets e f g =
    subst (λ (q : ℕ). AreSets q s vs words rows) (sym e) (subst (λ (q : ℕ). AreSets n q vs words rows) (sym f)
    (subst (λ (q : ℕ). AreSets n r vs q rows) (sym g) sets))

-- the number of coordinates of the first point
pub first_dimension : (vertices : List (List ℤ)) (p : List ℤ) → 0 < length vertices → p ≡ get_or vertices 0 p → length p ≡ dimension_of vertices
first_dimension [] p some e = absurd (omega (arith, some))
first_dimension (q ∷ vertices) p some e = ap length e
