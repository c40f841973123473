-- The systems of a range are few: each is told by its degree and all its weights but the last.
use Rattle.std.proofs.Common.{◌≡◌, ◌⊎◌, inl, inr, ℕ, ◌+◌, ◌*◌, ◌^◌, ◌<◌, ◌≤◌, List, [], ◌∷◌, length, map, pos, ◌<ℤ◌, refl, sym, ap, ◌∙◌, subst, arith}
use Rattle.std.proofs.lemmas.Bool.{cases_eq, cases_lt}
use Rattle.lattice_theory.specs.Order.{Ascends, LexLess}
use Rattle.lattice_theory.proofs.Integers.{linear}
use Rattle.lattice_theory.proofs.Members.{Each, empty, more, each_head, each_tail, each_in, each_weaker, each_from_in, each_from_all, contains_from_in}
use Rattle.lattice_core.specs.Weights.{Weighted, total}
use Rattle.interior_point_theory.specs.Interior.{SystemLess, IsSystemOfRange, AreSystemsOfRange}
use Rattle.weight_lists.specs.Laws.{RangesAreFew}

-- a number for each list of numbers below b, of which the last one isn't told, and how many such numbers there are
room : ℕ → List ℕ → ℕ
room b [] = 1
room b (w ∷ []) = 1
room b (w ∷ v ∷ ws) = b * room b (v ∷ ws)

code : ℕ → List ℕ → ℕ
code b [] = 0
code b (w ∷ []) = 0
code b (w ∷ v ∷ ws) = w * room b (v ∷ ws) + code b (v ∷ ws)

below_product : (w b r c : ℕ) → w < b → c < r → w * r + c < b * r
below_product w b r c h l = grind arith

earlier_product : (x y r c d : ℕ) → x < y → c < r → x * r + c < y * r + d
earlier_product x y r c d h l = grind arith

later_digits : (x y r s c d : ℕ) → x ≡ y → r ≡ s → c < d → x * r + c < y * s + d
later_digits x y r s c d e f h = rw (e, f) (omega (arith, h))

code_small : (b : ℕ) (ws : List ℕ) → Each (λ w. w < b) ws → code b ws < room b ws
unfolding code room
code_small b [] h = omega arith
code_small b (w ∷ []) h = omega arith
code_small b (w ∷ v ∷ ws) h = below_product w b (room b (v ∷ ws)) (code b (v ∷ ws)) (each_head h) (code_small b (v ∷ ws) (each_tail h))

same_room : (b : ℕ) (xs ys : List ℕ) → length xs ≡ length ys → room b xs ≡ room b ys
unfolding room
same_room b [] [] e = refl
same_room b [] (y ∷ []) e = refl
same_room b [] (y ∷ v ∷ ys) e = absurd (omega (arith, e))
same_room b (x ∷ []) [] e = refl
same_room b (x ∷ u ∷ xs) [] e = absurd (omega (arith, e))
same_room b (x ∷ []) (y ∷ []) e = refl
same_room b (x ∷ []) (y ∷ v ∷ ys) e = absurd (omega (arith, e))
same_room b (x ∷ u ∷ xs) (y ∷ []) e = absurd (omega (arith, e))
same_room b (x ∷ u ∷ xs) (y ∷ v ∷ ys) e = ap (λ (r : ℕ). b * r) (same_room b (u ∷ xs) (v ∷ ys) (omega (arith, e)))

natural_less : (x y : ℕ) → pos x <ℤ pos y → x < y
natural_less x y h = omega (arith, linear)

natural_same : (x y : ℕ) → pos x ≡ pos y → x ≡ y
natural_same x y h = omega (arith, linear)

-- of two lists with one sum the earlier one has the smaller number
code_less : (b : ℕ) (xs ys : List ℕ) → length xs ≡ length ys → total xs ≡ total ys → Each (λ w. w < b) xs → LexLess (map pos xs) (map pos ys)
    → code b xs < code b ys
unfolding code
code_less b [] ys e t h l = absurd l
code_less b (x ∷ xs) [] e t h l = absurd l
code_less b (x ∷ []) (y ∷ []) e t h (inl l) = let n = natural_less x y l in absurd (omega (arith, t, n))
code_less b (x ∷ []) (y ∷ []) e t h (inr l) = absurd l.1
code_less b (x ∷ []) (y ∷ v ∷ ys) e t h l = absurd (omega (arith, e))
code_less b (x ∷ u ∷ xs) (y ∷ []) e t h l = absurd (omega (arith, e))
code_less b (x ∷ u ∷ xs) (y ∷ v ∷ ys) e t h (inl l) =
    let r = same_room b (u ∷ xs) (v ∷ ys) (omega (arith, e)) in
    subst (λ (s : ℕ). x * room b (u ∷ xs) + code b (u ∷ xs) < y * s + code b (v ∷ ys)) r
    (earlier_product x y (room b (u ∷ xs)) (code b (u ∷ xs)) (code b (v ∷ ys)) (natural_less x y l) (code_small b (u ∷ xs) (each_tail h)))
code_less b (x ∷ u ∷ xs) (y ∷ v ∷ ys) e t h (inr l) =
    let same = natural_same x y l.0 in
    later_digits x y (room b (u ∷ xs)) (room b (v ∷ ys)) (code b (u ∷ xs)) (code b (v ∷ ys)) same (same_room b (u ∷ xs) (v ∷ ys) (omega (arith, e)))
    (code_less b (u ∷ xs) (v ∷ ys) (omega (arith, e)) (omega (arith, t, same)) (each_tail h) l.1)

-- no weight is above the sum
within_total : (ws : List ℕ) → Each (λ w. w ≤ total ws) ws
within_total [] = empty
within_total (w ∷ ws) = more (omega arith) (each_weaker (λ v h. omega (arith, h)) (within_total ws))

module _ (dim low high b : ℕ) (small : high < b) where
  abbrev number : Weighted → ℕ
  number s = s.degree * room b s.weights + code b s.weights

  weights_small : (s : Weighted) → IsSystemOfRange dim low high s → Each (λ w. w < b) s.weights
  weights_small s h =
      let sum = h.is_system.sum in
      let most = h.most in
      each_weaker (λ w l. omega (arith, l, sum, most, small)) (within_total s.weights)

  number_small : (s : Weighted) → IsSystemOfRange dim low high s → number s < b * room b s.weights
  number_small s h =
      let most = h.most in
      below_product s.degree b (room b s.weights) (code b s.weights) (omega (arith, most, small)) (code_small b s.weights (weights_small s h))

  number_less : (s t : Weighted) → IsSystemOfRange dim low high s → IsSystemOfRange dim low high t → SystemLess s t → number s < number t
  number_less s t h k (inl l) =
      let r = same_room b s.weights t.weights (h.columns ∙ sym k.columns) in
      subst (λ (m : ℕ). s.degree * room b s.weights + code b s.weights < t.degree * m + code b t.weights) r
      (earlier_product s.degree t.degree (room b s.weights) (code b s.weights) (code b t.weights) l
      (code_small b s.weights (weights_small s h)))
  number_less s t h k (inr l) = later_digits s.degree t.degree (room b s.weights) (room b t.weights) (code b s.weights) (code b t.weights) l.0
      (same_room b s.weights t.weights (h.columns ∙ sym k.columns))
      (code_less b s.weights t.weights (h.columns ∙ sym k.columns) (h.is_system.sum ∙ (l.0 ∙ sym k.is_system.sum)) (weights_small s h) l.1)

  -- rising numbers from one on, below a bound
  rising : (most least : ℕ) (xs : List Weighted) → least ≤ most → Ascends SystemLess xs → Each (IsSystemOfRange dim low high) xs
      → Each (λ s. number s < most) xs → Each (λ s. least ≤ number s) xs → length xs + least ≤ most
  rising most least [] start a h below above = omega (arith, start)
  rising most least (x ∷ xs) start a (more h hs) (more l ls) (more g gs) =
      let rest = rising most (number x + 1) xs (omega (arith, l)) a.1 hs ls
      (each_from_in xs (λ s i. let less = number_less x s h (each_in hs i) (each_in (each_from_all (SystemLess x) xs a.0) i) in omega (arith, less))) in
      omega (arith, rest, g)

  few : (most : ℕ) (xs : List Weighted) → AreSystemsOfRange dim low high xs
      → ((ws : List ℕ) → length ws ≡ dim + 1 → b * room b ws ≤ most) → length xs ≤ most
  few most xs are bound =
      let all : Each (IsSystemOfRange dim low high) xs = each_from_in xs (λ s i. (are.members s).0 (contains_from_in i)) in
      let r = rising most 0 xs (omega arith) are.ascends all
      (each_from_in xs (λ s i. let h = each_in all i in let n = number_small s h in let c = bound s.weights h.columns in omega (arith, n, c)))
      (each_from_in xs (λ s i. omega arith)) in
      omega (arith, r)

-- how many numbers there are for up to five weights, and for six
room_of_five : (ws : List ℕ) → length ws ≤ 5 → 4096 * room 4096 ws ≤ 2 ^ 60
unfolding room
room_of_five [] l = omega arith
room_of_five (a ∷ []) l = omega arith
room_of_five (a ∷ b ∷ []) l = omega arith
room_of_five (a ∷ b ∷ c ∷ []) l = omega arith
room_of_five (a ∷ b ∷ c ∷ d ∷ []) l = omega arith
room_of_five (a ∷ b ∷ c ∷ d ∷ e ∷ []) l = omega arith
room_of_five (a ∷ b ∷ c ∷ d ∷ e ∷ f ∷ ws) l = absurd (omega (arith, l))

room_of_six : (ws : List ℕ) → length ws ≡ 6 → 256 * room 256 ws ≤ 2 ^ 60
unfolding room
room_of_six (a ∷ b ∷ c ∷ d ∷ e ∷ f ∷ []) l = omega arith
room_of_six [] l = absurd (omega (arith, l))
room_of_six (a ∷ []) l = absurd (omega (arith, l))
room_of_six (a ∷ b ∷ []) l = absurd (omega (arith, l))
room_of_six (a ∷ b ∷ c ∷ []) l = absurd (omega (arith, l))
room_of_six (a ∷ b ∷ c ∷ d ∷ []) l = absurd (omega (arith, l))
room_of_six (a ∷ b ∷ c ∷ d ∷ e ∷ []) l = absurd (omega (arith, l))
room_of_six (a ∷ b ∷ c ∷ d ∷ e ∷ f ∷ g ∷ ws) l = absurd (omega (arith, l))

pub ranges_are_few_lem : RangesAreFew
ranges_are_few_lem dim low high systems range are = by (cases_eq (dim + 1) 6)
  where
    above : (k : ℕ) → k ≤ 2 ^ 60 → k < 2 ^ 61
    above k h = omega (arith, h)

    by : (dim + 1 ≡ 6) ⊎ (dim + 1 ≡ 6 → ⊥) → length systems < 2 ^ 61
    by (inl six) =
        let limit = range.searched.limit_of_six six in
        above (length systems) (few dim low high 256 (omega (arith, limit)) (2 ^ 60) systems are (λ ws e. room_of_six ws (e ∙ six)))
    by (inr other) =
        let limit = range.searched.limit in
        let most = range.searched.few in
        above (length systems) (few dim low high 4096 (omega (arith, limit)) (2 ^ 60) systems are
        (λ ws e. room_of_five ws (five (length ws) (dim + 1) e most other)))
      where
        five : (l m : ℕ) → l ≡ m → m ≤ 6 → (m ≡ 6 → ⊥) → l ≤ 5
        five l m e h other = below (cases_lt m 6)
          where
            below : (m < 6) ⊎ (6 ≤ m) → l ≤ 5
            below (inl less) = omega (arith, e, less)
            below (inr least) = absurd (other (omega (arith, h, least)))
