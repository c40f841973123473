-- Rows that are linked by buckets: none, one more, and a row that is sought.
use Rattle.std.proofs.Common.{◌≡◌, ◌≢◌, ◌⊎◌, inl, inr, ⊎_elim, ℕ, zero, suc, ◌+◌, ◌<◌, ◌≤◌, List, [], ◌∷◌, ◌++◌, length, get_or, Contains, replicate, refl, sym, ap, ◌∙◌, subst, arith, length-append, le_of_suc-le-suc}
use Rattle.std.proofs.lemmas.Bool.{cases_lt}
use Rattle.std.proofs.lemmas.Bool.Decides.{eqb_tells}
use Rattle.std.proofs.lemmas.List.{get_or-set_same, get_or-set_other, length-set, get_or_default}
use Rattle.std.proofs.Math.ListN.{set}
use Rattle.lattice_theory.proofs.Members.{In, here, there, in_from_contains, each_from_all, all_from_each, each_push}
use Rattle.face_closing.specs.steps.Chains.{bucket_of, row_at, link_at, AreLinked, IsKeptTable}
use Rattle.face_closing.specs.declared.limits.TheConstants.{MOST_FACES}

-- nothing is linked
zeros : (n i : ℕ) (z d : ℕ) → z ≡ 0 → d ≡ 0 → get_or (replicate n z) i d ≡ 0
zeros zero i z d e f = f
zeros (suc n) zero z d e f = e
zeros (suc n) (suc i) z d e f = zeros n i z d e f

pub none_linked : (heads : List ℕ) (z : ℕ) → z ≡ 0 → heads ≡ replicate 4096 z → length heads ≡ 4096 → AreLinked [] heads []
none_linked heads z e h many = record {
  buckets = many;
  many = refl;
  heads_within = λ b l. let n = none b in omega arith;
  heads_own = λ b i l s. let n = none b in absurd (omega arith);
  heads_all = λ i l. absurd (omega arith);
  nexts_within = λ j l. absurd (omega arith);
  nexts_own = λ j i l s. absurd (omega arith);
  nexts_all = λ j i l m. absurd (omega arith);
}
  where
    none : (b : ℕ) → link_at heads b ≡ 0
    none b = ap (λ (hs : List ℕ). get_or hs b 0) h ∙ zeros 4096 b z 0 e refl

-- the rows with one more
front : {X : Type 0} (xs : List X) (y d : X) (i : ℕ) → i < length xs → get_or (xs ++ y ∷ []) i d ≡ get_or xs i d
front [] y d i l = absurd (omega arith)
front (x ∷ xs) y d zero l = refl
front (x ∷ xs) y d (suc i) l = front xs y d i (le_of_suc-le-suc l)

last : {X : Type 0} (xs : List X) (y d : X) (i : ℕ) → i ≡ length xs → get_or (xs ++ y ∷ []) i d ≡ y
last [] y d i e = subst (λ (k : ℕ). get_or (y ∷ []) k d ≡ y) (sym e) refl
last (x ∷ xs) y d zero e = absurd (omega arith)
last (x ∷ xs) y d (suc i) e = last xs y d i (omega arith)

-- a row more: it links what was the last row of its bucket
module _ (rows : List (List ℕ)) (heads nexts row : List ℕ) (h : AreLinked rows heads nexts) (inside : bucket_of row < 4096) (n : ℕ)
    (n_is : n ≡ length rows + 1) where
  same_place : (i j : ℕ) → (i ≡ j) ⊎ (i ≢ j)
  same_place i j = ⊎_elim (λ t. inl t.1) (λ t. inr t.1) (eqb_tells i j)

  -- the rows
  old_row : (i : ℕ) → i < length rows → row_at (rows ++ row ∷ []) i ≡ row_at rows i
  old_row i l = front rows row [] i l

  new_row : (i : ℕ) → i ≡ length rows → row_at (rows ++ row ∷ []) i ≡ row
  new_row i e = last rows row [] i e

  which : (i : ℕ) → i < length (rows ++ row ∷ []) → (i < length rows) ⊎ (i ≡ length rows)
  which i l = ⊎_elim (λ (a : i < length rows). inl a)
      (λ (a : length rows ≤ i). inr (let e = length-append rows (row ∷ []) in omega arith)) (cases_lt i (length rows))

  -- the links
  old_next : (j : ℕ) → j < length rows → link_at (nexts ++ link_at heads (bucket_of row) ∷ []) j ≡ link_at nexts j
  old_next j l = front nexts (link_at heads (bucket_of row)) 0 j (let m = h.many in omega arith)

  new_next : (j : ℕ) → j ≡ length rows → link_at (nexts ++ link_at heads (bucket_of row) ∷ []) j ≡ link_at heads (bucket_of row)
  new_next j e = last nexts (link_at heads (bucket_of row)) 0 j (let m = h.many in omega arith)

  own_head : (b : ℕ) → b ≡ bucket_of row → link_at (set heads (bucket_of row) n) b ≡ n
  own_head b e = subst (λ (k : ℕ). link_at (set heads (bucket_of row) n) k ≡ n) (sym e)
      (get_or-set_same heads (bucket_of row) n 0 (let m = h.buckets in omega arith))

  other_head : (b : ℕ) → b ≢ bucket_of row → link_at (set heads (bucket_of row) n) b ≡ link_at heads b
  other_head b e = get_or-set_other heads (bucket_of row) b n 0 e

  heads_within : (b : ℕ) → b < 4096 → link_at (set heads (bucket_of row) n) b ≤ length (rows ++ row ∷ [])
  heads_within b l =
      let e = length-append rows (row ∷ []) in
      ⊎_elim (λ (a : b ≡ bucket_of row). let o = own_head b a in omega arith)
      (λ (a : b ≢ bucket_of row). let o = other_head b a in let w = h.heads_within b l in omega arith) (same_place b (bucket_of row))

  heads_own : (b i : ℕ) → b < 4096 → suc i ≡ link_at (set heads (bucket_of row) n) b → bucket_of (row_at (rows ++ row ∷ []) i) ≡ b
  heads_own b i l s = ⊎_elim
      (λ (a : b ≡ bucket_of row). ap bucket_of (new_row i (let o = own_head b a in omega arith)) ∙ sym a)
      (λ (a : b ≢ bucket_of row). let o = other_head b a in let w = h.heads_within b l in
      ap bucket_of (old_row i (omega arith)) ∙ h.heads_own b i l (s ∙ o))
      (same_place b (bucket_of row))

  heads_all : (i : ℕ) → i < length (rows ++ row ∷ []) → i < link_at (set heads (bucket_of row) n) (bucket_of (row_at (rows ++ row ∷ []) i))
  heads_all i l = ⊎_elim
      (λ (a : i < length rows). let f = ap bucket_of (old_row i a) in ⊎_elim
      (λ (b : bucket_of (row_at (rows ++ row ∷ []) i) ≡ bucket_of row). let o = own_head (bucket_of (row_at (rows ++ row ∷ []) i)) b in omega arith)
      (λ (b : bucket_of (row_at (rows ++ row ∷ []) i) ≢ bucket_of row).
      let o = other_head (bucket_of (row_at (rows ++ row ∷ []) i)) b in
      let k = ap (link_at heads) f in
      let w = h.heads_all i a in omega arith)
      (same_place (bucket_of (row_at (rows ++ row ∷ []) i)) (bucket_of row)))
      (λ (a : i ≡ length rows). let o = own_head (bucket_of (row_at (rows ++ row ∷ []) i)) (ap bucket_of (new_row i a)) in omega arith)
      (which i l)

  nexts_within : (j : ℕ) → j < length (rows ++ row ∷ []) → link_at (nexts ++ link_at heads (bucket_of row) ∷ []) j ≤ j
  nexts_within j l = ⊎_elim
      (λ (a : j < length rows). let o = old_next j a in let w = h.nexts_within j a in omega arith)
      (λ (a : j ≡ length rows). let o = new_next j a in let w = h.heads_within (bucket_of row) inside in omega arith)
      (which j l)

  nexts_own : (j i : ℕ) → j < length (rows ++ row ∷ []) → suc i ≡ link_at (nexts ++ link_at heads (bucket_of row) ∷ []) j
      → bucket_of (row_at (rows ++ row ∷ []) i) ≡ bucket_of (row_at (rows ++ row ∷ []) j)
  nexts_own j i l s = ⊎_elim
      (λ (a : j < length rows). let o = old_next j a in let w = h.nexts_within j a in
      ap bucket_of (old_row i (omega arith)) ∙ h.nexts_own j i a (s ∙ o) ∙ sym (ap bucket_of (old_row j a)))
      (λ (a : j ≡ length rows). let o = new_next j a in let w = h.heads_within (bucket_of row) inside in
      ap bucket_of (old_row i (omega arith)) ∙ h.heads_own (bucket_of row) i inside (s ∙ o) ∙ sym (ap bucket_of (new_row j a)))
      (which j l)

  nexts_all : (j i : ℕ) → j < length (rows ++ row ∷ []) → i < j → bucket_of (row_at (rows ++ row ∷ []) i) ≡ bucket_of (row_at (rows ++ row ∷ []) j)
      → i < link_at (nexts ++ link_at heads (bucket_of row) ∷ []) j
  nexts_all j i l m e = ⊎_elim
      (λ (a : j < length rows). let o = old_next j a in
      let w = h.nexts_all j i a m (sym (ap bucket_of (old_row i (omega arith))) ∙ e ∙ ap bucket_of (old_row j a)) in omega arith)
      (λ (a : j ≡ length rows). let o = new_next j a in
      let k = ap (link_at heads) (sym (ap bucket_of (old_row i (omega arith))) ∙ e ∙ ap bucket_of (new_row j a)) in
      let w = h.heads_all i (omega arith) in omega arith)
      (which j l)

  pub one_linked : AreLinked (rows ++ row ∷ []) (set heads (bucket_of row) n) (nexts ++ link_at heads (bucket_of row) ∷ [])
  one_linked = record {
    buckets = buckets;
    many = let e = length-append rows (row ∷ []) in let f = length-append nexts (link_at heads (bucket_of row) ∷ []) in let m = h.many in omega arith;
    heads_within = heads_within;
    heads_own = heads_own;
    heads_all = heads_all;
    nexts_within = nexts_within;
    nexts_own = nexts_own;
    nexts_all = nexts_all;
  }
    where
      buckets : length (set heads (bucket_of row) n) ≡ 4096
      buckets = let e = length-set heads (bucket_of row) n in let m = h.buckets in omega arith

-- a row that is sought stands before a link of its bucket
pub record IsBefore (rows : List (List ℕ)) (words : List ℕ) (link : ℕ) : Type 0 where
  pub within : link ≤ length rows
  pub own : (i : ℕ) → suc i ≡ link → bucket_of (row_at rows i) ≡ bucket_of words
  pub all : (i : ℕ) → i < length rows → row_at rows i ≡ words → i < link

pub before_head : (rows : List (List ℕ)) (heads nexts words : List ℕ) → AreLinked rows heads nexts → bucket_of words < 4096
    → IsBefore rows words (link_at heads (bucket_of words))
before_head rows heads nexts words h l = record {
  within = h.heads_within (bucket_of words) l;
  own = λ i s. h.heads_own (bucket_of words) i l s;
  all = λ i k e. subst (λ (b : ℕ). i < link_at heads b) (ap bucket_of e) (h.heads_all i k);
}

pub before_next : (rows : List (List ℕ)) (heads nexts words : List ℕ) (place link : ℕ) → AreLinked rows heads nexts → IsBefore rows words link
    → suc place ≡ link → row_at rows place ≢ words → IsBefore rows words (link_at nexts place)
before_next rows heads nexts words place link h b s n =
    let w = b.within in
    let l : place < length rows = omega arith in
    let o = b.own place s in
    let below = h.nexts_within place l in
    record {
      within = omega arith;
      own = λ i t. h.nexts_own place i l t ∙ o;
      all = λ i k e. let a = b.all i k e in ⊎_elim
          (λ (c : i < place). h.nexts_all place i l c (ap bucket_of e ∙ sym o))
          (λ (c : place ≤ i). let f : i ≡ place = omega arith in absurd (n (ap (row_at rows) (sym f) ∙ e)))
          (cases_lt i place);
    }

-- before a link of 0 there is none
place_in : {words : List ℕ} {rows : List (List ℕ)} → In words rows → (i : ℕ) × (i < length rows) × (row_at rows i ≡ words)
place_in here = (0, omega arith, refl)
place_in (there i) = let p = place_in i in (suc p.0, let l = p.1 in omega arith, p.2)

pub before_none : (rows : List (List ℕ)) (words : List ℕ) (link : ℕ) → IsBefore rows words link → link ≡ 0 → Contains rows words → ⊥
before_none rows words link b e c = let p = place_in (in_from_contains rows c) in let l = b.all p.0 p.1 p.2 in omega arith

-- a table that is kept with one row more
pub kept_more : (row_words : ℕ) (rows : List (List ℕ)) (room : ℕ) (heads nexts : List ℕ) (next_room : ℕ) (row : List ℕ)
    → IsKeptTable row_words rows room heads nexts next_room → length row ≡ row_words → length rows < MOST_FACES → bucket_of row < 4096
    → (more_heads more_nexts : List ℕ) (more_room more_next_room n bucket next : ℕ) → n ≡ length rows + 1 → bucket ≡ bucket_of row
    → next ≡ link_at heads bucket
    → more_heads ≡ set heads bucket n → more_nexts ≡ nexts ++ next ∷ [] → room ≤ more_room → next_room ≤ more_next_room
    → IsKeptTable row_words (rows ++ row ∷ []) more_room more_heads more_nexts more_next_room
kept_more row_words rows room heads nexts next_room row k long few inside more_heads more_nexts more_room more_next_room n bucket next n_is b_is next_is h_is x_is r s = record {
  table = record {
    some = k.table.some;
    most = k.table.most;
    few = let e = length-append rows (row ∷ []) in omega arith;
    words = all_from_each {P = λ r. length r ≡ row_words} (each_push (each_from_all (λ r. length r ≡ row_words) rows k.table.words) long);
  };
  rows_fit = let f = k.rows_fit in omega arith;
  nexts_fit = let f = k.nexts_fit in omega arith;
  linked = subst (λ (hs : List ℕ). AreLinked (rows ++ row ∷ []) hs more_nexts)
      (ap (λ (b : ℕ). set heads b n) (sym b_is) ∙ sym h_is)
      (subst (λ (ns : List ℕ). AreLinked (rows ++ row ∷ []) (set heads (bucket_of row) n) ns)
      (ap (λ (x : ℕ). nexts ++ x ∷ []) (sym (next_is ∙ ap (link_at heads) b_is)) ∙ sym x_is)
      (one_linked rows heads nexts row k.linked inside n n_is));
}

-- a link that was read within the links
pub link_read : (links : List ℕ) (i j link : ℕ) → i < length links → link ≡ get_or links i link → i ≡ j → link ≡ link_at links j
link_read links i j link l e s = e ∙ get_or_default links i link 0 l ∙ ap (link_at links) s
