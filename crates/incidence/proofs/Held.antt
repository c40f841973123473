-- What pools keep of incidences, and what their rows tell.
use Rattle.std.specs.Prelude.{Some, IsTrue}
use Rattle.std.proofs.Common.{◌≡◌, ⊎_elim, inr, ◌↔◌, ℕ, ◌+◌, ◌<◌, ◌≤◌, ◌==◌, List, length, Result, Ok, refl, sym, ap, ◌∙◌, subst, arith, length-append}
use Rattle.std.proofs.lemmas.Bool.Decides.{eqb_tells}
use Rattle.std.proofs.lemmas.Option.{same_Some}
use Rattle.face_theory.specs.Faces.{TightRelation}
use Rattle.face_theory.proofs.Sets.{true_false}
use Rattle.bit_pool.specs.Bits.{HasBit, bit_of}
use Rattle.bit_pool.specs.Pools.{PoolState, OnRow, row_of}
use Rattle.bit_pool.specs.declared.faults.Full.{Full}
use Rattle.bit_pool.proofs.Stays.{rows_stay_lem, width_stays_lem}
use Rattle.incidence.specs.Incidences.{IncidenceState, HasExactly, Tells, Agree, IsHeld, IsPast, IsTold, told, words_or_none, member_id, function_id}
use Rattle.incidence.specs.Laws.{ToldRowsAgree, MadeIsHeld, HeldStays, RowsTell, ToldIsSingle}

-- the words that an id names are those of which something holds
holds_of : {pool : PoolState} {P : List ℕ → Type 0} (id : _) (words : List ℕ) (h : OnRow pool id P) → row_of pool id ≡ Some words → P words
holds_of {P = P} id words h e = subst P (same_Some h.words words (sym h.named ∙ e)) h.holds

-- the row of a member, and that of a function
module _ (pool : PoolState) (i : IncidenceState) (R : TightRelation) (t : Tells pool i R) where
  member_exact : (m : ℕ) (row : List ℕ) → m < i.members → row_of pool (member_id i m) ≡ Some row → HasExactly R.functions (λ f. R.tight m f) row
  member_exact m row l e = holds_of (member_id i m) row (t.member_rows m (let n = t.members in omega arith)) e

  function_exact : (f : ℕ) (row : List ℕ) → f < i.functions → row_of pool (function_id i f) ≡ Some row
      → HasExactly R.members (λ m. R.tight m f) row
  function_exact f row l e = holds_of (function_id i f) row (t.function_rows f (let n = t.functions in omega arith)) e

  agree : Agree pool i
  agree m f row column lm lf er ec = (
    λ b. (member_exact m row lm er f).1 ((let n = t.functions in omega arith), ((function_exact f column lf ec m).0 b).1),
    λ b. (function_exact f column lf ec m).1 ((let n = t.members in omega arith), ((member_exact m row lm er f).0 b).1),
  )

pub told_rows_agree_lem : ToldRowsAgree
told_rows_agree_lem = agree

pub made_is_held_lem : MadeIsHeld
made_is_held_lem before now i R wm wf h =
    let t = h.tells in
    let members = t.members in
    let functions = t.functions in
    let width : now.width ≡ before.width = ap (λ (pool : PoolState). pool.width) h.gained.now_is in (
      record {
        members_fit = omega arith;
        functions_fit = omega arith;
        member_rows = λ m k row l e b. let s = ((member_exact now i R t m row l e k).0 b).0 in omega arith;
        function_rows = λ f k row l e b. let s = ((function_exact now i R t f row l e k).0 b).0 in omega arith;
        agree = agree now i R t;
      },
      inr (
        h.epoch ∙ ap (λ (pool : PoolState). pool.young_generation.epoch) (sym h.gained.now_is),
        reached members functions,
      ),
    )
  where
    grown : length now.young_generation.rows ≡ length before.young_generation.rows + (R.members + R.functions)
    grown = ap (λ (pool : PoolState). length pool.young_generation.rows) h.gained.now_is
        ∙ length-append before.young_generation.rows h.gained.added
        ∙ ap (λ (n : ℕ). length before.young_generation.rows + n) h.gained.many

    reached : i.members ≡ R.members → i.functions ≡ R.functions → i.first + (i.members + i.functions) ≤ length now.young_generation.rows
    reached members functions = let g = grown in let first = h.first in omega (arith, members, functions, g, first)

pub held_stays_lem : HeldStays
held_stays_lem before now i p later h past =
    let stays = rows_stay_lem before now i.epoch (i.first + (i.members + i.functions)) p later past in
    let width = width_stays_lem before now later in
    let member = λ (m : ℕ) (row : List ℕ) (l : m < i.members) (e : row_of now (member_id i m) ≡ Some row).
    stays.1 (member_id i m) row refl (omega arith) e in
    let function = λ (f : ℕ) (row : List ℕ) (l : f < i.functions) (e : row_of now (function_id i f) ≡ Some row).
    stays.1 (function_id i f) row refl (omega arith) e in (
      record {
        members_fit = let l = h.members_fit in omega arith;
        functions_fit = let l = h.functions_fit in omega arith;
        member_rows = λ m k row l e b. h.member_rows m k row l (member m row l e) b;
        function_rows = λ f k row l e b. h.function_rows f k row l (function f row l e) b;
        agree = λ m f row column lm lf er ec. h.agree m f row column lm lf (member m row lm er) (function f column lf ec);
      },
      stays.0,
    )

-- a number is 1, as a test
one_tests : (n : ℕ) → IsTrue (n == 1) ↔ (n ≡ 1)
one_tests n = ⊎_elim (λ h. (λ t. h.1, λ e. h.0)) (λ h. (λ t. absurd (true_false t h.0), λ e. absurd (h.1 e))) (eqb_tells n 1)

-- the relation that is told, at a member whose row is there
told_at : (pool : PoolState) (i : IncidenceState) (m f : ℕ) (row : List ℕ) → row_of pool (member_id i m) ≡ Some row
    → IsTrue ((told pool i).tight m f) ↔ HasBit row f
told_at pool i m f row e =
    let same : bit_of (words_or_none (row_of pool (member_id i m))) f ≡ bit_of row f = ap (λ o. bit_of (words_or_none o) f) e in
    (λ t. sym same ∙ (one_tests _).0 t, λ b. (one_tests _).1 (same ∙ b))

pub rows_tell_lem : RowsTell
rows_tell_lem pool i h members functions = record {
  members = refl;
  functions = refl;
  member_rows = λ m l. let row = members m l in record {
    words = row.words;
    named = row.named;
    holds = λ k. (
      λ b. (h.member_rows m k row.words l row.named b, (told_at pool i m k row.words row.named).1 b),
      λ t. (told_at pool i m k row.words row.named).0 t.1,
    );
  };
  function_rows = λ f l. let column = functions f l in record {
    words = column.words;
    named = column.named;
    holds = λ k. (
      λ b. let s = h.function_rows f k column.words l column.named b in
          let row = members k s in
          (s, (told_at pool i k f row.words row.named).1 ((h.agree k f row.words column.words s l row.named column.named).0 b)),
      λ t. let row = members k t.0 in
          (h.agree k f row.words column.words t.0 l row.named column.named).1 ((told_at pool i k f row.words row.named).0 t.1),
    );
  };
}

pub told_is_single_lem : ToldIsSingle
told_is_single_lem pool i R t m f lm lf =
    let row = t.member_rows m (let n = t.members in omega arith) in (
      λ s. ((row.holds f).0 ((told_at pool i m f row.words row.named).0 s)).1,
      λ r. (told_at pool i m f row.words row.named).1 ((row.holds f).1 ((let n = t.functions in omega arith), r)),
    )

-- the same of an answer
pub told_held : (before now : PoolState) (R : TightRelation) (answer : Result IncidenceState Full) (i : IncidenceState) → R.members ≤ before.width
    → R.functions ≤ before.width → answer ≡ Ok i → IsTold before now R answer → IsHeld now i × IsPast now i
told_held before now R answer i wm wf e h = made_is_held_lem before now i R wm wf (subst (IsTold before now R) e h)
