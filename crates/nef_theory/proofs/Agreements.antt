-- The points of parts are the lattice points that agree; so nef partitions are told by these, and have no dead beginnings.
use Rattle.std.proofs.Common.{◌≡◌, ◌≢◌, ℕ, ◌<◌, ◌≤◌, List, ◌++◌, length, ℤ, pos, negsuc, ◌≤ℤ◌, sym, ◌∙◌, arith, ⊎_elim, length-append}
use Rattle.std.proofs.lemmas.Bool.{cases_eq}
use Rattle.std.proofs.lemmas.List.{get_or_append_left}
use Rattle.lattice_theory.proofs.Integers.{linear}
use Rattle.nef_theory.specs.Nef.{part_at, pairing_at, IsPartPoint}
use Rattle.nef_theory.specs.Reflexive.{AreAtLeastMinusOne}
use Rattle.nef_theory.specs.Agreement.{Agrees, HasAgreeing}
use Rattle.nef_theory.specs.Laws.{NefByAgreement, AgreementSplits, DeadBeginnings}

not_minus : (a : ℤ) → a ≡ negsuc 0 → pos 0 ≤ℤ a → ⊥
not_minus a e h = absurd (omega (arith, linear))

at_least_zero : (a : ℤ) → negsuc 0 ≤ℤ a → a ≢ negsuc 0 → pos 0 ≤ℤ a
at_least_zero a h d = omega (arith, linear)

module _ (n : ℕ) (normals points : List (List ℤ)) (are : AreAtLeastMinusOne n normals points) (m : List ℤ) (i : ℕ) (parts : List ℕ) where
  agreeing : (k : ℕ) → k ≤ length normals → (x : List ℤ) → IsPartPoint n normals parts m i x → HasAgreeing normals points k parts m i
  agreeing k l x p = record {
    point = x;
    member = (are x).1 (
      p.dimension,
      λ e h. ⊎_elim (λ (s : part_at parts e ≡ i). p.least e h s)
          (λ (d : part_at parts e ≢ i). weaker (pairing_at normals x e) (p.apart e h d)) (cases_eq (part_at parts e) i),
    );
    agrees = record {
      own = λ e h t s. let b : e < length normals = omega arith in p.own e b t s;
      others = λ e h t d. let b : e < length normals = omega arith in p.others e b t d;
      inside = λ e h t. let b : e < length normals = omega arith in
          ⊎_elim (λ (s : part_at parts e ≡ i). s) (λ (d : part_at parts e ≢ i). absurd (not_minus (pairing_at normals x e) t (p.apart e b d)))
          (cases_eq (part_at parts e) i);
    };
  }
    where
      weaker : (a : ℤ) → pos 0 ≤ℤ a → negsuc 0 ≤ℤ a
      weaker a h = omega (arith, linear)

  part_point : HasAgreeing normals points (length normals) parts m i → (x : List ℤ) × IsPartPoint n normals parts m i x
  part_point a = let low = (are a.point).0 a.member in (
    a.point,
    record {
      dimension = low.0;
      own = a.agrees.own;
      others = a.agrees.others;
      least = λ e b s. low.1 e b;
      apart = λ e b d. at_least_zero (pairing_at normals a.point e) (low.1 e b) (λ t. d (a.agrees.inside e b t));
    },
  )

pub nef_by_agreement_lem : NefByAgreement
nef_by_agreement_lem n vertices normals points r parts are = (
  (λ nef. record {
    count = nef.count;
    growth = nef.growth;
    agreeing = λ m c i h. let x = nef.points m c i h in agreeing n normals points are m i parts (length normals) (omega arith) x.0 x.1;
  }),
  (λ t. record {
    count = t.count;
    growth = t.growth;
    points = λ m c i h. part_point n normals points are m i parts (t.agreeing m c i h);
  }),
)

pub agreement_splits_lem : AgreementSplits
agreement_splits_lem normals k parts m i x least = (
  (λ a. (
    (λ e h t. ⊎_elim (λ (s : part_at parts e ≡ i). low (pairing_at normals x e) (a.own e h t s))
        (λ (d : part_at parts e ≢ i). zero_low (pairing_at normals x e) (a.others e h t d)) (cases_eq (part_at parts e) i)),
    record { own = a.own; inside = a.inside },
  )),
  (λ b. record {
    own = b.1.own;
    others = λ e h t d. between (pairing_at normals x e) (least e h) (b.0 e h t) (λ s. d (b.1.inside e h s));
    inside = b.1.inside;
  }),
)
  where
    low : (a : ℤ) → a ≡ negsuc 0 → a ≤ℤ pos 0
    low a e = omega (arith, linear)

    zero_low : (a : ℤ) → a ≡ pos 0 → a ≤ℤ pos 0
    zero_low a e = omega (arith, linear)

    between : (a : ℤ) → negsuc 0 ≤ℤ a → a ≤ℤ pos 0 → a ≢ negsuc 0 → a ≡ pos 0
    between a h l d = omega (arith, linear)

-- to agree with the first places of a list is to agree with its beginning
beginning_agrees : (normals : List (List ℤ)) (m x : List ℤ) (i : ℕ) (b rest : List ℕ) → Agrees normals (length b) (b ++ rest) m i x
    → Agrees normals (length b) b m i x
beginning_agrees normals m x i b rest a = record {
  own = λ e h t s. a.own e h t (same e h ∙ s);
  others = λ e h t d. a.others e h t (λ s. d (sym (same e h) ∙ s));
  inside = λ e h t. sym (same e h) ∙ a.inside e h t;
}
  where
    same : (e : ℕ) → e < length b → part_at (b ++ rest) e ≡ part_at b e
    same e h = get_or_append_left b rest 0 e h

pub dead_beginnings_lem : DeadBeginnings
dead_beginnings_lem n vertices normals points r b rest are dead nef =
    let x = nef.points dead.vertex dead.member dead.part dead.within in
    let l : length b ≤ length normals = let c = nef.count in let d = length-append b rest in omega arith in
    let a = agreeing n normals points are dead.vertex dead.part (b ++ rest) (length b) l x.0 x.1 in
    dead.none (record {
      point = a.point;
      member = a.member;
      agrees = beginning_agrees normals dead.vertex a.point dead.part b rest a.agrees;
    })
