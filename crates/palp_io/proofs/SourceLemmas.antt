-- Bytes that pass from what a source has left to what was taken, over several calls.
use Rattle.std.proofs.Common.{◌≡◌, ℕ, ◌≤◌, List, [], ◌++◌, length, Option, Some, None, refl, sym, ap, ◌∙◌, append_assoc, arith, ◌+◌, take, drop, length-take, length-append}
use Rattle.std.proofs.Math.Seq.{take-add}
use Rattle.std.proofs.lemmas.List.{append-nil, take-append-drop, drop-drop}
use Rattle.palp_io.specs.Source.{SourceState, Passes}
use Rattle.std.specs.Prelude.{OnSome}
use Rattle.std.specs.Io.KnownBytes.{prepend_known, IsAtEnd}
use Rattle.palp_io.specs.MemorySteps.{PassesBytes}
use Rattle.palp_io.specs.Laws.{EndsExactly}
use Rattle.palp_io.specs.declared.taking.Took.TheVariants.{Bytes, End, Failed}

-- an equation between two told lists is one of the lists
Some-same : {A : Type 0} {x y : A} → ◌≡◌ {A = Option A} (Some x) (Some y) → x ≡ y
Some-same e = cc

-- no call, no bytes
none_back : (left : Option (List ℕ)) (taken : List ℕ) → OnSome left (taken ≡ taken ++ [])
none_back None taken = tt
none_back (Some xs) taken = sym (append-nil taken)

none_front : (left : Option (List ℕ)) → left ≡ prepend_known [] left
none_front None = refl
none_front (Some xs) = refl

pub Passes-none : (s : SourceState) → Passes s s []
Passes-none s = record { front = none_front s.left; back = none_back s.left s.taken }

-- the bytes of two stretches of calls pass one after another
trans_front : (l m n : Option (List ℕ)) (a b : List ℕ) → l ≡ prepend_known a m → m ≡ prepend_known b n → l ≡ prepend_known (a ++ b) n
trans_front l m None a b first second = first ∙ ap (prepend_known a) second
trans_front l m (Some zs) a b first second = first ∙ ap (prepend_known a) second ∙ ap Some (sym (append_assoc a b zs))

trans_back : (m n : Option (List ℕ)) (t u v a b : List ℕ) → OnSome m (u ≡ t ++ a) → m ≡ prepend_known b n → OnSome n (v ≡ u ++ b)
    → OnSome n (v ≡ t ++ (a ++ b))
trans_back m None t u v a b first told second = tt
trans_back None (Some zs) t u v a b first told second = cc
trans_back (Some ys) (Some zs) t u v a b first told second =
    second ∙ ap (λ (xs : List ℕ). xs ++ b) first ∙ append_assoc t a b

pub Passes-trans : (before between now : SourceState) (a b : List ℕ) → Passes before between a → Passes between now b
    → Passes before now (a ++ b)
Passes-trans before between now a b first second = record {
  front = trans_front before.left between.left now.left a b first.front second.front;
  back = trans_back between.left now.left before.taken between.taken now.taken a b first.back second.front second.back;
}

-- where a source tells what is left, it goes on telling, and the bytes are the next ones
told : (xs t : List ℕ) (m : Option (List ℕ)) (u b : List ℕ) → Some xs ≡ prepend_known b m → OnSome m (u ≡ t ++ b)
    → (ys : List ℕ) × (m ≡ Some ys) × (xs ≡ b ++ ys) × (u ≡ t ++ b)
told xs t None u b front back = cc
told xs t (Some ys) u b front back = (ys, refl, Some-same front, back)

pub Passes-told : (before now : SourceState) (left b : List ℕ) → before.left ≡ Some left → Passes before now b
    → (rest : List ℕ) × (now.left ≡ Some rest) × (left ≡ b ++ rest) × (now.taken ≡ before.taken ++ b)
Passes-told before now left b tells passes =
    told left before.taken now.left now.taken b (sym tells ∙ passes.front) passes.back

-- where a source tells nothing, it goes on telling nothing
untold : (m : Option (List ℕ)) (b : List ℕ) → None ≡ prepend_known b m → m ≡ None
untold None b front = refl
untold (Some ys) b front = cc

pub Passes-untold : (before now : SourceState) (b : List ℕ) → before.left ≡ None → Passes before now b → now.left ≡ None
Passes-untold before now b tells passes = untold now.left b (sym tells ∙ passes.front)

-- a source that tells its bytes and gave one had something left
not_empty : (n : ℕ) (buf xs rest : List ℕ) → 1 ≤ n → n ≤ length buf → xs ≡ take n buf ++ rest → xs ≡ [] → ⊥
not_empty n buf xs rest some fits is_next empty =
    omega (arith, length-take n buf, length-append (take n buf) rest, ap length is_next, ap length empty)

-- a take that didn't fail answers the end exactly where nothing was left
end_left : (l : Option (List ℕ)) (left : List ℕ) → l ≡ Some left → IsAtEnd l → left ≡ []
end_left None left tells h = cc
end_left (Some xs) left tells h = sym (Some-same tells) ∙ h

pub ends_exactly : EndsExactly
ends_exactly (Bytes n) buf before now left tells takes not_failed =
    let next = Passes-told before now left (take n buf) tells takes.passes in
    (λ e. cc, λ empty. absurd (not_empty n buf left next.0 takes.means.some takes.means.fits next.2 empty))
ends_exactly End buf before now left tells takes not_failed =
    (λ _. end_left before.left left tells takes.means.nothing_left, λ _. refl)
ends_exactly Failed buf before now left tells takes not_failed =
    absurd (not_failed refl)

-- a place in a list that moves up passes the bytes between
pub PassesBytes-advance : (bytes : List ℕ) (at n : ℕ) (given : List ℕ) → given ≡ take n (drop at bytes)
    → PassesBytes (drop at bytes) (take at bytes) (drop (at + n) bytes) (take (at + n) bytes) given
PassesBytes-advance bytes at n given is_next =
    let whole = take-append-drop n (drop at bytes) in
    let rest = drop-drop n at bytes in
    let so_far = take-add at n bytes in
    record { front = cc; back = cc }
