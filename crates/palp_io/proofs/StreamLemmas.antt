-- What a writer holds while a piece is written to it.
use Rattle.std.proofs.Common.{◌≡◌, ℕ, List, [], ◌++◌, take, drop, Option, Some, None, refl, sym, append_assoc, ◌-◌, length, length-drop, arith}
use Rattle.std.proofs.Math.Seq.{take-length}
use Rattle.std.proofs.lemmas.List.{append-nil, take-append-drop}
use Rattle.std.specs.Io.KnownBytes.{Appends, Keeps}
use Rattle.palp_io.specs.Streams.{WritesFront}

-- the piece is what was written so far and the rest
pub record Written (piece rest : List ℕ) (before now : Option (List ℕ)) : Type 0 where
  pub done : List ℕ
  pub piece_is : piece ≡ done ++ rest
  pub appended : Appends before now done

-- nothing was written yet
pub Written-none : (piece : List ℕ) (g : Option (List ℕ)) → Written piece piece g g
Written-none piece None = record { done = []; piece_is = refl; appended = tt }
Written-none piece (Some xs) = record { done = []; piece_is = refl; appended = sym (append-nil xs) }

-- bytes are appended one after another
Appends-trans : (g h k : Option (List ℕ)) (a b : List ℕ) → Appends g h a → Appends h k b → Appends g k (a ++ b)
Appends-trans None h k a b first second = tt
Appends-trans (Some xs) None k a b first second = absurd first
Appends-trans (Some xs) (Some ys) None a b first second = absurd second
Appends-trans (Some xs) (Some ys) (Some zs) a b first second = let both = append_assoc xs a b in cc

-- bytes that were appended stay
Appends-kept : (g h k : Option (List ℕ)) (a : List ℕ) → Appends g h a → Keeps h k → Appends g k a
Appends-kept None h k a first kept = tt
Appends-kept (Some xs) None k a first kept = absurd first
Appends-kept (Some xs) (Some ys) None a first kept = absurd kept
Appends-kept (Some xs) (Some ys) (Some zs) a first kept = cc

-- some more of the rest was written, and as many bytes are left as there were behind them
pub Written-more : (piece rest : List ℕ) (g h k : Option (List ℕ)) (n m : ℕ) → m ≡ length rest - n → Written piece rest g h
    → Appends h k (take n rest) → Written piece (take m (drop n rest)) g k
Written-more piece rest g h k n m all so_far more =
    let size = length-drop n rest in
    let whole : m ≡ length (drop n rest) = omega arith in
    let behind : take m (drop n rest) ≡ drop n rest = rw whole (take-length (drop n rest)) in
    let both = take-append-drop n rest in
    let grouped = append_assoc so_far.done (take n rest) (drop n rest) in
    record {
      done = so_far.done ++ take n rest;
      piece_is = cc;
      appended = Appends-trans g h k so_far.done (take n rest) so_far.appended more;
    }

-- nothing is left to write, so the piece was written, and it stays
pub Appends-whole : (piece : List ℕ) (g h k : Option (List ℕ)) → Written piece [] g h → Keeps h k → Appends g k piece
Appends-whole piece g h k so_far kept =
    let done = sym (append-nil so_far.done) in
    let whole : piece ≡ so_far.done = cc in
    rw whole (Appends-kept g h k so_far.done so_far.appended kept)

-- a write that failed leaves a front of the piece written
pub WritesFront-kept : (piece rest : List ℕ) (g h k : Option (List ℕ)) → Written piece rest g h → Keeps h k → WritesFront piece g k
WritesFront-kept piece rest g h k so_far kept = record {
  front = so_far.done;
  is_front = record { rest = rest; whole_is = so_far.piece_is };
  appended = Appends-kept g h k so_far.done so_far.appended kept;
}
