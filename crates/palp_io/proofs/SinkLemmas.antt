-- Bytes that a sink was given, over several calls.
use Rattle.std.proofs.Common.{◌≡◌, ℕ, List, [], ◌++◌, Option, Some, None, refl, sym, ap, ◌∙◌, append_assoc}
use Rattle.std.proofs.lemmas.List.{append-nil}
use Rattle.std.specs.Io.KnownBytes.{append_known}
use Rattle.palp_io.specs.Sink.{SinkState, IsPrefix, Gains, GainsFront}

-- a list begins with nothing
pub IsPrefix-nothing : (xs : List ℕ) → IsPrefix [] xs
IsPrefix-nothing xs = record { rest = xs; whole_is = refl }

-- a list begins with itself
pub IsPrefix-whole : (xs : List ℕ) → IsPrefix xs xs
IsPrefix-whole xs = record { rest = []; whole_is = sym (append-nil xs) }

-- a front of a list is a front of the list with more behind it
pub IsPrefix-longer : (front whole more : List ℕ) → IsPrefix front whole → IsPrefix front (whole ++ more)
IsPrefix-longer front whole more h = record {
  rest = h.rest ++ more;
  whole_is = ap (λ (xs : List ℕ). xs ++ more) h.whole_is ∙ append_assoc front h.rest more;
}

-- a front of a list is a front of the list with more before it, with as much before itself
pub IsPrefix-after : (before front whole : List ℕ) → IsPrefix front whole → IsPrefix (before ++ front) (before ++ whole)
IsPrefix-after before front whole h = record {
  rest = h.rest;
  whole_is = ap (λ (xs : List ℕ). before ++ xs) h.whole_is ∙ sym (append_assoc before front h.rest);
}

-- no call, no bytes
none_gained : (g : Option (List ℕ)) → g ≡ append_known g []
none_gained None = refl
none_gained (Some xs) = ap Some (sym (append-nil xs))

pub Gains-none : (s : SinkState) → Gains s s []
Gains-none s = none_gained s.given

-- the bytes of two stretches of calls are appended one after another
known_assoc : (g : Option (List ℕ)) (a b : List ℕ) → append_known (append_known g a) b ≡ append_known g (a ++ b)
known_assoc None a b = refl
known_assoc (Some xs) a b = ap Some (append_assoc xs a b)

pub Gains-trans : (s m n : SinkState) (a b : List ℕ) → Gains s m a → Gains m n b → Gains s n (a ++ b)
Gains-trans s m n a b first second =
    second ∙ ap (λ (o : Option (List ℕ)). append_known o b) first ∙ known_assoc s.given a b

-- no call is a front of anything
pub GainsFront-none : (s : SinkState) (whole : List ℕ) → GainsFront s s whole
GainsFront-none s whole =
    record { front = []; is_front = IsPrefix-nothing whole; gained = Gains-none s }

-- all of the bytes are a front of them
pub GainsFront-whole : (s m : SinkState) (bytes : List ℕ) → Gains s m bytes → GainsFront s m bytes
GainsFront-whole s m bytes gained =
    record { front = bytes; is_front = IsPrefix-whole bytes; gained = gained }

-- after some bytes, a front of others is a front of both together
pub GainsFront-after : (s m n : SinkState) (a b : List ℕ) → Gains s m a → GainsFront m n b → GainsFront s n (a ++ b)
GainsFront-after s m n a b first second = record {
  front = a ++ second.front;
  is_front = IsPrefix-after a second.front b second.is_front;
  gained = Gains-trans s m n a second.front first second.gained;
}

-- a front of some bytes is a front of these with more behind them
pub GainsFront-longer : (s m : SinkState) (bytes more : List ℕ) → GainsFront s m bytes → GainsFront s m (bytes ++ more)
GainsFront-longer s m bytes more part = record {
  front = part.front;
  is_front = IsPrefix-longer part.front bytes more part.is_front;
  gained = part.gained;
}
