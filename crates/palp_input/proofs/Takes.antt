-- What takes give, behind bytes that are held.
use Rattle.std.proofs.Common.{◌≡◌, ℕ, true, false, ◌+◌, ◌≤◌, List, [], ◌++◌, length, take, Option, Some, None, ap, subst, ◌∙◌, arith, append_assoc}
use Rattle.palp_io.specs.Source.{SourceState, Passes}
use Rattle.palp_input.specs.Grammar.{most_bytes}
use Rattle.palp_input.specs.Reading.{ReaderState, IsHanded, IsUntaken}
use Rattle.std.specs.Io.KnownBytes.{prepend_known, IsAtEnd}
use Rattle.std.proofs.lemmas.List.{take-take, take-append-le}
use Rattle.std.proofs.Math.Seq.{take-append-add, take-append_seam}

-- the takes so far: their bytes are held behind those that were held, of which nothing was known
pub record TakenSoFar (before now : ReaderState) (source source_now : SourceState) : Type 0 where
  pub bytes : List ℕ
  pub passes : Passes source source_now bytes
  pub most : before.bytes + length before.held + length bytes ≤ most_bytes + 1
  pub later : source.faults ≤ source_now.faults
  pub untaken : before.ended ≡ true → IsUntaken bytes source source_now
  pub handed : IsHanded now source_now
  pub keeps : before.ended ≡ true → now.ended ≡ true
  pub held : now ≡ record { bytes = before.bytes; lines = before.lines; held = before.held ++ bytes; live = false; ended = now.ended }

-- what stands in front of a buffer that was put behind bytes, where so many of its bytes are kept
pub kept_front : (old cleared buffer post after : List ℕ) (count size : ℕ) → count ≤ length buffer → length old + count ≤ size
    → take (length old + count) (take size (take (length old) (old ++ cleared) ++ (buffer ++ post) ++ after)) ≡ old ++ take count buffer
kept_front old cleared buffer post after count size some fits =
    take-take (length old + count) size (take (length old) (old ++ cleared) ++ (buffer ++ post) ++ after) fits
    ∙ ap (λ (xs : List ℕ). take (length old + count) (xs ++ (buffer ++ post) ++ after)) (take-append_seam old cleared)
    ∙ ap (take (length old + count)) (append_assoc old (buffer ++ post) after)
    ∙ take-append-add old ((buffer ++ post) ++ after) count
    ∙ ap (λ (xs : List ℕ). old ++ take count xs) (append_assoc buffer post after)
    ∙ ap (λ (xs : List ℕ). old ++ xs) (take-append-le count buffer (post ++ after) some)

-- the front that is kept of bytes with a buffer behind them
pub front_kept : (old cleared lent buffer post after now : List ℕ) (held size count : ℕ) → lent ≡ old ++ cleared → held ≡ length old
    → count ≤ length buffer → held + count ≤ size
    → now ≡ take (held + count) (take size (take held lent ++ (buffer ++ post) ++ after)) → now ≡ old ++ take count buffer
front_kept old cleared lent buffer post after now held size count l h some fits e =
    e ∙ ap (λ (xs : List ℕ). take (held + count) (take size (take held xs ++ (buffer ++ post) ++ after))) l
    ∙ ap (λ (n : ℕ). take (n + count) (take size (take n (old ++ cleared) ++ (buffer ++ post) ++ after))) h
    ∙ kept_front old cleared buffer post after count size some (omega (arith, fits, h))

-- and where none of its bytes is kept
pub none_kept : (old cleared lent buffer post after now : List ℕ) (held size : ℕ) → lent ≡ old ++ cleared → held ≡ length old → held ≤ size
    → now ≡ take held (take size (take held lent ++ (buffer ++ post) ++ after)) → now ≡ old ++ []
none_kept old cleared lent buffer post after now held size l h fits e =
    let same : held ≡ held + 0 = omega arith in
    front_kept old cleared lent buffer post after now held size 0 l h (omega arith) (omega (arith, fits))
    (e ∙ ap (λ (n : ℕ). take n (take size (take held lent ++ (buffer ++ post) ++ after))) same)

-- nothing is left where nothing was and nothing was given
pub none_left : (before now : Option (List ℕ)) → before ≡ prepend_known [] now → IsAtEnd before → IsAtEnd now
none_left before None e h = subst IsAtEnd e h
none_left before (Some left) e h = subst IsAtEnd e h
