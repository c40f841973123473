use Rattle.std.proofs.Common.{◌≡◌, drop}
use Rattle.face_closing.specs.steps.Chains.{mixed}
use Rattle.face_closing.proofs.words.bucket.Given as goal

abbrev pub invariant-loop-word : goal.invariant-loop-word
invariant-loop-word l = mixed l.mix (drop l.word-index l.words) ≡ mixed 0 l.words
