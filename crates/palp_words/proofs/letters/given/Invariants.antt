use Rattle.std.proofs.Common.{◌≡◌, map, string_bytes, drop}
use Rattle.palp_words.specs.Letters.{given}
use Rattle.palp_words.proofs.letters.given.Given as goal

abbrev pub invariant-loop-word : goal.invariant-loop-word
invariant-loop-word l = given l.letters (map string_bytes l.words) ≡ given l.letters (map string_bytes (drop l.word-index l.words))
