use Rattle.std.proofs.Common.{◌≡◌, map, string_bytes, drop}
use Rattle.std.specs.List.{list_any}
use Rattle.palp_words.specs.Words.{is_option}
use Rattle.palp_words.proofs.cws.has_option.Given as goal

abbrev pub invariant-loop-word : goal.invariant-loop-word
invariant-loop-word l = list_any is_option (map string_bytes l.further)
    ≡ list_any is_option (map string_bytes (drop l.word-index l.further))
