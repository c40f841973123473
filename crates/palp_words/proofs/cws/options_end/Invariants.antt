use Rattle.std.proofs.Common.{◌≡◌, map, string_bytes, drop}
use Rattle.palp_words.specs.Words.{without_options}
use Rattle.palp_words.proofs.cws.options_end.Given as goal

abbrev pub invariant-loop-place : goal.invariant-loop-place
invariant-loop-place l = without_options (drop l.from (map string_bytes l.further))
    ≡ without_options (drop l.place (map string_bytes l.further))
