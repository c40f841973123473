use Rattle.std.proofs.Common.{◌≡◌, [], map, string_bytes, take, drop}
use lib.Chars.{codes}
use Rattle.palp_words.specs.Letters.{given}
use Rattle.palp_words.specs.Words.{first_fault, poly_fault}
use Rattle.palp_words.proofs.poly.check_poly.Given as goal

abbrev pub invariant-loop-place : goal.invariant-loop-place
invariant-loop-place l = let words = map string_bytes l.further in record {
  so_far : first_fault poly_fault [] words ≡ first_fault poly_fault (take l.place words) (drop l.place words);
  plain_is : l.plain ≡ given (codes "n") (take l.place words);
  dual_is : l.dual ≡ given (codes "adD") (take l.place words);
}
