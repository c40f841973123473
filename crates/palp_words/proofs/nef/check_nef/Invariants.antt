use Rattle.std.proofs.Common.{◌≡◌, [], map, string_bytes, take, drop, is_some}
use lib.Chars.{codes}
use Rattle.std.specs.Option.{unwrap_or}
use Rattle.std.specs.List.{list_any}
use Rattle.palp_words.specs.Letters.{given}
use Rattle.palp_words.specs.Words.{first_fault, nef_fault, is_codim_word, codim_of}
use Rattle.palp_words.proofs.nef.check_nef.Given as goal

abbrev pub invariant-loop-place : goal.invariant-loop-place
invariant-loop-place l = let words = map string_bytes l.further in record {
  so_far : first_fault nef_fault [] words ≡ first_fault nef_fault (take l.place words) (drop l.place words);
  list_only_is : l.list_only ≡ given (codes "p") (take l.place words);
  full_is : l.full ≡ given (codes "H") (take l.place words);
  codim_given : is_some l.codim ≡ list_any is_codim_word (take l.place words);
  codim_is : codim_of words ≡ unwrap_or l.codim (codim_of (drop l.place words));
}
