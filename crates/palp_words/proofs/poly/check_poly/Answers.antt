use Rattle.std.proofs.Common.{◌≡◌, Bool, Some, None, map, string_bytes, take, sym, ap, ◌∙◌}
use lib.Chars.{codes}
use Rattle.palp_words.specs.Words.{poly_fault, letters_fault}
use Rattle.palp_words.proofs.Faults.{next_word, given_next, both_next, fault_found, fault_passed}
use Rattle.palp_words.proofs.poly.check_poly.Goals as goal

pub loop-place-preserved : goal.loop-place-preserved
loop-place-preserved c =
    let words = map string_bytes c.args.further.now in
    let i = c.loop-place.place in
    let bytes = c.as_bytes-bytes.result.now in
    let inv = c.loop-place.invariant in
    let next = next_word c.args.further.now i _ bytes c.loop-place-test.true c.index-further-place.is c.as_bytes-bytes.ensures.value in
    let plain = given_next (codes "n") words i bytes _ _ next inv.plain_is c.has_one_of-plain.ensures in
    let dual = given_next (codes "adD") words i bytes _ _ next inv.dual_is c.has_one_of-dual.ensures in
    let right : poly_fault (take i words) bytes ≡ None =
    ap (λ (b : Bool). letters_fault (codes "gpvemdiarDn") b bytes)
    (sym (both_next (codes "n") (codes "adD") words i bytes _ _ next plain dual))
    ∙ sym c.letters_fault.ensures ∙ c.in_default.is in
    record {
      so_far = inv.so_far ∙ fault_passed poly_fault words i bytes next right;
      plain_is = plain;
      dual_is = dual;
    }

pub returns-in-Some : goal.returns-in-Some
returns-in-Some c =
    let words = map string_bytes c.args.further.now in
    let i = c.loop-place.place in
    let bytes = c.as_bytes-bytes.result.now in
    let inv = c.loop-place.invariant in
    let next = next_word c.args.further.now i _ bytes c.loop-place-test.true c.index-further-place.is c.as_bytes-bytes.ensures.value in
    let plain = given_next (codes "n") words i bytes _ _ next inv.plain_is c.has_one_of-plain.ensures in
    let dual = given_next (codes "adD") words i bytes _ _ next inv.dual_is c.has_one_of-dual.ensures in
    let wrong : poly_fault (take i words) bytes ≡ Some c.in-Some.kind =
    ap (λ (b : Bool). letters_fault (codes "gpvemdiarDn") b bytes)
    (sym (both_next (codes "n") (codes "adD") words i bytes _ _ next plain dual))
    ∙ sym c.letters_fault.ensures ∙ c.in-Some.is in
    inv.so_far ∙ fault_found poly_fault words i bytes c.in-Some.kind next wrong
