use Rattle.std.proofs.Common.{Bool, ◌||◌, Option, Some, None, is_some, map, string_bytes, take, drop, ℕ, ◌+◌, sym, ap, ◌∙◌}
use Rattle.std.specs.Option.{unwrap_or}
use lib.Chars.{codes}
use Rattle.palp_words.specs.Words.{nef_fault, codim_of}
use Rattle.palp_words.proofs.Faults.{next_word, given_next, both_next, fault_found, fault_passed}
use Rattle.palp_words.proofs.Nefs.{codim_word_fault, other_word_fault, no_codim_fault, codim_given_next, codim_found, codim_stays, or_true, or_false}
use Rattle.palp_words.proofs.nef.check_nef.Goals as goal
use Rattle.palp_words.proofs.nef.check_nef.Goals.{then-is_codim_word+in-Ok, else-is_codim_word+in_default}

pub returns-in-Err : goal.returns-in-Err
returns-in-Err c =
    let words = map string_bytes c.args.further.now in
    let i = c.loop-place.place in
    let bytes = c.as_bytes-bytes.result.now in
    let inv = c.loop-place.invariant in
    let next = next_word c.args.further.now i _ bytes c.loop-place-test.true c.index-further-place.is c.as_bytes-bytes.ensures.value in
    let wrong = codim_word_fault (take i words) bytes c.loop-place.codim (Some c.in-Err.kind)
    (sym c.is_codim_word.ensures.value ∙ c.if-is_codim_word.true) inv.codim_given c.in-Err.ensures in
    inv.so_far ∙ fault_found nef_fault words i bytes c.in-Err.kind next wrong

pub returns-in-Some : goal.returns-in-Some
returns-in-Some c =
    let words = map string_bytes c.args.further.now in
    let i = c.loop-place.place in
    let bytes = c.as_bytes-bytes.result.now in
    let inv = c.loop-place.invariant in
    let next = next_word c.args.further.now i _ bytes c.loop-place-test.true c.index-further-place.is c.as_bytes-bytes.ensures.value in
    let list_only = given_next (codes "p") words i bytes _ _ next inv.list_only_is c.has_one_of-list_only.ensures in
    let full = given_next (codes "H") words i bytes _ _ next inv.full_is c.has_one_of-full.ensures in
    let wrong = other_word_fault (take i words) bytes _ (Some c.in-Some.kind)
    (sym c.is_codim_word.ensures.value ∙ c.if-is_codim_word.false)
    (both_next (codes "p") (codes "H") words i bytes _ _ next list_only full)
    (sym c.letters_fault.ensures ∙ c.in-Some.is) in
    inv.so_far ∙ fault_found nef_fault words i bytes c.in-Some.kind next wrong

pub loop-place-preserved : goal.loop-place-preserved
loop-place-preserved c =
    let words = map string_bytes c.args.further.now in
    let i = c.loop-place.place in
    let bytes = c.as_bytes-bytes.result.now in
    let inv = c.loop-place.invariant in
    let next = next_word c.args.further.now i _ bytes c.loop-place-test.true c.index-further-place.is c.as_bytes-bytes.ensures.value in
    let list_only = given_next (codes "p") words i bytes _ _ next inv.list_only_is c.has_one_of-list_only.ensures in
    let full = given_next (codes "H") words i bytes _ _ next inv.full_is c.has_one_of-full.ensures in
    let is = sym c.is_codim_word.ensures.value in
    let given = codim_given_next words i bytes next c.loop-place.codim c.is_codim_word.result inv.codim_given
    c.is_codim_word.ensures.value in
    elim c.if-is_codim_word.branch [
      | then-is_codim_word+in-Ok w ↦
          let right = codim_word_fault (take i words) bytes c.loop-place.codim None (is ∙ w.if-is_codim_word.true) inv.codim_given
          (no_codim_fault (drop 2 bytes) c.loop-place.codim w.in-Ok.ensures.0 w.in-Ok.ensures.1) in
          record {
            so_far = inv.so_far ∙ fault_passed nef_fault words i bytes next right;
            list_only_is = list_only;
            full_is = full;
            codim_given = ap is_some w.codim-is ∙ sym (or_true (is_some c.loop-place.codim))
                ∙ ap (λ (b : Bool). is_some c.loop-place.codim || b) (sym w.if-is_codim_word.true) ∙ given;
            codim_is = codim_found words i bytes next c.loop-place.codim w.in-Ok.number w.in-Ok.ensures.0 (is ∙ w.if-is_codim_word.true)
                w.in-Ok.ensures.2 inv.codim_is
                ∙ sym (ap (λ (o : Option ℕ). unwrap_or o (codim_of (drop (i + 1) words))) w.codim-is);
          }
      | else-is_codim_word+in_default w ↦
          let right = other_word_fault (take i words) bytes _ None (is ∙ w.if-is_codim_word.false)
          (both_next (codes "p") (codes "H") words i bytes _ _ next list_only full)
          (sym w.letters_fault.ensures ∙ w.in_default.is) in
          record {
            so_far = inv.so_far ∙ fault_passed nef_fault words i bytes next right;
            list_only_is = list_only;
            full_is = full;
            codim_given = ap is_some w.codim-is ∙ sym (or_false (is_some c.loop-place.codim))
                ∙ ap (λ (b : Bool). is_some c.loop-place.codim || b) (sym w.if-is_codim_word.false) ∙ given;
            codim_is = codim_stays words i bytes next c.loop-place.codim (is ∙ w.if-is_codim_word.false) inv.codim_is
                ∙ sym (ap (λ (o : Option ℕ). unwrap_or o (codim_of (drop (i + 1) words))) w.codim-is);
          }
    ]
