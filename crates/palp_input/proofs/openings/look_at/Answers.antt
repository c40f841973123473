use Rattle.std.proofs.Common.{◌≡◌, ℕ, ◌-◌, Bool, true, false, List, length, take, drop, sym, ap, subst, ◌∙◌, length-drop}
use Rattle.std.specs.Prelude.{IsTrue}
use Rattle.std.specs.List.{Contains}
use Rattle.std.proofs.Math.Seq.{take-length}
use Rattle.palp_input.specs.Pieces.{line_feed}
use Rattle.palp_input.proofs.Gaps.{gaps_no_item}
use Rattle.palp_input.proofs.HeldOpenings.{no_item_longer}
use Rattle.palp_input.proofs.openings.look_at.Goals as goal

not_found : (text : List ℕ) (from looked : ℕ) (found : Bool) → from ≡ looked - 1
    → (Contains (take (length text - from) (drop from text)) line_feed → IsTrue found) → found ≡ false
    → Contains (drop (looked - 1) text) line_feed → ⊥
not_found text from looked found same h no_feed feed =
    let all : take (length text - from) (drop from text) ≡ drop from text =
    ap (λ (n : ℕ). take n (drop from text)) (sym (length-drop from text)) ∙ take-length (drop from text) in
    let here = subst (λ (bytes : List ℕ). Contains bytes line_feed) (sym (all ∙ ap (λ (n : ℕ). drop n text) same)) feed in
    let no : false ≡ true = sym no_feed ∙ h here in cc

pub returns-then-not-has_line_end : goal.returns-then-not-has_line_end
returns-then-not-has_line_end c = record {
  no_item = no_item_longer c.args.text.now c.args.looked c.requires.within c.requires.seen.no_item
      (not_found c.args.text.now c.saturating_sub.result c.args.looked c.has_line_end.result c.saturating_sub.ensures c.has_line_end.ensures.1
      c.if-not-has_line_end.true);
  means = c.longer-opening.ensures;
}

pub returns-in-Blank : goal.returns-in-Blank
returns-in-Blank c =
    let gaps = c.in-Blank.ensures in
    record { no_item = gaps_no_item c.args.text.now gaps; means = gaps }
