use Rattle.std.proofs.Common.{◌≡◌, ℕ, nat_lt, sym, ap, ◌∙◌, arith}
use Rattle.std.specs.List.{filter, range_with_len}
use Rattle.poset_g.specs.Stored.{find_at}
use Rattle.poset_g.proofs.Ranges.{filter_none, none_below, more_kept}
use Rattle.poset_g.proofs.sums.find_above.Goals as goal

pub loop-face-init : goal.loop-face-init
loop-face-init c = record {
  faces = c.clear.ensures.items ∙ sym (filter_none (λ z. nat_lt 0 (find_at c.args.places.now c.args.from z)) c.args.from
      (none_below c.args.places.now c.args.from c.requires.lower));
}

pub loop-face-preserved : goal.loop-face-preserved
loop-face-preserved c = record {
  faces = more_kept (λ z. nat_lt 0 (find_at c.args.places.now c.args.from z)) c.loop-face.face c.loop-face.faces.items c.push_with.new.faces.items
      c.loop-face.invariant.faces c.in_ok-push_with.ensures.faces;
}

ended : (c : goal.After-loop-face) → c.loop-face.face ≡ c.args.places.now.count
ended c = let e = c.loop-face-test.false in let f = c.loop-face.auto.face-end in let g = c.requires.from in let h = c.count-face-end.ensures in omega arith

pub returns-clause-faces : goal.returns-clause-faces
returns-clause-faces c = c.loop-face.invariant.faces
    ∙ ap (λ (n : ℕ). filter (λ z. nat_lt 0 (find_at c.args.places.now c.args.from z)) (range_with_len 0 n)) (ended c)
