use Rattle.std.proofs.Common.{map, string_bytes, Global}
use Rattle.std.proofs.lemmas.List.{length-map}
use Rattle.palp_words.proofs.Sweeping.{one_too_many, high_right}
use Rattle.palp_words.proofs.sweep.read_sweep.Goals as goal

pub returns-then-further-gt3 : goal.returns-then-further-gt3
returns-then-further-gt3 c =
    let words = map (string_bytes {Z = Global}) c.args.further.now in
    one_too_many words
    (record {
      dim = c.in_ok-dim.ensures.0;
      low = c.in_ok-low.ensures.0;
      high = high_right words _ _ _ c.in_ok-dim.ensures.1 c.in_ok-low.ensures.1 c.highest.ensures c.in_ok-high.ensures.0;
    })
    (simp length-map c.if-further-gt3.true)
