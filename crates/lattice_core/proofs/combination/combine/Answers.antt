use Rattle.std.proofs.Common.{length, ap, inl, sym, ◌∙◌}
use Rattle.lattice_core.proofs.Combinations.{answer_is}
use Rattle.lattice_core.proofs.combination.combine.Goals as goal

pub through-requires : goal.through-requires
through-requires c =
    let h = c.requires.fixed in
    let same = c.deref.ensures.0 ∙ c.combined_normal.ensures.normal h.function h.combination in
    record {
      least = c.entries.ensures.least;
      most = c.entries.ensures.most;
      dimension = ap length same ∙ h.combination.dimension ∙ sym (ap length c.entries.ensures.value);
      small = inl (rw c.deref.ensures.0 c.combined_normal.ensures.small);
    }

pub returns : goal.returns
returns c =
    let h = c.requires.fixed in
    let same = c.deref.ensures.0 ∙ c.combined_normal.ensures.normal h.function h.combination in
    answer_is c.args.f.now c.args.g.now h.function c.through.result c.args.p.now _ h.combination same c.through.ensures.normal
    (rw c.entries.ensures.value at c.through.ensures.constant)
