use Rattle.std.proofs.Common.{◌≡◌, ◌≤◌, ◌^◌, length, sym, ap, ◌∙◌, arith}
use Rattle.lattice_core.specs.Weights.{weighted_all, columns_of}
use Rattle.weight_frame.specs.Answers.{Framed}
use Rattle.weight_frame.proofs.Frames.{frame_small}
use Rattle.weight_frame.proofs.Largest.{largest_of_all}
use Rattle.weight_frame.proofs.Finding.{combination_in}
use Rattle.weight_frame.proofs.frame.Frame.from_frame.Goals as goal

pub combine-requires : goal.combine-requires
combine-requires c =
    let inside = c.self.inside in
    let held = inside.vectors.items in
    let n = columns_of (weighted_all inside.systems.items) in
    let vectors : held ≡ c.args.self.now.vectors = ap (λ (f : Framed). f.vectors) c.self.view_is in
    let columns : n ≡ columns_of c.args.self.now.systems = ap (λ (f : Framed). columns_of f.systems) c.self.view_is in
    let small = frame_small (weighted_all inside.systems.items) held c.self.invariant.is_frame in
    let same : c.as_slice.result.now ≡ held = c.as_slice.ensures.value in
    let count : length c.entries.result.now ≡ length c.as_slice.result.now = ap length c.entries.ensures.value ∙ c.requires.dimension
    ∙ ap length (sym vectors ∙ sym same) in
    let most : length c.as_slice.result.now ≤ 6 = rw same c.self.invariant.most in
    record {
      count = omega arith;
      most = most;
      small = rw (same, c.requires.columns, sym columns) small;
      coefficients = rw c.entries.ensures.value (let h = largest_of_all c.args.y.now (2 ^ 30) c.requires.small in omega arith);
    }

pub returns : goal.returns
returns c =
    let vectors = ap (λ (f : Framed). f.vectors) c.self.view_is in
    combination_in _ _ _ _ _ _ c.combine.new.out c.requires.columns c.entries.ensures.value (c.as_slice.ensures.value ∙ vectors)
    c.combine.ensures
