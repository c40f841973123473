use Rattle.std.proofs.Common.{◌≡◌, ◌<◌, ◌≤◌, length, get_or, nat_abs, ap, ◌∙◌, SFits, w64, rules, arith}
use Rattle.std.specs.Int.{w128}
use Rattle.std.proofs.lemmas.Int.{to_z-of_z}
use Rattle.lattice_theory.specs.Vector.{entry}
use Rattle.lattice_core.specs.declared.limits.TheConstants.{MOST_FRAME_ENTRY}
use Rattle.weight_frame.proofs.Largest.{entry_at_most}
use Rattle.lattice_core.specs.Weights.{weighted_all, columns_of}
use Rattle.weight_frame.specs.Answers.{Framed}
use Rattle.weight_frame.proofs.Frames.{frame_small}
use Rattle.weight_frame.proofs.Reaching.{vector_at}
use Rattle.weight_frame.proofs.frame.Frame.entry.Goals as goal

pub bounds-entries-i : goal.bounds-entries-i
bounds-entries-i c =
    let inside = c.self.inside in
    let held = inside.vectors.items in
    let n = columns_of (weighted_all inside.systems.items) in
    let vectors : held ≡ c.args.self.now.vectors = ap (λ (f : Framed). f.vectors) c.self.view_is in
    let columns : n ≡ columns_of c.args.self.now.systems = ap (λ (f : Framed). columns_of f.systems) c.self.view_is in
    let small = frame_small (weighted_all inside.systems.items) held c.self.invariant.is_frame in
    let u = c.index-deref-j.result in
    let within : c.args.j < length held = rw vectors c.requires.vector in
    let is : u ≡ get_or held c.args.j u = c.index-deref-j.is ∙ ap (λ vs. get_or vs c.args.j u) c.deref.ensures.0 in
    let at = vector_at n held c.args.j u small within is in
    let long : length c.entries.result.now ≡ columns_of c.args.self.now.systems = ap length c.entries.ensures.value ∙ at.dimension
    ∙ columns in
    rw long c.requires.place

pub returns-clause-bound : goal.returns-clause-bound
returns-clause-bound c =
    let inside = c.self.inside in
    let held = inside.vectors.items in
    let n = columns_of (weighted_all inside.systems.items) in
    let vectors : held ≡ c.args.self.now.vectors = ap (λ (f : Framed). f.vectors) c.self.view_is in
    let small = frame_small (weighted_all inside.systems.items) held c.self.invariant.is_frame in
    let u = c.index-deref-j.result in
    let within : c.args.j < length held = rw vectors c.requires.vector in
    let is : u ≡ get_or held c.args.j u = c.index-deref-j.is ∙ ap (λ vs. get_or vs c.args.j u) c.deref.ensures.0 in
    let at = vector_at n held c.args.j u small within is in
    let columns : n ≡ columns_of c.args.self.now.systems = ap (λ (f : Framed). columns_of f.systems) c.self.view_is in
    let long : length c.entries.result.now ≡ columns_of c.args.self.now.systems = ap length c.entries.ensures.value ∙ at.dimension
    ∙ columns in
    let place : c.args.i < length c.entries.result.now = rw long c.requires.place in
    let fits : SFits w64 (entry c.entries.result.now c.args.i) = search rules in
    let told : SFits w128 c.from.result = search rules in
    let value : c.from.result ≡ entry c.entries.result.now c.args.i = simp to_z-of_z at c.from.ensures in
    let most : nat_abs (entry u c.args.i) ≤ MOST_FRAME_ENTRY = let h = entry_at_most u c.args.i in let k = at.within in omega arith in
    simp to_z-of_z (rw (value, c.entries.ensures.value) most)
