use Rattle.std.proofs.Common.{◌≡◌, ◌<◌, length, pos, ◌<ℤ◌, SFits, w64, rules, arith}
use Rattle.std.specs.Int.{w128}
use Rattle.std.proofs.lemmas.Int.{to_z-of_z}
use Rattle.std.specs.List.{All}
use Rattle.lattice_theory.specs.Vector.{entry}
use Rattle.weight_frame.specs.steps.Places.{IsFirstPlace}
use Rattle.weight_frame.proofs.Reaching.{vector_at}
use Rattle.weight_frame.proofs.Finding.{next_is, zero_before_lead, first_positive, no_zeros, all_long}
use Rattle.weight_frame.proofs.coordinates.next_coordinate.Goals as goal

pub bounds-x-place : goal.bounds-x-place
bounds-x-place c =
    let b = c.index-vectors-found.result in
    let place = c.in-Some.place in
    let given : IsFirstPlace c.entries-vector.result.now place = c.in-Some.ensures in
    let first : IsFirstPlace b place = rw c.entries-vector.ensures.value at given in
    let at = vector_at (length c.args.x.now) c.args.vectors.now (length c.args.found.now) b c.requires.small c.requires.some
    c.index-vectors-found.is in
    let within : place < length c.args.x.now = rw at.dimension at first.within in
    within

pub first_place-requires : goal.first_place-requires
first_place-requires c =
    let zeros = zero_before_lead c.args.vectors.now (length c.args.found.now) c.index-vectors-found.result c.requires.leads c.requires.some
    c.index-vectors-found.is in
    record { zeros = rw c.entries-vector.ensures.value zeros }

pub combined_entry-requires : goal.combined_entry-requires
combined_entry-requires c =
    let b = c.index-vectors-found.result in
    let place = c.in-Some.place in
    let given : IsFirstPlace c.entries-vector.result.now place = c.in-Some.ensures in
    let first : IsFirstPlace b place = rw c.entries-vector.ensures.value at given in
    let at = vector_at (length c.args.x.now) c.args.vectors.now (length c.args.found.now) b c.requires.small c.requires.some
    c.index-vectors-found.is in
    let within : place < length c.args.x.now = rw at.dimension at first.within in
    record {
      count = omega arith;
      most = c.requires.most;
      dimension = all_long (length c.args.x.now) place c.args.vectors.now within c.requires.small.dimension;
      entries = c.requires.small.within;
      coefficients = c.requires.found;
    }

pub quotient_of-requires : goal.quotient_of-requires
quotient_of-requires c =
    let b = c.index-vectors-found.result in
    let place = c.in-Some.place in
    let given : IsFirstPlace c.entries-vector.result.now place = c.in-Some.ensures in
    let first : IsFirstPlace b place = rw c.entries-vector.ensures.value at given in
    let at = vector_at (length c.args.x.now) c.args.vectors.now (length c.args.found.now) b c.requires.small c.requires.some
    c.index-vectors-found.is in
    let within : place < length c.args.x.now = rw at.dimension at first.within in
    let s : SFits w128 c.combined_entry.result = search rules in
    let d : SFits w64 (entry c.entries-vector.result.now place) = search rules in
    let positive : pos 0 <ℤ entry c.entries-vector.result.now place =
    rw c.entries-vector.ensures.value
    (first_positive c.args.vectors.now (length c.args.found.now) b place c.requires.some c.requires.leads c.index-vectors-found.is
    first) in
    record { small = simp to_z-of_z c.combined_entry.ensures.bound; positive = simp to_z-of_z positive }

pub unreachable-requires : goal.unreachable-requires
unreachable-requires c =
    let given : All (λ a. a ≡ pos 0) c.entries-vector.result.now = c.in-None.ensures in
    no_zeros c.args.vectors.now (length c.args.found.now) c.index-vectors-found.result c.requires.some c.requires.leads
    c.index-vectors-found.is (rw c.entries-vector.ensures.value at given)

pub returns : goal.returns
returns c =
    let b = c.index-vectors-found.result in
    let place = c.in-Some.place in
    let given : IsFirstPlace c.entries-vector.result.now place = c.in-Some.ensures in
    let first : IsFirstPlace b place = rw c.entries-vector.ensures.value at given in
    let at = vector_at (length c.args.x.now) c.args.vectors.now (length c.args.found.now) b c.requires.small c.requires.some
    c.index-vectors-found.is in
    let within : place < length c.args.x.now = rw at.dimension at first.within in
    let s : SFits w128 c.combined_entry.result = search rules in
    let d : SFits w64 (entry c.entries-vector.result.now place) = search rules in
    let x : SFits w64 (entry c.args.x.now place) = search rules in
    let q : SFits w128 c.quotient_of.result = search rules in
    let value = simp to_z-of_z at c.quotient_of.ensures in
    let value' = rw c.entries-vector.ensures.value at value in
    simp to_z-of_z (next_is c.args.x.now c.args.vectors.now c.args.found.now b place c.combined_entry.result c.quotient_of.result
    c.requires.some c.requires.leads c.index-vectors-found.is first c.combined_entry.ensures.value value')
