use Rattle.std.proofs.Common.{◌≡◌, ◌+◌, ◌<◌, ◌≤◌, length, refl, sym, ap, subst, arith}
use Rattle.lattice_core.specs.Weights.{Weighted, weighted}
use Rattle.weight_enum.specs.Searched.{Searched, IsSystemAt, HasSystems}
use Rattle.weight_enum.specs.steps.Places.{IsPlace}
use Rattle.weight_enum.specs.declared.search.Listed.{Listed}
use Rattle.weight_enum.proofs.Places.{given_place, given_system, all_given, none_left, split_at}
use Rattle.weight_enum.proofs.search.IpSearch.next.Goals as goal

pub invariant_of-self-in-Some : goal.invariant_of-self-in-Some
invariant_of-self-in-Some c =
    let s = c.self.inside in
    let old : Listed = c.fill.new.listed in
    let new : Listed = record { next = old.next; systems = old.systems; place = old.place + 1 } in
    let p : IsPlace s.dim s.low s.high s.given old = c.in_ok-fill.ensures.kept s.low s.given c.self.invariant in
    let same : c.deref.result.now ≡ old.systems.items = c.deref.ensures.value in
    let long = ap length same in
    let inside : old.place < length c.deref.result.now = c.in-Some.ensures.lookup.3.0 in
    let within : old.place < length old.systems.items = omega (arith, inside, long) in
    let split = split_at old.systems.items c.deref.result.now old.place c.in-Some.system.now same within c.in-Some.ensures.lookup.1 in
    given_place s.dim s.low s.high s.given old c.in-Some.system.now p split new within refl refl refl

pub returns-in-None-clause-gives : goal.returns-in-None-clause-gives
returns-in-None-clause-gives c =
    let s = c.self.inside in
    let old : Listed = c.fill.new.listed in
    let p : IsPlace s.dim s.low s.high s.given old = c.in_ok-fill.ensures.kept s.low s.given c.self.invariant in
    let long = ap length c.deref.ensures.value in
    let past : length c.deref.result.now ≤ old.place = c.in-None.ensures.lookup.3 in
    let past' : length old.systems.items ≤ old.place = omega (arith, past, long) in
    let has : HasSystems s.dim s.low s.high s.given = all_given s.dim s.low s.high s.given old p past' (none_left s.high old past' c.in_ok-fill.ensures.filled) in
    let state : Searched = record { dim = s.dim; low = s.low; high = s.high; given = s.given } in
    subst (λ (t : Searched). (state ≡ t) × HasSystems t.dim t.low t.high t.given) c.self.view_is (refl, has)

pub returns-in_ok-system-in-Some-clause-gives : goal.returns-in_ok-system-in-Some-clause-gives
returns-in_ok-system-in-Some-clause-gives c =
    let s = c.self.inside in
    let old : Listed = c.fill.new.listed in
    let p : IsPlace s.dim s.low s.high s.given old = c.in_ok-fill.ensures.kept s.low s.given c.self.invariant in
    let same : c.deref.result.now ≡ old.systems.items = c.deref.ensures.value in
    let long = ap length same in
    let inside : old.place < length c.deref.result.now = c.in-Some.ensures.lookup.3.0 in
    let within : old.place < length old.systems.items = omega (arith, inside, long) in
    let split = split_at old.systems.items c.deref.result.now old.place c.in-Some.system.now same within c.in-Some.ensures.lookup.1 in
    let given = given_system s.dim s.low s.high s.given old c.in-Some.system.now p split in
    let copy = subst (λ (t : Weighted). IsSystemAt s.dim s.low s.high s.given t) (sym c.in_ok-system-in-Some.ensures) given in
    let state : Searched = record { dim = s.dim; low = s.low; high = s.high; given = s.given + 1 } in
    subst (λ (t : Searched). (state ≡ record { dim = t.dim; low = t.low; high = t.high; given = t.given + 1 })
    × IsSystemAt t.dim t.low t.high t.given (weighted c.in_ok-system-in-Some.system)) c.self.view_is (refl, copy)
