use Rattle.std.proofs.Common.{◌≡◌, ℕ, ◌+◌, ◌<◌, ◌^◌, Option, Some, None, Fits, w64, subst, arith, rules}
use Rattle.std.proofs.lemmas.Result.{err_from_is_err_and}
use Rattle.lattice_core.specs.declared.weights.WeightSystem.{WeightSystem}
use Rattle.weight_enum.specs.Searched.{Searched, GivesSystem}
use Rattle.weight_lists.proofs.CwsLoops.{cws_unlisted, cws_nothing, cws_front, listed_small, cws_system, cws_next_few, cws_stopped, cws_more, cws_closed}
use Rattle.weight_lists.proofs.listing.list_systems.Goals as goal

-- what the search gave
given : (search after : Searched) (o known : Option WeightSystem) → o ≡ known → GivesSystem search after o → GivesSystem search after known
given search after o known e g = subst (GivesSystem search after) e g

small : (n : ℕ) → n < 2 ^ 61 → Fits w64 n
small n h = search rules

pub returns-in_err-search : goal.returns-in_err-search
returns-in_err-search g c =
    let e = err_from_is_err_and c.from_residual.result c.from_residual.ensures.1 in
    let words = c.args.words.now in
    rw e.1 (cws_unlisted words.reflexive_only words.dim words.low words.high _ e.0 e.2 c.requires)

pub returns-in_err-page : goal.returns-in_err-page
returns-in_err-page g c =
    let e = err_from_is_err_and c.from_residual-in_err-page.result c.from_residual-in_err-page.ensures.1 in
    let words = c.args.words.now in
    rw e.1 (cws_unlisted words.reflexive_only words.dim words.low words.high _ e.0 e.2 c.requires)

pub loop-page-init : goal.loop-page-init
loop-page-init g c =
    let words = c.args.words.now in
    cws_nothing words.reflexive_only words.dim words.low words.high _ c.in_ok-search.search c.requires c.in_ok-search.ensures

pub returns-in_err-system : goal.returns-in_err-system
returns-in_err-system g c =
    let e = err_from_is_err_and c.from_residual-in_err-system.result c.from_residual-in_err-system.ensures.1 in
    let words = c.args.words.now in
    rw e.1 (cws_front words.reflexive_only words.dim words.low words.high _ c.loop-page.search c.loop-page.number c.loop-page.listed _
    c.loop-page.invariant e.0 e.2)

pub returns-in_default : goal.returns-in_default
returns-in_default g c =
    let words = c.args.words.now in
    cws_closed words.reflexive_only words.dim words.low words.high _ c.loop-page.search c.loop-page.number c.loop-page.listed _
    c.loop-page.invariant c.next.new.self
    (given c.loop-page.search c.next.new.self c.in_ok-system.field-0 None c.in_default.is c.in_ok-system.ensures.gives) _ c.close.result
    c.close.ensures

pub list_system-requires : goal.list_system-requires
list_system-requires g c =
    let words = c.args.words.now in
    cws_system words.reflexive_only words.dim words.low words.high _ c.loop-page.search c.loop-page.number c.loop-page.listed _
    c.loop-page.invariant c.next.new.self c.in-Some.system
    (given c.loop-page.search c.next.new.self c.in_ok-system.field-0 (Some c.in-Some.system) c.in-Some.is c.in_ok-system.ensures.gives)

pub overflow_add-number : goal.overflow_add-number
overflow_add-number g c =
    let words = c.args.words.now in
    small (c.loop-page.number + 1) (cws_next_few words.reflexive_only words.dim words.low words.high _ c.loop-page.search c.loop-page.number
    c.loop-page.listed _ c.loop-page.invariant c.next.new.self c.in-Some.system
    (given c.loop-page.search c.next.new.self c.in_ok-system.field-0 (Some c.in-Some.system) c.in-Some.is c.in_ok-system.ensures.gives))

pub returns-in_err-listed : goal.returns-in_err-listed
returns-in_err-listed g c =
    let e = err_from_is_err_and c.from_residual-in_err-listed.result c.from_residual-in_err-listed.ensures.1 in
    let words = c.args.words.now in
    rw e.1 (cws_stopped words.reflexive_only words.dim words.low words.high _ c.loop-page.search c.loop-page.number c.loop-page.listed _
    c.loop-page.invariant c.next.new.self c.in-Some.system
    (given c.loop-page.search c.next.new.self c.in_ok-system.field-0 (Some c.in-Some.system) c.in-Some.is c.in_ok-system.ensures.gives) _
    c.in_err-listed.field-0.0 e.0 e.2 c.in_err-listed.ensures)

pub overflow_add-listed : goal.overflow_add-listed
overflow_add-listed g c =
    let words = c.args.words.now in
    let next = cws_next_few words.reflexive_only words.dim words.low words.high _ c.loop-page.search c.loop-page.number
    c.loop-page.listed _ c.loop-page.invariant c.next.new.self c.in-Some.system
    (given c.loop-page.search c.next.new.self c.in_ok-system.field-0 (Some c.in-Some.system) c.in-Some.is c.in_ok-system.ensures.gives) in
    let most = listed_small words.reflexive_only words.dim words.low words.high _ c.loop-page.search c.loop-page.number c.loop-page.listed _
    c.loop-page.invariant in
    let after = cws_more words.reflexive_only words.dim words.low words.high _ c.loop-page.search c.loop-page.number c.loop-page.listed _
    c.loop-page.invariant c.next.new.self c.in-Some.system
    (given c.loop-page.search c.next.new.self c.in_ok-system.field-0 (Some c.in-Some.system) c.in-Some.is c.in_ok-system.ensures.gives) _
    c.in_ok-listed.field-0 c.in_ok-listed.ensures in
    let within = listed_small words.reflexive_only words.dim words.low words.high _ c.next.new.self (c.loop-page.number + 1)
    (c.loop-page.listed + c.in_ok-listed.field-0) _ after in
    small (c.loop-page.listed + c.in_ok-listed.field-0) (omega (arith, next, within))

pub loop-page-smaller : goal.loop-page-smaller
loop-page-smaller g c =
    let words = c.args.words.now in
    let next = cws_next_few words.reflexive_only words.dim words.low words.high _ c.loop-page.search c.loop-page.number
    c.loop-page.listed _ c.loop-page.invariant c.next.new.self c.in-Some.system
    (given c.loop-page.search c.next.new.self c.in_ok-system.field-0 (Some c.in-Some.system) c.in-Some.is c.in_ok-system.ensures.gives) in
    omega (arith, next)

pub loop-page-preserved : goal.loop-page-preserved
loop-page-preserved g c =
    let words = c.args.words.now in
    cws_more words.reflexive_only words.dim words.low words.high _ c.loop-page.search c.loop-page.number c.loop-page.listed _
    c.loop-page.invariant c.next.new.self c.in-Some.system
    (given c.loop-page.search c.next.new.self c.in_ok-system.field-0 (Some c.in-Some.system) c.in-Some.is c.in_ok-system.ensures.gives) _
    c.in_ok-listed.field-0 c.in_ok-listed.ensures
