use Rattle.std.proofs.Common.{rules, ◌≡◌, ℕ, ◌≤◌, length, List, drop, map, string_bytes, String, Global, Bool, Ok, Err, sym, ap, ◌∙◌}
use Rattle.std.proofs.lemmas.List.{length-map}
use Rattle.palp_words.specs.Words.{without_options}
use Rattle.palp_words.proofs.SizeWords.{StartsAt, cws_answer, cws_size_wrong, cws_low_wrong, cws_high_wrong, cws_extra, cws_right}
use Rattle.palp_words.specs.declared.job.Job.TheVariants.{Cws}
use Rattle.palp_words.proofs.cws.read_cws.Goals as goal

starts : (further : List (String Global)) (start : ℕ) → drop start (map string_bytes further) ≡ without_options (map string_bytes further)
    → start ≤ length further → StartsAt (map string_bytes further) start
starts further start rest within = record { rest = rest; within = simp length-map within }

pub returns-in_err-dim : goal.returns-in_err-dim
returns-in_err-dim c =
    let words = map (string_bytes {Z = Global}) c.args.further.now in
    let s = starts c.args.further.now c.options_end-start.result c.options_end-start.ensures.rest c.options_end-start.ensures.within in
    let fault = c.in_err-dim.field-0.0 in
    let e : cws_answer words ≡ Err fault = cws_size_wrong words _ s fault c.in_err-dim.ensures.0 c.in_err-dim.ensures.1 in
    search (rules, e)

pub returns-in_err-low : goal.returns-in_err-low
returns-in_err-low c =
    let words = map (string_bytes {Z = Global}) c.args.further.now in
    let s = starts c.args.further.now c.options_end-start.result c.options_end-start.ensures.rest c.options_end-start.ensures.within in
    let fault = c.in_err-low.field-0.0 in
    let e : cws_answer words ≡ Err fault = cws_low_wrong words _ s c.in_ok-dim.dim 0 0 c.in_ok-dim.ensures.0 c.in_ok-dim.ensures.1 fault
    c.in_err-low.ensures.0 c.in_err-low.ensures.1 in
    search (rules, e)

pub returns-in_err-high : goal.returns-in_err-high
returns-in_err-high c =
    let words = map (string_bytes {Z = Global}) c.args.further.now in
    let s = starts c.args.further.now c.options_end-start.result c.options_end-start.ensures.rest c.options_end-start.ensures.within in
    let fault = c.in_err-high.field-0.0 in
    let e : cws_answer words ≡ Err fault =
    cws_high_wrong words _ s c.in_ok-dim.dim c.in_ok-low.low _ c.in_ok-dim.ensures.0 c.in_ok-dim.ensures.1
    c.in_ok-low.ensures.0 c.in_ok-low.ensures.1 c.highest.ensures fault c.in_err-high.ensures.0 c.in_err-high.ensures.1 in
    search (rules, e)

pub returns-then-end-further : goal.returns-then-end-further
returns-then-end-further c =
    let words = map (string_bytes {Z = Global}) c.args.further.now in
    let s = starts c.args.further.now c.options_end-start.result c.options_end-start.ensures.rest c.options_end-start.ensures.within in
    cws_extra words _ s c.in_ok-dim.dim c.in_ok-low.low _ c.in_ok-dim.ensures.0 c.in_ok-dim.ensures.1
    c.in_ok-low.ensures.0 c.in_ok-low.ensures.1 c.highest.ensures c.in_ok-high.ensures.0
    c.options_end-end.result c.options_end-end.ensures.rest (simp length-map c.if-end-further.true)

pub returns : goal.returns
returns c =
    let words = map (string_bytes {Z = Global}) c.args.further.now in
    let s = starts c.args.further.now c.options_end-start.result c.options_end-start.ensures.rest c.options_end-start.ensures.within in
    cws_right words _ s c.in_ok-dim.dim c.in_ok-low.low _ c.in_ok-dim.ensures.0 c.in_ok-dim.ensures.1
    c.in_ok-low.ensures.0 c.in_ok-low.ensures.1 c.highest.ensures c.in_ok-high.ensures.0
    c.options_end-end.result c.in_ok-high.high c.options_end-end.ensures.rest (simp length-map c.if-end-further.false)
    c.in_ok-high.ensures.1
    ∙ ap (λ (b : Bool). Ok (Cws (record { dim = c.in_ok-dim.dim; low = c.in_ok-low.low; high = c.in_ok-high.high; reflexive_only = b })))
    (sym c.has_option-reflexive_only.ensures)
