-- The reading of a text, item by item.
use Rattle.std.proofs.Common.{◌≡◌, ◌≢◌, ◌⊎◌, inl, inr, [], ℕ, zero, suc, ◌+◌, ◌-◌, ◌<◌, ◌≤◌, Bool, true, false, cond, List, ◌++◌, length, take, drop, Option, Some, None, Ok, Err, refl, sym, ap, subst, ◌∙◌, Result, arith, length-drop}
use Rattle.std.specs.Prelude.{nat_le, slice_index, IfSome}
use Rattle.std.proofs.lemmas.List.{append-nil, take-append-le, drop-append-le}
use Rattle.palp_input.specs.Grammar.{listed, Next, NextWithin, Known, Beyond, Nothing, Given, Faulty, next_of, ends_within, next_within, most_bytes, line_feeds, text_fault, FaultEnd, no_more, with_item, read_next, read_behind, reading_behind}
use Rattle.palp_input.specs.Reading.{ReaderState, GivesItem, IsNextItem}
use Rattle.palp_io.specs.Source.{SourceState}
use Rattle.palp_input.specs.Pieces.{line_feed}
use Rattle.palp_input.specs.declared.fault.ItemFault.{ItemFault}
use Rattle.std.proofs.lemmas.Bool.{cases_eq}
use Rattle.palp_input.specs.Answers.{reading_of, IsAnswer}
use Rattle.palp_input.specs.Laws.{HasAllItems, GoesOn, Ends, EndsFaulty, EndsTooLong, CallsRead, CallsReadTaken, CallsAnswer}
use Rattle.palp_input.specs.declared.fault.TextFault.{TextFault}
use Rattle.palp_input.specs.declared.fault.NextFault.{NextFault}
use Rattle.palp_input.specs.declared.fault.NextFault.TheVariants.{Text, TooLong, Read, NoMemory}
use Rattle.palp_input.specs.declared.item.Item.{Item}
use Rattle.palp_input.proofs.SettledItems.{item_some}
use Rattle.palp_input.proofs.NextAnswers.{more_left, rest_is, known_item, line_settled_item}

-- an item that is known is the first one
ends_known : (room : ℕ) (next known : Next) → ends_within room next ≡ Known known → next ≡ known
ends_known room Nothing known e = cc
ends_known room (Given item end) known e = choose (nat_le end room) e
  where
    choose : (b : Bool) → cond b (Known (Given item end)) Beyond ≡ Known known → Given item end ≡ known
    choose true h = cc
    choose false h = cc
ends_known room (Faulty fault) known e = choose (nat_le fault.end room) e
  where
    choose : (b : Bool) → cond b (Known (Faulty fault)) Beyond ≡ Known known → Faulty fault ≡ known
    choose true h = cc
    choose false h = cc

pub known_first : (room : ℕ) (text : List ℕ) (known : Next) → next_within room text ≡ Known known → next_of text ≡ known
known_first room text known e = choose (nat_le (length text) room) e
  where
    choose : (b : Bool) → cond b (Known (next_of text)) (ends_within room (next_of text)) ≡ Known known → next_of text ≡ known
    choose true h = same (next_of text) h
      where
        same : (next : Next) → Known next ≡ Known known → next ≡ known
        same next h = cc
    choose false h = ends_known room (next_of text) known h

-- fewer bytes stand behind an item
fewer : (size end most : ℕ) → 1 ≤ end → 1 ≤ size → size < suc most → size - end < most
fewer size end most some text lt = omega arith

-- the number of items that is allowed doesn't matter, where it doesn't behind the first item
step_same : (most other bytes lines : ℕ) (rest : List ℕ) (next : NextWithin) → next_within (most_bytes - bytes) rest ≡ next
    → length rest < suc most → length rest < suc other
    → ((b l : ℕ) (xs : List ℕ) → length xs < most → length xs < other → read_behind most b l xs ≡ read_behind other b l xs)
    → read_next bytes lines rest next (λ end. read_behind most (bytes + end) (lines + line_feeds (take end rest)) (drop end rest))
    ≡ read_next bytes lines rest next (λ end. read_behind other (bytes + end) (lines + line_feeds (take end rest)) (drop end rest))
step_same most other bytes lines rest Beyond e lt lt' again = refl
step_same most other bytes lines rest (Known Nothing) e lt lt' again = refl
step_same most other bytes lines rest (Known (Faulty fault)) e lt lt' again = refl
step_same most other bytes lines rest (Known (Given item end)) e lt lt' again =
    let some = item_some rest item end (known_first (most_bytes - bytes) rest (Given item end) e) in
    let less = subst (λ (n : ℕ). n < most) (sym (length-drop end rest)) (fewer (length rest) end most some.0 some.1 lt) in
    let less' = subst (λ (n : ℕ). n < other) (sym (length-drop end rest)) (fewer (length rest) end other some.0 some.1 lt') in
    ap (with_item item (bytes + end)) (again (bytes + end) (lines + line_feeds (take end rest)) (drop end rest) less less')

same_reading : (most other bytes lines : ℕ) (rest : List ℕ) → length rest < most → length rest < other
    → read_behind most bytes lines rest ≡ read_behind other bytes lines rest
same_reading zero other bytes lines rest lt lt' = absurd (omega (arith, lt))
same_reading (suc most) zero bytes lines rest lt lt' = absurd (omega (arith, lt'))
same_reading (suc most) (suc other) bytes lines rest lt lt' =
    step_same most other bytes lines rest (next_within (most_bytes - bytes) rest) refl lt lt' (same_reading most other)

next_more : (n : ℕ) → n < n + 1
next_more n = omega arith

pub has_all_items : HasAllItems
has_all_items most bytes lines rest lt = same_reading most (length rest + 1) bytes lines rest lt (next_more (length rest))

-- one step of a reading
reading_step : (bytes lines : ℕ) (rest : List ℕ) (next : NextWithin) → next_within (most_bytes - bytes) rest ≡ next
    → reading_behind bytes lines rest ≡ read_next bytes lines rest next
    (λ end. read_behind (length rest) (bytes + end) (lines + line_feeds (take end rest)) (drop end rest))
reading_step bytes lines rest next e = plus_one ∙ ap (λ (n : NextWithin). read_next bytes lines rest n
    (λ end. read_behind (length rest) (bytes + end) (lines + line_feeds (take end rest)) (drop end rest))) e
  where
    one : length rest + 1 ≡ suc (length rest)
    one = omega arith

    plus_one : reading_behind bytes lines rest ≡ read_behind (suc (length rest)) bytes lines rest
    plus_one = ap (λ (n : ℕ). read_behind n bytes lines rest) one

pub goes_on : GoesOn
goes_on bytes lines rest item end e =
    let some = item_some rest item end (known_first (most_bytes - bytes) rest (Given item end) e) in
    let less = subst (λ (n : ℕ). n < length rest) (sym (length-drop end rest))
    (fewer (length rest) end (length rest) some.0 some.1 (omega arith)) in
    reading_step bytes lines rest (Known (Given item end)) e
    ∙ ap (with_item item (bytes + end)) (has_all_items (length rest) (bytes + end) (lines + line_feeds (take end rest))
    (drop end rest) less)

pub reading_ends : Ends
reading_ends bytes lines rest e = reading_step bytes lines rest (Known Nothing) e

pub reading_faulty : EndsFaulty
reading_faulty bytes lines rest fault e = reading_step bytes lines rest (Known (Faulty fault)) e

pub reading_too_long : EndsTooLong
reading_too_long bytes lines rest e = reading_step bytes lines rest Beyond e

-- the reading behind an item, by the bytes then held and left
reads_item : (before now : ReaderState) (bytes more : List ℕ) (source : SourceState) (item : Item)
    → (g : GivesItem before now bytes source item)
    → next_within (most_bytes - before.bytes) (before.held ++ (bytes ++ more)) ≡ Known (Given (listed item) g.end)
    → reading_of before (bytes ++ more) ≡ with_item (listed item) now.bytes (reading_of now more)
reads_item before now bytes more source item gives next =
    let rest = before.held ++ (bytes ++ more) in
    let front : take gives.end rest ≡ take gives.end (before.held ++ bytes) =
    ap (take gives.end) (rest_is before.held bytes (bytes ++ more) more refl)
    ∙ take-append-le gives.end (before.held ++ bytes) more gives.within in
    let back : drop gives.end rest ≡ drop gives.end (before.held ++ bytes) ++ more =
    ap (drop gives.end) (rest_is before.held bytes (bytes ++ more) more refl)
    ∙ drop-append-le gives.end (before.held ++ bytes) more gives.within in
    goes_on before.bytes before.lines rest (listed item) gives.end next
    ∙ ap (λ (xs : List ℕ). with_item (listed item) (before.bytes + gives.end)
    (reading_behind (before.bytes + gives.end) (before.lines + line_feeds xs) (drop gives.end rest))) front
    ∙ ap (λ (xs : List ℕ). with_item (listed item) (before.bytes + gives.end)
    (reading_behind (before.bytes + gives.end) (before.lines + line_feeds (take gives.end (before.held ++ bytes))) xs)) back
    ∙ ap (λ (s : ReaderState). with_item (listed item) s.bytes (reading_of s more)) (sym gives.parts)

-- what is told of a source that tells its bytes
told_next : (before : ReaderState) (left : List ℕ) (l : Option (List ℕ)) (next : NextWithin) → l ≡ Some left → IsNextItem before l next
    → next_within (most_bytes - before.bytes) (before.held ++ left) ≡ next
told_next before left l next e h = subst (λ (o : Option (List ℕ)). IsNextItem before o next) e h

told_place : (before : ReaderState) (left : List ℕ) (l : Option (List ℕ)) (fault : TextFault) (item_fault : ItemFault) → l ≡ Some left
    → IfSome l (λ xs. fault ≡ text_fault before.lines (before.held ++ xs) item_fault)
    → fault ≡ text_fault before.lines (before.held ++ left) item_fault
told_place before left l fault item_fault e h =
    subst (λ (o : Option (List ℕ)). IfSome o (λ xs. fault ≡ text_fault before.lines (before.held ++ xs) item_fault)) e h

pub calls_read : CallsRead
calls_read (Ok (Some item)) before now left source source_now tells means =
    let m = more_left source source_now left means.bytes tells means.passes in
    record {
      more = m.more;
      told = m.told;
      reads = ap (reading_of before) m.is ∙ reads_item before now means.bytes m.more source item means.answer
          (ap (λ (xs : List ℕ). next_within (most_bytes - before.bytes) (before.held ++ xs)) (sym m.is)
          ∙ told_next before left source.left _ tells means.answer.is_next);
    }
calls_read (Ok None) before now left source source_now tells means =
    reading_ends before.bytes before.lines (before.held ++ left)
    (told_next before left source.left (Known Nothing) tells means.answer.is_next)
calls_read (Err (Text fault)) before now left source source_now tells means =
    reading_faulty before.bytes before.lines (before.held ++ left) means.answer.item_fault
    (told_next before left source.left (Known (Faulty means.answer.item_fault)) tells means.answer.is_next)
    ∙ ap (λ (fault : TextFault). no_more (FaultEnd fault))
    (sym (told_place before left source.left fault means.answer.item_fault tells means.answer.place))
calls_read (Err TooLong) before now left source source_now tells means =
    reading_too_long before.bytes before.lines (before.held ++ left) (told_next before left source.left Beyond tells means.answer.is_next)
calls_read (Err Read) before now left source source_now tells means = tt
calls_read (Err NoMemory) before now left source source_now tells means = tt

-- an item of the bytes held and taken is the first one, whatever comes behind them, unless the source has ended
item_stays : (before now : ReaderState) (bytes more : List ℕ) (source : SourceState) (item : Item)
    (g : GivesItem before now bytes source item)
    → (now.ended ≡ true → more ≡ [])
    → next_within (most_bytes - before.bytes) (before.held ++ (bytes ++ more)) ≡ Known (Given (listed item) g.end)
item_stays before now bytes more source item g none =
    known_item (most_bytes - before.bytes) (before.held ++ (bytes ++ more)) (listed item) g.end
    (ap next_of (rest_is before.held bytes (bytes ++ more) more refl)
    ∙ cases (cases_eq (slice_index (before.held ++ bytes) (g.end - 1)) line_feed))
    (omega (arith, g.most))
  where
    cases : ((slice_index (before.held ++ bytes) (g.end - 1) ≡ line_feed) ⊎ (slice_index (before.held ++ bytes) (g.end - 1) ≢ line_feed))
        → next_of ((before.held ++ bytes) ++ more) ≡ Given (listed item) g.end
    cases (inl line) = line_settled_item (before.held ++ bytes) more (listed item) g.end g.some g.within g.is_first line
    cases (inr no_end) = ap (λ (xs : List ℕ). next_of ((before.held ++ bytes) ++ xs)) (none (g.ended_unless no_end))
        ∙ ap next_of (append-nil (before.held ++ bytes)) ∙ g.is_first

pub calls_read_taken : CallsReadTaken
calls_read_taken (Ok (Some item)) before now source source_now means = λ more none.
    reads_item before now means.bytes more source item means.answer (item_stays before now means.bytes more source item means.answer none)
calls_read_taken (Ok None) before now source source_now means =
    reading_ends before.bytes before.lines (before.held ++ means.bytes) means.answer.of_taken
calls_read_taken (Err (Text fault)) before now source source_now means =
    reading_faulty before.bytes before.lines (before.held ++ means.bytes) means.answer.item_fault means.answer.of_taken
    ∙ ap (λ (fault : TextFault). no_more (FaultEnd fault)) (sym means.answer.place_taken)
calls_read_taken (Err TooLong) before now source source_now means =
    reading_too_long before.bytes before.lines (before.held ++ means.bytes) means.answer.of_taken
calls_read_taken (Err Read) before now source source_now means = tt
calls_read_taken (Err NoMemory) before now source source_now means = tt

-- each answer is the one to what is next
answer_is : (result : Result (Option Item) NextFault) (before : ReaderState) (rest : List ℕ) (next now : NextWithin) → now ≡ next
    → IsAnswer before rest next result
    → IsAnswer before rest now result
answer_is result before rest next now e h = subst (λ (n : NextWithin). IsAnswer before rest n result) (sym e) h

pub calls_answer : CallsAnswer
calls_answer (Ok (Some item)) before now left source source_now tells means read memory =
    let gives = means.answer in
    answer_is (Ok (Some item)) before (before.held ++ left) (Known (Given (listed item) gives.end)) _
    (told_next before left source.left _ tells gives.is_next) (item, refl, refl)
calls_answer (Ok None) before now left source source_now tells means read memory =
    answer_is (Ok None) before (before.held ++ left) (Known Nothing) _
    (told_next before left source.left (Known Nothing) tells means.answer.is_next) refl
calls_answer (Err (Text fault)) before now left source source_now tells means read memory =
    let gives = means.answer in
    answer_is (Err (Text fault)) before (before.held ++ left) (Known (Faulty gives.item_fault)) _
    (told_next before left source.left (Known (Faulty gives.item_fault)) tells gives.is_next)
    (ap (λ (t : TextFault). Err (Text t)) (told_place before left source.left fault gives.item_fault tells gives.place))
calls_answer (Err TooLong) before now left source source_now tells means read memory =
    answer_is (Err TooLong) before (before.held ++ left) Beyond _ (told_next before left source.left Beyond tells means.answer.is_next) refl
calls_answer (Err Read) before now left source source_now tells means read memory = absurd (read refl)
calls_answer (Err NoMemory) before now left source source_now tells means read memory = absurd (memory refl)
