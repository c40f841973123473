-- What a call of a reader answers, from what its steps answer.
use Rattle.std.proofs.Common.{◌≡◌, ◌≢◌, ℕ, ◌+◌, ◌-◌, ◌<◌, ◌≤◌, ◌⊎◌, inl, inr, Bool, true, false, cond, List, [], ◌++◌, length, take, drop, Option, Some, None, Result, Ok, Err, refl, sym, ap, subst, ◌∙◌, arith, length-append, length-drop, append_assoc}
use Rattle.std.specs.Prelude.{nat_le, slice_index, IfSome}
use Rattle.std.specs.Io.KnownBytes.{IsAtEnd}
use Rattle.std.proofs.lemmas.List.{append-nil, take-append-le}
use Rattle.std.proofs.lemmas.Bool.Decides.{nat_tests}
use Rattle.palp_io.specs.Source.{SourceState, HasEnded, Passes}
use Rattle.palp_io.proofs.SourceLemmas.{Passes-told}
use Rattle.palp_input.specs.Pieces.{line_feed}
use Rattle.palp_input.specs.ItemSteps.{IsLineEnd}
use Rattle.palp_input.specs.Grammar.{Listed, listed, Next, Nothing, Given, Faulty, Known, Beyond, next_within, ends_within, next_of, most_bytes, line_feeds, column_behind, text_fault}
use Rattle.palp_input.specs.Reading.{ReaderState, IsNextItem, IsNextTaken, GivesItem, AnswerMeans}
use Rattle.palp_input.specs.ReaderSteps.{IsReader, LastMeans}
use Rattle.palp_input.specs.declared.fault.ItemFault.{ItemFault}
use Rattle.palp_input.specs.declared.fault.TextFault.{TextFault}
use Rattle.palp_input.specs.declared.fault.NextFault.{NextFault}
use Rattle.palp_input.specs.declared.fault.NextFault.TheVariants.{Text, TooLong, Read, NoMemory}
use Rattle.palp_input.specs.declared.item.Item.{Item}
use Rattle.palp_input.proofs.SettledItems.{EndsBefore, item_before, fault_before, next_settled}
use Rattle.palp_input.proofs.SettledEnds.{feed_last, whole_settled}
use Rattle.std.proofs.lemmas.Bool.{cases_eq}
use Rattle.palp_input.proofs.FaultPlaces.{fault_place}

-- the first item of a text is known where it ends early enough
pub known_item : (room : ℕ) (text : List ℕ) (item : Listed) (end : ℕ) → next_of text ≡ Given item end → end ≤ room
    → next_within room text ≡ Known (Given item end)
known_item room text item end e le = cases (nat_le (length text) room)
  where
    early : nat_le end room ≡ true
    early = grind (arith, nat_tests, le)

    cases : (b : Bool) → cond b (Known (next_of text)) (ends_within room (next_of text)) ≡ Known (Given item end)
    cases true = ap Known e
    cases false = ap (ends_within room) e ∙ ap (λ (b : Bool). cond b (Known (Given item end)) Beyond) early

pub known_fault : (room : ℕ) (text : List ℕ) (fault : ItemFault) → next_of text ≡ Faulty fault → fault.end ≤ room
    → next_within room text ≡ Known (Faulty fault)
known_fault room text fault e le = cases (nat_le (length text) room)
  where
    early : nat_le fault.end room ≡ true
    early = grind (arith, nat_tests, le)

    cases : (b : Bool) → cond b (Known (next_of text)) (ends_within room (next_of text)) ≡ Known (Faulty fault)
    cases true = ap Known e
    cases false = ap (ends_within room) e ∙ ap (λ (b : Bool). cond b (Known (Faulty fault)) Beyond) early

-- a text that isn't too long is known, and another is by the end of its first item
pub known_text : (room : ℕ) (text : List ℕ) → length text ≤ room → next_within room text ≡ Known (next_of text)
known_text room text le =
    let short : nat_le (length text) room ≡ true = grind (arith, nat_tests, le) in
    ap (λ (b : Bool). cond b (Known (next_of text)) (ends_within room (next_of text))) short

pub long_text : (room : ℕ) (text : List ℕ) → room < length text → next_within room text ≡ ends_within room (next_of text)
long_text room text lt =
    let long : nat_le (length text) room ≡ false = grind (arith, nat_tests, lt) in
    ap (λ (b : Bool). cond b (Known (next_of text)) (ends_within room (next_of text))) long

-- what ends in the beginning of a text is the first item of the text
pub settled : (first more : List ℕ) → EndsBefore (length first) (next_of first) → next_of (first ++ more) ≡ next_of first
settled first more h =
    let same = append-nil first in
    next_settled first [] more (subst (λ (text : List ℕ). EndsBefore (length first) (next_of text)) (sym same) h) ∙ ap next_of same

-- an item that ends with a line end in the beginning of a text is the first item of the text
pub line_settled_item : (first more : List ℕ) (item : Listed) (end : ℕ) → 1 ≤ end → end ≤ length first → next_of first ≡ Given item end
    → slice_index first (end - 1) ≡ line_feed → next_of (first ++ more) ≡ Given item end
line_settled_item first more item end some inside e line = cases (cases_eq end (length first))
  where
    cases : ((end ≡ length first) ⊎ (end ≢ length first)) → next_of (first ++ more) ≡ Given item end
    cases (inl all) = whole_settled first more (feed_last first (subst (λ (n : ℕ). 1 ≤ n) all some)
        (subst (λ (n : ℕ). slice_index first (n - 1) ≡ line_feed) all line)) item end e
    cases (inr less) = settled first more
        (subst (λ (n : Next). EndsBefore (length first) n) (sym e) (item_before (length first) item end (omega arith))) ∙ e

-- nothing that ends early enough stands in a beginning that is longer: nor does it in the text
pub beyond_settled : (room : ℕ) (first more : List ℕ) → room < length first → ends_within room (next_of first) ≡ Beyond
    → ends_within room (next_of (first ++ more)) ≡ Beyond
beyond_settled room first more lt h = cases (next_of (first ++ more)) refl
  where
    same : EndsBefore (length first) (next_of (first ++ more)) → next_of first ≡ next_of (first ++ more)
    same ends = ap next_of (sym (append-nil first)) ∙ next_settled first more [] ends

    item_case : (item : Listed) (end : ℕ) (b : Bool) → nat_le end room ≡ b → next_of (first ++ more) ≡ Given item end
        → cond b (Known (Given item end)) Beyond ≡ Beyond
    item_case item end false t e = refl
    item_case item end true t e =
        let early : end < length first = grind (arith, nat_tests, t, lt) in
        let here = same (subst (λ (n : Next). EndsBefore (length first) n) (sym e) (item_before (length first) item end early)) ∙ e in
        sym (ap (λ (b : Bool). cond b (Known (Given item end)) Beyond) t) ∙ sym (ap (ends_within room) here) ∙ h

    fault_case : (fault : ItemFault) (b : Bool) → nat_le fault.end room ≡ b → next_of (first ++ more) ≡ Faulty fault
        → cond b (Known (Faulty fault)) Beyond ≡ Beyond
    fault_case fault false t e = refl
    fault_case fault true t e =
        let early : fault.end < length first = grind (arith, nat_tests, t, lt) in
        let here = same (subst (λ (n : Next). EndsBefore (length first) n) (sym e) (fault_before (length first) fault early)) ∙ e in
        sym (ap (λ (b : Bool). cond b (Known (Faulty fault)) Beyond) t) ∙ sym (ap (ends_within room) here) ∙ h

    cases : (next : Next) → next_of (first ++ more) ≡ next → ends_within room next ≡ Beyond
    cases Nothing e = refl
    cases (Given item end) e = item_case item end (nat_le end room) refl e
    cases (Faulty fault) e = fault_case fault (nat_le fault.end room) refl e

-- what a source that tells its bytes had left: the bytes taken, and more
pub record MoreLeft (left bytes : List ℕ) (left_now : Option (List ℕ)) : Type 0 where
  pub more : List ℕ
  pub is : left ≡ bytes ++ more
  pub told : left_now ≡ Some more

pub more_left : (source now : SourceState) (left bytes : List ℕ) → source.left ≡ Some left → Passes source now bytes
    → MoreLeft left bytes now.left
more_left source now left bytes tells passes =
    let next = Passes-told source now left bytes tells passes in record { more = next.0; is = next.2; told = next.1 }

nothing_more : (more : List ℕ) (left : Option (List ℕ)) → left ≡ Some more → IsAtEnd left → more ≡ []
nothing_more more (Some other) e h = let same : other ≡ more = cc in sym same ∙ h
nothing_more more None e h = cc

-- where the taking stopped: the source has ended, or the bytes are one more than a text may have
abbrev pub Stopped : ℕ → List ℕ → SourceState → Bool → Type 0
Stopped bytes held source ended = ((ended ≡ true) × HasEnded source) ⊎ (bytes + length held ≡ most_bytes + 1)

-- the rest of the text, where so many of its bytes are held
pub rest_is : (held bytes left more : List ℕ) → left ≡ bytes ++ more → held ++ left ≡ (held ++ bytes) ++ more
rest_is held bytes left more e = ap (λ (xs : List ℕ). held ++ xs) e ∙ sym (append_assoc held bytes more)

-- an item or a fault that ends early enough in the bytes held is the first one of the rest
next_is : (passed : ℕ) (held more : List ℕ) (source : SourceState) (ended : Bool) (next : Next) → source.left ≡ Some more
    → next_of held ≡ next
    → Stopped passed held source ended → (passed + length held ≡ most_bytes + 1 → EndsBefore (length held) next)
    → next_of (held ++ more) ≡ next
next_is passed held more source ended next told e (inl h) early =
    ap (λ (xs : List ℕ). next_of (held ++ xs)) (nothing_more more source.left told h.1.nothing_left) ∙ ap next_of (append-nil held) ∙ e
next_is passed held more source ended next told e (inr all) early =
    settled held more (subst (λ (n : Next). EndsBefore (length held) n) (sym e) (early all)) ∙ e

earlier : (passed end size : ℕ) → passed + end ≤ most_bytes → passed + size ≡ most_bytes + 1 → end < size
earlier passed end size le all = omega arith

module _ (before : ReaderState) (bytes : List ℕ) (source source_now : SourceState) (ended : Bool)
    (stopped : Stopped before.bytes (before.held ++ bytes) source_now ended) (passes : Passes source source_now bytes) where
  -- the item
  item_told : (item : Listed) (end : ℕ) → before.bytes + end ≤ most_bytes → next_of (before.held ++ bytes) ≡ Given item end
      → (l : Option (List ℕ)) → source.left ≡ l → IsNextItem before l (Known (Given item end))
  item_told item end le e None tells = tt
  item_told item end le e (Some left) tells =
      let m = more_left source source_now left bytes tells passes in
      let early : before.bytes + length (before.held ++ bytes) ≡ most_bytes + 1
      → EndsBefore (length (before.held ++ bytes)) (Given item end) =
      λ all. item_before (length (before.held ++ bytes)) item end (earlier before.bytes end (length (before.held ++ bytes)) le all) in
      known_item (most_bytes - before.bytes) (before.held ++ left) item end
      (ap next_of (rest_is before.held bytes left m.more m.is)
      ∙ next_is before.bytes (before.held ++ bytes) m.more source_now ended (Given item end) m.told e stopped early)
      (omega (arith, le))

  pub item_next : (item : Listed) (end : ℕ) → before.bytes + end ≤ most_bytes → next_of (before.held ++ bytes) ≡ Given item end
      → IsNextItem before source.left (Known (Given item end))
  item_next item end le e = item_told item end le e source.left refl

  fault_told : (fault : ItemFault) → before.bytes + fault.end ≤ most_bytes → next_of (before.held ++ bytes) ≡ Faulty fault
      → (l : Option (List ℕ)) → source.left ≡ l → IsNextItem before l (Known (Faulty fault))
  fault_told fault le e None tells = tt
  fault_told fault le e (Some left) tells =
      let m = more_left source source_now left bytes tells passes in
      let early : before.bytes + length (before.held ++ bytes) ≡ most_bytes + 1
      → EndsBefore (length (before.held ++ bytes)) (Faulty fault) =
      λ all. fault_before (length (before.held ++ bytes)) fault (earlier before.bytes fault.end (length (before.held ++ bytes)) le all) in
      known_fault (most_bytes - before.bytes) (before.held ++ left) fault
      (ap next_of (rest_is before.held bytes left m.more m.is)
      ∙ next_is before.bytes (before.held ++ bytes) m.more source_now ended (Faulty fault) m.told e stopped early)
      (omega (arith, le))

  pub fault_next : (fault : ItemFault) → before.bytes + fault.end ≤ most_bytes → next_of (before.held ++ bytes) ≡ Faulty fault
      → IsNextItem before source.left (Known (Faulty fault))
  fault_next fault le e = fault_told fault le e source.left refl

-- what a reader holds
pub held_most : (position bytes lines : ℕ) (items : List ℕ) (next_take : ℕ) (live ended : Bool) (now : ReaderState)
    → IsReader position bytes lines items next_take
    → record { bytes = bytes; lines = lines; held = drop position items; live = live; ended = ended } ≡ now
    → (now.bytes + length now.held ≤ most_bytes + 1) × (now.bytes ≤ most_bytes)
held_most position bytes lines items next_take live ended now h e =
    subst (λ (s : ReaderState). (s.bytes + length s.held ≤ most_bytes + 1) × (s.bytes ≤ most_bytes)) e
    (omega (arith, h.most, length-drop position items), h.passed_most)

-- an item of the bytes held and taken
pub gives_item : (before now : ReaderState) (bytes held : List ℕ) (source : SourceState) (item : Item) (end : ℕ)
    → before.held ++ bytes ≡ held → 1 ≤ end → end ≤ length held → before.bytes + end ≤ most_bytes → next_of held ≡ Given (listed item) end
    → now ≡ record {
      bytes = before.bytes + end;
      lines = before.lines + line_feeds (take end held);
      held = drop end held;
      live = true;
      ended = now.ended;
    }
    → IsNextItem before source.left (Known (Given (listed item) end)) → (slice_index held (end - 1) ≢ line_feed → now.ended ≡ true)
    → GivesItem before now bytes source item
gives_item before now bytes held source item end e some within most first parts next unless = record {
  end = end;
  some = some;
  within = subst (λ (xs : List ℕ). end ≤ length xs) (sym e) within;
  most = most;
  is_first = ap next_of e ∙ first;
  parts = parts ∙ ap (λ (xs : List ℕ). record {
    bytes = before.bytes + end;
    lines = before.lines + line_feeds (take end xs);
    held = drop end xs;
    live = true;
    ended = now.ended;
  }) (sym e);
  is_next = next;
  ended_unless = λ no_end. unless (λ line_end. no_end (ap (λ (xs : List ℕ). slice_index xs (end - 1)) e ∙ line_end));
}

pub at_least : (n : ℕ) → n ≤ n
at_least n = omega arith

-- the parts after an item, with the reader's own flag
pub own_flag : (before now : ReaderState) (end : ℕ) (held : List ℕ)
    → now ≡ record {
      bytes = before.bytes + end;
      lines = before.lines + line_feeds (take end held);
      held = drop end held;
      live = true;
      ended = before.ended;
    }
    → now ≡ record {
      bytes = before.bytes + end;
      lines = before.lines + line_feeds (take end held);
      held = drop end held;
      live = true;
      ended = now.ended;
    }
own_flag before now end held e =
    e ∙ ap (λ (b : Bool). record {
      bytes = before.bytes + end;
      lines = before.lines + line_feeds (take end held);
      held = drop end held;
      live = true;
      ended = b;
    })
    (sym (ap (λ (s : ReaderState). s.ended) e))

-- the text up to a fault
same_place : (lines : ℕ) (held bytes left more : List ℕ) (fault : ItemFault) → left ≡ bytes ++ more → fault.at ≤ length (held ++ bytes)
    → text_fault lines (held ++ bytes) fault ≡ text_fault lines (held ++ left) fault
same_place lines held bytes left more fault e le =
    let front : take fault.at (held ++ left) ≡ take fault.at (held ++ bytes) =
    ap (take fault.at) (rest_is held bytes left more e) ∙ take-append-le fault.at (held ++ bytes) more le in
    ap (λ (xs : List ℕ). record { kind = fault.kind; line = lines + line_feeds xs + 1; column = column_behind 1 xs }) (sym front)

module _ (before : ReaderState) (bytes : List ℕ) (source source_now : SourceState) (passes : Passes source source_now bytes) where
  pub fault_told_at : (fault : TextFault) (item_fault : ItemFault) → next_of (before.held ++ bytes) ≡ Faulty item_fault
      → fault ≡ text_fault before.lines (before.held ++ bytes) item_fault
      → (l : Option (List ℕ)) → source.left ≡ l → IfSome l (λ xs. fault ≡ text_fault before.lines (before.held ++ xs) item_fault)
  fault_told_at fault item_fault e place None tells = tt
  fault_told_at fault item_fault e place (Some xs) tells =
      let m = more_left source source_now xs bytes tells passes in
      place ∙ same_place before.lines before.held bytes xs m.more item_fault m.is (fault_place (before.held ++ bytes) item_fault e)

-- the reader once bytes were taken
abbrev pub took : ReaderState → List ℕ → Bool → ReaderState
took before bytes ended = record { bytes = before.bytes; lines = before.lines; held = before.held ++ bytes; live = false; ended = ended }

room_less : (passed size : ℕ) → passed ≤ most_bytes → most_bytes < passed + size → most_bytes - passed < size
room_less passed size le h = omega arith

pub room_of : (passed size : ℕ) → passed + size ≤ most_bytes → size ≤ most_bytes - passed
room_of passed size le = omega arith

module _ (before : ReaderState) (bytes : List ℕ) (source source_now : SourceState) (ended : Bool)
    (passed_most : before.bytes ≤ most_bytes) (passes : Passes source source_now bytes)
    (stopped : Stopped before.bytes (before.held ++ bytes) source_now ended) where
  has_ended : before.bytes + length (before.held ++ bytes) ≤ most_bytes → (ended ≡ true) × HasEnded source_now
  has_ended le = elim stopped [ inl h ↦ h | inr all ↦ absurd (omega (arith, le, all)) ]

  last_ended : (end : ℕ) → before.bytes + end ≤ most_bytes → IsLineEnd (before.held ++ bytes) end
      → slice_index (before.held ++ bytes) (end - 1) ≢ line_feed → ended ≡ true
  last_ended end le (inl all) no_end = (has_ended (subst (λ (n : ℕ). before.bytes + n ≤ most_bytes) all le)).0
  last_ended end le (inr line) no_end = absurd (no_end line)

  end_taken : before.bytes + length (before.held ++ bytes) ≤ most_bytes → next_of (before.held ++ bytes) ≡ Nothing
      → IsNextTaken before bytes (Known Nothing)
  end_taken le e = known_text (most_bytes - before.bytes) (before.held ++ bytes) (room_of before.bytes (length (before.held ++ bytes)) le)
      ∙ ap Known e

  end_told : before.bytes + length (before.held ++ bytes) ≤ most_bytes → next_of (before.held ++ bytes) ≡ Nothing
      → (l : Option (List ℕ)) → source.left ≡ l → IsNextItem before l (Known Nothing)
  end_told le e None tells = tt
  end_told le e (Some xs) tells =
      let m = more_left source source_now xs bytes tells passes in
      let all : before.held ++ xs ≡ before.held ++ bytes = rest_is before.held bytes xs m.more m.is
      ∙ ap (λ (ys : List ℕ). (before.held ++ bytes) ++ ys) (nothing_more m.more source_now.left m.told (has_ended le).1.nothing_left)
      ∙ append-nil (before.held ++ bytes) in
      ap (next_within (most_bytes - before.bytes)) all ∙ end_taken le e

  beyond_taken : most_bytes < before.bytes + length (before.held ++ bytes)
      → ends_within (most_bytes - before.bytes) (next_of (before.held ++ bytes)) ≡ Beyond
      → IsNextTaken before bytes Beyond
  beyond_taken lt e = long_text (most_bytes - before.bytes) (before.held ++ bytes)
      (room_less before.bytes (length (before.held ++ bytes)) passed_most lt) ∙ e

  beyond_told : most_bytes < before.bytes + length (before.held ++ bytes)
      → ends_within (most_bytes - before.bytes) (next_of (before.held ++ bytes)) ≡ Beyond
      → (l : Option (List ℕ)) → source.left ≡ l → IsNextItem before l Beyond
  beyond_told lt e None tells = tt
  beyond_told lt e (Some xs) tells =
      let m = more_left source source_now xs bytes tells passes in
      let room = most_bytes - before.bytes in
      let less = room_less before.bytes (length (before.held ++ bytes)) passed_most lt in
      ap (next_within room) (rest_is before.held bytes xs m.more m.is)
      ∙ long_text room ((before.held ++ bytes) ++ m.more) (omega (arith, less, length-append (before.held ++ bytes) m.more))
      ∙ beyond_settled room (before.held ++ bytes) m.more less e

  pub last_means : (result : Result (Option Item) NextFault) (now : ReaderState) → LastMeans result (took before bytes ended) now
      → AnswerMeans result before now bytes source source_now
  last_means (Ok (Some item)) now h =
      gives_item before now bytes (before.held ++ bytes) source item h.end refl h.some h.most h.within h.is_next
      (own_flag (took before bytes ended) now h.end (before.held ++ bytes) h.passed)
      (item_next before bytes source source_now ended stopped passes (listed item) h.end h.within h.is_next)
      (λ no_end. ap (λ (s : ReaderState). s.ended) h.passed ∙ last_ended h.end h.within h.line_ends no_end)
  last_means (Ok None) now h = record {
    of_taken = end_taken h.within h.is_next;
    is_next = end_told h.within h.is_next source.left refl;
    has_ended = ap (λ (s : ReaderState). s.ended) h.stays ∙ (has_ended h.within).0;
    stops = ap (λ (s : ReaderState). s.live) h.stays;
  }
  last_means (Err (Text fault)) now h = record {
    item_fault = h.item_fault;
    of_taken = known_fault (most_bytes - before.bytes) (before.held ++ bytes) h.item_fault h.is_next
        (room_of before.bytes h.item_fault.end h.within);
    place_taken = h.place;
    is_next = fault_next before bytes source source_now ended stopped passes h.item_fault h.within h.is_next;
    place = fault_told_at before bytes source source_now passes fault h.item_fault h.is_next h.place source.left refl;
    stops = ap (λ (s : ReaderState). s.live) h.stays;
  }
  last_means (Err TooLong) now h = record {
    of_taken = beyond_taken h.longer h.beyond;
    is_next = beyond_told h.longer h.beyond source.left refl;
    stops = ap (λ (s : ReaderState). s.live) h.stays;
  }
  last_means (Err Read) now h = absurd h
  last_means (Err NoMemory) now h = ap (λ (s : ReaderState). s.live) h

  -- the last step keeps the flag
  pub last_flag : (result : Result (Option Item) NextFault) (now : ReaderState) → LastMeans result (took before bytes ended) now → now.ended ≡ ended
  last_flag (Ok (Some item)) now h = ap (λ (s : ReaderState). s.ended) h.passed
  last_flag (Ok None) now h = ap (λ (s : ReaderState). s.ended) h.stays
  last_flag (Err (Text fault)) now h = ap (λ (s : ReaderState). s.ended) h.stays
  last_flag (Err TooLong) now h = ap (λ (s : ReaderState). s.ended) h.stays
  last_flag (Err Read) now h = absurd h
  last_flag (Err NoMemory) now h = ap (λ (s : ReaderState). s.ended) h
