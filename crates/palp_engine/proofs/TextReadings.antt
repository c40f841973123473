-- Reading the items of a source one after another.
use Rattle.std.proofs.Common.{◌≡◌, ◌≢◌, ◌⊎◌, inl, inr, ℕ, zero, suc, ◌+◌, ◌-◌, ◌<◌, ◌≤◌, Bool, true, false, List, [], ◌∷◌, ◌++◌, length, drop, take, get_or, Option, Some, None, Result, Ok, refl, sym, ap, subst, ◌∙◌, arith, append_assoc, length-append}
use Rattle.std.specs.Prelude.{slice_index}
use Rattle.std.specs.List.{All}
use Rattle.std.specs.Io.KnownBytes.{IsAtEnd}
use Rattle.std.proofs.lemmas.Bool.{cases_eq}
use Rattle.std.proofs.lemmas.List.{take-append-drop, length-take-le, get_or-take, get_or-append-add}
use Rattle.std.proofs.lemmas.List.Elements.{All-nil, All-push, All-weaker}
use Rattle.palp_io.specs.Source.{SourceState, Passes}
use Rattle.palp_io.proofs.SourceLemmas.{Passes-none, Passes-trans, Passes-told}
use Rattle.palp_input.specs.Pieces.{line_feed}
use Rattle.palp_input.specs.Grammar.{Listed, listed, TextEnd, TextRead, read_text, no_more, with_item, most_bytes}
use Rattle.palp_input.specs.Reading.{ReaderState, IsHanded, NextMeans, GivesItem}
use Rattle.palp_input.specs.Answers.{reading_of}
use Rattle.palp_input.specs.declared.fault.NextFault.{NextFault}
use Rattle.palp_input.specs.declared.item.Item.{Item}
use Rattle.palp_input.proofs.Readings.{calls_read_taken}
use Rattle.palp_engine.specs.Runs.{HavePassed, text_of}
use Rattle.palp_engine.specs.Ended.{HasLineEnd}

-- a reading behind these items, with their ends
abbrev pub with_items : List Listed → List ℕ → TextRead → TextRead
with_items items ends more = record { items = items ++ more.items; ends = ends ++ more.ends; ending = more.ending }

-- A reader that read some items. Whatever comes behind the bytes that were taken, and nothing does once the source has ended: the reading of
-- the text is these items and the reading of what is held and comes behind. While the source hasn't ended each of them ends with a line end.
pub record ReadSoFar (source source_now : SourceState) (reader : ReaderState) (items : List Listed) : Type 0 where
  pub passed : List ℕ
  pub passes : Passes source source_now (passed ++ reader.held)
  pub count : length passed ≡ reader.bytes
  pub most : reader.bytes ≤ most_bytes
  pub bound : length (passed ++ reader.held) ≤ most_bytes + 1
  pub few : length items ≤ reader.bytes
  pub live : reader.live ≡ true
  pub later : source.faults ≤ source_now.faults
  pub handed : IsHanded reader source_now
  pub ends : List ℕ
  pub as_many : length ends ≡ length items
  pub taken : (more : List ℕ) → (reader.ended ≡ true → more ≡ [])
      → read_text ((passed ++ reader.held) ++ more) ≡ with_items items ends (reading_of reader more)
  pub ended : reader.ended ≡ false → All (HasLineEnd passed) ends

at_least : (n : ℕ) → n ≤ n
at_least n = omega arith

none_within : 0 ≤ most_bytes + 1
none_within = omega arith

none_most : 0 ≤ most_bytes
none_most = omega arith

-- no call
abbrev fresh : ReaderState
fresh = record { bytes = 0; lines = 0; held = []; live = true; ended = false }

pub read_nothing : (source : SourceState) (reader : ReaderState)
    → reader ≡ record { bytes = 0; lines = 0; held = []; live = true; ended = false } → ReadSoFar source source reader []
read_nothing source reader r = subst (λ (s : ReaderState). ReadSoFar source source s []) (sym r) (record {
  passed = [];
  passes = Passes-none source;
  count = refl;
  most = none_most;
  bound = none_within;
  few = at_least 0;
  live = refl;
  later = at_least source.faults;
  handed = λ e. absurd (cc);
  ends = [];
  as_many = refl;
  taken = λ more none. refl;
  ended = λ e. All-nil (HasLineEnd []);
})

-- line ends of a text that is longer
line_end_more : (bytes more : List ℕ) (at : ℕ) → slice_index bytes at ≡ line_feed → slice_index (bytes ++ more) at ≡ line_feed
line_end_more [] more at h = absurd (cc)
line_end_more (byte ∷ bytes) more zero h = h
line_end_more (byte ∷ bytes) more (suc at) h = line_end_more bytes more at h

pub has_line_end_more : (bytes more : List ℕ) (end : ℕ) → HasLineEnd bytes end → HasLineEnd (bytes ++ more) end
has_line_end_more bytes more end h = line_end_more bytes more (end - 1) h

-- reading on behind one more item
abbrev reading_as : TextEnd → List Listed → List ℕ → TextRead
reading_as ending items ends = record { items = items; ends = ends; ending = ending }

with_more : (items : List Listed) (ends : List ℕ) (item : Listed) (end : ℕ) (more : TextRead)
    → with_items items ends (with_item item end more) ≡ with_items (items ++ item ∷ []) (ends ++ end ∷ []) more
with_more items ends item end more =
    ap (λ (xs : List Listed). reading_as more.ending xs (ends ++ end ∷ more.ends)) (sym (append_assoc items (item ∷ []) more.items))
    ∙ ap (λ (xs : List ℕ). reading_as more.ending ((items ++ item ∷ []) ++ more.items) xs) (sym (append_assoc ends (end ∷ []) more.ends))

-- lists of bytes that are put together
split_again : (passed held bytes now : List ℕ) (end : ℕ) → now ≡ drop end (held ++ bytes)
    → (passed ++ take end (held ++ bytes)) ++ now ≡ (passed ++ held) ++ bytes
split_again passed held bytes now end e =
    ap (λ (xs : List ℕ). (passed ++ take end (held ++ bytes)) ++ xs) e
    ∙ append_assoc passed (take end (held ++ bytes)) (drop end (held ++ bytes))
    ∙ ap (λ (xs : List ℕ). passed ++ xs) (take-append-drop end (held ++ bytes))
    ∙ sym (append_assoc passed held bytes)

-- the byte in front of an item's end, in the bytes passed with it
end_place : (size end : ℕ) → 1 ≤ end → size + end - 1 ≡ size + (end - 1)
end_place size end some = omega arith

before_end : (end : ℕ) → 1 ≤ end → end - 1 < end
before_end end some = omega arith

passed_line_end : (passed rest : List ℕ) (end now : ℕ) → 1 ≤ end → now ≡ length passed + end → slice_index rest (end - 1) ≡ line_feed
    → HasLineEnd (passed ++ take end rest) now
passed_line_end passed rest end now some e h =
    ap (λ (n : ℕ). get_or (passed ++ take end rest) (n - 1) 0) e
    ∙ ap (λ (n : ℕ). get_or (passed ++ take end rest) n 0) (end_place (length passed) end some)
    ∙ get_or-append-add passed (take end rest) (end - 1) 0
    ∙ get_or-take end rest (end - 1) 0 (before_end end some) ∙ h

-- what had not ended now hadn't before
open_before : (before now : Bool) → (before ≡ true → now ≡ true) → now ≡ false → before ≡ false
open_before true now keeps e = let k = keeps refl in cc
open_before false now keeps e = refl

not_ended : {Z : Type 0} (now : Bool) → now ≡ true → now ≡ false → Z
not_ended now e f = absurd (cc)

plus_all : (before held bytes : ℕ) (passed all : ℕ) → passed ≡ before → before + held + bytes ≤ most_bytes + 1 → all ≡ passed + held + bytes
    → all ≤ most_bytes + 1
plus_all before held bytes passed all e h s = omega (arith, e, h, s)

one_item_more : (few before end now all : ℕ) → few ≤ before → 1 ≤ end → now ≡ before + end → all ≡ few + 1 → all ≤ now
one_item_more few before end now all h some e f = omega arith

module _ (source middle last : SourceState) (before now : ReaderState) (items : List Listed)
    (so_far : ReadSoFar source middle before items) where
  -- the bytes that were taken, with the next call
  module _ (result : Result (Option Item) NextFault) (m : NextMeans result before now middle last) where
    abbrev pub all_bytes : List ℕ
    all_bytes = (so_far.passed ++ before.held) ++ m.bytes

    all_length : length all_bytes ≡ length so_far.passed + length before.held + length m.bytes
    all_length = length-append (so_far.passed ++ before.held) m.bytes
        ∙ ap (λ (n : ℕ). n + length m.bytes) (length-append so_far.passed before.held)

    all_bound : length all_bytes ≤ most_bytes + 1
    all_bound = plus_all before.bytes (length before.held) (length m.bytes) (length so_far.passed) (length all_bytes) so_far.count m.most
        all_length

    all_later : source.faults ≤ last.faults
    all_later = omega (arith, so_far.later, m.later)

    pub all_passed : HavePassed source last all_bytes
    all_passed = record {
      passes = Passes-trans source middle last (so_far.passed ++ before.held) m.bytes so_far.passes m.passes;
      bound = all_bound;
      later = all_later;
    }

  -- nothing comes behind bytes of which the last were taken at the end
  none_behind : (bytes more : List ℕ) → (before.ended ≡ true → bytes ≡ []) → (before.ended ≡ true → now.ended ≡ true)
      → (now.ended ≡ true → more ≡ [])
      → before.ended ≡ true → bytes ++ more ≡ []
  none_behind bytes more nothing keeps none e = ap (λ (xs : List ℕ). xs ++ more) (nothing e) ∙ none (keeps e)

  module _ (item : Item) (m : NextMeans (Ok (Some item)) before now middle last) where
    abbrev rest : List ℕ
    rest = before.held ++ m.bytes

    abbrev passed_now : List ℕ
    passed_now = so_far.passed ++ take m.answer.end rest

    split_now : passed_now ++ now.held ≡ all_bytes (Ok (Some item)) m
    split_now =
        split_again so_far.passed before.held m.bytes now.held m.answer.end (ap (λ (s : ReaderState). s.held) m.answer.parts)

    bytes_now : now.bytes ≡ length so_far.passed + m.answer.end
    bytes_now = ap (λ (s : ReaderState). s.bytes) m.answer.parts ∙ ap (λ (n : ℕ). n + m.answer.end) (sym so_far.count)

    count_now : length passed_now ≡ now.bytes
    count_now = length-append so_far.passed (take m.answer.end rest)
        ∙ ap (λ (n : ℕ). length so_far.passed + n) (length-take-le m.answer.end rest m.answer.within) ∙ sym bytes_now

    taken_now : (more : List ℕ) → (now.ended ≡ true → more ≡ [])
        → read_text (all_bytes (Ok (Some item)) m ++ more)
        ≡ with_items (items ++ listed item ∷ []) (so_far.ends ++ now.bytes ∷ []) (reading_of now more)
    taken_now more none =
        ap read_text (append_assoc (so_far.passed ++ before.held) m.bytes more)
        ∙ so_far.taken (m.bytes ++ more) (none_behind m.bytes more (λ e. (m.untaken e).nothing) m.keeps none)
        ∙ ap (with_items items so_far.ends) (calls_read_taken (Ok (Some item)) before now middle last m more none)
        ∙ with_more items so_far.ends (listed item) now.bytes (reading_of now more)

    line_now : now.ended ≡ false → ((slice_index rest (m.answer.end - 1) ≡ line_feed) ⊎ (slice_index rest (m.answer.end - 1) ≢ line_feed))
        → HasLineEnd passed_now now.bytes
    line_now still (inl line) = passed_line_end so_far.passed rest m.answer.end now.bytes m.answer.some bytes_now line
    line_now still (inr none) = not_ended now.ended (m.answer.ended_unless none) still

    ended_now : now.ended ≡ false → All (HasLineEnd passed_now) (so_far.ends ++ now.bytes ∷ [])
    ended_now still = All-push (HasLineEnd passed_now) so_far.ends now.bytes
        (All-weaker (HasLineEnd so_far.passed) (HasLineEnd passed_now)
        (λ end h. has_line_end_more so_far.passed (take m.answer.end rest) end h) so_far.ends
        (so_far.ended (open_before before.ended now.ended m.keeps still)))
        (line_now still (cases_eq (slice_index rest (m.answer.end - 1)) line_feed))

    pub read_item : ReadSoFar source last now (items ++ listed item ∷ [])
    read_item = record {
      passed = passed_now;
      passes = subst (λ (xs : List ℕ). Passes source last xs) (sym split_now) (all_passed (Ok (Some item)) m).passes;
      count = count_now;
      most = subst (λ (s : ReaderState). s.bytes ≤ most_bytes) (sym m.answer.parts) m.answer.most;
      bound = subst (λ (xs : List ℕ). length xs ≤ most_bytes + 1) (sym split_now) (all_passed (Ok (Some item)) m).bound;
      few = one_item_more (length items) before.bytes m.answer.end now.bytes (length (items ++ listed item ∷ [])) so_far.few
          m.answer.some (ap (λ (s : ReaderState). s.bytes) m.answer.parts) (length-append items (listed item ∷ []));
      live = ap (λ (s : ReaderState). s.live) m.answer.parts;
      later = (all_passed (Ok (Some item)) m).later;
      handed = m.handed;
      ends = so_far.ends ++ now.bytes ∷ [];
      as_many = length-append so_far.ends (now.bytes ∷ []) ∙ ap (λ (n : ℕ). n + 1) so_far.as_many
          ∙ sym (length-append items (listed item ∷ []));
      taken = λ more none. ap (λ (xs : List ℕ). read_text (xs ++ more)) split_now ∙ taken_now more none;
      ended = ended_now;
    }

-- fewer bytes are left to pass
pub passes_more : (before now : ReaderState) (bytes : List ℕ) (source : SourceState) (item : Item)
    → GivesItem before now bytes source item → most_bytes + 1 - now.bytes + 1 ≤ most_bytes + 1 - before.bytes
passes_more before now bytes source item g =
    let passed = ap (λ (s : ReaderState). s.bytes) g.parts in
    omega (arith, g.some, g.most, passed)

-- The text of a run behind the bytes that were taken: what the source told that it had left, or the bytes of a last call.
pub record TextBehind (source middle : SourceState) (reader : ReaderState) (first bytes : List ℕ) : Type 0 where
  pub more : List ℕ
  pub text_is : text_of source.left (first ++ bytes) ≡ first ++ more
  pub none : reader.ended ≡ true → more ≡ []
  pub which : (more ≡ bytes) ⊎ (middle.left ≡ Some more)

nothing_left : (more : List ℕ) (left : Option (List ℕ)) → left ≡ Some more → IsAtEnd left → more ≡ []
nothing_left more (Some other) e h = let same : other ≡ more = cc in sym same ∙ h
nothing_left more None e h = cc

module _ (source middle : SourceState) (reader : ReaderState) (items : List Listed) (so_far : ReadSoFar source middle reader items) where
  abbrev first : List ℕ
  first = so_far.passed ++ reader.held

  text_by : (bytes : List ℕ) → (reader.ended ≡ true → bytes ≡ []) → (left : Option (List ℕ)) → source.left ≡ left
      → TextBehind source middle reader first bytes
  text_by bytes nothing None e = record {
    more = bytes;
    text_is = ap (λ (o : Option (List ℕ)). text_of o (first ++ bytes)) e;
    none = nothing;
    which = inl refl;
  }
  text_by bytes nothing (Some text) e =
      let told = Passes-told source middle text first e so_far.passes in
      record {
        more = told.0;
        text_is = ap (λ (o : Option (List ℕ)). text_of o (first ++ bytes)) e ∙ told.2;
        none = λ end. nothing_left told.0 middle.left told.1 (so_far.handed end).nothing_left;
        which = inr told.1;
      }

  pub text_behind : (bytes : List ℕ) → (reader.ended ≡ true → bytes ≡ []) → TextBehind source middle reader first bytes
  text_behind bytes nothing = text_by bytes nothing source.left refl

  -- the reading of the text of a run has the items read so far
  pub text_reading : (bytes : List ℕ) → (t : TextBehind source middle reader first bytes)
      → read_text (text_of source.left (first ++ bytes)) ≡ with_items items so_far.ends (reading_of reader t.more)
  text_reading bytes t = ap read_text t.text_is ∙ so_far.taken t.more t.none

  -- and ends behind them where a call finds no further item
  pub text_ends : (ending : TextEnd) (bytes : List ℕ) (t : TextBehind source middle reader first bytes)
      → reading_of reader bytes ≡ no_more ending → ((more : List ℕ) → middle.left ≡ Some more → reading_of reader more ≡ no_more ending)
      → read_text (text_of source.left (first ++ bytes)) ≡ with_items items so_far.ends (no_more ending)
  text_ends ending bytes t of_taken of_told = text_reading bytes t ∙ ap (with_items items so_far.ends) (by t.which)
    where
      by : ((t.more ≡ bytes) ⊎ (middle.left ≡ Some t.more)) → reading_of reader t.more ≡ no_more ending
      by (inl e) = ap (reading_of reader) e ∙ of_taken
      by (inr told) = of_told t.more told
