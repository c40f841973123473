-- What a call of a reader answers, from the takes so far and from what its last step answers.
use Rattle.std.proofs.Common.{◌≡◌, ℕ, ◌+◌, ◌-◌, ◌*◌, ◌<◌, ◌≤◌, ◌⊎◌, inl, inr, Bool, true, false, ◌||◌, cond, List, [], ◌++◌, length, take, Option, Some, None, Result, Ok, Err, refl, sym, ap, subst, ◌∙◌, arith, length-append, append_assoc}
use Rattle.std.specs.Prelude.{nat_lt, slice_index}
use Rattle.std.proofs.lemmas.List.{append-nil}
use Rattle.std.proofs.lemmas.Bool.Decides.{nat_tests}
use Rattle.std.proofs.Math.Seq.{take-append_seam}
use Rattle.palp_io.specs.Source.{SourceState}
use Rattle.palp_io.proofs.SourceLemmas.{Passes-none, Passes-trans}
use Rattle.palp_io.proofs.FaultLemmas.{Rose-late}
use Rattle.palp_input.specs.Pieces.{line_feed}
use Rattle.palp_input.specs.Grammar.{Listed, listed, Given, Faulty, Known, next_of, most_bytes}
use Rattle.palp_input.specs.Reading.{ReaderState, IsNextItem, IsHanded, NextMeans, AnswerMeans, HasNoItem}
use Rattle.palp_input.specs.OpeningSteps.{Seen}
use Rattle.palp_input.specs.ReaderSteps.{IsHeldItem, IsHeldFault, HeldMeans, TakeMoreMeans, LastMeans}
use Rattle.palp_input.proofs.Takes.{TakenSoFar}
use Rattle.palp_input.specs.declared.fault.ItemFault.{ItemFault}
use Rattle.palp_input.specs.declared.fault.NextFault.{NextFault}
use Rattle.palp_input.specs.declared.fault.NextFault.TheVariants.{Text, TooLong, Read, NoMemory}
use Rattle.palp_input.specs.declared.openings.Opening.{Opening}
use Rattle.palp_input.specs.declared.openings.Opening.TheVariants.{Blank}
use Rattle.palp_input.specs.declared.item.Item.{Item}
use Rattle.palp_input.proofs.Gaps.{gaps_no_item}
use Rattle.palp_input.proofs.SettledItems.{EndsBefore, fault_before}
use Rattle.palp_input.proofs.NextAnswers.{known_item, known_fault, settled, line_settled_item, more_left, rest_is, Stopped, took, gives_item, own_flag, at_least, fault_told_at, room_of, last_means, last_flag}

-- before the first take
pub none_so_far : (before now : ReaderState) (source : SourceState) → now ≡ record before { live = false } → IsHanded before source
    → before.bytes + length before.held ≤ most_bytes + 1 → TakenSoFar before now source source
none_so_far before now source e handed most = record {
  bytes = [];
  passes = Passes-none source;
  most = omega (arith, most);
  later = at_least source.faults;
  untaken = λ h. record { nothing = refl; same = refl };
  handed = λ h. handed (sym (ap (λ (s : ReaderState). s.ended) e) ∙ h);
  keeps = λ h. ap (λ (s : ReaderState). s.ended) e ∙ h;
  held = e ∙ ap (λ (xs : List ℕ). record before { held = xs; live = false }) (sym (append-nil before.held))
      ∙ ap (λ (b : Bool). record before { held = before.held ++ []; live = false; ended = b }) (sym (ap (λ (s : ReaderState). s.ended) e));
}

-- what the reader has before a take or a last step
pub all_or_room : (ended all : Bool) (size : ℕ) → all ≡ (ended || nat_lt most_bytes size) → all ≡ false → (ended ≡ false) × (size ≤ most_bytes)
all_or_room true all size is h = cc
all_or_room false all size is h = let less = sym is ∙ h in (refl, grind (arith, nat_tests))

module _ (before taken : ReaderState) (source source_now : SourceState) (t : TakenSoFar before taken source source_now) where
  bytes_same : taken.bytes ≡ before.bytes
  bytes_same = ap (λ (s : ReaderState). s.bytes) t.held

  held_same : taken.held ≡ before.held ++ t.bytes
  held_same = ap (λ (s : ReaderState). s.held) t.held

  -- an answer that keeps the flag
  with_answer : (result : Result (Option Item) NextFault) (now : ReaderState) → AnswerMeans result before now t.bytes source source_now
      → now.ended ≡ taken.ended → NextMeans result before now source source_now
  with_answer result now answer flag = record {
    bytes = t.bytes;
    passes = t.passes;
    most = t.most;
    later = t.later;
    untaken = t.untaken;
    handed = λ e. t.handed (sym flag ∙ e);
    keeps = λ e. flag ∙ t.keeps e;
    answer = answer;
  }

  -- an item that has its line end among the bytes
  item_told : (item : Listed) (end : ℕ) → 1 ≤ end → end ≤ length (before.held ++ t.bytes) → before.bytes + end ≤ most_bytes
      → next_of (before.held ++ t.bytes) ≡ Given item end → slice_index (before.held ++ t.bytes) (end - 1) ≡ line_feed
      → (left : Option (List ℕ)) → source.left ≡ left → IsNextItem before left (Known (Given item end))
  item_told item end some inside most first line None tells = tt
  item_told item end some inside most first line (Some left) tells =
      let m = more_left source source_now left t.bytes tells t.passes in
      known_item (most_bytes - before.bytes) (before.held ++ left) item end
      (ap next_of (rest_is before.held t.bytes left m.more m.is)
      ∙ line_settled_item (before.held ++ t.bytes) m.more item end some inside first line) (omega (arith, most))

  pub item_answer : (now : ReaderState) (item : Item) → IsHeldItem taken now item → NextMeans (Ok (Some item)) before now source source_now
  item_answer now item held =
      let h = subst (λ (s : ReaderState). IsHeldItem s now item) t.held held in
      with_answer (Ok (Some item)) now
      (gives_item before now t.bytes (before.held ++ t.bytes) source item h.end refl h.some h.inside h.within h.is_next
      (own_flag (took before t.bytes taken.ended) now h.end (before.held ++ t.bytes) h.passed)
      (item_told (listed item) h.end h.some h.inside h.within h.is_next h.line_ends source.left refl)
      (λ no_end. absurd (no_end h.line_ends)))
      (ap (λ (s : ReaderState). s.ended) h.passed)

  fault_told : (fault : ItemFault) → before.bytes + fault.end ≤ most_bytes → fault.end < length (before.held ++ t.bytes)
      → next_of (before.held ++ t.bytes) ≡ Faulty fault
      → (left : Option (List ℕ)) → source.left ≡ left → IsNextItem before left (Known (Faulty fault))
  fault_told fault most lt first None tells = tt
  fault_told fault most lt first (Some left) tells =
      let m = more_left source source_now left t.bytes tells t.passes in
      known_fault (most_bytes - before.bytes) (before.held ++ left) fault
      (ap next_of (rest_is before.held t.bytes left m.more m.is)
      ∙ settled (before.held ++ t.bytes) m.more
      (subst (EndsBefore (length (before.held ++ t.bytes))) (sym first) (fault_before (length (before.held ++ t.bytes)) fault lt)) ∙ first)
      (omega (arith, most))

  size_same : taken.bytes + length taken.held ≡ before.bytes + length (before.held ++ t.bytes)
  size_same = ap (λ (s : ReaderState). s.bytes + length s.held) t.held

  -- all bytes that a text may have are there, and one more
  full : most_bytes < taken.bytes + length taken.held → before.bytes + length (before.held ++ t.bytes) ≡ most_bytes + 1
  full longer = omega (arith, longer, size_same, t.most, length-append before.held t.bytes)

  -- why nothing more is taken
  stopped_by : (all : Bool) → all ≡ (taken.ended || nat_lt most_bytes (taken.bytes + length taken.held)) → all ≡ true
      → Stopped before.bytes (before.held ++ t.bytes) source_now taken.ended
  stopped_by all is h = cases taken.ended refl
    where
      cases : (b : Bool) → taken.ended ≡ b → Stopped before.bytes (before.held ++ t.bytes) source_now taken.ended
      cases true e = inl (e, t.handed e)
      cases false e =
          let less : nat_lt most_bytes (taken.bytes + length taken.held) ≡ true =
          ap (λ (b : Bool). b || nat_lt most_bytes (taken.bytes + length taken.held)) (sym e) ∙ sym is ∙ h in
          let longer : most_bytes < taken.bytes + length taken.held = grind (arith, nat_tests) in
          inr (full longer)

  pub last_answer : (now : ReaderState) (result : Result (Option Item) NextFault) → before.bytes ≤ most_bytes
      → (all : Bool) → all ≡ (taken.ended || nat_lt most_bytes (taken.bytes + length taken.held)) → all ≡ true
      → LastMeans result taken now → NextMeans result before now source source_now
  last_answer now result passed_most all is h last =
      let means = subst (λ (s : ReaderState). LastMeans result s now) t.held last in
      let stopped = stopped_by all is h in
      with_answer result now
      (last_means before t.bytes source source_now taken.ended passed_most t.passes stopped result now means)
      (last_flag before t.bytes source source_now taken.ended passed_most t.passes stopped result now means)

  -- a fault that the bytes held tell
  pub fault_answer : (now : ReaderState) (fault : NextFault) → before.bytes ≤ most_bytes → HeldMeans (Err fault) taken now
      → NextMeans (Err fault) before now source source_now
  fault_answer now (Text fault) passed_most held =
      let h = subst (λ (s : ReaderState). IsHeldFault s now fault) t.held held in
      let within : before.bytes + h.item_fault.end ≤ most_bytes = omega (arith, h.known.before, t.most, length-append before.held t.bytes) in
      with_answer (Err (Text fault)) now (record {
        item_fault = h.item_fault;
        of_taken = known_fault (most_bytes - before.bytes) (before.held ++ t.bytes) h.item_fault h.known.is_next
            (room_of before.bytes h.item_fault.end within);
        place_taken = h.place;
        is_next = fault_told h.item_fault within h.known.before h.known.is_next source.left refl;
        place = fault_told_at before t.bytes source source_now t.passes fault h.item_fault h.known.is_next h.place source.left refl;
        stops = ap (λ (s : ReaderState). s.live) h.stays;
      }) (ap (λ (s : ReaderState). s.ended) h.stays)
  fault_answer now TooLong passed_most held =
      let means = subst (λ (s : ReaderState). LastMeans (Err TooLong) s now) t.held held in
      with_answer (Err TooLong) now
      (last_means before t.bytes source source_now taken.ended passed_most t.passes (inr (full held.longer)) (Err TooLong) now means)
      (ap (λ (s : ReaderState). s.ended) held.stays)
  fault_answer now Read passed_most held = absurd held
  fault_answer now NoMemory passed_most held =
      let stays = held ∙ t.held in
      with_answer (Err NoMemory) now (ap (λ (s : ReaderState). s.live) stays) (ap (λ (s : ReaderState). s.ended) held)

unended : (before ended : Bool) → (before ≡ true → ended ≡ true) → ended ≡ false → before ≡ false
unended true ended h e = let same = h refl in cc
unended false ended h e = refl

not_ended : (ended : Bool) → ended ≡ false → ended ≡ true → ⊥
not_ended ended h e = cc

-- a take that gave no bytes
module _ (before taken now : ReaderState) (source between source_now : SourceState) (t : TakenSoFar before taken source between)
    (open_yet : taken.ended ≡ false) where
  with_fault : (fault : NextFault) (m : TakeMoreMeans (Err fault) taken now between source_now) → now.ended ≡ false
      → AnswerMeans (Err fault) before now (t.bytes ++ m.bytes) source source_now → NextMeans (Err fault) before now source source_now
  with_fault fault m flag answer = record {
    bytes = t.bytes ++ m.bytes;
    passes = Passes-trans source between source_now t.bytes m.bytes t.passes m.passes;
    most = omega (arith, m.most, ap (λ (s : ReaderState). s.bytes + length s.held) t.held, length-append before.held t.bytes, length-append t.bytes m.bytes);
    later = omega (arith, t.later, m.later);
    untaken = λ e. absurd (not_ended taken.ended open_yet (t.keeps e));
    handed = λ e. absurd (not_ended now.ended flag e);
    keeps = λ e. absurd (not_ended taken.ended open_yet (t.keeps e));
    answer = answer;
  }

  stops : (fault : NextFault) (m : TakeMoreMeans (Err fault) taken now between source_now) → now.live ≡ false
  stops fault m = ap (λ (s : ReaderState). s.live) m.held ∙ ap (λ (s : ReaderState). s.live) t.held

  pub take_fault : (fault : NextFault) → HasNoItem taken.held → TakeMoreMeans (Err fault) taken now between source_now
      → NextMeans (Err fault) before now source source_now
  take_fault (Text fault) none m = absurd m.ends
  take_fault TooLong none m = absurd m.ends
  take_fault Read none m =
      let same : taken.held ≡ before.held ++ (t.bytes ++ m.bytes) =
      ap (λ (s : ReaderState). s.held) t.held
      ∙ ap (λ (xs : List ℕ). before.held ++ xs) (sym (append-nil t.bytes) ∙ ap (λ (xs : List ℕ). t.bytes ++ xs) (sym m.ends.1)) in
      with_fault Read m m.ends.0 (record {
        rose = Rose-late source.faults between.faults source_now.faults t.later m.ends.2;
        stops = stops Read m;
        unended = unended before.ended taken.ended t.keeps open_yet;
        no_item = subst HasNoItem same none;
      })
  take_fault NoMemory none m = with_fault NoMemory m m.ends (stops NoMemory m)

less_by : {P : Type 0} → (all size before more : ℕ) (now_ended ended : Bool) → size ≡ before + more → before + more ≤ all
    → ((now_ended ≡ false) × (1 ≤ more)) ⊎ ((now_ended ≡ true) × P) → ended ≡ false
    → (all - size) * 2 + cond now_ended 0 1 < (all - before) * 2 + cond ended 0 1
less_by all size before more now_ended true is most ends open_yet = cc
less_by all size before more false false is most (inl h) open_yet = let some = h.1 in omega (arith, is, most, some)
less_by all size before more false false is most (inr h) open_yet = let e = h.0 in cc
less_by all size before more true false is most (inl h) open_yet = let e = h.0 in cc
less_by all size before more true false is most (inr h) open_yet = omega (arith, is, most)

-- a take that gave bytes, or the end
module _ (before taken now : ReaderState) (source between source_now : SourceState) (t : TakenSoFar before taken source between)
    (open_yet : taken.ended ≡ false) (m : TakeMoreMeans (Ok tt) taken now between source_now) where
  pub more_so_far : TakenSoFar before now source source_now
  more_so_far = record {
    bytes = t.bytes ++ m.bytes;
    passes = Passes-trans source between source_now t.bytes m.bytes t.passes m.passes;
    most = omega (arith, m.most, ap (λ (s : ReaderState). s.bytes + length s.held) t.held, length-append before.held t.bytes, length-append t.bytes m.bytes);
    later = omega (arith, t.later, m.later);
    untaken = λ e. absurd (not_ended taken.ended open_yet (t.keeps e));
    handed = λ e. elim m.ends [ inl h ↦ absurd (not_ended now.ended h.0 e) | inr h ↦ h.1 ];
    keeps = λ e. absurd (not_ended taken.ended open_yet (t.keeps e));
    held = m.held ∙ ap (λ (s : ReaderState). record s { held = s.held ++ m.bytes; ended = now.ended }) t.held
        ∙ ap (λ (xs : List ℕ). record { bytes = before.bytes; lines = before.lines; held = xs; live = false; ended = now.ended })
        (append_assoc before.held t.bytes m.bytes);
  }

  held_now : now.held ≡ taken.held ++ m.bytes
  held_now = ap (λ (s : ReaderState). s.held) m.held

  pub looked_within : length taken.held ≤ length now.held
  looked_within = omega (arith, ap length held_now, length-append taken.held m.bytes)

  pub seen_so_far : (opening : Opening) → Seen taken.held opening → Seen (take (length taken.held) now.held) opening
  seen_so_far opening seen = subst (λ (xs : List ℕ). Seen xs opening)
      (sym (take-append_seam taken.held m.bytes) ∙ ap (take (length taken.held)) (sym held_now)) seen

  -- less can be taken on
  pub less_left : (most_bytes + 1 - (now.bytes + length now.held)) * 2 + cond now.ended 0 1
      < (most_bytes + 1 - (taken.bytes + length taken.held)) * 2 + cond taken.ended 0 1
  less_left = less_by (most_bytes + 1) (now.bytes + length now.held) (taken.bytes + length taken.held) (length m.bytes) now.ended taken.ended
      (omega (arith, ap (λ (s : ReaderState). s.bytes) m.held, ap length held_now, length-append taken.held m.bytes)) m.most m.ends open_yet

-- of no bytes nothing is known
pub nothing_seen : Seen [] Blank
nothing_seen = record { no_item = gaps_no_item [] (λ k lt. absurd (omega arith)); means = λ k lt. absurd (omega arith) }
