-- What is known of an item that isn't held whole, and what isn't.
use Rattle.std.proofs.Common.{◌≡◌, ◌≢◌, ℕ, zero, suc, ◌+◌, ◌-◌, ◌<◌, ◌≤◌, ◌⊎◌, inl, inr, ℤ, List, [], ◌∷◌, ◌++◌, length, take, drop, refl, sym, ap, subst, ◌∙◌, arith, append_assoc, length-take, length-drop}
use Rattle.std.specs.Prelude.{slice_index}
use Rattle.std.specs.List.{Contains}
use Rattle.std.proofs.lemmas.List.{append-nil, drop-append-le, take-append-drop, get_or-take, get_or-drop, get_or_past, length-take-le}
use Rattle.std.proofs.lemmas.List.Elements.{Contains-get_or}
use Rattle.std.proofs.Math.Seq.{drop-length, drop-append_seam}
use Rattle.palp_input.specs.Pieces.{line_feed, line_len, pieces_of}
use Rattle.palp_input.specs.Lines.{MatrixRead, AllEntries, FaultyMatrix, MissingEntries, matrix_read}
use Rattle.palp_input.specs.LineSteps.{matrix_behind, EntryMeans, IsNextEntry}
use Rattle.palp_input.specs.Grammar.{Listed, ListedPoints, Next, Nothing, Given, Faulty, line_end, matrix_item, next_of}
use Rattle.palp_input.specs.OpeningSteps.{MatrixSoFar}
use Rattle.palp_input.specs.Reading.{HasNoItem}
use Rattle.palp_input.specs.declared.openings.Pending.{Pending}
use Rattle.palp_input.specs.declared.fault.ItemFault.{ItemFault}
use Rattle.palp_input.specs.declared.matrices.Part.{Part}
use Rattle.palp_input.specs.declared.matrices.Part.TheVariants.{Entry, Fault, Missing}
use Rattle.palp_input.proofs.ReadSoFar.{matrix_behind-push, matrix_behind-end, matrix_behind-fault, matrix_behind-missing, at_least_one}
use Rattle.palp_input.proofs.SettledLines.{matrix_settled}
use Rattle.palp_input.proofs.SettledItems.{EndsBefore, item_before, next_settled, item_some, alike_behind}
use Rattle.palp_input.proofs.SettledEnds.{feed_last, last_entry}
use Rattle.palp_input.proofs.Gaps.{gaps_passed}
use Rattle.palp_input.proofs.Rests.{rests, entry_step}

-- a faulty item is none
pub faulty_no_item : (text : List ℕ) (fault : ItemFault) → next_of text ≡ Faulty fault → HasNoItem text
faulty_no_item text fault h = λ item end e. cc

pub nothing_no_item : (text : List ℕ) → next_of text ≡ Nothing → HasNoItem text
nothing_no_item text h = λ item end e. cc

-- where no entry stands from a place on, what is read from there is read behind the text
gap_passed : (text more : List ℕ) (place left : ℕ) → place ≤ length text → 0 < left
    → matrix_read text (suc zero) zero (pieces_of place (drop place text)) ≡ MissingEntries
    → matrix_read (text ++ more) left place (pieces_of place (drop place (text ++ more)))
    ≡ matrix_read (text ++ more) left (length text) (pieces_of (length text) (drop (length text) (text ++ more)))
gap_passed text more place left le some missing =
    let all : place + length (drop place text) ≡ length text = simp length-drop (omega arith) in
    ap (λ (bytes : List ℕ). matrix_read (text ++ more) left place (pieces_of place bytes)) (drop-append-le place text more le)
    ∙ ap (λ (n : ℕ). matrix_read (text ++ more) n place (pieces_of place (drop place text ++ more))) (at_least_one left some)
    ∙ gaps_passed text (text ++ more) place (drop place text) more (left - 1) place (length text) missing
    ∙ ap (λ (n : ℕ). matrix_read (text ++ more) n (length text) (pieces_of (place + length (drop place text)) more)) (sym (at_least_one left some))
    ∙ ap (λ (n : ℕ). matrix_read (text ++ more) left (length text) (pieces_of n more)) all
    ∙ ap (λ (bytes : List ℕ). matrix_read (text ++ more) left (length text) (pieces_of (length text) bytes)) (sym (drop-append_seam text more))

-- a line end stands in the text
feed_within : (text : List ℕ) (place : ℕ) → slice_index text place ≡ line_feed → place < length text
feed_within text place line = by_place (below place)
  where
    below : (n : ℕ) → (n < length text) ⊎ (length text ≤ n)
    below n = grind arith

    by_place : (place < length text) ⊎ (length text ≤ place) → place < length text
    by_place (inl lt) = lt
    by_place (inr le) = let none : 0 ≡ line_feed = sym (get_or_past text place 0 le) ∙ line in cc

back : (a b : ℕ) → a ≤ b → a + (b - a) ≡ b
back a b le = omega arith

-- no item ends in bytes without a line end, or with the byte before them
pub no_item_longer : (text : List ℕ) (looked : ℕ) → looked ≤ length text → HasNoItem (take looked text)
    → (Contains (drop (looked - 1) text) line_feed → ⊥) → HasNoItem text
no_item_longer text looked le none no_feed = λ item end e line. by_place item end e line (below end)
  where
    below : (end : ℕ) → (end < looked) ⊎ (looked ≤ end)
    below end = grind arith

    by_place : (item : Listed) (end : ℕ) → next_of text ≡ Given item end → slice_index text (end - 1) ≡ line_feed
        → (end < looked) ⊎ (looked ≤ end) → ⊥
    by_place item end e line (inl early) =
        let whole : next_of (take looked text ++ drop looked text) ≡ Given item end = ap next_of (take-append-drop looked text) ∙ e in
        let before : end < length (take looked text) = omega (arith, early, length-take-le looked text le) in
        let same = next_settled (take looked text) (drop looked text) []
        (subst (EndsBefore (length (take looked text))) (sym whole) (item_before (length (take looked text)) item end before)) in
        none item end (ap next_of (sym (append-nil (take looked text))) ∙ same ∙ whole)
        (get_or-take looked text (end - 1) 0 (omega (arith, early)) ∙ line)
    by_place item end e line (inr late) =
        let some = (item_some text item end e).0 in
        let within : end - 1 < length text = feed_within text (end - 1) line in
        let inside : end - 1 - (looked - 1) < length (drop (looked - 1) text) = omega (arith, within, late, some, length-drop (looked - 1) text) in
        no_feed (subst (Contains (drop (looked - 1) text))
        (get_or-drop (looked - 1) text (end - 1 - (looked - 1)) 0 ∙ ap (slice_index text) (back (looked - 1) (end - 1) (omega (arith, late))) ∙ line)
        (Contains-get_or (drop (looked - 1) text) (end - 1 - (looked - 1)) 0 inside))

-- what is read of a matrix, of the bytes held and whatever follows
abbrev pub reads_matrix : List ℕ → ℕ → ℕ → ℕ → List ℤ → ℕ → ℕ → Next
reads_matrix text at lines columns entries place left =
    matrix_item text at lines columns (matrix_behind entries (matrix_read text left place (pieces_of place (drop place text))))

module _ (text : List ℕ) (at lines columns : ℕ) where
  one_entry : (place : ℕ) (entry : ℤ) (end : ℕ) → IsNextEntry text place (pieces_of place (drop place text)) entry end
      → matrix_read (text ++ []) (suc zero) place (pieces_of place (drop place (text ++ []))) ≡ AllEntries (entry ∷ []) end
  one_entry place entry end next =
      subst (λ (t : List ℕ). matrix_read t (suc zero) place (pieces_of place (drop place t)) ≡ AllEntries (entry ∷ []) end)
      (sym (append-nil text)) (next.reads zero place)

  -- an entry more
  pub entry_more : (entries : List ℤ) (place left : ℕ) (entry : ℤ) (end : ℕ) (more : List ℕ) → place ≤ length text → end < length text → 0 < left
      → IsNextEntry text place (pieces_of place (drop place text)) entry end
      → reads_matrix (text ++ more) at lines columns entries place left
      ≡ reads_matrix (text ++ more) at lines columns (entries ++ entry ∷ []) end (left - 1)
  entry_more entries place left entry end more le lt some next =
      ap (λ (n : ℕ). reads_matrix (text ++ more) at lines columns entries place n) (at_least_one left some)
      ∙ ap (λ (r : MatrixRead). matrix_item (text ++ more) at lines columns (matrix_behind entries r))
      (entry_step (text ++ more) place (pieces_of place (drop place (text ++ more))) entry end (rests (text ++ more) place) there (left - 1) place)
      ∙ ap (matrix_item (text ++ more) at lines columns)
      (sym (matrix_behind-push entries entry (matrix_read (text ++ more) (left - 1) end (pieces_of end (drop end (text ++ more))))))
    where
      there : matrix_read (text ++ more) (suc zero) place (pieces_of place (drop place (text ++ more))) ≡ AllEntries (entry ∷ []) end
      there = matrix_settled text [] more (suc zero) place (pieces_of place (drop place (text ++ [])))
          (pieces_of place (drop place (text ++ more))) (entry ∷ []) end (alike_behind text [] more place le) lt (one_entry place entry end next)

  -- all entries
  pub all_entries : (entries : List ℤ) (place left : ℕ) → left ≡ 0 → next_of text ≡ reads_matrix text at lines columns entries place left
      → next_of text ≡ Given (ListedPoints lines columns entries) (line_end text place)
  all_entries entries place left none h =
      h ∙ ap (λ (n : ℕ). reads_matrix text at lines columns entries place n) none
      ∙ ap (matrix_item text at lines columns) (matrix_behind-end entries place)

  -- a faulty entry
  pub entry_faulty : (entries : List ℤ) (place left : ℕ) (fault : ItemFault) → 0 < left
      → ((count after : ℕ) → matrix_read text (suc count) after (pieces_of place (drop place text)) ≡ FaultyMatrix fault)
      → next_of text ≡ reads_matrix text at lines columns entries place left → next_of text ≡ Faulty fault
  entry_faulty entries place left fault some next h =
      h ∙ ap (λ (n : ℕ). reads_matrix text at lines columns entries place n) (at_least_one left some)
      ∙ ap (λ (r : MatrixRead). matrix_item text at lines columns (matrix_behind entries r)) (next (left - 1) place)
      ∙ ap (matrix_item text at lines columns) (matrix_behind-fault entries fault)

  missing_no_item : (entries : List ℤ) → next_of text ≡ matrix_item text at lines columns (matrix_behind entries MissingEntries)
      → HasNoItem text
  missing_no_item entries h =
      let e = h ∙ ap (matrix_item text at lines columns) (matrix_behind-missing entries) in λ item end given. cc

  -- the last entry at the end of the bytes
  last_no_item : (entries : List ℤ) (place : ℕ) (entry : ℤ) (end left : ℕ) → place ≤ length text → end ≡ length text
      → IsNextEntry text place (pieces_of place (drop place text)) entry end
      → next_of text ≡ reads_matrix text at lines columns entries place (suc left) → HasNoItem text
  last_no_item entries place entry end zero le same next h = λ item item_end e line.
      let all : next_of text ≡ Given (ListedPoints lines columns (entries ++ entry ∷ [])) (line_end text end) =
      h ∙ ap (λ (r : MatrixRead). matrix_item text at lines columns (matrix_behind entries r)) (next.reads zero place)
      ∙ ap (matrix_item text at lines columns) (sym (matrix_behind-push entries entry (AllEntries [] end)) ∙ matrix_behind-end (entries ++ entry ∷ []) end) in
      let ends : line_end text end ≡ length text = ap (λ (n : ℕ). n + line_len (drop n text)) same ∙ ap (λ (bytes : List ℕ). length text + line_len bytes) (drop-length text) ∙ omega arith in
      let same_end : item_end ≡ line_end text end = cc in
      let some = (item_some text item item_end e).1 in
      let feed = feed_last text some (subst (λ (n : ℕ). slice_index text (n - 1) ≡ line_feed) (same_end ∙ ends) line) in
      let before = last_entry text [] feed 0 place (entry ∷ []) end le (one_entry place entry end next) in
      omega (arith, before, same)
  last_no_item entries place entry end (suc left) le same next h = missing_no_item (entries ++ entry ∷ [])
      (h ∙ ap (λ (r : MatrixRead). matrix_item text at lines columns (matrix_behind entries r)) (next.reads (suc left) place)
      ∙ ap (matrix_item text at lines columns) (sym (matrix_behind-push entries entry (matrix_read text (suc left) end (pieces_of end (drop end text)))))
      ∙ ap (λ (bytes : List ℕ). matrix_item text at lines columns (matrix_behind (entries ++ entry ∷ []) (matrix_read text (suc left) end (pieces_of end bytes))))
      (ap (λ (n : ℕ). drop n text) same ∙ drop-length text))

  -- an entry, a fault or nothing that isn't whole
  pub part_no_item : (entries : List ℤ) (place left : ℕ) (part : Part) → place ≤ length text → 0 < left
      → next_of text ≡ reads_matrix text at lines columns entries place left
      → EntryMeans text place (pieces_of place (drop place text)) part
      → ((entry : ℤ) (end : ℕ) → part ≡ Entry entry end → length text ≤ end) → HasNoItem text
  part_no_item entries place left (Entry entry end) le some h next late =
      last_no_item entries place entry end (left - 1) le (omega (arith, next.most, late entry end refl)) next
      (h ∙ ap (λ (n : ℕ). reads_matrix text at lines columns entries place n) (at_least_one left some))
  part_no_item entries place left (Fault fault) le some h next late = faulty_no_item text fault (entry_faulty entries place left fault some next h)
  part_no_item entries place left Missing le some h next late = missing_no_item entries
      (h ∙ ap (λ (n : ℕ). reads_matrix text at lines columns entries place n) (at_least_one left some)
      ∙ ap (λ (r : MatrixRead). matrix_item text at lines columns (matrix_behind entries r)) (next (left - 1) place))

-- the bytes held, and no more
pub reads_here : (text : List ℕ) (pending : Pending) (so_far : MatrixSoFar text pending)
    → next_of text ≡ reads_matrix text so_far.at pending.lines pending.columns pending.entries.items pending.place pending.left
reads_here text pending so_far =
    subst (λ (t : List ℕ). next_of t ≡ reads_matrix t so_far.at pending.lines pending.columns pending.entries.items pending.place pending.left)
    (append-nil text) (so_far.reads [])

-- where no entry stands from the place on
pub matrix_gap : (text : List ℕ) (pending : Pending) → MatrixSoFar text pending → 0 < pending.left
    → ((count after : ℕ) → matrix_read text (suc count) after (pieces_of pending.place (drop pending.place text)) ≡ MissingEntries)
    → MatrixSoFar text (record pending { place = length text })
matrix_gap text pending so_far some missing = record {
  at = so_far.at;
  within = omega arith;
  reads = λ more. so_far.reads more ∙ ap (matrix_item (text ++ more) so_far.at pending.lines pending.columns)
      (ap (matrix_behind pending.entries.items) (gap_passed text more pending.place pending.left so_far.within some (missing zero zero)));
}

-- more bytes held
pub matrix_longer : (text : List ℕ) (looked : ℕ) (pending : Pending) → MatrixSoFar (take looked text) pending → MatrixSoFar text pending
matrix_longer text looked pending so_far = record {
  at = so_far.at;
  within = omega (arith, so_far.within, length-take looked text);
  reads = λ more. subst (λ (t : List ℕ). next_of t
      ≡ reads_matrix t so_far.at pending.lines pending.columns pending.entries.items pending.place pending.left)
      (sym (append_assoc (take looked text) (drop looked text) more) ∙ ap (λ (t : List ℕ). t ++ more) (take-append-drop looked text))
      (so_far.reads (drop looked text ++ more));
}

-- a matrix all of whose entries are read
pub matrix_given : (text : List ℕ) (pending : Pending) (end : ℕ) → MatrixSoFar text pending → pending.left ≡ 0
    → end ≡ pending.place + line_len (drop pending.place text)
    → next_of text ≡ Given (ListedPoints pending.lines pending.columns pending.entries.items) end
matrix_given text pending end so_far none is =
    all_entries text so_far.at pending.lines pending.columns pending.entries.items pending.place pending.left none (reads_here text pending so_far)
    ∙ ap (Given (ListedPoints pending.lines pending.columns pending.entries.items)) (sym is)

pub end_some : (text : List ℕ) (pending : Pending) (end : ℕ) → MatrixSoFar text pending → pending.left ≡ 0
    → end ≡ pending.place + line_len (drop pending.place text) → 1 ≤ end
end_some text pending end so_far none is =
    (item_some text (ListedPoints pending.lines pending.columns pending.entries.items) end (matrix_given text pending end so_far none is)).0

pub feed_no_item : (text : List ℕ) (pending : Pending) (end : ℕ) → MatrixSoFar text pending → pending.left ≡ 0
    → end ≡ pending.place + line_len (drop pending.place text) → slice_index text (end - 1) ≢ line_feed → HasNoItem text
feed_no_item text pending end so_far none is no_feed = λ item item_end e line.
    let given = matrix_given text pending end so_far none is in
    let same : item_end ≡ end = cc in
    no_feed (ap (λ (n : ℕ). slice_index text (n - 1)) (sym same) ∙ line)
