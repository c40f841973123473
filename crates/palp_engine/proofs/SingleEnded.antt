-- The items whose last line end stands among some bytes are one list, so they have one report.
use Rattle.std.proofs.Common.{◌≡◌, ℕ, List, [], ◌∷◌, ◌++◌, map, length, None, refl, sym, ◌∙◌, ap, subst, arith}
use Rattle.std.specs.List.{All}
use Rattle.std.proofs.lemmas.List.{map-append}
use Rattle.std.proofs.lemmas.List.Elements.{All-head, All-tail}
use Rattle.report_theory.specs.Report.{IsListReport, IsListFront}
use Rattle.report_theory.proofs.Reports as reports
use Rattle.report_theory.proofs.Passing as passing
use Rattle.palp_words.specs.declared.job.Job.{Job}
use Rattle.palp_words.specs.declared.job.Job.TheVariants.{Poly, Nef, Cws, Sweep}
use Rattle.palp_input.specs.Grammar.{Listed, read_text}
use Rattle.palp_engine.specs.Entries.{Entry, TextItem, AreEntries}
use Rattle.palp_engine.specs.Commands.{ReadsText, Says}
use Rattle.palp_engine.specs.Texts.{front_of_entries}
use Rattle.palp_engine.specs.Ended.{HasLineEnd, AreEndedItems}
use Rattle.palp_engine.specs.Laws.{OneEndedReport, EndedReportsAreFronts}
use Rattle.palp_engine.proofs.SingleReports.{says_one, same_job}

-- a list falls in one way into members of which something holds and others of which it doesn't
same_split : (P : ℕ → Type 0) (xs ys us vs : List ℕ) → All P xs → All P ys → All (λ x. P x → ⊥) us → All (λ x. P x → ⊥) vs
    → xs ++ us ≡ ys ++ vs → length xs ≡ length ys
same_split P [] [] us vs p q n m e = refl
same_split P [] (y ∷ ys) [] vs p q n m e = absurd (cc)
same_split P [] (y ∷ ys) (u ∷ us) vs p q n m e =
    let same : u ≡ y = cc in
    absurd (All-head (λ (x : ℕ). P x → ⊥) u us n (subst P (sym same) (All-head P y ys q)))
same_split P (x ∷ xs) [] us [] p q n m e = absurd (cc)
same_split P (x ∷ xs) [] us (v ∷ vs) p q n m e =
    let same : x ≡ v = cc in
    absurd (All-head (λ (x : ℕ). P x → ⊥) v vs m (subst P same (All-head P x xs p)))
same_split P (x ∷ xs) (y ∷ ys) us vs p q n m e =
    let rest : xs ++ us ≡ ys ++ vs = cc in
    let more = same_split P xs ys us vs (All-tail P x xs p) (All-tail P y ys q) n m rest in
    omega (arith, more)

-- and fronts of one list that are as long are the same
same_front : (xs ys us vs : List Listed) → length xs ≡ length ys → xs ++ us ≡ ys ++ vs → xs ≡ ys
same_front [] [] us vs l e = refl
same_front [] (y ∷ ys) us vs l e = absurd (omega (arith, l))
same_front (x ∷ xs) [] us vs l e = absurd (omega (arith, l))
same_front (x ∷ xs) (y ∷ ys) us vs l e =
    let first : x ≡ y = cc in
    let rest : xs ++ us ≡ ys ++ vs = cc in
    let more = same_front xs ys us vs (omega (arith, l)) rest in
    λ i. first i ∷ more i

same_items : (bytes : List ℕ) (items others : List Listed) → AreEndedItems bytes items → AreEndedItems bytes others → items ≡ others
same_items bytes items others a b =
    let ends = same_split (HasLineEnd bytes) a.ends b.ends a.other_ends b.other_ends a.ended b.ended a.others_not b.others_not
    (sym a.all_ends ∙ b.all_ends) in
    same_front items others a.others b.others (sym a.as_many ∙ ends ∙ b.as_many) (sym a.all_items ∙ b.all_items)

pub one_ended_report : OneEndedReport
one_ended_report words bytes report other a b =
    let moved = subst (λ (j : Job). IsListReport (Says j) 1 0 (map TextItem b.items) other None)
    (same_job words b.asked.job a.asked.job b.asked.gives a.asked.gives) b.is_report in
    let same = same_items bytes a.items b.items a.are_ended b.are_ended in
    (reports.one_report (Says a.asked.job) (says_one a.asked.job) 1 0 (map TextItem a.items) report other None None a.is_report
    (subst (λ (xs : List Listed). IsListReport (Says a.asked.job) 1 0 (map TextItem xs) other None) (sym same) moved)).0

-- a job that reads a text reports on its items
text_entries : (job : Job) (bytes : List ℕ) → ReadsText job
    → AreEntries job bytes (map TextItem (read_text bytes).items) (read_text bytes).ending
text_entries (Poly flags) bytes r = record { entries_are = refl; ending_is = refl }
text_entries (Nef words) bytes r = record { entries_are = refl; ending_is = refl }
text_entries (Cws words) bytes r = absurd r
text_entries (Sweep words) bytes r = absurd r

pub ended_reports_are_fronts : EndedReportsAreFronts
ended_reports_are_fronts words bytes report a =
    let front = passing.fewer_items (Says a.asked.job) 1 0 (map TextItem a.items) (map TextItem a.are_ended.others) report None a.is_report in
    let entries = ap (map TextItem) a.are_ended.all_items ∙ map-append TextItem a.items a.are_ended.others in
    front_of_entries a.asked (read_text bytes).ending (text_entries a.asked.job bytes a.reads)
    (subst (λ (xs : List Entry). IsListFront (Says a.asked.job) 0 xs report) (sym entries) front)
