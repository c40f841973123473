-- What a job reports on, in order, and how that ends. This project's own.
use Rattle.std.specs.Prelude.{◌≡◌, ℕ, List, map}
use Rattle.palp_words.specs.declared.job.Job.{Job}
use Rattle.palp_words.specs.declared.job.Job.TheVariants.{Poly, Nef, Cws, Sweep}
use Rattle.palp_input.specs.Grammar.{Listed, listed, TextEnd, End, read_text}
use Rattle.palp_input.specs.declared.item.Item.{Item}
use Rattle.weight_lists.specs.Entries.{ListEntry, AreListEntries}

-- an item of a text; or, of a job that reads no text, an entry of the job's own list of weight systems
pub data Entry : Type 0 where
  TextItem : Listed → Entry
  OfList : ListEntry → Entry

-- an item that the code holds, as an entry
abbrev pub item_entry : Item → Entry
item_entry item = TextItem (listed item)

-- the entries are the items of the text, and end as it does
pub record AreTextEntries (text : List ℕ) (entries : List Entry) (ending : TextEnd) : Type 0 where
  pub entries_are : entries ≡ map TextItem (read_text text).items
  pub ending_is : ending ≡ (read_text text).ending

-- the entries are those of a range of weight systems, whatever the text is
pub record AreRangeEntries (dim low high : ℕ) (entries : List Entry) (ending : TextEnd) : Type 0 where
  pub listed : List ListEntry
  pub are_listed : AreListEntries dim low high listed
  pub entries_are : entries ≡ map OfList listed
  pub ending_is : ending ≡ End

-- A job reports on these entries of its own and of the text, which end so.
abbrev pub AreEntries : Job → List ℕ → List Entry → TextEnd → Type 0
AreEntries (Poly flags) text entries ending = AreTextEntries text entries ending
AreEntries (Nef words) text entries ending = AreTextEntries text entries ending
AreEntries (Cws words) text entries ending = AreRangeEntries words.dim words.low words.high entries ending
AreEntries (Sweep words) text entries ending = AreRangeEntries words.dim words.low words.high entries ending
