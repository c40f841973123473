-- The law of this crate, as a statement. This project's own.
use Rattle.report_theory.specs.Report.{SaysOne}
use Rattle.palp_words.specs.declared.job.NefWords.{NefWords}
use Rattle.nef_report.specs.Partitions.{PartitionsSay}

-- what is said of an item is one thing
abbrev pub OneListingStep : Type 0
OneListingStep = (words : NefWords) → SaysOne (PartitionsSay words)
