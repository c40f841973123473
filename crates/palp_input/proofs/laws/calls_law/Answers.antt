use Rattle.palp_input.proofs.Readings.{calls_read, calls_read_taken, calls_answer}
use Rattle.palp_input.proofs.laws.calls_law.Goals as goal

pub returns : goal.returns
returns c = record {
  reads = calls_read;
  reads_taken = calls_read_taken;
  exactly = calls_answer;
}
