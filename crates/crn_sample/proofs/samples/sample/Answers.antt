use Rattle.crn_sample.proofs.Prelude.{◌≡◌, ◌∙◌, sample_text}
use Rattle.crn_sample.proofs.Spelled.{only_memory}
use Rattle.crn_sample.proofs.samples.sample.Goals as goal

pub unreachable-requires : goal.unreachable-requires
unreachable-requires c =
    let text : c.as_bytes.result.now ≡ sample_text c.args.number = c.as_bytes.ensures.value ∙ c.in_ok-text.ensures in
    c.in_default.not-NoMemory (only_memory c.args.number c.as_bytes.result.now c.in-Err.fault c.requires.least c.requires.most text (rw c.in-Err.is at c.read.ensures))
