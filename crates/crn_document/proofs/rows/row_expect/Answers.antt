use Rattle.crn_document.proofs.Prelude.{refl, length, row_form}
use Rattle.crn_ctext.specs.Expect.{sizes_of}
use Rattle.crn_document.proofs.Records.{row_expects, row_untagged}
use Rattle.crn_document.proofs.rows.row_expect.Goals as goal

pub returns-clause-due : goal.returns-clause-due
returns-clause-due c = row_expects c.args.version (length c.args.below.now.net.now.complexes) (row_form c.args.below.now.net.now c.args.below.now.labels.now c.args.below.now.classes c.args.row) _ c.requires.version refl refl c.net_sizes-sizes.ensures.within c.net_sizes-sizes.ensures.complexes c.row_due-due.ensures

pub returns-clause-untagged : goal.returns-clause-untagged
returns-clause-untagged c = λ r. row_untagged (length c.args.below.now.net.now.complexes) (row_form c.args.below.now.net.now c.args.below.now.labels.now c.args.below.now.classes c.args.row) c.row_due-due.result c.row_due-due.ensures (sizes_of c.net_sizes-sizes.result) r
