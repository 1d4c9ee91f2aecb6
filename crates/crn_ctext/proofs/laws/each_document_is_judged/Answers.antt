use Rattle.crn_ctext.proofs.Prelude.{inl, inr, arith, beginning, none_own, course, meaning, versions, built}
use Rattle.crn_ctext.proofs.Courses.{each_is_judged, gives_or_fails, first_is_one}
use Rattle.crn_ctext.proofs.DocumentsGood.{settled, read_documents_are_good, good_documents_are_read}
use Rattle.crn_ctext.proofs.laws.each_document_is_judged.Goals as goal

pub returns-clause-judged : goal.returns-clause-judged
returns-clause-judged c = λ bytes. elim (each_is_judged none_own (course meaning versions built) settled (beginning bytes) (omega arith)) [ inl g ↦ inl (read_documents_are_good bytes g.0 (g.1, g.2)) | inr f ↦ inr f ]

pub returns-clause-apart : goal.returns-clause-apart
returns-clause-apart c = λ bytes line code g f. let r = good_documents_are_read bytes g in gives_or_fails none_own (course meaning versions built) settled (beginning bytes) r.1.0 r.0 line code r.1.1 f

pub returns-clause-first : goal.returns-clause-first
returns-clause-first c = λ bytes line other code another f g. first_is_one none_own (course meaning versions built) settled (beginning bytes) line other code another f g
