use Rattle.crn_ctext.proofs.Prelude.{beginning, none_own, course, meaning, versions, built}
use Rattle.crn_ctext.proofs.Courses.{gives_one}
use Rattle.crn_ctext.proofs.DocumentsGood as documents
use Rattle.crn_ctext.proofs.laws.good_documents_are_read.Goals as goal

pub returns-clause-read : goal.returns-clause-read
returns-clause-read c = λ bytes. (documents.good_documents_are_read bytes, λ r. documents.read_documents_are_good bytes r.0 r.1)

pub returns-clause-one : goal.returns-clause-one
returns-clause-one c = λ bytes read other g h. (gives_one none_own (course meaning versions built) documents.settled (beginning bytes) g.0 h.0 read other g.1 h.1).0

pub returns-clause-same : goal.returns-clause-same
returns-clause-same c = documents.read_is_of
