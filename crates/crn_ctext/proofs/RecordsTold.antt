-- The formed records of a block are those of a formed answer, which they say.
use Rattle.crn_ctext.proofs.Prelude.{◌≡◌, ◌∙◌, Bool, true, List, [], ◌∷◌, sym, ap, ap₂, flat_map, Verdict, Proof, Question, Q11, Q13, Block, proof_of, block_of, IsFormedOf, blocks_are_of_answers, Record, Parts, nodes, head_of, records_below, proof_nodes, Known, shapes_of, sizes_of, said_verdict, meaning}
use Rattle.crn_cert.specs.Blocks.{verdict_of}
use Rattle.crn_cert.specs.Table as table
use Rattle.crn_ctext.specs.Documents as documents
use Rattle.crn_ctext.proofs.Forms.{head_record, row_records}
use Rattle.crn_ctext.proofs.KnownBefore.{after}
use Rattle.crn_ctext.proofs.TreeRecords.{tree_formed, tree_of}
use Rattle.crn_ctext.proofs.TablesLinked.{at_root}
use Rattle.crn_ctext.proofs.RecordsDerived.{head_as_before, records_as_before}
use Rattle.crn_ctext.proofs.BlocksFormed.{OfTrees, formed_are_blocks, answers_formed, nodes_in}
use Rattle.crn_ctext.proofs.BlocksSaid.{block_said}
use Rattle.crn_ctext.proofs.Joined.{answer}

pub of_trees : OfTrees
of_trees = record {
  there = λ w tree f. tree_formed w w.choices [] tree (at_root w.choices) f;
  back = λ w rs t. tree_of w w.choices [] rs (at_root w.choices) t;
}

-- ---- the pairs

-- the questions whose forms rest on the linked pairs come after question 2
abbrev pub ComesAfter : Bool → Question → Type 0
ComesAfter b Q11 = b ≡ true
ComesAfter b Q13 = b ≡ true
ComesAfter b q = Unit {0}

abbrev pub AreInOrder : Bool → List Question → Type 0
AreInOrder b [] = Unit {0}
AreInOrder b (q ∷ qs) = ComesAfter b q × AreInOrder (after b q) qs

-- ---- a block

-- the records of the rows below the head of a block
abbrev rows_in : Known → Question → Block → List Record
rows_in known q b = row_records (table.rows known.net known.earlier q b.kind b.head) b.rows

-- an answer, with the parts of its block
pub told : (known : Known) (q : Question) (rs : List Record) (p : Parts rs) → documents.IsFormed meaning q known rs p
    → (v : Verdict) × (u : Proof) × IsFormedOf known.net known.earlier q v u × (p.head ≡ head_of q v) × (p.rows ≡ records_below (shapes_of known) (answer v u)) × (p.nodes ≡ proof_nodes u) × (said_verdict q (sizes_of known) p.head p.rows ≡ v)
told known q rs p f =
    let found = formed_are_blocks of_trees known q rs p f in
    let b = found.0 in
    let fits = found.1 in
    let v = verdict_of b.kind b.head b.rows in
    let u = proof_of known.net known.earlier q b.kind b.head b.rows b.trees in
    let formed = answers_formed known q b fits in
    let same : block_of known.net known.earlier v u ≡ b = blocks_are_of_answers known.net known.earlier q b fits in
    let head : head_of q v ≡ head_record q b.kind b.head = head_as_before q v ∙ ap (λ (c : Block). head_record q c.kind c.head) same in
    let rows : records_below (shapes_of known) (answer v u) ≡ rows_in known q b = records_as_before known q v u formed ∙ ap (λ (c : Block). rows_in known q c) same in (
      v,
      u,
      formed,
      found.3 ∙ sym head,
      found.4 ∙ sym rows,
      found.5 ∙ sym (nodes_in u ∙ ap (λ (c : Block). flat_map nodes c.trees) same),
      ap₂ (λ (h : Record) (xs : List Record). said_verdict q (sizes_of known) h xs) found.3 found.4 ∙ block_said known q b.kind b.head b.rows fits.head fits.rows,
    )
