-- For the contracts of private functions alone. The proof of an answer by the numbers of its head and
-- of the records below it.
-- Source: this project's own format. Shapes: the numbers of a head follow the place of its form,
-- which counts from 1.
use Rattle.std.specs.Prelude.{◌≤◌, suc, ℤ, List, [], ◌∷◌, drop, length, take}
use Rattle.crn_cert.specs.declared.answer.Proof.{Proof}
use Rattle.crn_cert.specs.declared.answer.RankProof.{RankProof}
use Rattle.crn_cert.specs.declared.head_kind.HeadKind.{HeadKind}
use Rattle.crn_cert.specs.declared.head_kind.HeadKind.TheVariants.{Classes, Strong, Rank, Deficiency, Yes}
use Rattle.crn_cert.specs.Questions.{Question, Q3}
use Rattle.crn_ctext.specs.Records.{Record}
use Rattle.crn_ctext.specs.Questions.{later_numbers}
use Rattle.crn_ctext.specs.Meaning.{lists, number, rank_proof, row, proof_by}
use Rattle.crn_document.specs.declared.parts.Part.{Part}
use Rattle.crn_document.specs.Inner.Answer.{AreSmall, AreSmallAt, kept, kind_of}
use Rattle.crn_document.specs.Inner.Parts.{FitParts}

-- the records are of small numbers that the proof below a head of this kind keeps as naturals, and
-- those of ranks come one after another
abbrev pub FitProof : HeadKind → Question → List Part → (head : List ℤ) → List (List ℤ) → Type 0
FitProof Classes q parts n r = AreSmallAt (1 ∷ 2 ∷ []) r
FitProof Strong q parts n r = AreSmallAt (1 ∷ 2 ∷ 3 ∷ 4 ∷ 5 ∷ []) r
FitProof Rank q parts n r = (suc (number n 0) ≤ length r) × AreSmall (row r 0)
FitProof Deficiency q parts n r = FitParts parts r
FitProof Yes Q3 parts n r = AreSmall (row r 0)
FitProof kind q parts n r = Unit {0}

-- the records fit the answer with this head
abbrev pub FitAnswer : Question → (head : List ℤ) → List Part → List (List ℤ) → Type 0
FitAnswer q head parts rows = AreSmallAt (kept (kind_of q head)) rows
    × FitProof (kind_of q head) q parts (later_numbers head) rows

-- the proofs of these ranks, by the records one after another
abbrev pub part_proofs : List Part → List (List ℤ) → List RankProof
part_proofs [] rows = []
part_proofs (p ∷ ps) rows = rank_proof p.rank (take (suc p.count) rows)
    ∷ part_proofs ps (drop (suc p.count) rows)

-- the proof of an answer with this head
abbrev pub proof_of_head : Question → List Part → List ℤ → List Record → Proof
proof_of_head q parts head rs =
    proof_by (kind_of q head) q (part_proofs parts (lists rs)) (later_numbers head) (lists rs)
