-- An answer and its records: what is required of the one is required of the other.
use Rattle.crn_ctext.proofs.Prelude.{◌≡◌, ◌++◌, ◌∙◌, Bool, List, [], refl, sym, ap, ap₂, subst, append_cancel_left, Sign, tail_is, Verdict, Proof, Answer, Question, tight, AllHold, IsFormedOf, head_tests, row_tests, IsValid, hold_append, hold_parts, Record, Problem, Parts, IsFormed, AreTrees, IsGoodLeaf, IsOneOf, leaf_forms, head_of, records_below, proof_nodes, records, Known, shapes_of, sizes_of, verdict_of, meaning}
use Rattle.crn_ctext.specs.Meaning.{proof_of}
use Rattle.crn_ctext.specs.Documents as documents
use Rattle.crn_ctext.proofs.Shown.{shown}
use Rattle.crn_ctext.proofs.KnownBefore.{AreKnown, IsStrongTrue}
use Rattle.crn_ctext.proofs.AnswersApart.{block_apart}

-- ---- an answer and its records

-- the parts of an answer's block
abbrev pub parts : (q : Question) (known : Known) (a : Answer) → Parts (records q (shapes_of known) a)
parts q known a = record { head = head_of q a.verdict; rows = records_below (shapes_of known) a; nodes = proof_nodes a.proof; all = refl }

-- an answer without trees: the records are formed, their tests are those of the answer, and they say its verdict and its proof
pub record IsLinked (known : Known) (q : Question) (a : Answer) : Type 1 where
  pub formed : IsFormed meaning q known (records q (shapes_of known) a) (parts q known a)
  pub bare : meaning.problems q known (head_of q a.verdict) ≡ []
  pub heads : meaning.head_claims q known (head_of q a.verdict) ≡ head_tests known.net known.earlier q a.verdict
  pub rows : meaning.row_claims q known (head_of q a.verdict) (records_below (shapes_of known) a) ≡ row_tests known.net known.earlier q a.verdict a.proof
  pub says : verdict_of q (sizes_of known) (head_of q a.verdict) (records_below (shapes_of known) a) ≡ tight a.verdict
  pub shows : shown (proof_of q (shapes_of known) (head_of q a.verdict) (records_below (shapes_of known) a)) ≡ shown a.proof

abbrev pub answer : Verdict → Proof → Answer
answer v p = record { verdict = v; proof = p }

-- ---- an answer by what it gives for its records and they for it

-- the records of each formed answer to the question are formed, and valid if and only if it is, if the verdict on strong classes is true; they say its verdict, and answers with the same records are the same
pub record IsJoinedAt (b : Bool) (q : Question) : Type 1 where
  pub formed : (known : Known) (v : Verdict) (p : Proof) → AreKnown b known.earlier → IsFormedOf known.net known.earlier q v p → IsFormed meaning q known (records q (shapes_of known) (answer v p)) (parts q known (answer v p))
  pub there : (known : Known) (v : Verdict) (p : Proof) → AreKnown b known.earlier → IsFormedOf known.net known.earlier q v p → IsValid known.net known.earlier q (answer v p)
      → documents.IsValid meaning q known (records q (shapes_of known) (answer v p)) (parts q known (answer v p))
  pub back : (known : Known) (v : Verdict) (p : Proof) → AreKnown b known.earlier → IsStrongTrue b known → IsFormedOf known.net known.earlier q v p
      → documents.IsValid meaning q known (records q (shapes_of known) (answer v p)) (parts q known (answer v p)) → IsValid known.net known.earlier q (answer v p)
  pub says : (known : Known) (v : Verdict) (p : Proof) → AreKnown b known.earlier → IsFormedOf known.net known.earlier q v p
      → verdict_of q (sizes_of known) (head_of q v) (records_below (shapes_of known) (answer v p)) ≡ tight v
  pub shows : (known : Known) (v w : Verdict) (p r : Proof) → AreKnown b known.earlier → IsFormedOf known.net known.earlier q v p → IsFormedOf known.net known.earlier q w r
      → head_of q v ≡ head_of q w → records_below (shapes_of known) (answer v p) ≡ records_below (shapes_of known) (answer w r) → proof_nodes p ≡ proof_nodes r → shown p ≡ shown r

-- formed trees of no problems are valid
none_good : (ps : List {1} Problem) (rs : List Record) → ps ≡ [] → AreTrees (λ (problem : Problem) (prefix : List Sign) (r : Record). IsOneOf (leaf_forms problem) r) ps rs → AreTrees IsGoodLeaf ps rs
none_good ps rs none t = subst (λ (xs : List {1} Problem). AreTrees IsGoodLeaf xs rs) (sym none) (subst (λ (xs : List {1} Problem). AreTrees (λ (problem : Problem) (prefix : List Sign) (r : Record). IsOneOf (leaf_forms problem) r) xs rs) none t)

pub linked_there : (known : Known) (q : Question) (a : Answer) → IsLinked known q a → IsValid known.net known.earlier q a → documents.IsValid meaning q known (records q (shapes_of known) a) (parts q known a)
linked_there known q a l v =
    let hold = hold_parts (head_tests known.net known.earlier q a.verdict) (row_tests known.net known.earlier q a.verdict a.proof) v in
    let formed = l.formed in
    record { head = subst AllHold (sym l.heads) hold.0; rows = subst AllHold (sym l.rows) hold.1; trees = none_good (meaning.problems q known (head_of q a.verdict)) (proof_nodes a.proof) l.bare formed.trees }

pub linked_back : (known : Known) (q : Question) (a : Answer) → IsLinked known q a → documents.IsValid meaning q known (records q (shapes_of known) a) (parts q known a) → IsValid known.net known.earlier q a
linked_back known q a l v = hold_append (head_tests known.net known.earlier q a.verdict) (row_tests known.net known.earlier q a.verdict a.proof) (subst AllHold l.heads v.head) (subst AllHold l.rows v.rows)

-- ---- the parts of one block

-- what is valid of one cut into parts is valid of the other
pub same_valid : (q : Question) (known : Known) (rs : List Record) (p u : Parts rs) → IsFormed meaning q known rs p → IsFormed meaning q known rs u → documents.IsValid meaning q known rs p
    → documents.IsValid meaning q known rs u × (meaning.learn q known p.head p.rows ≡ meaning.learn q known u.head u.rows)
same_valid q known rs p u f g v =
    let same = (block_apart meaning q known rs rs [] [] p u f g refl).1 in
    let heads = subst (λ (h : Record). AllHold (meaning.head_claims q known h)) same.0 v.head in
    let rows = subst (λ (h : Record). AllHold (meaning.row_claims q known h u.rows)) same.0 (subst (λ (r : List Record). AllHold (meaning.row_claims q known p.head r)) same.1 v.rows) in
    let below : p.rows ++ p.nodes ≡ u.rows ++ u.nodes = tail_is p.head u.head (p.rows ++ p.nodes) (u.rows ++ u.nodes) (sym p.all ∙ u.all) in
    let nodes : p.nodes ≡ u.nodes = append_cancel_left u.rows p.nodes u.nodes (ap (λ (t : List Record). t ++ p.nodes) (sym same.1) ∙ below) in
    let trees = subst (λ (h : Record). AreTrees IsGoodLeaf (meaning.problems q known h) u.nodes) same.0 (subst (λ (ns : List Record). AreTrees IsGoodLeaf (meaning.problems q known p.head) ns) nodes v.trees) in
    (record { head = heads; rows = rows; trees = trees }, ap₂ (λ (h : Record) (r : List Record). meaning.learn q known h r) same.0 same.1)
