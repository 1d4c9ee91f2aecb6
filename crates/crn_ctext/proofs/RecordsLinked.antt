-- Formed records of the built questions are the records of formed answers.
use Rattle.crn_ctext.proofs.Prelude.{◌≡◌, ◌++◌, ◌∙◌, Bool, false, List, [], ◌∷◌, refl, sym, ap, ap₂, subst, Net, Verdict, Answer, Earlier, Question, IsFormedOf, Record, records, all_records, Known, shapes_of, sizes_of, verdict_of, learn_of, verdicts_said, meaning, tight, built, verdicts_of}
use Rattle.crn_cert.specs.Formed.{AreFormed}
use Rattle.crn_ctext.specs.Documents as documents
use Rattle.crn_ctext.proofs.KnownBefore.{AreKnown, after}
use Rattle.crn_ctext.proofs.BlocksLinked.{joined}
use Rattle.crn_ctext.proofs.AnswersLinked.{built_in_order, earlier_next, known_after, known_next}
use Rattle.crn_ctext.proofs.PrefixesSaid.{prefix_says}
use Rattle.crn_ctext.proofs.TreeRecords.{Leaf}
use Rattle.crn_ctext.proofs.RecordsTold.{AreInOrder, told}

-- ---- all answers

pub answers_by : (b : Bool) (qs : List Question) → AreInOrder b qs → (known : Known) (answers : List (List Record)) → AreKnown b known.earlier → documents.AreFormed meaning qs known answers
    → (given : List Answer) × AreFormed known.net known.earlier qs given × (all_records meaning qs known given ≡ answers) × (verdicts_said qs known answers ≡ verdicts_of given)
unfolding documents.AreFormed all_records
answers_by b [] r known answers k f = ([], tt, sym f, refl)
answers_by b (q ∷ qs) r known [] k f = absurd f
answers_by b (q ∷ qs) r known (rs ∷ more) k f =
    let p = f.0 in
    let formed = f.1 in
    let one = told known q rs p formed in
    let a : Answer = record { verdict = one.0; proof = one.1 } in
    let here : IsFormedOf known.net known.earlier q one.0 one.1 = one.2 in
    let learned : known_after q known a ≡ meaning.learn q known p.head p.rows = ap₂ (λ (h : Record) (rows : List Record). meaning.learn q known h rows) (sym one.3) (sym one.4) in
    let then : (meaning.learn q known p.head p.rows).earlier ≡ known.earlier ++ (q, tight a.verdict) ∷ [] = ap (λ (k : Known). k.earlier) (sym learned) ∙ earlier_next b q known a k (joined b q r.0) here in
    let strong : AreKnown (after b q) (meaning.learn q known p.head p.rows).earlier = subst (λ (x : Known). AreKnown (after b q) x.earlier) learned (known_next b q known a k (joined b q r.0) here) in
    let rest = answers_by (after b q) qs r.1 (meaning.learn q known p.head p.rows) more strong f.2 in
    let block : records q (shapes_of known) a ≡ rs = ap₂ (λ (h : Record) (t : List Record). h ∷ t) (sym one.3) (ap₂ (λ (x y : List Record). x ++ y) (sym one.4) (sym one.5)) ∙ sym p.all in
    let later : all_records meaning qs (known_after q known a) rest.0 ≡ more = ap (λ (k : Known). all_records meaning qs k rest.0) learned ∙ rest.2 in
    let alone : verdict_of q (sizes_of known) p.head (p.rows ++ p.nodes) ≡ verdict_of q (sizes_of known) p.head p.rows = prefix_says Leaf q known p.head p.rows p.nodes formed.trees in
    let learns : learn_of q known p.head (p.rows ++ p.nodes) ≡ learn_of q known p.head p.rows = ap (λ (v : Verdict). record { net = known.net; earlier = known.earlier ++ (q, v) ∷ [] }) alone in
    let said_all : verdicts_said (q ∷ qs) known (rs ∷ more) ≡ a.verdict ∷ verdicts_of rest.0 = ap (λ (t : List Record). verdicts_said (q ∷ qs) known (t ∷ more)) p.all
    ∙ ap₂ (λ (v : Verdict) (vs : List Verdict). v ∷ vs) (alone ∙ one.6) (ap (λ (k : Known). verdicts_said qs k more) learns ∙ rest.3) in
    let rest_formed : AreFormed known.net (known.earlier ++ (q, tight a.verdict) ∷ []) qs rest.0 = subst (λ (es : Earlier). AreFormed known.net es qs rest.0) then rest.1 in
    (a ∷ rest.0, (here, rest_formed), ap₂ (λ (x : List Record) (xs : List (List Record)). x ∷ xs) block later, said_all)

pub records_answered : (net : Net) (answers : List (List Record)) → documents.AreFormed meaning built (meaning.start net) answers → (given : List Answer) × AreFormed net [] built given × (all_records meaning built (meaning.start net) given ≡ answers) × (verdicts_said built (meaning.start net) answers ≡ verdicts_of given)
records_answered net answers f =
    let r = answers_by false built built_in_order (meaning.start net) answers tt f in
    (r.0, r.1, r.2, r.3)
