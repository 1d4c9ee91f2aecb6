-- What is written of formed and valid answers and of the verdict that they give is a document.
use Rattle.crn_robust_text.proofs.Prelude.{◌≡◌, ◌≤◌, ◌-◌, ◌<◌, [], ◌∷◌, length, refl, sym, subst, inl, inr, arith, get_or, codes, length-append, Net, IsNetwork, vector_long, Answer, Earlier, Q1, Q2, Q5, on, IsTrueOf, IsTrueOrOpen, AreFormed, valid_documents_are_true, verdicts_on, meaning, all_of, answers_few, built_few, meaning_short, networks_are_small, part_document_short, Robust, Yes, Number, None, Rests, IsPicked, IsCase, rests_on, IsCaseBy, case_records, Said, AreInside, IsFormed, records, said_of, WrittenAreDocuments, AreBlocks}
use Rattle.crn_cert.specs.Valid as cert
use Rattle.crn_robust_text.proofs.TestsTrue.{AreTrue, each_built, first_closed, second_closed, treeless, answers_true, blocks_learned, blocks_formed, true_case}
use Rattle.crn_robust_text.proofs.Answered.{records_plain, robust_is_answered}

-- the numbers of the case that holds are within their ranges
pub inside_by : (net : Net) (robust : Robust) → IsNetwork net → IsCase net robust → AreInside net robust
inside_by net (Yes species first second) n h =
    let p = (let l = h.4 in l.pair) in
    let before : first - 1 < length net.complexes = omega (arith, p.before, p.inside) in
    let width : length (get_or net.complexes (first - 1) []) ≡ length net.names = vector_long (length net.names) net.complexes n.partial.vectors (first - 1) before in
    ((h.1, omega (arith, h.1, p.species.inside, width)), (h.2, omega (arith, h.2, before)), (h.3, omega (arith, h.3, p.inside)))
inside_by net (Number d) n h = omega (arith, h.0.is)
inside_by net None n h = tt
inside_by net Rests n h = tt

-- valid answers on linkage classes and strong classes are true, and that on the rank, but for an open one
pub blocks_true : (net : Net) (linkage strong rank : Answer) → IsNetwork net → AreFormed net [] rests_on (linkage ∷ strong ∷ rank ∷ []) → cert.AreValid net [] rests_on (linkage ∷ strong ∷ rank ∷ []) → IsTrueOf net Q1 linkage.verdict × IsTrueOf net Q2 strong.verdict × IsTrueOrOpen net Q5 rank.verdict
blocks_true net linkage strong rank n formed valid =
    let t = valid_documents_are_true rests_on net (linkage ∷ strong ∷ rank ∷ []) each_built n formed valid in
    (first_closed net _ linkage.verdict linkage.proof formed.0 t.0, second_closed net _ strong.verdict strong.proof formed.1.0 t.1.0, t.1.1.0)

-- the verdict that they give is the case by their records, and within its ranges
picked_by : (net : Net) (earlier : Earlier) (robust : Robust) → IsNetwork net → AreTrue net earlier → IsPicked net (on earlier Q5) robust → IsCaseBy net earlier robust × AreInside net robust
picked_by net earlier robust n t (inl p) = subst (λ (r : Robust). IsCaseBy net earlier r × AreInside net r) (sym p.1) (p.0, tt)
picked_by net earlier robust n t (inr p) = (true_case net earlier robust n t p.0 p.1, inside_by net robust n p.1)

case_few : (robust : Robust) → length (case_records robust) ≤ 2
case_few (Yes s c d) = omega arith
case_few (Number d) = omega arith
case_few None = omega arith
case_few Rests = omega arith

few_records : (net : Net) (said : Said) → IsNetwork net → IsFormed net said → length (records said) ≤ 400000
few_records net said n f =
    let few = built_few in
    let short = meaning_short in
    let blocks = answers_few rests_on (few.0, (few.1.0, (few.1.1.1.1.0, tt))) (omega arith, (omega arith, (omega arith, tt))) (short.0, (short.1.0, (short.1.1.1.1.0, tt))) treeless (meaning.start net) said.blocks (networks_are_small net n) (blocks_formed net said.blocks f.0) in
    omega (arith, length-append (all_of said.blocks) (case_records said.robust), blocks, case_few said.robust)

pub written_are_documents : WrittenAreDocuments
written_are_documents = λ net answers robust n formed valid picked.
    let said = said_of net answers robust in
    let b : AreBlocks net said.blocks = record { answers = answers; formed = formed; are = refl } in
    let t = answers_true net answers formed (valid_documents_are_true rests_on net answers each_built n formed valid) in
    let p = picked_by net (verdicts_on rests_on answers) robust n t picked in
    let is_formed : IsFormed net said = (b, p.1) in
    let title = robust_is_answered.title in
    record {
      short = part_document_short (codes "robust") net (records said) title n (records_plain net said n is_formed) (few_records net said n is_formed);
      network = n;
      formed = is_formed;
      valid = ((b, valid), subst (λ (es : Earlier). IsCaseBy net es robust) (sym (blocks_learned net answers formed)) p.0);
      is = refl;
    }
