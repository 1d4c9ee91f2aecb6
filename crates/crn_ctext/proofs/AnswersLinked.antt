-- The records of formed answers to the built questions are formed, and their tests are those of the answers.
use Rattle.crn_ctext.proofs.Prelude.{◌≡◌, ◌++◌, ◌∙◌, Bool, false, List, [], ◌∷◌, refl, sym, ap, ap₂, subst, append_cancel_left, Net, Verdict, Proof, Answer, Earlier, Question, Q1, Q2, IsFormedOf, tight, tight_proof, built, Record, head_of, records_below, proof_nodes, records, all_records, Known, shapes_of, sizes_of, verdict_of, meaning, AreFormedOf, records_of, AreSame}
use Rattle.crn_cert.specs.Formed.{AreFormed}
use Rattle.crn_cert.specs.Valid.{AreValid}
use Rattle.crn_ctext.specs.Documents as documents
use Rattle.crn_ctext.proofs.AnswersApart.{block_apart, first_same}
use Rattle.crn_ctext.proofs.Shown.{shown_tight}
use Rattle.crn_ctext.proofs.Joined.{parts, IsJoinedAt, same_valid}
use Rattle.crn_ctext.proofs.KnownBefore.{AreKnown, IsRight, IsStrongTrue, IsTrueIfStrong, after, formed_right, right_tight, known_then, valid_is_true, true_if_strong_tight, true_then}
use Rattle.crn_ctext.proofs.RecordsTold.{AreInOrder}
use Rattle.crn_ctext.proofs.BlocksLinked.{block_says, joined}

-- ---- all answers

-- what is known after an answer
abbrev pub known_after : Question → Known → Answer → Known
known_after q known a = meaning.learn q known (head_of q a.verdict) (records_below (shapes_of known) a)

-- the built questions come in order
pub built_in_order : AreInOrder false built
built_in_order = (tt, (tt, (tt, (tt, (tt, (tt, (tt, (tt, (tt, (tt, (refl, (tt, (refl, (tt, (tt, tt)))))))))))))))

-- then its verdict is known, without the spares of its lists
pub earlier_next : (b : Bool) (q : Question) (known : Known) (a : Answer) → AreKnown b known.earlier → IsJoinedAt b q → IsFormedOf known.net known.earlier q a.verdict a.proof → (known_after q known a).earlier ≡ known.earlier ++ (q, tight a.verdict) ∷ []
earlier_next b q known a n j f = let s = j.says in ap (λ (v : Verdict). known.earlier ++ (q, v) ∷ []) (s known a.verdict a.proof n f)

-- and the strong classes are known after question 2
pub known_next : (b : Bool) (q : Question) (known : Known) (a : Answer) → AreKnown b known.earlier → IsJoinedAt b q → IsFormedOf known.net known.earlier q a.verdict a.proof → AreKnown (after b q) (known_after q known a).earlier
known_next b q known a n j f =
    let right : IsRight q (tight a.verdict) = right_tight q a.verdict (formed_right known.net known.earlier q a.verdict a.proof f) in
    subst (λ (es : Earlier). AreKnown (after b q) es) (sym (earlier_next b q known a n j f)) (known_then b q known.earlier (tight a.verdict) n right)

-- later answers are formed after what is known then
pub formed_next : (b : Bool) (q : Question) (qs : List Question) (known : Known) (a : Answer) (answers : List Answer) → AreKnown b known.earlier → IsJoinedAt b q → IsFormedOf known.net known.earlier q a.verdict a.proof
    → AreFormed known.net (known.earlier ++ (q, tight a.verdict) ∷ []) qs answers → AreFormed known.net (known_after q known a).earlier qs answers
formed_next b q qs known a answers n j f more = subst (λ (es : Earlier). AreFormed known.net es qs answers) (sym (earlier_next b q known a n j f)) more

-- after an answer to question 1
pub linkage_next : (known : Known) (a : Answer) → IsFormedOf known.net known.earlier Q1 a.verdict a.proof → (known_after Q1 known a).earlier ≡ known.earlier ++ (Q1, tight a.verdict) ∷ []
linkage_next known a f = ap (λ (v : Verdict). known.earlier ++ (Q1, v) ∷ []) (block_says known Q1 a.verdict a.proof f)

-- and to question 2
pub strong_next : (known : Known) (a : Answer) → IsFormedOf known.net known.earlier Q2 a.verdict a.proof → (known_after Q2 known a).earlier ≡ known.earlier ++ (Q2, tight a.verdict) ∷ []
strong_next known a f = ap (λ (v : Verdict). known.earlier ++ (Q2, v) ∷ []) (block_says known Q2 a.verdict a.proof f)

pub formed_by : (b : Bool) (qs : List Question) → AreInOrder b qs → (known : Known) (answers : List Answer) → AreKnown b known.earlier → AreFormed known.net known.earlier qs answers → documents.AreFormed meaning qs known (all_records meaning qs known answers)
unfolding documents.AreFormed all_records
formed_by b [] links known [] n f = refl
formed_by b (q ∷ qs) links known (a ∷ answers) n f =
    let j = joined b q links.0 in
    let formed = j.formed in
    (parts q known a, formed known a.verdict a.proof n f.0, formed_by (after b q) qs links.1 (known_after q known a) answers (known_next b q known a n j f.0) (formed_next b q qs known a answers n j f.0 f.1))
formed_by b qs links known answers n f = absurd f

pub answers_formed : (net : Net) (answers : List Answer) → AreFormed net [] built answers → AreFormedOf net (records_of net answers)
answers_formed net answers f = formed_by false built built_in_order (meaning.start net) answers tt f

-- ---- valid answers

abbrev Rest : List Question → Known → Known → List Answer → Type 0
Rest qs known from answers = documents.AreValid meaning qs known (all_records meaning qs from answers)

pub valid_by : (b : Bool) (qs : List Question) → AreInOrder b qs → (known : Known) (answers : List Answer) → AreKnown b known.earlier → AreFormed known.net known.earlier qs answers → AreValid known.net known.earlier qs answers → Rest qs known known answers
unfolding documents.AreValid all_records
valid_by b [] links known [] n f v = refl
valid_by b (q ∷ qs) links known (a ∷ answers) n f v =
    let j = joined b q links.0 in
    let formed = j.formed in
    let there = j.there in
    let valid : AreValid known.net (known_after q known a).earlier qs answers = subst (λ (es : Earlier). AreValid known.net es qs answers) (sym (earlier_next b q known a n j f.0)) v.1 in
    (parts q known a, formed known a.verdict a.proof n f.0, there known a.verdict a.proof n f.0 v.0, valid_by (after b q) qs links.1 (known_after q known a) answers (known_next b q known a n j f.0) (formed_next b q qs known a answers n j f.0 f.1) valid)
valid_by b qs links known answers n f v = absurd f

pub answers_valid : (net : Net) (answers : List Answer) → AreFormed net [] built answers → AreValid net [] built answers → documents.AreValid meaning built (meaning.start net) (records_of net answers)
answers_valid net answers f v = valid_by false built built_in_order (meaning.start net) answers tt f v

pub back_by : (b : Bool) (qs : List Question) → AreInOrder b qs → (known : Known) (answers : List Answer) → AreKnown b known.earlier → IsStrongTrue b known → AreFormed known.net known.earlier qs answers → Rest qs known known answers → AreValid known.net known.earlier qs answers
unfolding documents.AreValid all_records
back_by b [] links known [] n t f v = tt
back_by b (q ∷ qs) links known (a ∷ answers) n t f v =
    let j = joined b q links.0 in
    let formed = j.formed in
    let back = j.back in
    let next = known_after q known a in
    let s = same_valid q known (records q (shapes_of known) a) v.0 (parts q known a) v.1 (formed known a.verdict a.proof n f.0) v.2 in
    let later : Rest qs next next answers = subst (λ (k : Known). Rest qs k next answers) s.1 v.3 in
    let valid = back known a.verdict a.proof n t f.0 s.0 in
    let e = earlier_next b q known a n j f.0 in
    let right : IsTrueIfStrong q known.net (tight a.verdict) = true_if_strong_tight q known.net a.verdict (valid_is_true known.net known.earlier q a.verdict a.proof f.0 valid) in
    let true_next : IsStrongTrue (after b q) next = subst (λ (es : Earlier). IsStrongTrue (after b q) (record { net = known.net; earlier = es })) (sym e) (true_then b q known (tight a.verdict) n t right) in
    let rest = back_by (after b q) qs links.1 next answers (known_next b q known a n j f.0) true_next (formed_next b q qs known a answers n j f.0 f.1) later in
    (valid, subst (λ (es : Earlier). AreValid known.net es qs answers) e rest)
back_by b qs links known answers n t f v = absurd f

pub records_valid : (net : Net) (answers : List Answer) → AreFormed net [] built answers → documents.AreValid meaning built (meaning.start net) (records_of net answers) → AreValid net [] built answers
records_valid net answers f v = back_by false built built_in_order (meaning.start net) answers tt tt f v

-- ---- answers with the same records

-- equal records are of answers that are the same
same_by : (b : Bool) (qs : List Question) → AreInOrder b qs → (known : Known) (answers others : List Answer) → AreKnown b known.earlier → AreFormed known.net known.earlier qs answers → AreFormed known.net known.earlier qs others
    → all_records meaning qs known answers ≡ all_records meaning qs known others → AreSame answers others
unfolding all_records
same_by b [] links known [] [] n f g r = refl
same_by b [] links known (a ∷ answers) others n f g r = absurd f
same_by b (q ∷ qs) links known [] others n f g r = absurd f
same_by b (q ∷ qs) links known (a ∷ answers) (c ∷ others) n f g r =
    let j = joined b q links.0 in
    let formed = j.formed in
    let says = j.says in
    let shows = j.shows in
    let k = formed known a.verdict a.proof n f.0 in
    let l = formed known c.verdict c.proof n g.0 in
    let h = first_same (records q (shapes_of known) a) (records q (shapes_of known) c) (all_records meaning qs (known_after q known a) answers) (all_records meaning qs (known_after q known c) others) r in
    let block : records q (shapes_of known) a ++ [] ≡ records q (shapes_of known) c ++ [] = ap (λ (t : List Record). t ++ []) h.0 in
    let same = (block_apart meaning q known (records q (shapes_of known) a) (records q (shapes_of known) c) [] [] (parts q known a) (parts q known c) k l block).1 in
    let nodes : proof_nodes a.proof ≡ proof_nodes c.proof = same_nodes (head_of q a.verdict) (head_of q c.verdict) (records_below (shapes_of known) a) (records_below (shapes_of known) c) (proof_nodes a.proof) (proof_nodes c.proof) same.1 h.0 in
    let verdicts : tight a.verdict ≡ tight c.verdict = sym (says known a.verdict a.proof n f.0) ∙ ap₂ (λ (x : Record) (xs : List Record). verdict_of q (sizes_of known) x xs) same.0 same.1 ∙ says known c.verdict c.proof n g.0 in
    let proofs : tight_proof a.proof ≡ tight_proof c.proof = shown_tight a.proof c.proof (shows known a.verdict c.verdict a.proof c.proof n f.0 g.0 same.0 same.1 nodes) in
    let next : known_after q known a ≡ known_after q known c = ap₂ (λ (x : Record) (xs : List Record). meaning.learn q known x xs) same.0 same.1 in
    let rest : all_records meaning qs (known_after q known a) answers ≡ all_records meaning qs (known_after q known a) others = h.1 ∙ ap (λ (x : Known). all_records meaning qs x others) (sym next) in
    let after_a = formed_next b q qs known a answers n j f.0 f.1 in
    let after_c : AreFormed known.net (known_after q known a).earlier qs others = subst (λ (x : Known). AreFormed known.net x.earlier qs others) (sym next) (formed_next b q qs known c others n j g.0 g.1) in
    let more = same_by (after b q) qs links.1 (known_after q known a) answers others (known_next b q known a n j f.0) after_a after_c rest in
    ap₂ (λ (x : Answer) (xs : List Answer). x ∷ xs) (ap₂ (λ (v : Verdict) (p : Proof). record { verdict = v; proof = p }) verdicts proofs) more
  where
    same_nodes : (x y : Record) (rows others ns ms : List Record) → rows ≡ others → x ∷ (rows ++ ns) ≡ y ∷ (others ++ ms) → ns ≡ ms
    same_nodes x y rows others ns ms e all = let below : rows ++ ns ≡ others ++ ms = cc in append_cancel_left others ns ms (ap (λ (t : List Record). t ++ ns) (sym e) ∙ below)
same_by b qs links known answers others n f g r = absurd g

pub answers_same : (net : Net) (answers others : List Answer) → AreFormed net [] built answers → AreFormed net [] built others → records_of net answers ≡ records_of net others → AreSame answers others
answers_same net answers others f g r = same_by false built built_in_order (meaning.start net) answers others tt f g r
