-- The tests of a document say what they say of the network, if the blocks are true; and valid blocks are true or leave the rank open.
use Rattle.crn_robust_text.proofs.Prelude.{◌≡◌, ◌⊎◌, ◌∙◌, ◌-◌, ℕ, false, List, [], ◌∷◌, length, refl, sym, ap, subst, inl, inr, arith, ◌↔◌, Option, NoRank, Net, IsNetwork, IsDeficiency, HasConfluenceLine, deficiency_is_one, one_leaves_line, Answer, Wide, Budget, RestsOn, Proof, Verdict, Rank, Unknown, Earlier, Q1, Q2, Q5, IsOpen, on, count_of, rank_of, IsFormedOf, AreFormed, IsTrueOrOpen, AllTrueOrOpen, AreBuilt, IsTrueOf, IsLeft, valid_documents_are_true, Record, meaning, AreInOrder, answers_by, back_by, valid_are_formed, Robust, Yes, Number, None, Rests, IsCase, SaysLine, classes_leave, deficiency_by, rests_on, IsDeficiencyBy, SaysLineBy, IsCaseBy, earlier_of, line_of, ValidAreTrue, ValidLinesAreTrue, AreBlocks, verdicts_on, all_records, AreTreeless, answers_learned, formed_by, valid_by, is_true_tight, true_tight}
use Rattle.std.specs.Prelude.{Some}
use Rattle.crn_cert.specs.Valid as cert
use Rattle.crn_ctext.specs.Documents as documents

-- the verdicts on linkage classes and on the rank are true, but for an open rank
pub record AreTrue (net : Net) (earlier : Earlier) : Type 0 where
  pub classes : IsTrueOf net Q1 (on earlier Q1)
  pub rank : IsTrueOrOpen net Q5 (on earlier Q5)

-- ---- the deficiency

left_by : (net : Net) (earlier : Earlier) (v : Verdict) (d : ℕ) → IsTrueOf net Q1 (on earlier Q1) → IsTrueOrOpen net Q5 v → IsLeft net earlier d (rank_of v) → IsDeficiency net d
left_by net earlier (Rank rank base) d c t l = deficiency_by net (on earlier Q1) rank d c t.rank_is l
left_by net earlier v d c t l = absurd l

-- the deficiency that the blocks leave is that of the network
pub left_true : (net : Net) (earlier : Earlier) (d : ℕ) → AreTrue net earlier → IsDeficiencyBy net earlier d → IsDeficiency net d
left_true net earlier d t l = left_by net earlier (on earlier Q5) d t.classes t.rank l

leaves_by : (net : Net) (earlier : Earlier) (v : Verdict) (d : ℕ) → IsNetwork net → IsTrueOf net Q1 (on earlier Q1) → IsTrueOrOpen net Q5 v → (IsOpen v → ⊥) → IsDeficiency net d → IsLeft net earlier d (rank_of v)
leaves_by net earlier (Unknown gap) d n c t closed is = absurd (closed tt)
leaves_by net earlier (Rank rank base) d n c t closed is =
    let classes = count_of (on earlier Q1) in
    let few = classes_leave net (on earlier Q1) rank n c t.rank_is in
    let other = deficiency_by net (on earlier Q1) rank (length net.complexes - classes - rank) c t.rank_is (omega (arith, few)) in
    omega (arith, few, deficiency_is_one net d (length net.complexes - classes - rank) is other)
leaves_by net earlier v d n c t closed is = absurd t

-- and the other way round, if they decide the rank
true_left : (net : Net) (earlier : Earlier) (d : ℕ) → IsNetwork net → AreTrue net earlier → (IsOpen (on earlier Q5) → ⊥) → IsDeficiency net d → IsDeficiencyBy net earlier d
true_left net earlier d n t closed is = leaves_by net earlier (on earlier Q5) d n t.classes t.rank closed is

-- they leave one deficiency
left_one : (net : Net) (earlier : Earlier) (d e : ℕ) (rank : Option ℕ) → IsLeft net earlier d rank → IsLeft net earlier e rank → d ≡ e
left_one net earlier d e NoRank p q = absurd p
left_one net earlier d e (Some s) p q = omega (arith, p, q)

pub deficiency_by_one : (net : Net) (earlier : Earlier) (d e : ℕ) → IsDeficiencyBy net earlier d → IsDeficiencyBy net earlier e → d ≡ e
deficiency_by_one net earlier d e p q = left_one net earlier d e (rank_of (on earlier Q5)) p q

-- ---- the tests

pub line_true : (net : Net) (earlier : Earlier) (b : ℕ) → IsNetwork net → AreTrue net earlier → (IsOpen (on earlier Q5) → ⊥) → SaysLineBy net earlier b ↔ SaysLine net b
line_true net earlier b n t closed = (
  λ h. (λ e. left_true net earlier 1 t (h.0 e), λ is. h.1 (true_left net earlier 1 n t closed is)),
  λ h. (λ e. true_left net earlier 1 n t closed (h.0 e), λ l. h.1 (left_true net earlier 1 t l)),
)

-- the case by the blocks is that of the network
pub case_true : (net : Net) (earlier : Earlier) (robust : Robust) → AreTrue net earlier → (robust ≡ Rests → ⊥) → IsCaseBy net earlier robust → IsCase net robust
case_true net earlier (Yes species first second) t ne h = (left_true net earlier 1 t h.0, h.1, h.2, h.3, h.4)
case_true net earlier (Number d) t ne h = (left_true net earlier d t h.0, h.1)
case_true net earlier None t ne h = (left_true net earlier 1 t h.0, h.1)
case_true net earlier Rests t ne h = absurd (ne refl)

-- and the other way round, if they decide the rank
pub true_case : (net : Net) (earlier : Earlier) (robust : Robust) → IsNetwork net → AreTrue net earlier → (IsOpen (on earlier Q5) → ⊥) → IsCase net robust → IsCaseBy net earlier robust
true_case net earlier (Yes species first second) n t closed h = (true_left net earlier 1 n t closed h.0, h.1, h.2, h.3, h.4)
true_case net earlier (Number d) n t closed h = (true_left net earlier d n t closed h.0, h.1)
true_case net earlier None n t closed h = (true_left net earlier 1 n t closed h.0, h.1)
true_case net earlier Rests n t closed h = absurd h

-- ---- valid blocks

pub in_order : AreInOrder false rests_on
in_order = (tt, (tt, (tt, tt)))

-- the blocks have no trees
pub treeless : AreTreeless meaning rests_on
treeless = (λ known h. refl, (λ known h. refl, (λ known h. refl, tt)))

-- no law of these questions requires another
pub each_built : AreBuilt [] rests_on
each_built = ((λ j i. absurd i), ((λ j i. absurd i), ((λ j i. absurd i), tt)))

pub first_closed : (net : Net) (earlier : Earlier) (v : Verdict) (p : Proof) → IsFormedOf net earlier Q1 v p → IsTrueOrOpen net Q1 v → IsTrueOf net Q1 v
first_closed net earlier (Unknown (Wide system class index basis)) p f t = absurd f.0.head
first_closed net earlier (Unknown (Budget nodes)) p f t = absurd f.0.head
first_closed net earlier (Unknown (RestsOn question)) p f t = absurd f.0.head
first_closed net earlier v p f t = t

pub second_closed : (net : Net) (earlier : Earlier) (v : Verdict) (p : Proof) → IsFormedOf net earlier Q2 v p → IsTrueOrOpen net Q2 v → IsTrueOf net Q2 v
second_closed net earlier (Unknown (Wide system class index basis)) p f t = absurd f.0.head
second_closed net earlier (Unknown (Budget nodes)) p f t = absurd f.0.head
second_closed net earlier (Unknown (RestsOn question)) p f t = absurd f.0.head
second_closed net earlier v p f t = t

-- valid answers are true, but for an open rank
pub answers_true : (net : Net) (answers : List Answer) → AreFormed net [] rests_on answers → AllTrueOrOpen net rests_on answers → AreTrue net (verdicts_on rests_on answers)
answers_true net (a ∷ b ∷ c ∷ more) f t = record {
  classes = is_true_tight net Q1 a.verdict (first_closed net [] a.verdict a.proof f.0 t.0);
  rank = true_tight net Q5 c.verdict t.1.1.0;
}
answers_true net [] f t = absurd f
answers_true net (a ∷ []) f t = absurd f.1
answers_true net (a ∷ b ∷ []) f t = absurd f.1.1

-- the blocks of formed answers say their verdicts
pub blocks_learned : (net : Net) (answers : List Answer) → AreFormed net [] rests_on answers → earlier_of net (all_records meaning rests_on (meaning.start net) answers) ≡ verdicts_on rests_on answers
blocks_learned net answers formed = answers_learned false rests_on in_order treeless (meaning.start net) answers tt formed

-- they have the forms of their lines
pub blocks_formed : (net : Net) (blocks : List (List Record)) → AreBlocks net blocks → documents.AreFormed meaning rests_on (meaning.start net) blocks
blocks_formed net blocks b = subst (λ (rs : List (List Record)). documents.AreFormed meaning rests_on (meaning.start net) rs) b.are (formed_by false rests_on in_order (meaning.start net) b.answers tt b.formed)

-- their tests hold if those of the answers do
pub blocks_valid : (net : Net) (blocks : List (List Record)) (b : AreBlocks net blocks) → cert.AreValid net [] rests_on b.answers → documents.AreValid meaning rests_on (meaning.start net) blocks
blocks_valid net blocks b v = subst (λ (rs : List (List Record)). documents.AreValid meaning rests_on (meaning.start net) rs) b.are (valid_by false rests_on in_order (meaning.start net) b.answers tt b.formed v)

-- and blocks whose tests hold are those of such answers
pub blocks_answered : (net : Net) (blocks : List (List Record)) → documents.AreValid meaning rests_on (meaning.start net) blocks → (b : AreBlocks net blocks) × cert.AreValid net [] rests_on b.answers
blocks_answered net blocks v =
    let g = answers_by false rests_on in_order (meaning.start net) blocks tt (valid_are_formed meaning rests_on (meaning.start net) blocks v) in
    let w = back_by false rests_on in_order (meaning.start net) g.0 tt tt g.1 (subst (λ (rs : List (List Record)). documents.AreValid meaning rests_on (meaning.start net) rs) (sym g.2) v) in
    (record { answers = g.0; formed = g.1; are = g.2 }, w)

-- valid blocks are true, but for an open rank
blocks_true : (net : Net) (blocks : List (List Record)) → IsNetwork net → (b : AreBlocks net blocks) → cert.AreValid net [] rests_on b.answers → AreTrue net (earlier_of net blocks)
blocks_true net blocks n b v =
    subst (AreTrue net) (sym (blocks_learned net b.answers b.formed) ∙ ap (λ (rs : List (List Record)). earlier_of net rs) b.are)
    (answers_true net b.answers b.formed (valid_documents_are_true rests_on net b.answers each_built n b.formed v))

-- ---- the laws

pub valid_are_true : ValidAreTrue
valid_are_true net said n v = by said.robust refl
  where
    t : AreTrue net (earlier_of net said.blocks)
    t = blocks_true net said.blocks n v.0.0 v.0.1

    case : (robust : Robust) → said.robust ≡ robust → (robust ≡ Rests → ⊥) → (said.robust ≡ Rests) ⊎ IsCase net said.robust
    case robust e ne = inr (case_true net (earlier_of net said.blocks) said.robust t (λ r. ne (sym e ∙ r)) v.1)

    by : (robust : Robust) → said.robust ≡ robust → (said.robust ≡ Rests) ⊎ IsCase net said.robust
    by (Yes species first second) e = case (Yes species first second) e (λ r. cc)
    by (Number d) e = case (Number d) e (λ r. cc)
    by None e = case None e (λ r. cc)
    by Rests e = inl e

-- the deficiency that a case says
pub line_by : (net : Net) (robust : Robust) → IsNetwork net → IsCase net robust → (line_of robust ≡ 1) ↔ HasConfluenceLine net
line_by net (Yes species first second) n c = let law = one_leaves_line net 1 n c.0 in (λ e. law.0 refl, λ line. refl)
line_by net (Number d) n c = let law = one_leaves_line net d n c.0 in (λ e. absurd (omega (arith, e)), λ line. absurd (c.1 (law.1 line)))
line_by net None n c = let law = one_leaves_line net 1 n c.0 in (λ e. law.0 refl, λ line. refl)
line_by net Rests n c = absurd c

pub valid_lines_are_true : ValidLinesAreTrue
valid_lines_are_true net said n v ne = elim (valid_are_true net said n v) as (λ _. (line_of said.robust ≡ 1) ↔ HasConfluenceLine net) [
  | inl rests ↦ absurd (ne rests)
  | inr c ↦ line_by net said.robust n c
]
