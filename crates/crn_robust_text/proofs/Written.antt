-- The lines of a document on robustness, as they are written.
use Rattle.crn_robust_text.proofs.Prelude.{◌≡◌, ◌≤◌, ◌++◌, ◌∙◌, ℕ, Some, List, [], ◌∷◌, length, slice_get, refl, sym, ap, append_assoc, arith, append-nil, Net, Answer, Question, Q1, Q2, Q5, AreFormed, tight, Record, Shapes, all_records, head_of, records_below, answer_records, record_lines, HoldsNoSides, Known, meaning, part_document, part_head, all_of, lines_append, sees_first, sees_second, sees_rank, rests_on, blocks_of, records, Said, case_records}
use Rattle.std.proofs.Common.{codes}

-- the three answers, with the shapes by which their records are
pub record AreThree (net : Net) (answers : List Answer) : Type 0 where
  pub first : Answer
  pub second : Answer
  pub rank : Answer
  pub others : List Answer
  pub between : Answer
  pub another : Answer
  pub one : Shapes
  pub two : Shapes
  pub five : Shapes
  pub all : answers ≡ first ∷ second ∷ between ∷ another ∷ rank ∷ others
  pub first_sides : HoldsNoSides first.proof
  pub second_sides : HoldsNoSides second.proof
  pub rank_sides : HoldsNoSides rank.proof
  pub written : all_of (all_records meaning rests_on (meaning.start net) (blocks_of answers)) ≡ answer_records Q1 one first ++ (answer_records Q2 two second ++ answer_records Q5 five rank)

-- what is known after an answer
abbrev after : Question → Known → Answer → Known
after q known a = meaning.learn q known (head_of q a.verdict) (records_below (meaning.shapes known) a)

pub three : (net : Net) (answers : List Answer) → AreFormed net [] rests_on (blocks_of answers) → AreThree net answers
unfolding all_records
three net (a ∷ b ∷ c ∷ d ∷ e ∷ more) f = let known = after Q1 (meaning.start net) a in record {
  first = a;
  second = b;
  rank = e;
  others = more;
  between = c;
  another = d;
  one = meaning.shapes (meaning.start net);
  two = meaning.shapes known;
  five = meaning.shapes (after Q2 known b);
  all = refl;
  first_sides = sees_first net [] a.verdict a.proof f.0;
  second_sides = sees_second net ((Q1, tight a.verdict) ∷ []) b.verdict b.proof f.1.0;
  rank_sides = sees_rank net ((Q1, tight a.verdict) ∷ (Q2, tight b.verdict) ∷ []) e.verdict e.proof f.1.1.0;
  written = ap (λ (t : List Record). answer_records Q1 (meaning.shapes (meaning.start net)) a ++ (answer_records Q2 (meaning.shapes known) b ++ t)) (append-nil (answer_records Q5 (meaning.shapes (after Q2 known b)) e));
}
three net [] f = absurd f
three net (a ∷ []) f = absurd f
three net (a ∷ b ∷ []) f = absurd f
three net (a ∷ b ∷ c ∷ []) f = absurd f
three net (a ∷ b ∷ c ∷ d ∷ []) f = absurd f

-- a full list has the answers to questions 1, 2 and 5 at their places
pub is_first : (net : Net) (answers : List Answer) (t : AreThree net answers) (got : Answer) → slice_get answers 0 ≡ Some got → t.first ≡ got
is_first net answers t got e = let same : Some t.first ≡ Some got = ap (λ (l : List Answer). slice_get l 0) (sym t.all) ∙ e in cc

pub is_second : (net : Net) (answers : List Answer) (t : AreThree net answers) (got : Answer) → slice_get answers 1 ≡ Some got → t.second ≡ got
is_second net answers t got e = let same : Some t.second ≡ Some got = ap (λ (l : List Answer). slice_get l 1) (sym t.all) ∙ e in cc

pub is_rank : (net : Net) (answers : List Answer) (t : AreThree net answers) (got : Answer) → slice_get answers 4 ≡ Some got → t.rank ≡ got
is_rank net answers t got e = let same : Some t.rank ≡ Some got = ap (λ (l : List Answer). slice_get l 4) (sym t.all) ∙ e in cc

pub full : (net : Net) (answers : List Answer) → AreThree net answers → 5 ≤ length answers
full net answers t = omega (arith, ap (λ (l : List Answer). length l) t.all)

-- the lines of these answers
abbrev BlockLines : Net → List Answer → List ℕ
BlockLines net answers = record_lines (all_of (all_records meaning rests_on (meaning.start net) (blocks_of answers)))

-- those of the first, and then the others
pub first_lines : (net : Net) (answers : List Answer) (t : AreThree net answers) (a : Answer) → t.first ≡ a → BlockLines net answers ≡ record_lines (answer_records Q1 t.one a) ++ record_lines (answer_records Q2 t.two t.second ++ answer_records Q5 t.five t.rank)
first_lines net answers t a e =
    ap (λ (rs : List Record). record_lines rs) t.written ∙ lines_append (answer_records Q1 t.one t.first) (answer_records Q2 t.two t.second ++ answer_records Q5 t.five t.rank)
    ∙ ap (λ (x : Answer). record_lines (answer_records Q1 t.one x) ++ record_lines (answer_records Q2 t.two t.second ++ answer_records Q5 t.five t.rank)) e

-- those of the first two, and then the third
pub second_lines : (net : Net) (answers : List Answer) (t : AreThree net answers) (a b : Answer) → t.first ≡ a → t.second ≡ b → BlockLines net answers ≡ (record_lines (answer_records Q1 t.one a) ++ record_lines (answer_records Q2 t.two b)) ++ record_lines (answer_records Q5 t.five t.rank)
second_lines net answers t a b e f =
    let rank = record_lines (answer_records Q5 t.five t.rank) in
    first_lines net answers t a e ∙ ap (λ (l : List ℕ). record_lines (answer_records Q1 t.one a) ++ l) (lines_append (answer_records Q2 t.two t.second) (answer_records Q5 t.five t.rank))
    ∙ sym (append_assoc (record_lines (answer_records Q1 t.one a)) (record_lines (answer_records Q2 t.two t.second)) rank)
    ∙ ap (λ (x : Answer). (record_lines (answer_records Q1 t.one a) ++ record_lines (answer_records Q2 t.two x)) ++ rank) f

pub three_lines : (net : Net) (answers : List Answer) (t : AreThree net answers) (a b c : Answer) → t.first ≡ a → t.second ≡ b → t.rank ≡ c → BlockLines net answers ≡ (record_lines (answer_records Q1 t.one a) ++ record_lines (answer_records Q2 t.two b)) ++ record_lines (answer_records Q5 t.five c)
three_lines net answers t a b c e f g =
    second_lines net answers t a b e f ∙ ap (λ (x : Answer). (record_lines (answer_records Q1 t.one a) ++ record_lines (answer_records Q2 t.two b)) ++ record_lines (answer_records Q5 t.five x)) g

-- the document
pub document_parts : (net : Net) (said : Said) → part_document (codes "robust") net (records said) ≡ ((part_head (codes "robust") net ++ record_lines (all_of said.blocks)) ++ record_lines (case_records said.robust)) ++ codes "end\n"
document_parts net said =
    ap (λ (t : List ℕ). (part_head (codes "robust") net ++ t) ++ codes "end\n") (lines_append (all_of said.blocks) (case_records said.robust))
    ∙ ap (λ (t : List ℕ). t ++ codes "end\n") (sym (append_assoc (part_head (codes "robust") net) (record_lines (all_of said.blocks)) (record_lines (case_records said.robust))))

pub document_first : (net : Net) (said : Said) → part_document (codes "robust") net (records said) ≡ part_head (codes "robust") net ++ (record_lines (records said) ++ codes "end\n")
document_first net said = append_assoc (part_head (codes "robust") net) (record_lines (records said)) (codes "end\n")

pub document_second : (net : Net) (said : Said) → part_document (codes "robust") net (records said) ≡ (part_head (codes "robust") net ++ record_lines (all_of said.blocks)) ++ (record_lines (case_records said.robust) ++ codes "end\n")
document_second net said = document_parts net said ∙ append_assoc (part_head (codes "robust") net ++ record_lines (all_of said.blocks)) (record_lines (case_records said.robust)) (codes "end\n")
