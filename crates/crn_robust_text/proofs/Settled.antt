-- The course of a document on robustness is settled.
use Rattle.crn_robust_text.proofs.Prelude.{◌+◌, ℕ, [], refl, arith, Net, IsNetwork, Earlier, Q5, on, Record, Course, Give, ◌>>=◌, test_own, IsSettled, asks_blocks, first_number, meaning, asks_part, part_course, forms_yes, settled_then, own_settled, give_settled, either_settled, asks_part_settled, part_settled, blocks_settled, OfNetwork, meaning_decided, Robust, Rests, rests_on, words, rests_forms, line_forms, case_forms, case_in, SaysLineBy, IsCaseBy, is_open, asks_rests, asks_case, before, asks_verdict, asks_robust, IsOwn, part}
use Rattle.crn_robust_text.proofs.TestsDecided.{line_decided, case_decided}

rests_settled : (n : ℕ) → IsSettled IsOwn (asks_rests n)
rests_settled n = settled_then IsOwn (asks_part words n rests_forms) (λ r. Give (n + 1, Rests)) (asks_part_settled IsOwn words n rests_forms (forms_yes rests_forms refl)) (λ r. give_settled IsOwn (n + 1, Rests))

case_settled : (net : Net) → IsNetwork net → (earlier : Earlier) (n : ℕ) → IsSettled IsOwn (asks_case net earlier n)
case_settled net is earlier n =
    settled_then IsOwn (asks_part words n line_forms) (λ b. after_line b) (asks_part_settled IsOwn words n line_forms (forms_yes line_forms refl)) (λ b.
    settled_then IsOwn (asks_part words (n + 1) (case_forms net)) (λ r. after_case b r) (asks_part_settled IsOwn words (n + 1) (case_forms net) (forms_yes (case_forms net) refl)) (λ r.
    settled_then IsOwn (test_own n 55 (SaysLineBy net earlier (first_number b.numbers))) (λ x. last_tests r) (own_settled IsOwn n 55 (SaysLineBy net earlier (first_number b.numbers)) (omega arith, omega arith) (line_decided net earlier (first_number b.numbers))) (λ x.
    settled_then IsOwn (test_own (n + 1) 56 (IsCaseBy net earlier (case_in r))) (λ y. Give (n + 2, case_in r)) (own_settled IsOwn (n + 1) 56 (IsCaseBy net earlier (case_in r)) (omega arith, omega arith) (case_decided net is earlier (case_in r))) (λ y. give_settled IsOwn (n + 2, case_in r)))))
  where
    last_tests : Record → Course (ℕ × Robust)
    last_tests r = test_own (n + 1) 56 (IsCaseBy net earlier (case_in r)) >>= (λ y. Give (n + 2, case_in r))

    after_case : Record → Record → Course (ℕ × Robust)
    after_case b r = test_own n 55 (SaysLineBy net earlier (first_number b.numbers)) >>= (λ x. last_tests r)

    after_line : Record → Course (ℕ × Robust)
    after_line b = asks_part words (n + 1) (case_forms net) >>= (λ r. after_case b r)

lines_settled : (net : Net) (n : ℕ) → IsNetwork net → IsSettled IsOwn (asks_robust net n)
lines_settled net n is =
    let d = meaning_decided in
    settled_then IsOwn (asks_blocks meaning 1 [] rests_on (before net n)) (λ after. asks_verdict net after)
    (blocks_settled IsOwn meaning OfNetwork 1 [] rests_on (before net n) (d.0, (d.1.0, (d.1.1.1.1.0, tt))) is)
    (λ after. either_settled IsOwn (is_open (on after.known.earlier Q5)) (asks_rests after.line) (asks_case net after.known.earlier after.line) (rests_settled after.line) (case_settled net is after.known.earlier after.line))

-- the course of the whole document
pub course_settled : IsSettled IsOwn (part_course part)
course_settled = part_settled part lines_settled
