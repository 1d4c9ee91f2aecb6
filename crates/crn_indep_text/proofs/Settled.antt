-- The course of a document on the finest independent decomposition is settled.
use Rattle.crn_indep_text.proofs.Prelude.{◌+◌, ◌-◌, ◌==◌, ℕ, zero, suc, Bool, true, List, [], ◌∷◌, refl, arith, ℤ, codes, if◌then◌else◌, bytes_eq, Net, RankProof, fault_number, Test, Record, Form, Course, Give, ◌>>=◌, test_own, IsSettled, word_of, first_number, asks_part, part_course, HaveWords, AllDecided, forms_yes, settled_then, own_settled, give_settled, either_settled, asks_part_settled, part_settled, rank_decided, all_reactions, AreEvenLabels, AreLinked, reactions, proof_tests, part_code, label_record, words, first_forms, base_forms, dual_forms, comb_forms, label_forms, up_forms, depth_forms, Seen, naturals, proof_of, split_seen, open_seen, asks_rows, own_tests, asks_shown, asks_links, asks_proof, asks_split, asks_rest, asks_decomposition, IsOwn, part}
use Rattle.std.proofs.Common.{false}
use Rattle.crn_indep_text.proofs.TestsDecided.{even_labels_decided, linked_decided}

-- a line of one form is settled, and what follows it
line_then : {A : Type 0} (n : ℕ) (forms : List Form) (f : Record → Course A) → HaveWords forms → ((r : Record) → IsSettled IsOwn (f r)) → IsSettled IsOwn (asks_part words n forms >>= f)
line_then n forms f have s = settled_then IsOwn (asks_part words n forms) f (asks_part_settled IsOwn words n forms have) s

rows_settled : (n : ℕ) (forms : List Form) (count : ℕ) → HaveWords forms → IsSettled IsOwn (asks_rows n forms count)
unfolding asks_rows
rows_settled n forms zero have = give_settled IsOwn []
rows_settled n forms (suc k) have = line_then n forms (λ r. asks_rows (n + 1) forms k >>= (λ rows. Give (r.numbers ∷ rows))) have
    (λ r. settled_then IsOwn (asks_rows (n + 1) forms k) (λ rows. Give (r.numbers ∷ rows)) (rows_settled (n + 1) forms k have) (λ rows. give_settled IsOwn (r.numbers ∷ rows)))

-- ---- tests

code_is : (b : Bool) → IsOwn (if b then 61 else 62)
code_is true = (omega arith, omega arith)
code_is false = (omega arith, omega arith)

own_tests_settled : (n : ℕ) (ts : List {1} Test) → AllDecided ts → IsSettled IsOwn (own_tests n ts)
unfolding own_tests
own_tests_settled n [] d = give_settled IsOwn tt
own_tests_settled n (t ∷ ts) d = settled_then IsOwn (test_own (n + t.part) (part_code (fault_number t.fault)) t.holds) (λ x. own_tests n ts)
    (own_settled IsOwn (n + t.part) (part_code (fault_number t.fault)) t.holds (code_is (fault_number t.fault == 33)) d.0) (λ x. own_tests_settled n ts d.1)

shown_settled : (net : Net) (n : ℕ) (proof : RankProof) (label up depth : List ℕ) → IsSettled IsOwn (asks_shown net n proof label up depth)
shown_settled net n proof label up depth =
    settled_then IsOwn (own_tests n (proof_tests net proof)) (λ x. test_own (n + label_record proof) 63 (AreEvenLabels net proof label) >>= (λ y. test_own (n + (label_record proof + 2)) 64 (AreLinked net proof label up depth)))
    (own_tests_settled n (proof_tests net proof) (rank_decided net (all_reactions net) 1 proof.base.list proof.duals proof.combs))
    (λ x. settled_then IsOwn (test_own (n + label_record proof) 63 (AreEvenLabels net proof label)) (λ y. test_own (n + (label_record proof + 2)) 64 (AreLinked net proof label up depth))
    (own_settled IsOwn (n + label_record proof) 63 (AreEvenLabels net proof label) (omega arith, omega arith) (even_labels_decided net proof label))
    (λ y. own_settled IsOwn (n + (label_record proof + 2)) 64 (AreLinked net proof label up depth) (omega arith, omega arith) (linked_decided net proof label up depth)))

-- ---- all lines

links_settled : (net : Net) (head n : ℕ) (proof : RankProof) → IsSettled IsOwn (asks_links net head n proof)
links_settled net head n proof =
    line_then n (label_forms net) (λ label. asks_part words (n + 1) (up_forms net) >>= (λ up. after_up label up)) (forms_yes (label_forms net) refl)
    (λ label. line_then (n + 1) (up_forms net) (λ up. after_up label up) (forms_yes (up_forms net) refl)
    (λ up. line_then (n + 2) (depth_forms net) (λ depth. last label up depth) (forms_yes (depth_forms net) refl)
    (λ depth. settled_then IsOwn (asks_shown net head proof (naturals label) (naturals up) (naturals depth)) (λ x. Give (n + 3, split_seen proof (naturals label))) (shown_settled net head proof (naturals label) (naturals up) (naturals depth))
    (λ x. give_settled IsOwn (n + 3, split_seen proof (naturals label))))))
  where
    last : Record → Record → Record → Course (ℕ × Seen)
    last label up depth = asks_shown net head proof (naturals label) (naturals up) (naturals depth) >>= (λ x. Give (n + 3, split_seen proof (naturals label)))

    after_up : Record → Record → Course (ℕ × Seen)
    after_up label up = asks_part words (n + 2) (depth_forms net) >>= (λ depth. last label up depth)

proof_settled : (net : Net) (n rank : ℕ) → IsSettled IsOwn (asks_proof net n rank)
proof_settled net n rank =
    line_then n (base_forms net rank) (λ base. asks_rows (n + 1) (dual_forms net) rank >>= (λ duals. after base duals)) (forms_yes (base_forms net rank) refl)
    (λ base. settled_then IsOwn (asks_rows (n + 1) (dual_forms net) rank) (λ duals. after base duals) (rows_settled (n + 1) (dual_forms net) rank (forms_yes (dual_forms net) refl))
    (λ duals. settled_then IsOwn (asks_rows (n + 1 + rank) (comb_forms rank) (reactions net - rank)) (λ combs. Give (proof_of (naturals base) duals combs)) (rows_settled (n + 1 + rank) (comb_forms rank) (reactions net - rank) (forms_yes (comb_forms rank) refl))
    (λ combs. give_settled IsOwn (proof_of (naturals base) duals combs))))
  where
    after : Record → List (List ℤ) → Course RankProof
    after base duals = asks_rows (n + 1 + rank) (comb_forms rank) (reactions net - rank) >>= (λ combs. Give (proof_of (naturals base) duals combs))

split_settled : (net : Net) (head rank : ℕ) → IsSettled IsOwn (asks_split net head rank)
split_settled net head rank = settled_then IsOwn (asks_proof net (head + 1) rank) (λ proof. asks_links net head (head + 2 + rank + (reactions net - rank)) proof) (proof_settled net (head + 1) rank)
    (λ proof. links_settled net head (head + 2 + rank + (reactions net - rank)) proof)

pub lines_settled : (net : Net) (n : ℕ) → IsSettled IsOwn (asks_decomposition net n)
lines_settled net n = line_then n (first_forms net) (λ r. asks_rest net n r) (forms_yes (first_forms net) refl)
    (λ r. either_settled IsOwn (bytes_eq (word_of r) (codes "rank")) (asks_split net n (first_number r.numbers)) (Give (n + 1, open_seen)) (split_settled net n (first_number r.numbers)) (give_settled IsOwn (n + 1, open_seen)))

-- the course of the whole document
pub course_settled : IsSettled IsOwn (part_course part)
course_settled = part_settled part (λ net n is. lines_settled net n)
