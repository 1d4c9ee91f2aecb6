-- The course of a document of a part is settled, if that of the part's own lines is.
use Rattle.crn_ctext.proofs.Prelude.{false, ◌≡◌, ◌≤◌, ◌+◌, ℕ, List, [], ◌∷◌, Net, IsNetwork, MAX_REACTIONS, Form, end_form, Course, Give, ◌>>=◌, due, find, test, ends, IsSettled, asks_lines, network_line, IsNetworkOf, Part, part_title, part_opening, part_ending, part_course, asks_part, BadHeader, BadNetwork, WrongOrder}
use Rattle.crn_ctext.proofs.Decided.{bytes_decided}
use Rattle.crn_ctext.proofs.Courses.{settled_then, settled_with, GivesOnly, gives_only_then}
use Rattle.crn_ctext.proofs.LinesRead.{HaveWords, reads_of_settled}
use Rattle.crn_ctext.proofs.FormWords.{end_has}
use Rattle.crn_ctext.proofs.Settled.{test_settled, due_settled, give_settled, count_settled, lines_settled, network_settled, ends_settled}

pub asks_part_settled : (own : ℕ → Type 0) (words : List (List ℕ)) (n : ℕ) (forms : List Form) → HaveWords forms → IsSettled own (asks_part words n forms)
unfolding IsSettled
asks_part_settled own words n forms w = λ line. reads_of_settled own words [] n false forms WrongOrder line w

pub opening_settled : (own : ℕ → Type 0) (name : List ℕ) → IsSettled own (part_opening name)
opening_settled own name =
    settled_then own (due false) (λ first. c1 first) (due_settled own false) (λ first.
    settled_then own (test 1 BadHeader (first ≡ part_title name)) (λ x. c2) (test_settled own 1 BadHeader (first ≡ part_title name) (bytes_decided first (part_title name))) (λ x.
    settled_then own (due false) (λ second. c3 second) (due_settled own false) (λ second.
    settled_then own (find 2 BadNetwork ℕ (λ count. (1 ≤ count) × (count ≤ MAX_REACTIONS) × (second ≡ network_line count))) (λ count. c4 count) (count_settled own second) (λ count.
    settled_then own (asks_lines count) (λ lines. c5 count lines) (lines_settled own count) (λ lines.
    settled_then own (find (2 + count) BadNetwork Net (IsNetworkOf lines)) (λ net. Give (net, 3 + count)) (network_settled own (2 + count) lines) (λ net. give_settled own (net, 3 + count)))))))
  where
    c5 : ℕ → List (List ℕ) → Course (Net × ℕ)
    c5 count lines = find (2 + count) BadNetwork Net (IsNetworkOf lines) >>= (λ net. Give (net, 3 + count))

    c4 : ℕ → Course (Net × ℕ)
    c4 count = asks_lines count >>= (λ lines. c5 count lines)

    c3 : List ℕ → Course (Net × ℕ)
    c3 second = find 2 BadNetwork ℕ (λ count. (1 ≤ count) × (count ≤ MAX_REACTIONS) × (second ≡ network_line count)) >>= (λ count. c4 count)

    c2 : Course (Net × ℕ)
    c2 = due false >>= (λ second. c3 second)

    c1 : List ℕ → Course (Net × ℕ)
    c1 first = test 1 BadHeader (first ≡ part_title name) >>= (λ x. c2)

pub ending_settled : {A : Type 0} (own : ℕ → Type 0) (words : List (List ℕ)) (n : ℕ) (read : A) → IsSettled own (part_ending words n read)
ending_settled own words n read =
    settled_then own (asks_part words n (end_form ∷ [])) (λ last. ends >>= (λ x. Give read)) (asks_part_settled own words n (end_form ∷ []) end_has)
    (λ last. settled_then own ends (λ x. Give read) (ends_settled own) (λ x. give_settled own read))

-- what an opening gives is a network
opening_keeps : (name : List ℕ) → GivesOnly (λ (o : Net × ℕ). IsNetwork o.0) (part_opening name)
unfolding GivesOnly
opening_keeps name = λ first x p second count q. gives_only_then (λ (o : Net × ℕ). IsNetwork o.0) (asks_lines count) (λ lines. find (2 + count) BadNetwork Net (IsNetworkOf lines) >>= (λ net. Give (net, 3 + count))) (λ lines net is. is.0)

-- the same of parts whose own lines are settled for networks alone
pub part_settled : {Read : Type 0} (p : Part Read) → ((net : Net) (n : ℕ) → IsNetwork net → IsSettled p.IsOwn (p.lines net n)) → IsSettled p.IsOwn (part_course p)
part_settled p lines =
    let each = p.lines in
    settled_with p.IsOwn (λ (o : Net × ℕ). IsNetwork o.0) (part_opening p.name) (λ opened. each opened.0 opened.1 >>= (λ after. part_ending p.words after.0 (opened.0, after.1))) (opening_settled p.IsOwn p.name) (opening_keeps p.name)
    (λ opened is. settled_then p.IsOwn (each opened.0 opened.1) (λ after. part_ending p.words after.0 (opened.0, after.1)) (lines opened.0 opened.1 is)
    (λ after. ending_settled p.IsOwn p.words after.0 (opened.0, after.1)))
