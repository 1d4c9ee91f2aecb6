-- The terminal strong classes of a linkage class are counted one strong class after another.
use Rattle.crn_cert.proofs.Prelude.{◌≡◌, ◌≢◌, ℕ, ◌+◌, ◌-◌, ◌≤◌, ◌==◌, true, false, List, length, get_or, sym, ap, ◌∙◌, arith, list_any, range_with_len, eqb-true, eq-eqb, false≢true, count_by-le-length, length-range_with_len, range_more, and_true, and_no, count_yes, count_no, is_in_both, is_terminal_in, terminals_of}
use Rattle.std.specs.Prelude.{count_by}

pub passes_at : (labels exits links : List ℕ) (k m : ℕ) → get_or exits m 0 ≡ 0 → list_any (is_in_both labels links (m + 1) k) (range_with_len 0 (length labels)) ≡ true → is_terminal_in labels exits links k (m + 1) ≡ true
passes_at labels exits links k m e h =
    let back : m + 1 - 1 ≡ m = omega arith in
    and_true (get_or exits (m + 1 - 1) 0 == 0) (list_any (is_in_both labels links (m + 1) k) (range_with_len 0 (length labels))) (eq-eqb (get_or exits (m + 1 - 1) 0) 0 (ap (λ (n : ℕ). get_or exits n 0) back ∙ e)) h

pub fails_by_exit : (labels exits links : List ℕ) (k m : ℕ) → get_or exits m 0 ≢ 0 → is_terminal_in labels exits links k (m + 1) ≡ false
fails_by_exit labels exits links k m ne =
    let back : m + 1 - 1 ≡ m = omega arith in
    and_no (get_or exits (m + 1 - 1) 0 == 0) (list_any (is_in_both labels links (m + 1) k) (range_with_len 0 (length labels)))
    (λ e h. ne (ap (λ (n : ℕ). get_or exits n 0) (sym back) ∙ eqb-true (get_or exits (m + 1 - 1) 0) 0 e))

pub fails_by_complexes : (labels exits links : List ℕ) (k m : ℕ) → list_any (is_in_both labels links (m + 1) k) (range_with_len 0 (length labels)) ≡ false → is_terminal_in labels exits links k (m + 1) ≡ false
fails_by_complexes labels exits links k m h =
    and_no (get_or exits (m + 1 - 1) 0 == 0) (list_any (is_in_both labels links (m + 1) k) (range_with_len 0 (length labels))) (λ e f. false≢true (sym h ∙ f))

pub terminals_yes : (labels exits links : List ℕ) (k m : ℕ) → is_terminal_in labels exits links k (m + 1) ≡ true → terminals_of labels exits links (m + 1) k ≡ terminals_of labels exits links m k + 1
terminals_yes labels exits links k m h =
    let p = is_terminal_in labels exits links k in
    ap (count_by p) (range_more 1 m (m + 1) (omega arith)) ∙ count_yes p (range_with_len 1 m) (m + 1) h

pub terminals_no : (labels exits links : List ℕ) (k m : ℕ) → is_terminal_in labels exits links k (m + 1) ≡ false → terminals_of labels exits links (m + 1) k ≡ terminals_of labels exits links m k
terminals_no labels exits links k m h =
    let p = is_terminal_in labels exits links k in
    ap (count_by p) (range_more 1 m (m + 1) (omega arith)) ∙ count_no p (range_with_len 1 m) (m + 1) h

pub terminals_few : (labels exits links : List ℕ) (k m : ℕ) → terminals_of labels exits links m k ≤ m
terminals_few labels exits links k m = omega (arith, count_by-le-length (is_terminal_in labels exits links k) (range_with_len 1 m), length-range_with_len 1 m)
