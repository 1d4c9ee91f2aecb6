-- Runs of bytes of one class, a block at a time.
use Rattle.crn_text.proofs.Prelude.{◌≡◌, ℕ, zero, suc, ◌+◌, ◌<◌, ◌≤◌, Bool, true, List, [], ◌∷◌, length, take, drop, refl, sym, ap, ◌∙◌, arith, list_all, prefix_len, and_parts, eq-eqb, ne_eqb, take-append-drop, take-take, length-drop, length-take, length-take-le, prefix_len-append, prefix_len-le-length, Runs}
use Rattle.crn_text.proofs.Tokens.{all_prefix}

-- a block whose bytes are all of the class is passed over
pub block_more : {X : Type 0} (p : X → Bool) (n : ℕ) (xs : List X) → n ≤ length xs → list_all p (take n xs) ≡ true → prefix_len p xs ≡ n + prefix_len p (drop n xs)
block_more p zero xs fits all = omega arith
block_more p (suc n) [] fits all = absurd (omega arith)
block_more p (suc n) (x ∷ xs) fits all =
    let a = and_parts (p x) (list_all p (take n xs)) all in
    let more = block_more p n xs (omega arith) a.1 in
    rw a.0 (omega (arith, more))

-- the elements before those that are left are all of the class
pub record Passed {X : Type 0} (p : X → Bool) (whole left : List X) : Type 0 where
  pub same : prefix_len p whole + length left ≡ length whole + prefix_len p left
  pub inside : length left ≤ length whole

pub passed_none : {X : Type 0} (p : X → Bool) (whole left : List X) → left ≡ whole → Passed p whole left
passed_none p whole left is = record { same = rw is (omega arith); inside = rw is (omega arith) }

pub passed_more : {X : Type 0} (p : X → Bool) (n : ℕ) (whole left block rest : List X) → Passed p whole left → n ≤ length left → block ≡ take n left → rest ≡ drop n left → list_all p block ≡ true → Passed p whole rest
passed_more p n whole left block rest h fits front back all =
    let more = block_more p n left fits (rw (← front) all) in
    let size = length-drop n left in
    record {
      same = rw back (omega (arith, h.same, more, size, fits));
      inside = rw back (omega (arith, h.inside, size));
    }

-- the run that a text begins with, at most this long
pub run_within : {X : Type 0} (p : X → Bool) (xs near : List X) (k n : ℕ) → near ≡ take k xs → n ≡ prefix_len p near → (n ≤ length xs) × (list_all p (take n xs) ≡ true)
run_within p xs near k n is count =
    let fits : n ≤ length near = rw count (prefix_len-le-length p near) in
    let size : length near ≤ length xs = rw is (omega (arith, length-take k xs)) in
    let same : take n xs ≡ take n near = rw is (sym (take-take n k xs (omega (arith, fits, ap length is, length-take k xs)))) in
    (omega arith, rw same (rw count (all_prefix p near)))

-- a text is split after the run that it begins with
pub runs_from : (p : ℕ → Bool) (text run rest : List ℕ) (n : ℕ) → n ≡ prefix_len p text → run ≡ take n text → rest ≡ drop n text → Runs p text run rest
runs_from p text run rest n is front back = record {
  whole = rw (front, back) (sym (take-append-drop n text));
  all = rw (front, is) (all_prefix p text);
}

-- the empty run, whatever the text begins with
pub runs_none : (p : ℕ → Bool) (text run rest : List ℕ) → run ≡ [] → rest ≡ text → Runs p text run rest
runs_none p text run rest none same = record { whole = rw (none, same) refl; all = rw none refl }

-- a run that ends among the first n elements
pub run_near : {X : Type 0} (p : X → Bool) (n : ℕ) (xs : List X) → n ≤ length xs → prefix_len p (take n xs) < n → prefix_len p (take n xs) ≡ prefix_len p xs
run_near p n xs fits ends =
    let size = length-take-le n xs fits in
    let parts = prefix_len-append p (take n xs) (drop n xs) in
    let no = ne_eqb (prefix_len p (take n xs)) (length (take n xs)) (λ e. absurd (omega arith)) in
    sym (ap (prefix_len p) (sym (take-append-drop n xs)) ∙ parts ∙ rw no refl)

-- a run of at least n elements
pub run_far : {X : Type 0} (p : X → Bool) (n : ℕ) (xs : List X) → n ≤ length xs → n ≤ prefix_len p (take n xs) → n + prefix_len p (drop n xs) ≡ prefix_len p xs
run_far p n xs fits goes =
    let size = length-take-le n xs fits in
    let most = prefix_len-le-length p (take n xs) in
    let parts = prefix_len-append p (take n xs) (drop n xs) in
    let yes = eq-eqb (prefix_len p (take n xs)) (length (take n xs)) (omega arith) in
    sym (ap (prefix_len p) (sym (take-append-drop n xs)) ∙ parts ∙ rw (yes, size) refl)
