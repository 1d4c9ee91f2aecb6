-- The lines of classes that a loop writes, and the members of a class.
use Rattle.crn_render.proofs.Prelude.{◌≡◌, ◌≢◌, ℕ, zero, suc, ◌+◌, ◌<◌, ◌==◌, List, [], ◌∷◌, ◌++◌, length, take, drop, get_or, refl, sym, ap, ◌∙◌, append_assoc, add-one, add-zero, zero-add, ◌-◌, arith, get_or-map, append-nil, length-append, length-map, nat_tests, flat_map, AllByRecursion, if◌then◌else◌, Net, joined, with_separator, joined_push, joined_more, side, complex_text, complex_texts, of_label, lines_from}
use Rattle.std.specs.Prelude.{codes}

-- ---- the sides of a network

pub side_at : (net : Net) (c : ℕ) → c < length net.complexes → get_or (complex_texts net) c [] ≡ complex_text net c
side_at net c lt = get_or-map (side net.names) net.complexes c [] [] lt

pub sides_count : (net : Net) → length (complex_texts net) ≡ length net.complexes
sides_count net = simp length-map

-- ---- the members of a class

-- a text if its label is k
abbrev if_label : ℕ → ℕ → List ℕ → List (List ℕ)
if_label k l text = if l == k then text ∷ [] else []

of_label_take : (k : ℕ) (labels : List ℕ) (texts : List (List ℕ)) (i : ℕ) → i < length labels → i < length texts → of_label k (take (suc i) labels) (take (suc i) texts) ≡ of_label k (take i labels) (take i texts) ++ if_label k (get_or labels i 0) (get_or texts i [])
of_label_take k [] texts i p q = absurd (omega arith)
of_label_take k (l ∷ labels) [] i p q = absurd (omega arith)
of_label_take k (l ∷ labels) (text ∷ texts) zero p q = append-nil (if_label k l text)
of_label_take k (l ∷ labels) (text ∷ texts) (suc i) p q = ap (λ (t : List (List ℕ)). if_label k l text ++ t) (of_label_take k labels texts i (omega arith) (omega arith)) ∙ sym (append_assoc (if_label k l text) _ _)

of_label_whole : (k : ℕ) (labels : List ℕ) (texts : List (List ℕ)) (i : ℕ) → i < length labels → i < length texts → of_label k labels texts ≡ (of_label k (take i labels) (take i texts) ++ if_label k (get_or labels i 0) (get_or texts i [])) ++ of_label k (drop (suc i) labels) (drop (suc i) texts)
of_label_whole k [] texts i p q = absurd (omega arith)
of_label_whole k (l ∷ labels) [] i p q = absurd (omega arith)
of_label_whole k (l ∷ labels) (text ∷ texts) zero p q = refl
of_label_whole k (l ∷ labels) (text ∷ texts) (suc i) p q = ap (λ (t : List (List ℕ)). if_label k l text ++ t) (of_label_whole k labels texts i (omega arith) (omega arith)) ∙ simp append_assoc

none_of : (k l : ℕ) (text : List ℕ) → (l ≡ k → ⊥) → if_label k l text ≡ []
none_of k l text other = grind (arith, nat_tests)

one_of : (k l : ℕ) (text : List ℕ) → l ≡ k → if_label k l text ≡ text ∷ []
one_of k l text is = grind (arith, nat_tests)

-- a complex of another class adds nothing
pub members_same : (k : ℕ) (labels : List ℕ) (texts : List (List ℕ)) (i : ℕ) → i < length labels → i < length texts → (get_or labels i 0 ≡ k → ⊥) → of_label k (take (i + 1) labels) (take (i + 1) texts) ≡ of_label k (take i labels) (take i texts)
members_same k labels texts i p q other = rw (add-one, of_label_take k labels texts i p q, none_of k (get_or labels i 0) (get_or texts i []) other) (append-nil _)

-- a complex of the class adds its text
members_push : (k : ℕ) (labels : List ℕ) (texts : List (List ℕ)) (i : ℕ) → i < length labels → i < length texts → get_or labels i 0 ≡ k → of_label k (take (i + 1) labels) (take (i + 1) texts) ≡ of_label k (take i labels) (take i texts) ++ get_or texts i [] ∷ []
members_push k labels texts i p q is = rw (add-one, of_label_take k labels texts i p q, one_of k (get_or labels i 0) (get_or texts i []) is) refl

pub members_count : (k : ℕ) (labels : List ℕ) (texts : List (List ℕ)) (i : ℕ) → i < length labels → i < length texts → get_or labels i 0 ≡ k → length (of_label k (take (i + 1) labels) (take (i + 1) texts)) ≡ length (of_label k (take i labels) (take i texts)) + 1
members_count k labels texts i p q is = rw (members_push k labels texts i p q is) (length-append _ _)

-- one member more
pub members_step : (net : Net) (k : ℕ) (labels : List ℕ) (i n : ℕ) → i < length labels → i < length net.complexes → get_or labels i 0 ≡ k → n ≡ length (of_label k (take i labels) (take i (complex_texts net)))
    → joined (codes "; ") (of_label k (take (i + 1) labels) (take (i + 1) (complex_texts net))) ≡ joined (codes "; ") (of_label k (take i labels) (take i (complex_texts net))) ++ with_separator (codes "; ") n (complex_text net i)
members_step net k labels i n p q is e =
    let q' : i < length (complex_texts net) = omega (arith, sides_count net) in
    rw (← side_at net i q, members_push k labels (complex_texts net) i p q' is, e) (joined_push (codes "; ") (of_label k (take i labels) (take i (complex_texts net))) (get_or (complex_texts net) i []))

-- the members before one, that one, and those after it
pub members_whole : (net : Net) (k : ℕ) (labels : List ℕ) (i n : ℕ) → i < length labels → i < length net.complexes → get_or labels i 0 ≡ k → n ≡ length (of_label k (take i labels) (take i (complex_texts net)))
    → joined (codes "; ") (of_label k labels (complex_texts net)) ≡ (joined (codes "; ") (of_label k (take i labels) (take i (complex_texts net))) ++ with_separator (codes "; ") n (complex_text net i)) ++ flat_map (λ y. codes "; " ++ y) (of_label k (drop (suc i) labels) (drop (suc i) (complex_texts net)))
members_whole net k labels i n p q is e =
    let q' : i < length (complex_texts net) = omega (arith, sides_count net) in
    let before = of_label k (take i labels) (take i (complex_texts net)) in
    let after = of_label k (drop (suc i) labels) (drop (suc i) (complex_texts net)) in
    let text = get_or (complex_texts net) i [] in
    let all : of_label k labels (complex_texts net) ≡ (before ++ text ∷ []) ++ after = of_label_whole k labels (complex_texts net) i p q' ∙ rw (one_of k (get_or labels i 0) text is) refl in
    rw (← side_at net i q) (ap (joined (codes "; ")) all ∙ rw e (joined_more (codes "; ") before after text))

-- complexes of other classes add nothing
pub members_none : (k n : ℕ) (labels : List ℕ) (texts : List (List ℕ)) → AllByRecursion (λ l. l ≢ k) (take n labels) → of_label k (take n labels) (take n texts) ≡ []
members_none k zero labels texts other = refl
members_none k (suc n) [] texts other = refl
members_none k (suc n) (l ∷ labels) [] other = refl
members_none k (suc n) (l ∷ labels) (text ∷ texts) other = rw (none_of k l text other.0) (members_none k n labels texts other.1)

pub members_skip : (k i n : ℕ) (labels : List ℕ) (texts : List (List ℕ)) → AllByRecursion (λ l. l ≢ k) (take n (drop i labels)) → of_label k (take (i + n) labels) (take (i + n) texts) ≡ of_label k (take i labels) (take i texts)
members_skip k zero n labels texts other = let e : zero + n ≡ n = omega arith in rw e (members_none k n labels texts other)
members_skip k (suc i) n [] texts other = let e : suc i + n ≡ suc (i + n) = omega arith in rw e refl
members_skip k (suc i) n (l ∷ labels) [] other = let e : suc i + n ≡ suc (i + n) = omega arith in rw e refl
members_skip k (suc i) n (l ∷ labels) (text ∷ texts) other =
    let e : suc i + n ≡ suc (i + n) = omega arith in
    rw e (ap (λ (t : List (List ℕ)). if_label k l text ++ t) (members_skip k i n labels texts other))

-- ---- the lines of classes

lines_last : (line : ℕ → List ℕ) (k n : ℕ) → lines_from line k (suc n) ≡ lines_from line k n ++ line (k + n)
lines_last line k zero = rw add-zero (append-nil _)
lines_last line k (suc n) =
    let e : k + 1 + n ≡ k + suc n = omega arith in
    ap (λ (t : List ℕ). line k ++ t) (lines_last line (k + 1) n ∙ ap (λ (m : ℕ). lines_from line (k + 1) n ++ line m) e) ∙ sym (append_assoc (line k) _ _)

-- one line more
pub lines_step : (line : ℕ → List ℕ) (n : ℕ) → lines_from line 1 (n + 1) ≡ lines_from line 1 n ++ line (n + 1)
lines_step line n =
    let e : 1 + n ≡ n + 1 = omega arith in
    let one : n + 1 ≡ suc n = add-one n in
    ap (lines_from line 1) one ∙ lines_last line 1 n ∙ ap (λ (m : ℕ). lines_from line 1 n ++ line m) e

lines_more : (line : ℕ → List ℕ) (k n m : ℕ) → (rest : List ℕ) × (lines_from line k (n + m) ≡ lines_from line k n ++ rest)
lines_more line k zero m = (lines_from line k m, rw zero-add refl)
lines_more line k (suc n) m =
    let f = lines_more line (k + 1) n m in
    let e : suc n + m ≡ suc (n + m) = omega arith in
    (f.0, rw e (ap (λ (t : List ℕ). line k ++ t) f.1 ∙ sym (append_assoc (line k) _ f.0)))

-- the lines before one, that one, and those after it
pub lines_whole : (line : ℕ → List ℕ) (n count : ℕ) → n < count → (rest : List ℕ) × (lines_from line 1 count ≡ (lines_from line 1 n ++ line (n + 1)) ++ rest)
lines_whole line n count lt =
    let f = lines_more line 1 (n + 1) (count - (n + 1)) in
    let e : (n + 1) + (count - (n + 1)) ≡ count = omega arith in
    (f.0, ap (lines_from line 1) (sym e) ∙ f.1 ∙ ap (λ (t : List ℕ). t ++ f.0) (lines_step line n))
