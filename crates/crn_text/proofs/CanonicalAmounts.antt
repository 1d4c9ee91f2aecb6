-- The amounts of the names of a canonical side, and its length.
use Rattle.crn_text.proofs.Prelude.{◌≡◌, ℕ, zero, suc, ◌+◌, ◌*◌, ◌≤◌, false, cond, List, [], ◌∷◌, ◌++◌, length, map, refl, sym, ap, ap₂, subst, ◌∙◌, inl, inr, arith, ℤ, pos, negsuc, codes, decimal, AllByRecursion, bytes_eq, cases_Bool, length-decimal-le, ints, length-append, sum_by-cons, bytes_eq-Decides, IsIn, AreDistinct, IsName, IsAmount, amount_in, amounts_in, MAX_AMOUNT, none_said, map_same, term, terms, or_zero, side}
use Rattle.crn_text.proofs.CanonicalTokens.{IsGood, term_text, tail_text, side_text}
use Rattle.crn_text.proofs.CanonicalNames.{held}

-- ---- the amount of each name on a side

terms_held : (names : List (List ℕ)) (v : List ℤ) → terms names v ≡ map term_text (held names v)
terms_held [] v = refl
terms_held (x ∷ names) [] = refl
terms_held (x ∷ names) (pos zero ∷ v) = terms_held names v
terms_held (x ∷ names) (negsuc n ∷ v) = terms_held names v
terms_held (x ∷ names) (pos (suc n) ∷ v) = ap (λ (t : List (List ℕ)). term (pos (suc n)) x ∷ t) (terms_held names v)

pub side_held : (names : List (List ℕ)) (v : List ℤ) → side names v ≡ side_text (held names v)
unfolding side
side_held names v = ap or_zero (terms_held names v)

in_held : (names : List (List ℕ)) (v : List ℤ) (name : List ℕ) → IsIn name (map (λ t. t.0) (held names v)) → IsIn name names
in_held [] v name i = absurd i
in_held (x ∷ names) [] name i = absurd i
in_held (x ∷ names) (pos zero ∷ v) name i = inr (in_held names v name i)
in_held (x ∷ names) (negsuc n ∷ v) name i = inr (in_held names v name i)
in_held (x ∷ names) (pos (suc n) ∷ v) name (inl e) = inl e
in_held (x ∷ names) (pos (suc n) ∷ v) name (inr i) = inr (in_held names v name i)

-- the amounts of the first term's name, and of another name
amount_here : (name : List ℕ) (n : ℕ) (ts : List (List ℕ × ℕ)) → (IsIn name (map (λ t. t.0) ts) → ⊥) → amount_in ((name, n) ∷ ts) name ≡ n
amount_here name n ts none =
    let cons = sum_by-cons (λ t. cond (bytes_eq t.0 name) t.1 0) (name, n) ts in
    let hit = (bytes_eq-Decides name name).1 refl in
    let one : cond (bytes_eq name name) n 0 ≡ n = rw hit refl in
    omega (arith, cons, one, none_said ts name none)

amount_past : (name other : List ℕ) (n : ℕ) (ts : List (List ℕ × ℕ)) → bytes_eq name other ≡ false → amount_in ((name, n) ∷ ts) other ≡ amount_in ts other
amount_past name other n ts miss =
    let cons = sum_by-cons (λ t. cond (bytes_eq t.0 other) t.1 0) (name, n) ts in
    let one : cond (bytes_eq name other) n 0 ≡ 0 = rw miss refl in
    omega (arith, cons, one)

differ : (name other : List ℕ) → (name ≡ other → ⊥) → bytes_eq name other ≡ false
differ name other n = elim (cases_Bool (bytes_eq name other)) [ inl y ↦ absurd (n ((bytes_eq-Decides name other).0 y)) | inr m ↦ m ]

pub amounts_held : (names : List (List ℕ)) (v : List ℤ) → AreDistinct names → length v ≡ length names → AllByRecursion IsAmount v → amounts_in names (held names v) ≡ v
amounts_held [] [] d e a = refl
amounts_held [] (x ∷ v) d e a = absurd (omega (arith, e))
amounts_held (x ∷ names) [] d e a = absurd (omega (arith, e))
amounts_held (x ∷ names) (negsuc n ∷ v) d e a = absurd (omega (arith, ints, a.0.0))
amounts_held (x ∷ names) (pos zero ∷ v) d e a = ap₂ (λ (b : ℤ) (bs : List ℤ). b ∷ bs) (ap pos (none_said (held names v) x (λ i. d.0 (in_held names v x i)))) (amounts_held names v d.1 (omega (arith, e)) a.1)
amounts_held (x ∷ names) (pos (suc n) ∷ v) d e a =
    ap₂ (λ (b : ℤ) (bs : List ℤ). b ∷ bs) (ap pos (amount_here x (suc n) (held names v) (λ i. d.0 (in_held names v x i))))
    (map_same (λ name. pos (amount_in ((x, suc n) ∷ held names v) name)) (λ name. pos (amount_in (held names v) name)) names (λ name i. ap pos (amount_past x name (suc n) (held names v) (differ x name (λ e. d.0 (subst (λ (u : List ℕ). IsIn u names) (sym e) i)))))
    ∙ amounts_held names v d.1 (omega (arith, e)) a.1)

pub good_terms : (names : List (List ℕ)) (v : List ℤ) → AllByRecursion IsName names → AllByRecursion IsAmount v → AllByRecursion IsGood (held names v)
good_terms [] v n a = tt
good_terms (x ∷ names) [] n a = tt
good_terms (x ∷ names) (pos zero ∷ v) n a = good_terms names v n.1 a.1
good_terms (x ∷ names) (negsuc k ∷ v) n a = good_terms names v n.1 a.1
good_terms (x ∷ names) (pos (suc k) ∷ v) n a = (record { name = n.0; some = omega arith; few = omega (arith, ints, a.0.1) }, good_terms names v n.1 a.1)

pub small_sums : (names : List (List ℕ)) (v : List ℤ) → AreDistinct names → AllByRecursion IsAmount v → (name : List ℕ) → amount_in (held names v) name ≤ MAX_AMOUNT
small_sums [] v d a name = omega arith
small_sums (x ∷ names) [] d a name = omega arith
small_sums (x ∷ names) (pos zero ∷ v) d a name = small_sums names v d.1 a.1 name
small_sums (x ∷ names) (negsuc k ∷ v) d a name = small_sums names v d.1 a.1 name
small_sums (x ∷ names) (pos (suc k) ∷ v) d a name = elim (cases_Bool (bytes_eq x name)) [
  | inl hit ↦
      let same : x ≡ name = (bytes_eq-Decides x name).0 hit in
      let here = amount_here x (suc k) (held names v) (λ i. d.0 (in_held names v x i)) in
      let there = ap (amount_in ((x, suc k) ∷ held names v)) same in
      omega (arith, ints, a.0.1, here, there)
  | inr miss ↦ omega (arith, amount_past x name (suc k) (held names v) miss, small_sums names v d.1 a.1 name)
]

-- ---- lengths

term_length : (name : List ℕ) (n : ℕ) → 1 ≤ n → n ≤ MAX_AMOUNT → length name ≤ 32 → length (term (pos n) name) ≤ 34
term_length name zero some few short = absurd (omega arith)
term_length name (suc zero) some few short = omega arith
term_length name (suc (suc n)) some few short = omega (arith, length-append (decimal (suc (suc n))) name, length-decimal-le 2 (suc (suc n)) (omega arith) (omega arith) (omega arith))

tail_length : (ts : List (List ℕ × ℕ)) → AllByRecursion IsGood ts → length (tail_text ts) ≤ 37 * length ts
tail_length [] g = omega arith
tail_length (t ∷ ts) g =
    let one = term_length t.0 t.1 g.0.some g.0.few g.0.name.1 in
    omega (arith, one, tail_length ts g.1, length-append (codes " + " ++ term_text t) (tail_text ts), length-append (codes " + ") (term_text t))

pub side_length : (ts : List (List ℕ × ℕ)) → AllByRecursion IsGood ts → length (side_text ts) ≤ 37 * length ts + 1
side_length [] g = omega arith
side_length (t ∷ ts) g =
    let one = term_length t.0 t.1 g.0.some g.0.few g.0.name.1 in
    omega (arith, one, tail_length ts g.1, length-append (term_text t) (tail_text ts))

pub held_length : (names : List (List ℕ)) (v : List ℤ) → length (held names v) ≤ length names
held_length [] v = omega arith
held_length (x ∷ names) [] = omega arith
held_length (x ∷ names) (pos zero ∷ v) = omega (arith, held_length names v)
held_length (x ∷ names) (negsuc n ∷ v) = omega (arith, held_length names v)
held_length (x ∷ names) (pos (suc n) ∷ v) = omega (arith, held_length names v)
