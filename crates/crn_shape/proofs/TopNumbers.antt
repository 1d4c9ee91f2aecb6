-- The numbers of the terminal classes by labels and exits are tops of the network.
use Rattle.crn_shape.proofs.Prelude.{◌≡◌, ℕ, zero, suc, ◌+◌, ◌-◌, ◌≤◌, Bool, cond, List, [], ◌∷◌, length, get_or, map, refl, sym, ap, ap₂, subst, ◌∙◌, inl, inr, arith, ◌==◌, Option, Some, None, cases_Bool, eq-eqb, eqb-true, Net, top_at, AreTops, top_inside, AreStrongClasses, zeros_to, top_of, tops_of, tops_are, zeros_below, top_for}

-- ---- the numbers of the contracts are those of the law

zeros_same : (es : List ℕ) (k : ℕ) → zeros_below es k ≡ zeros_to es k
unfolding zeros_to
zeros_same es zero = refl
zeros_same es (suc k) = ap (λ (n : ℕ). n + cond (get_or es k 0 == 0) 1 0) (zeros_same es k)

top_same : (es : List ℕ) (l : ℕ) → top_for es l ≡ top_of es l
unfolding top_of
top_same es l = ap (λ (n : ℕ). cond (get_or es (l - 1) 0 == 0) (Some n) None) (zeros_same es (l - 1))

tops_same : (labels es : List ℕ) → map (top_for es) labels ≡ tops_of labels es
tops_same [] es = refl
tops_same (l ∷ labels) es = ap₂ (λ (t : Option ℕ) (ts : List (Option ℕ)). t ∷ ts) (top_same es l) (tops_same labels es)

-- one exit more
pub more_zero : (es : List ℕ) (k : ℕ) → get_or es k 0 ≡ 0 → zeros_below es (k + 1) ≡ zeros_below es k + 1
more_zero es k e = ap (zeros_below es) (let n : k + 1 ≡ suc k = omega arith in n) ∙ ap (λ (b : Bool). zeros_below es k + cond b 1 0) (eq-eqb (get_or es k 0) 0 e)

pub more_other : (es : List ℕ) (k : ℕ) → (get_or es k 0 ≡ 0 → ⊥) → zeros_below es (k + 1) ≡ zeros_below es k
more_other es k ne = ap (zeros_below es) (let n : k + 1 ≡ suc k = omega arith in n) ∙ elim (cases_Bool (get_or es k 0 == 0)) as (λ _. zeros_below es (suc k) ≡ zeros_below es k) [
  | inl hit ↦ absurd (ne (eqb-true (get_or es k 0) 0 hit))
  | inr miss ↦ ap (λ (b : Bool). zeros_below es k + cond b 1 0) miss ∙ omega arith
]

-- tops and a count that equal these
pub tops_by : (net : Net) (count terminal : ℕ) (labels es : List ℕ) (tops : List (Option ℕ)) (number : ℕ) → AreStrongClasses net count terminal labels es → tops ≡ map (top_for es) labels → number ≡ zeros_below es (length es) → AreTops net tops number
tops_by net count terminal labels es tops number s e f =
    subst (λ (k : ℕ). AreTops net tops k) (sym (f ∙ zeros_same es (length es)))
    (subst (λ (l : List (Option ℕ)). AreTops net l (zeros_to es (length es))) (sym (e ∙ tops_same labels es)) (tops_are net count terminal labels es s))

-- ---- there are no more terminal classes than complexes

top_low : (net : Net) (tops : List (Option ℕ)) (count : ℕ) → AreTops net tops count → (k y : ℕ) → top_at tops y ≡ Some k → k ≤ y
top_low net tops count t zero y e = omega arith
top_low net tops count t (suc k) y e =
    let x = t.numbered y (suc k) k e (omega arith) in
    let low = top_low net tops count t k x.0 x.2 in
    omega (arith, x.1, low)

pub tops_few : (net : Net) (tops : List (Option ℕ)) (count : ℕ) → AreTops net tops count → count ≤ length net.complexes
tops_few net tops zero t = omega arith
tops_few net tops (suc k) t =
    let y = t.each k (omega arith) in
    let low = top_low net tops (suc k) t k y.0 y.1 in
    let inside = top_inside tops y.0 k y.1 in
    omega (arith, low, inside, t.long)
