use Rattle.crn_text.proofs.Prelude.{◌≡◌, ℕ, zero, suc, ◌+◌, ◌<◌, List, [], ◌∷◌, ◌++◌, length, take, drop, map, get_or, set, refl, ap, ap₂, ◌∙◌, arith, subst, Term, moved}
use Rattle.crn_text.proofs.held.move_all.Goals as goal

next : (by : ℕ) (terms : List Term) (i : ℕ) (d : Term) → i < length terms → get_or (map (λ (t : Term). moved by t) (take i terms) ++ drop i terms) i d ≡ get_or terms i d
next by [] i d lt = absurd (omega (arith, lt))
next by (t ∷ terms) zero d lt = refl
next by (t ∷ terms) (suc i) d lt = next by terms i d (omega (arith, lt))

step : (by : ℕ) (terms : List Term) (i : ℕ) (d : Term) → i < length terms
    → set (map (λ (t : Term). moved by t) (take i terms) ++ drop i terms) i (moved by (get_or terms i d)) ≡ map (λ (t : Term). moved by t) (take (suc i) terms) ++ drop (suc i) terms
step by [] i d lt = absurd (omega (arith, lt))
step by (t ∷ terms) zero d lt = refl
step by (t ∷ terms) (suc i) d lt = ap (λ (l : List Term). moved by t ∷ l) (step by terms i d (omega (arith, lt)))

-- one term more is moved
more : (by : ℕ) (old now : List Term) (i : ℕ) (d x : Term) → i < length old → now ≡ map (λ (t : Term). moved by t) (take i old) ++ drop i old → x ≡ moved by (get_or now i d)
    → set now i x ≡ map (λ (t : Term). moved by t) (take (suc i) old) ++ drop (suc i) old
more by old now i d x lt e is =
    ap₂ (λ (l : List Term) (y : Term). set l i y) e (is ∙ ap (moved by) (ap (λ (l : List Term). get_or l i d) e ∙ next by old i d lt))
    ∙ step by old i d lt

pub loop-term-preserved : goal.loop-term-preserved
loop-term-preserved c =
    let i = c.loop-term.term-index in
    let s : suc i ≡ i + 1 = omega arith in
    subst (λ (n : ℕ). set c.loop-term.terms i c.moved.result ≡ map (λ (t : Term). moved c.args.by t) (take n c.args.terms.now) ++ drop n c.args.terms.now) s
    (more c.args.by c.args.terms.now c.loop-term.terms i _ c.moved.result (omega (arith, c.loop-term-test.true)) c.loop-term.invariant c.moved.ensures)
