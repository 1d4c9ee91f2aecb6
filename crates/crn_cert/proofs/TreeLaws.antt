-- Where the root of a tree is valid, no full prefix is feasible.
use Rattle.crn_cert.proofs.Prelude.{◌≡◌, List, [], ◌∷◌, ◌++◌, length, sym, ap, subst, ◌∙◌, arith, length-append, false≢true, Sign, Zero, Plus, Minus, cuts_exclude_solutions, Signed, IsPrefix, IsFull, IsFeasible, IsSteady, mirror, Plan, Both, Three, RulesA, RulesB, Level, IsValid, mirror-append, mirror-zero, mirror_feasible, length-mirror}
use Rattle.std.proofs.lemmas.List.{append_assoc}

step : (p : List Sign) (s : Sign) (rest : List Sign) → p ++ (s ∷ rest) ≡ (p ++ s ∷ []) ++ rest
step p s rest = sym (append_assoc p (s ∷ []) rest)

full_below : (w : Signed) (p : List Sign) (s : Sign) (rest : List Sign) → IsFull w (p ++ (s ∷ rest)) → IsFull w ((p ++ s ∷ []) ++ rest)
full_below w p s rest f = ap length (sym (step p s rest)) ∙ f

feasible_below : (w : Signed) (p : List Sign) (s : Sign) (rest : List Sign) → IsFeasible w (p ++ (s ∷ rest)) → IsFeasible w ((p ++ s ∷ []) ++ rest)
feasible_below w p s rest h = subst (λ (q : List Sign). IsFeasible w q) (step p s rest) h

at_once : (w : Signed) (p rest : List Sign) → IsFull w (p ++ rest) → IsPrefix w (p ++ rest)
at_once w p rest f = omega (arith, f)

-- no full prefix that continues the prefix of a valid tree is feasible
pub leaves_nothing : (w : Signed) → IsSteady w → (tree : Plan) (p rest : List Sign) → IsValid w p tree → IsFull w (p ++ rest) → ¬ (IsFeasible w (p ++ rest))
leaves_nothing w laws (RulesA u) p rest v f s =
    let x = s.part_a.0 in
    cuts_exclude_solutions w.matrix_a (w.kinds_a p) u x v (laws.shorter_a p rest x (at_once w p rest f) s.part_a.1)
leaves_nothing w laws (RulesB u) p rest v f s =
    let x = s.part_b.0 in
    cuts_exclude_solutions w.matrix_b (w.kinds_b p) u x v (laws.shorter_b p rest x (at_once w p rest f) s.part_b.1)
leaves_nothing w laws Level p rest v f s = false≢true (sym s.opened ∙ laws.longer_closed p rest (at_once w p rest f) v)
leaves_nothing w laws (Both z q) p (Zero ∷ rest) v f s = leaves_nothing w laws z (p ++ Zero ∷ []) rest v.2 (full_below w p Zero rest f) (feasible_below w p Zero rest s)
leaves_nothing w laws (Both z q) p (Plus ∷ rest) v f s = leaves_nothing w laws q (p ++ Plus ∷ []) rest v.3 (full_below w p Plus rest f) (feasible_below w p Plus rest s)
leaves_nothing w laws (Both z q) p (Minus ∷ rest) v f s =
    let mirrored : mirror (p ++ (Minus ∷ rest)) ≡ p ++ (Plus ∷ mirror rest) = mirror-append p (Minus ∷ rest) ∙ ap (λ (t : List Sign). t ++ (Plus ∷ mirror rest)) (mirror-zero p v.1) in
    let m : IsFeasible w (p ++ (Plus ∷ mirror rest)) = subst (λ (t : List Sign). IsFeasible w t) mirrored (mirror_feasible w laws (p ++ (Minus ∷ rest)) (at_once w p (Minus ∷ rest) f) s) in
    let g : IsFull w (p ++ (Plus ∷ mirror rest)) = ap length (sym mirrored) ∙ length-mirror (p ++ (Minus ∷ rest)) ∙ f in
    leaves_nothing w laws q (p ++ Plus ∷ []) (mirror rest) v.3 (full_below w p Plus (mirror rest) g) (feasible_below w p Plus (mirror rest) m)
leaves_nothing w laws (Three z q m) p (Zero ∷ rest) v f s = leaves_nothing w laws z (p ++ Zero ∷ []) rest v.2 (full_below w p Zero rest f) (feasible_below w p Zero rest s)
leaves_nothing w laws (Three z q m) p (Plus ∷ rest) v f s = leaves_nothing w laws q (p ++ Plus ∷ []) rest v.3 (full_below w p Plus rest f) (feasible_below w p Plus rest s)
leaves_nothing w laws (Three z q m) p (Minus ∷ rest) v f s = leaves_nothing w laws m (p ++ Minus ∷ []) rest v.4 (full_below w p Minus rest f) (feasible_below w p Minus rest s)
leaves_nothing w laws tree p [] v f s = absurd (omega (arith, v.0, f, length-append p []))
