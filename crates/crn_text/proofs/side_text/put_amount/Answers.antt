use Rattle.crn_text.proofs.Prelude.{◌≡◌, ◌≤◌, ◌<◌, ◌+◌, ◌∙◌, ◌++◌, List, ℕ, zero, suc, take, length, refl, sym, ap, ap₂, append_assoc, arith, ints, codes, decimal, pos, negsuc, ℤ, of_z, to_z, w128, fits_signed_from_abs, to_z-of_z, ◌≤ℤ◌, term, with_separator, ◌<ℤ◌, nat_abs}
use Rattle.crn_text.proofs.side_text.put_amount.Goals.{then-before-gt0, else-before-gt0}
use Rattle.crn_text.proofs.side_text.put_amount.Goals as goal

-- a piece after a plus sign
after_plus : (text piece : List ℕ) (before : ℕ) → 0 < before → (text ++ codes " + ") ++ piece ≡ text ++ with_separator (codes " + ") before piece
after_plus text piece zero lt = absurd (omega (arith, lt))
after_plus text piece (suc before) lt = append_assoc text (codes " + ") piece

-- the first piece
at_first : (text piece : List ℕ) (before : ℕ) → before ≤ 0 → text ++ piece ≡ text ++ with_separator (codes " + ") before piece
at_first text piece zero le = refl
at_first text piece (suc before) le = absurd (omega (arith, le))

-- one of a species
one_of : (amount : ℤ) (name : List ℕ) → of_z w128 amount ≡ 1 → pos 0 <ℤ amount → name ≡ term amount name
one_of (pos zero) name e some = absurd (omega (arith, e))
one_of (pos (suc zero)) name e some = refl
one_of (pos (suc (suc n))) name e some = absurd (omega (arith, e))
one_of (negsuc n) name e some = absurd (omega (arith, ints, some))

-- more of a species
more_of : (amount : ℤ) (name : List ℕ) → (of_z w128 amount ≡ 1 → ⊥) → pos 0 <ℤ amount → amount ≤ℤ pos 99 → decimal (nat_abs (to_z w128 (of_z w128 amount))) ++ name ≡ term amount name
more_of (pos zero) name ne some most = absurd (omega (arith, ints, some))
more_of (pos (suc zero)) name ne some most = absurd (ne refl)
more_of (pos (suc (suc n))) name ne some most =
    let fits = fits_signed_from_abs w128 (pos (suc (suc n))) (omega (arith, ints, most)) in
    ap (λ (z : ℤ). decimal (nat_abs z) ++ name) (to_z-of_z w128 (pos (suc (suc n))) fits)
more_of (negsuc n) name ne some most = absurd (omega (arith, ints, some))

pub returns-then-amount-ne1-clause-text : goal.returns-then-amount-ne1-clause-text
returns-then-amount-ne1-clause-text c name =
    let text = take c.args.at c.args.bytes.now in
    let number = decimal (nat_abs (to_z w128 (of_z w128 c.args.amount))) in
    let first : take c.if-before-gt0.end c.if-before-gt0.bytes ++ (number ++ name) ≡ text ++ with_separator (codes " + ") c.args.before (number ++ name) = elim c.if-before-gt0.branch [
      | then-before-gt0 w ↦ ap (λ (t : List ℕ). t ++ (number ++ name)) (ap₂ (λ (n : ℕ) (t : List ℕ). take n t) w.end-is w.bytes-is ∙ w.put-end.ensures.text) ∙ after_plus text (number ++ name) c.args.before w.if-before-gt0.true
      | else-before-gt0 w ↦ ap (λ (t : List ℕ). t ++ (number ++ name)) (ap₂ (λ (n : ℕ) (t : List ℕ). take n t) w.end-is w.bytes-is) ∙ at_first text (number ++ name) c.args.before w.if-before-gt0.false
    ] in
    ap (λ (t : List ℕ). t ++ name) c.put_number-end.ensures.text
    ∙ append_assoc (take c.if-before-gt0.end c.if-before-gt0.bytes) number name
    ∙ first
    ∙ ap (λ (t : List ℕ). text ++ with_separator (codes " + ") c.args.before t) (more_of c.args.amount name c.if-amount-ne1.true c.requires.some c.requires.most)

pub returns-else-amount-ne1-clause-text : goal.returns-else-amount-ne1-clause-text
returns-else-amount-ne1-clause-text c name =
    let text = take c.args.at c.args.bytes.now in
    let first : take c.if-before-gt0.end c.if-before-gt0.bytes ++ name ≡ text ++ with_separator (codes " + ") c.args.before name = elim c.if-before-gt0.branch [
      | then-before-gt0 w ↦ ap (λ (t : List ℕ). t ++ name) (ap₂ (λ (n : ℕ) (t : List ℕ). take n t) w.end-is w.bytes-is ∙ w.put-end.ensures.text) ∙ after_plus text name c.args.before w.if-before-gt0.true
      | else-before-gt0 w ↦ ap (λ (t : List ℕ). t ++ name) (ap₂ (λ (n : ℕ) (t : List ℕ). take n t) w.end-is w.bytes-is) ∙ at_first text name c.args.before w.if-before-gt0.false
    ] in
    first ∙ ap (λ (t : List ℕ). text ++ with_separator (codes " + ") c.args.before t) (one_of c.args.amount name c.if-amount-ne1.false c.requires.some)

pub returns-then-amount-ne1-clause-short : goal.returns-then-amount-ne1-clause-short
returns-then-amount-ne1-clause-short c =
    let first : c.if-before-gt0.end ≤ c.args.at + 3 = elim c.if-before-gt0.branch [
      | then-before-gt0 w ↦ omega (arith, w.end-is, w.put-end.ensures.end)
      | else-before-gt0 w ↦ omega (arith, w.end-is)
    ] in
    omega (arith, first, c.put_number-end.ensures.short)

pub returns-else-amount-ne1-clause-short : goal.returns-else-amount-ne1-clause-short
returns-else-amount-ne1-clause-short c = elim c.if-before-gt0.branch [
  | then-before-gt0 w ↦ omega (arith, w.end-is, w.put-end.ensures.end)
  | else-before-gt0 w ↦ omega (arith, w.end-is)
]
