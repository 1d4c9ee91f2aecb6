-- First faults exclude one another, and exclude networks.
use Rattle.crn_text.proofs.Prelude.{◌≡◌, ℕ, ◌+◌, List, Option, Some, sym, ap, ◌∙◌, inl, inr, arith, cases_order, none_some, lines, Fault, fault_on, TextCode}

one_code : (o : Option TextCode) (code another : TextCode) → o ≡ Some code → o ≡ Some another → code ≡ another
one_code o code another p q = cc

pub one_fault : (text : List ℕ) (line other : ℕ) (code another : TextCode) → Fault text line code → Fault text other another → (line ≡ other) × (code ≡ another)
one_fault text line other code another (inl x) (inl y) = (x.whole ∙ sym y.whole, x.named ∙ sym y.named)
one_fault text line other code another (inl x) (inr (inl y)) = absurd (let a = x.long in let b = y.short in omega arith)
one_fault text line other code another (inl x) (inr (inr y)) = absurd (let a = x.long in let b = y.short in omega arith)
one_fault text line other code another (inr (inl x)) (inl y) = absurd (let a = y.long in let b = x.short in omega arith)
one_fault text line other code another (inr (inr x)) (inl y) = absurd (let a = y.long in let b = x.short in omega arith)
one_fault text line other code another (inr (inl x)) (inr (inr y)) = absurd (none_some (fault_on (lines text) x.before) code (y.sound x.before x.there) x.fault)
one_fault text line other code another (inr (inr x)) (inr (inl y)) = absurd (none_some (fault_on (lines text) y.before) another (x.sound y.before y.there) y.fault)
one_fault text line other code another (inr (inr x)) (inr (inr y)) = (x.whole ∙ sym y.whole, x.named ∙ sym y.named)
one_fault text line other code another (inr (inl x)) (inr (inl y)) =
    elim (cases_order x.before y.before) [
      | inl same ↦ (x.counted ∙ ap (λ (n : ℕ). n + 1) same ∙ sym y.counted, one_code (fault_on (lines text) y.before) code another (ap (fault_on (lines text)) (sym same) ∙ x.fault) y.fault)
      | inr (inl lt) ↦ absurd (none_some (fault_on (lines text) x.before) code (y.earlier x.before lt) x.fault)
      | inr (inr gt) ↦ absurd (none_some (fault_on (lines text) y.before) another (x.earlier y.before gt) y.fault)
    ]
