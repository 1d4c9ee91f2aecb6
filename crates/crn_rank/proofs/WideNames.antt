-- The names of wide vectors: of an exchange that was refused, and of a column of the basis itself.
use Rattle.crn_rank.proofs.Prelude.{◌≡◌, ◌≢◌, ℕ, ◌+◌, ◌-◌, ◌⊎◌, inl, inr, List, sym, subst, arith, Mat, IsIn, NamesWide, WideAt, eq_or, same_members, NamesRows, IsNumbered, IsRefused}

pub wide_refused : (a : Mat) (basis : List ℕ) (leave enter index : ℕ) (numbers : List ℕ) → IsRefused a basis leave enter index → IsNumbered basis leave enter numbers → NamesWide a index numbers
wide_refused a basis leave enter index numbers r n = record { from_zero = n.next; numbered = n.numbered; counted = r.counted; wide = r.wide n.next n.exchanged }

-- a member in place of itself leaves the basis as it is
pub wide_column : (a : Mat) (basis : List ℕ) (b index : ℕ) (numbers : List ℕ) → NamesRows a basis → IsIn b basis → index ≡ b + 1 → WideAt a basis b → IsNumbered basis b b numbers → NamesWide a index numbers
wide_column a basis b index numbers t i e wide n =
    let same : n.next ≡ basis =
    same_members n.next basis n.exchanged.ascending t.basis_is.ascending
    (λ k m. elim ((n.exchanged.members k).0 m) as (λ _. IsIn k basis) [ inl h ↦ h.0 | inr f ↦ subst (λ (j : ℕ). IsIn j basis) (sym f) i ])
    (λ k m. (n.exchanged.members k).1 (elim (eq_or k b) as (λ _. (IsIn k basis × (k ≢ b)) ⊎ (k ≡ b)) [ inl f ↦ inr f | inr ne ↦ inl (m, ne) ])) in
    record {
      from_zero = n.next;
      numbered = n.numbered;
      counted = omega (arith, e);
      wide = subst (λ (l : List ℕ). WideAt a l (index - 1)) (sym same) (subst (λ (k : ℕ). WideAt a basis k) (let f : b ≡ index - 1 = omega (arith, e) in f) wide);
    }
