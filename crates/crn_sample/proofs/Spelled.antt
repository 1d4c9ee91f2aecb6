-- The text of each sample spells a network.
use Rattle.crn_sample.proofs.Prelude.{◌≡◌, ℕ, zero, suc, ◌<◌, ◌≤◌, ◌&&◌, Bool, List, true, Err, refl, sym, subst, inl, inr, arith, digits, cases_lt, Net, and_first, and_cases, first_token, tokens_after, own_fault, Spells, TextGives, NoMemory, TextFault, no_fault, sample_text, MAX_SAMPLE}
use Rattle.crn_sample.proofs.Few.{fine_is_spelled, is_fine}

-- the texts of the samples up to this number are fine
abbrev fine_upto : ℕ → Bool
fine_upto zero = true
fine_upto (suc n) = is_fine (sample_text (suc n)) && fine_upto n

all_fine : fine_upto 19 ≡ true
unfolding is_fine own_fault first_token tokens_after digits
all_fine = refl

fine_at : (n m : ℕ) → fine_upto m ≡ true → n < m → is_fine (sample_text (suc n)) ≡ true
fine_at n zero h lt = absurd (omega arith)
fine_at n (suc m) h lt = elim (cases_lt n m) [
  | inl less ↦ fine_at n m (and_cases _ _ h).1 less
  | inr most ↦ let is : m ≡ n = omega arith in subst (λ (k : ℕ). is_fine (sample_text (suc k)) ≡ true) is (and_first _ _ h)
]

pub sample_spelled : (number : ℕ) → 1 ≤ number → number ≤ MAX_SAMPLE → (net : Net) × Spells (sample_text number) net
sample_spelled zero least most = absurd (omega arith)
sample_spelled (suc n) least most = fine_is_spelled (sample_text (suc n)) (fine_at n 19 all_fine (omega arith))

-- reading the text of a sample fails only if memory runs out
pub only_memory : (number : ℕ) (text : List ℕ) (fault : TextFault) → 1 ≤ number → number ≤ MAX_SAMPLE → text ≡ sample_text number → TextGives text (Err fault) → fault.code ≡ NoMemory
only_memory number text fault least most e (inl memory) = memory
only_memory number text fault least most e (inr faulty) =
    let spelled = sample_spelled number least most in
    absurd (no_fault text spelled.0 fault.line fault.code (subst (λ (t : List ℕ). Spells t spelled.0) (sym e) spelled.1) faulty)
