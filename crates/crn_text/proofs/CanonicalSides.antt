-- A canonical side has its own terms, and is sound.
use Rattle.crn_text.proofs.Prelude.{◌≡◌, ℕ, zero, suc, ◌≤◌, true, false, List, [], ◌∷◌, ◌++◌, map, refl, sym, ap, ap₂, subst, ◌∙◌, arith, codes, AllByRecursion, list_all, list_any, append-nil, amount_in, MAX_AMOUNT, Token, token, is_plus, is_term, is_side, is_zero, term_of, terms_of, places, IsSoundTerm, IsSoundSide, Name, Plus}
use Rattle.crn_text.proofs.Lists.{split_last, split_at}
use Rattle.crn_text.proofs.CanonicalTokens.{IsGood, number_tokens, term_tokens, tail_tokens, side_tokens, decimal_is}

-- ---- the terms of a side

no_plus : (name : List ℕ) (n : ℕ) → list_any is_plus (number_tokens n ++ token Name name ∷ []) ≡ false
no_plus name zero = refl
no_plus name (suc zero) = refl
no_plus name (suc (suc n)) = refl

places_of : (t : List ℕ × ℕ) (ts : List (List ℕ × ℕ)) → places (term_tokens t ++ tail_tokens ts) ≡ term_tokens t ∷ map term_tokens ts
places_of t [] = ap places (append-nil (term_tokens t)) ∙ split_last is_plus (term_tokens t) (no_plus t.0 t.1)
places_of t (u ∷ ts) = split_at is_plus (term_tokens t) (token Plus (codes "+")) (term_tokens u ++ tail_tokens ts) (no_plus t.0 t.1) refl ∙ ap (λ (p : List (List Token)). term_tokens t ∷ p) (places_of u ts)

-- the tokens of a good term are that term
record Says (ws : List Token) (name : List ℕ) (n : ℕ) : Type 0 where
  term : is_term ws ≡ true
  says : term_of ws ≡ (name, n)

says_of : (name : List ℕ) (n : ℕ) → 1 ≤ n → n ≤ MAX_AMOUNT → Says (number_tokens n ++ token Name name ∷ []) name n
says_of name zero some few = absurd (omega arith)
says_of name (suc zero) some few = record { term = refl; says = refl }
says_of name (suc (suc n)) some few = record { term = refl; says = ap (λ (k : ℕ). (name, k)) (decimal_is (suc (suc n)) few).value }

says_term : (t : List ℕ × ℕ) → IsGood t → Says (term_tokens t) t.0 t.1
says_term t g = says_of t.0 t.1 g.some g.few

all_terms : (ts : List (List ℕ × ℕ)) → AllByRecursion IsGood ts → list_all is_term (map term_tokens ts) ≡ true
all_terms [] g = refl
all_terms (t ∷ ts) g = rw ((says_term t g.0).term) (all_terms ts g.1)

these_terms : (ts : List (List ℕ × ℕ)) → AllByRecursion IsGood ts → map term_of (map term_tokens ts) ≡ ts
these_terms [] g = refl
these_terms (t ∷ ts) g = ap₂ (λ (u : List ℕ × ℕ) (us : List (List ℕ × ℕ)). u ∷ us) (says_term t g.0).says (these_terms ts g.1)

not_zero_with : (name : List ℕ) (n : ℕ) (ts : List (List ℕ × ℕ)) → is_zero ((number_tokens n ++ token Name name ∷ []) ++ tail_tokens ts) ≡ false
not_zero_with name zero ts = refl
not_zero_with name (suc zero) [] = refl
not_zero_with name (suc zero) (t ∷ ts) = refl
not_zero_with name (suc (suc n)) ts = refl

not_zero : (t : List ℕ × ℕ) (ts : List (List ℕ × ℕ)) → is_zero (side_tokens (t ∷ ts)) ≡ false
not_zero t ts = not_zero_with t.0 t.1 ts

pub says_side : (ts : List (List ℕ × ℕ)) → AllByRecursion IsGood ts → terms_of (side_tokens ts) ≡ ts
says_side [] g = refl
says_side (t ∷ ts) g = rw (not_zero t ts) (ap (map term_of) (places_of t ts) ∙ these_terms (t ∷ ts) g)

pub is_side_of : (ts : List (List ℕ × ℕ)) → AllByRecursion IsGood ts → is_side (side_tokens ts) ≡ true
is_side_of [] g = refl
is_side_of (t ∷ ts) g = rw (not_zero t ts) (ap (list_all is_term) (places_of t ts) ∙ all_terms (t ∷ ts) g)

-- ---- names and numbers

-- the terms of a side that passes the tests
pub record IsGoodSide (ts : List (List ℕ × ℕ)) : Type 0 where
  pub each : AllByRecursion IsGood ts
  pub small : (name : List ℕ) → amount_in ts name ≤ MAX_AMOUNT

sound_terms : (ts : List (List ℕ × ℕ)) → AllByRecursion IsGood ts → AllByRecursion IsSoundTerm ts
sound_terms [] g = tt
sound_terms (t ∷ ts) g = (record { name = g.0.name.1; some = g.0.some; few = g.0.few }, sound_terms ts g.1)

pub sound_side : (ts : List (List ℕ × ℕ)) → IsGoodSide ts → IsSoundSide (terms_of (side_tokens ts))
sound_side ts g = subst IsSoundSide (sym (says_side ts g.each)) (record { each = sound_terms ts g.each; sums = g.small })
