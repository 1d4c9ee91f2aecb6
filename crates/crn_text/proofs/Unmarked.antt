-- Bytes that begin no arrow are no stray marks.
use Rattle.crn_text.proofs.Prelude.{◌≡◌, ℕ, ◌+◌, ◌-◌, ◌≤◌, Bool, true, false, eqb, List, [], ◌∷◌, length, take, drop, refl, sym, ◌∙◌, inl, inr, arith, prefix_len, list_any, cases_Bool, or_parts, length-take, is_letter, is_name_byte, first_token, tokens_after, tokens, is_digit, is_blank, is_stray, is_unmarked}
use Rattle.crn_text.proofs.Lists.{one_more}

pub run_fits : (q : ℕ → Bool) (bs : List ℕ) → prefix_len q bs ≤ length bs
run_fits q [] = omega arith
run_fits q (b ∷ bs) = elim (cases_Bool (q b)) [
  | inl h ↦ rw h (omega (arith, run_fits q bs))
  | inr h ↦ rw h (omega arith)
]

run_width : (q : ℕ → Bool) (b : ℕ) (bs : List ℕ) → length (take (1 + prefix_len q bs) (b ∷ bs)) - 1 ≡ prefix_len q bs
run_width q b bs = omega (arith, length-take (1 + prefix_len q bs) (b ∷ bs), run_fits q bs)

letters : (b : ℕ) → is_digit b ≡ true → is_name_byte b ≡ true
letters b d = elim (cases_Bool (is_letter b)) [
  | inl l ↦ rw l refl
  | inr l ↦ rw (l, d) refl
]

name_dropped : (b : ℕ) (bs : List ℕ) → ((q : ℕ → Bool) → ((b : ℕ) → q b ≡ true → is_name_byte b ≡ true) → list_any is_stray (tokens_after (prefix_len q bs) bs) ≡ list_any is_stray (tokens bs))
    → is_name_byte b ≡ true → list_any is_stray (tokens (b ∷ bs)) ≡ list_any is_stray (tokens bs)
unfolding tokens_after first_token
name_dropped b bs skips h = elim (cases_Bool (is_blank b)) [
  | inl k ↦ rw k refl
  | inr k ↦ elim (cases_Bool (is_digit b)) [
    | inl d ↦ rw (k, d, run_width is_digit b bs) (skips is_digit letters)
    | inr d ↦ elim (cases_Bool (is_letter b)) [
      | inl l ↦ rw (k, d, l, run_width is_name_byte b bs) (skips is_name_byte (λ c e. e))
      | inr l ↦ absurd (let e = rw (l, d) at h in cc)
    ]
  ]
]

skips_run : (bs : List ℕ) (q : ℕ → Bool) → ((b : ℕ) → q b ≡ true → is_name_byte b ≡ true) → list_any is_stray (tokens_after (prefix_len q bs) bs) ≡ list_any is_stray (tokens bs)
unfolding tokens_after
skips_run [] q sub = refl
skips_run (c ∷ cs) q sub = elim (cases_Bool (q c)) [
  | inl h ↦ rw (h, one_more (prefix_len q cs)) (skips_run cs q sub ∙ sym (name_dropped c cs (skips_run cs) (sub c h)))
  | inr h ↦ rw h refl
]

name_plus : (b : ℕ) (bs : List ℕ) → is_name_byte b ≡ false → is_blank b ≡ false → eqb b 43 ≡ true → list_any is_stray (tokens (b ∷ bs)) ≡ list_any is_stray (tokens bs)
unfolding tokens_after first_token
name_plus b bs n k p = let parts = or_parts (is_letter b) (is_digit b) n in let l = parts.0 in let d = parts.1 in rw (k, d, l, p) refl

unmarked_dropped : (b : ℕ) (bs : List ℕ) → is_unmarked b ≡ true → list_any is_stray (tokens (b ∷ bs)) ≡ list_any is_stray (tokens bs)
unfolding tokens_after first_token
unmarked_dropped b bs h = elim (cases_Bool (is_name_byte b)) [
  | inl n ↦ name_dropped b bs (skips_run bs) n
  | inr n ↦ elim (cases_Bool (is_blank b)) [
    | inl k ↦ rw k refl
    | inr k ↦ elim (cases_Bool (eqb b 43)) [
      | inl p ↦ name_plus b bs n k p
      | inr p ↦ absurd (let e = rw (n, k, p) at h in cc)
    ]
  ]
]

-- the bytes before the first that may belong to an arrow or be a stray mark hold no stray mark
pub any_from_mark : (bs : List ℕ) → list_any is_stray (tokens (drop (prefix_len is_unmarked bs) bs)) ≡ list_any is_stray (tokens bs)
any_from_mark [] = refl
any_from_mark (b ∷ bs) = elim (cases_Bool (is_unmarked b)) [
  | inl h ↦ rw (h, one_more (prefix_len is_unmarked bs)) (any_from_mark bs ∙ sym (unmarked_dropped b bs h))
  | inr h ↦ rw h refl
]
