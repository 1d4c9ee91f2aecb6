-- What is required before the first option, and what it requires, coordinate by coordinate.
use Rattle.crn_endo.proofs.Prelude.{◌≡◌, ◌≢◌, ℕ, zero, suc, ◌+◌, ◌-◌, ◌/◌, ◌%◌, ◌<◌, inl, inr, List, [], ◌∷◌, ◌++◌, length, replicate, get_or, Bool, true, false, cond, refl, sym, ap, ap₂, subst, ◌∙◌, arith, ◌==◌, ◌&&◌, eq-eqb, ne_eqb, bit_at, bit_at-zero, length-append, length-replicate, Sign, Zero, Free, is_minus, is_plus, kind_of_sign, row_kinds, Net, kind_at, eq_or, lt_or, Bits, Asked, IsPut, asked_kind, kind_in, kind_of_bits, none, word_at, word_count, put_here, put_other, reaction_at, at_least_zero_if, fall_kind, option_of, others, rise_kind, slope_kinds, slope_matrix, AskFirmly, firm_kind}
use Rattle.crn_endo.proofs.Steps.{fall_at, firm_sign, free_before, height_at, option_none, rise_at}

-- a coordinate is one of a species, a rise, a fall or a height
by_part : (net : Net) (k : ℕ) (P : Type 0) → (k < length net.names → P) → ((q : ℕ) → k ≡ length net.names + q → q < length net.reactions → P) → ((q : ℕ) → k ≡ length net.names + length net.reactions + q → q < length net.reactions → P)
    → ((j : ℕ) → k ≡ length net.names + length net.reactions + length net.reactions + j → P) → P
by_part net k P species rise fall height =
    let names = length net.names in
    let n = length net.reactions in
    elim (lt_or k names) as (λ _. P) [
      | inl less ↦ species less
      | inr le ↦ elim (lt_or (k - names) n) as (λ _. P) [
        | inl less ↦ rise (k - names) (omega (arith, le)) less
        | inr past ↦ elim (lt_or (k - names - n) n) as (λ _. P) [
          | inl less ↦ fall (k - names - n) (omega (arith, le, past)) less
          | inr far ↦ height (k - names - n - n) (omega (arith, le, past, far))
        ]
      ]
    ]

-- ---- kinds

and_false : (a : Bool) → (a && false) ≡ false
and_false true = refl
and_false false = refl

-- a further complex that has no option asks for nothing
least_none : (a : Bool) (test : Sign → Bool) → test Zero ≡ false → (os : List ℕ) (c : ℕ) → at_least_zero_if (a && test (option_of os [] c)) ≡ Free
least_none a test z os c =
    ap (λ (o : Sign). at_least_zero_if (a && test o)) (option_none os c) ∙ ap (λ (b : Bool). at_least_zero_if (a && b)) z
    ∙ ap at_least_zero_if (and_false a)

rise_other : (net : Net) (r : ℕ) (s : Sign) (q : ℕ) → (q == r) ≡ false → rise_kind net r (s ∷ []) q ≡ Free
rise_other net r s q apart =
    let c = (reaction_at net q).0 in
    ap (λ (b : Bool). cond b (kind_of_sign s) (at_least_zero_if (is_plus s && is_plus (option_of (others net r) [] c)))) apart
    ∙ least_none (is_plus s) is_plus refl (others net r) c

rise_own : (net : Net) (r : ℕ) (s : Sign) → rise_kind net r (s ∷ []) r ≡ kind_of_sign s
rise_own net r s = ap (λ (b : Bool). cond b (kind_of_sign s) (at_least_zero_if (is_plus s && is_plus (option_of (others net r) [] (reaction_at net r).0)))) (eq-eqb r r refl)

fall_none : (net : Net) (r : ℕ) (s : Sign) (q : ℕ) → fall_kind net r (s ∷ []) q ≡ Free
fall_none net r s q = least_none (is_minus s) is_minus refl (others net r) (reaction_at net q).0

rows_free : (n j : ℕ) → kind_at (row_kinds n []) j ≡ Free
rows_free zero j = refl
rows_free (suc n) zero = refl
rows_free (suc n) (suc j) = rows_free n j

-- before the first option all coordinates are free
none_at : (net : Net) (r k : ℕ) → kind_at (slope_kinds net r []) k ≡ Free
none_at net r k =
    by_part net k (kind_at (slope_kinds net r []) k ≡ Free)
    (λ less. free_before net r [] k less)
    (λ q e less. rise_at net r [] k q e less)
    (λ q e less. fall_at net r [] k q e less)
    (λ j e. height_at net r [] k j e ∙ rows_free (length (others net r)) j)

-- after it all but the rise along the reaction
others_at : (net : Net) (r : ℕ) (s : Sign) (k : ℕ) → k ≢ length net.names + r → kind_at (slope_kinds net r (s ∷ [])) k ≡ Free
others_at net r s k ne =
    by_part net k (kind_at (slope_kinds net r (s ∷ [])) k ≡ Free)
    (λ less. free_before net r (s ∷ []) k less)
    (λ q e less. rise_at net r (s ∷ []) k q e less ∙ rise_other net r s q (ne_eqb q r (λ d. ne (e ∙ ap (λ (i : ℕ). length net.names + i) d))))
    (λ q e less. fall_at net r (s ∷ []) k q e less ∙ fall_none net r s q)
    (λ j e. height_at net r (s ∷ []) k j e ∙ rows_free (length (others net r)) j)

own_at : (net : Net) (r : ℕ) (s : Sign) → r < length net.reactions → kind_at (slope_kinds net r (s ∷ [])) (length net.names + r) ≡ kind_of_sign s
own_at net r s lt = rise_at net r (s ∷ []) (length net.names + r) r refl lt ∙ rise_own net r s

-- ---- words

none_word : (n w : ℕ) → word_at (replicate n none) w ≡ none
none_word zero w = refl
none_word (suc n) zero = refl
none_word (suc n) (suc w) = none_word n w

none_in : (n k : ℕ) → kind_in (replicate n none) k ≡ Free
none_in n k =
    ap (λ (b : Bits). kind_of_bits (bit_at b.plus (k % 64)) (bit_at b.minus (k % 64))) (none_word n (k / 64))
    ∙ ap₂ (λ (p m : ℕ). kind_of_bits p m) (bit_at-zero (k % 64)) (bit_at-zero (k % 64))

-- empty words require what no option does
pub nothing_asked : (net : Net) (r n : ℕ) (words : List Bits) → n ≡ word_count (slope_matrix net r) → words ≡ replicate n none → AskFirmly net r [] words
nothing_asked net r n words long is = subst (AskFirmly net r []) (sym is) (record {
  count = length-replicate n none ∙ long;
  each = λ k lt. none_in n k ∙ sym (ap firm_kind (none_at net r k));
})

-- the words after the first option
pub first_asked : (net : Net) (r : ℕ) (s : Sign) (h : ℕ) (x : Asked) (old new : List Bits) → r < length net.reactions → h ≡ length net.names + r → asked_kind x ≡ kind_of_sign s → IsPut old h x new → AskFirmly net r [] old → AskFirmly net r (s ∷ []) new
first_asked net r s h x old new inside at asks put given = record {
  count = put.count ∙ given.count;
  each = λ k lt. elim (eq_or k h) as (λ _. kind_in new k ≡ firm_kind (kind_at (slope_kinds net r (s ∷ [])) k)) [
    | inl e ↦
        ap (kind_in new) e ∙ put_here old h x new put ∙ asks ∙ sym (firm_sign s)
        ∙ ap firm_kind (sym (own_at net r s inside) ∙ ap (kind_at (slope_kinds net r (s ∷ []))) (sym (e ∙ at)))
    | inr ne ↦
        put_other old h x new put k ne ∙ given.each k lt
        ∙ ap firm_kind (none_at net r k ∙ sym (others_at net r s k (λ d. ne (d ∙ sym at))))
  ];
}

-- ---- prefixes

-- a prefix with one option, by the prefix without it
pub one_option : (p q : List Sign) (o : Sign) → q ≡ p ++ o ∷ [] → length q - 1 ≡ 0 → (q ≡ get_or q 0 Zero ∷ []) × (p ≡ [])
one_option [] q o e z = (e ∙ ap (λ (x : Sign). x ∷ []) (sym (ap (λ (l : List Sign). get_or l 0 Zero) e)), refl)
one_option (a ∷ p) q o e z =
    let long : length q ≡ suc (length p) + 1 = ap (λ (l : List Sign). length l) e ∙ (let d : suc (length (p ++ o ∷ [])) ≡ suc (length p) + 1 = omega (arith, length-append p (o ∷ [])) in d) in
    absurd (omega (arith, long, z))
