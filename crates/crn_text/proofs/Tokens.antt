-- The tokens of a text.
use Rattle.crn_text.proofs.Prelude.{◌≡◌, ℕ, zero, suc, ◌-◌, ◌<◌, ◌≤◌, Bool, true, false, eqb, List, [], ◌∷◌, ◌++◌, Bor, length, take, drop, get_or, refl, sym, ap, ap₂, ◌∙◌, inl, inr, arith, codes, nat_eq, prefix_len, starts_with, list_all, cases_Bool, ne_eqb, length-take, take-append-drop, prefix_len-le-length, is_letter, is_name_byte, begins_name, token, first_token, tokens_after, tokens, is_digit, is_blank, is_name_kind, is_number_kind, Begins, BeginsWith, TokenKind, Number, Name, Plus, Arrow, BothWays, Back, Stray}
use Rattle.crn_text.proofs.Lists.{one_more}
use Rattle.crn_text.proofs.Chosen.{name_is_no_digit, name_is_letter, number_is_digit}

pub begins_number : (rest : List ℕ) → 0 < length rest → is_digit (get_or rest 0 0) ≡ true → Begins rest Number (prefix_len is_digit rest)
unfolding first_token
begins_number [] lt d = absurd (omega arith)
begins_number (b ∷ bs) lt d = record {
  same = rw d refl;
  text = rw d refl;
  some = rw d (omega arith);
  inside = prefix_len-le-length is_digit (b ∷ bs);
}

pub begins_with_name : (rest : List ℕ) → 0 < length rest → is_digit (get_or rest 0 0) ≡ false → is_letter (get_or rest 0 0) ≡ true → Begins rest Name (prefix_len is_name_byte rest)
unfolding first_token
begins_with_name [] lt d l = absurd (omega arith)
begins_with_name (b ∷ bs) lt d l = record {
  same = rw (d, l) refl;
  text = rw (d, l) refl;
  some = rw l (omega arith);
  inside = prefix_len-le-length is_name_byte (b ∷ bs);
}

pub begins_plus : (rest : List ℕ) → 0 < length rest → is_digit (get_or rest 0 0) ≡ false → is_letter (get_or rest 0 0) ≡ false → get_or rest 0 0 ≡ 43 → Begins rest Plus 1
unfolding first_token
begins_plus [] lt d l e = absurd (omega arith)
begins_plus (b ∷ bs) lt d l e = record {
  same = rw e refl;
  text = rw e refl;
  some = omega arith;
  inside = omega arith;
}

-- the tests of a first byte that begins none of the first three kinds
pub begins_arrow : (rest : List ℕ) → 2 ≤ length rest → is_digit (get_or rest 0 0) ≡ false → is_letter (get_or rest 0 0) ≡ false → (get_or rest 0 0 ≡ 43 → ⊥) → starts_with nat_eq rest (codes "->") ≡ true → Begins rest Arrow 2
unfolding first_token
begins_arrow [] lt d l n s = absurd (omega arith)
begins_arrow (b ∷ bs) lt d l n s =
    let plus : eqb b 43 ≡ false = ne_eqb b 43 n in record {
      same = rw (d, l, plus, s) refl;
      text = rw (d, l, plus, s) refl;
      some = omega arith;
      inside = lt;
    }

pub begins_both : (rest : List ℕ) → 3 ≤ length rest → is_digit (get_or rest 0 0) ≡ false → is_letter (get_or rest 0 0) ≡ false → (get_or rest 0 0 ≡ 43 → ⊥) → starts_with nat_eq rest (codes "->") ≡ false → starts_with nat_eq rest (codes "<->") ≡ true → Begins rest BothWays 3
unfolding first_token
begins_both [] lt d l n s t = absurd (omega arith)
begins_both (b ∷ bs) lt d l n s t =
    let plus : eqb b 43 ≡ false = ne_eqb b 43 n in record {
      same = rw (d, l, plus, s, t) refl;
      text = rw (d, l, plus, s, t) refl;
      some = omega arith;
      inside = lt;
    }

pub begins_back : (rest : List ℕ) → 2 ≤ length rest → is_digit (get_or rest 0 0) ≡ false → is_letter (get_or rest 0 0) ≡ false → (get_or rest 0 0 ≡ 43 → ⊥) → starts_with nat_eq rest (codes "->") ≡ false → starts_with nat_eq rest (codes "<->") ≡ false → starts_with nat_eq rest (codes "<-") ≡ true → Begins rest Back 2
unfolding first_token
begins_back [] lt d l n s t u = absurd (omega arith)
begins_back (b ∷ bs) lt d l n s t u =
    let plus : eqb b 43 ≡ false = ne_eqb b 43 n in record {
      same = rw (d, l, plus, s, t, u) refl;
      text = rw (d, l, plus, s, t, u) refl;
      some = omega arith;
      inside = lt;
    }

pub begins_stray : (rest : List ℕ) → 0 < length rest → is_digit (get_or rest 0 0) ≡ false → is_letter (get_or rest 0 0) ≡ false → (get_or rest 0 0 ≡ 43 → ⊥) → starts_with nat_eq rest (codes "->") ≡ false → starts_with nat_eq rest (codes "<->") ≡ false → starts_with nat_eq rest (codes "<-") ≡ false → Begins rest Stray 1
unfolding first_token
begins_stray [] lt d l n s t u = absurd (omega arith)
begins_stray (b ∷ bs) lt d l n s t u =
    let plus : eqb b 43 ≡ false = ne_eqb b 43 n in record {
      same = rw (d, l, plus, s, t, u) refl;
      text = rw (d, l, plus, s, t, u) refl;
      some = omega arith;
      inside = omega arith;
    }

-- ---- one token after another

pub after_is : (n : ℕ) (bs : List ℕ) → tokens_after n bs ≡ tokens (drop n bs)
unfolding tokens_after
after_is zero bs = refl
after_is (suc n) [] = refl
after_is (suc n) (b ∷ bs) = after_is n bs

less_one : (n : ℕ) → 1 ≤ n → suc (n - 1) ≡ n
less_one n le = omega arith

pub tokens_first : (rest : List ℕ) (kind : TokenKind) (width : ℕ) → is_blank (get_or rest 0 0) ≡ false → Begins rest kind width → tokens rest ≡ token kind (take width rest) ∷ tokens (drop width rest)
unfolding tokens_after
tokens_first [] kind width blank b = absurd (let i = b.inside in let s = b.some in omega arith)
tokens_first (x ∷ bs) kind width blank b =
    let len : length (take width (x ∷ bs)) ≡ width = omega (arith, length-take width (x ∷ bs), b.inside) in
    let first : first_token (x ∷ bs) ≡ token kind (take width (x ∷ bs)) = ap₂ token b.same b.text in
    let next : drop (width - 1) bs ≡ drop width (x ∷ bs) = let e : drop (suc (width - 1)) (x ∷ bs) ≡ drop width (x ∷ bs) = ap (λ (n : ℕ). drop n (x ∷ bs)) (less_one width b.some) in e in
    rw (blank, first, len, after_is (width - 1) bs, next) refl

pub all_prefix : {X : Type 0} (p : X → Bool) (xs : List X) → list_all p (take (prefix_len p xs) xs) ≡ true
all_prefix p [] = refl
all_prefix p (x ∷ xs) =
    elim (cases_Bool (p x)) [
      | inl hit ↦ rw (hit, one_more, hit) (all_prefix p xs)
      | inr miss ↦ rw miss refl
    ]

-- a token of the kind of names begins as a name
pub begins_named : (rest : List ℕ) (kind : TokenKind) (width : ℕ) → Begins rest kind width → is_name_kind kind ≡ true → begins_name (take width rest) ≡ true
unfolding first_token
begins_named [] kind width b name = absurd (let i = b.inside in let s = b.some in omega arith)
begins_named (x ∷ bs) kind width b name =
    let is : is_name_kind (first_token (x ∷ bs)).kind ≡ true = ap is_name_kind b.same ∙ name in
    let d : is_digit x ≡ false = name_is_no_digit _ _ _ _ _ _ _ _ _ _ _ is in
    let l : is_letter x ≡ true = name_is_letter _ _ _ _ _ _ _ _ _ _ _ is in
    let text = rw (d, l, one_more) at b.text in
    ap begins_name (sym text) ∙ rw l (all_prefix is_name_byte bs)

-- a token of the kind of numbers is digits
pub begins_digits : (rest : List ℕ) (kind : TokenKind) (width : ℕ) → Begins rest kind width → is_number_kind kind ≡ true → list_all is_digit (take width rest) ≡ true
unfolding first_token
begins_digits [] kind width b number = absurd (let i = b.inside in let s = b.some in omega arith)
begins_digits (x ∷ bs) kind width b number =
    let is : is_number_kind (first_token (x ∷ bs)).kind ≡ true = ap is_number_kind b.same ∙ number in
    let d : is_digit x ≡ true = number_is_digit _ _ _ _ _ _ _ _ _ _ _ is in
    let first : (first_token (x ∷ bs)).text ≡ take (prefix_len is_digit (x ∷ bs)) (x ∷ bs) = rw d refl in
    ap (list_all is_digit) (sym (sym first ∙ b.text)) ∙ all_prefix is_digit (x ∷ bs)

-- ---- the first token of a text

pub tokens_skip : (text : List ℕ) → tokens text ≡ tokens (drop (prefix_len is_blank text) text)
unfolding tokens_after
tokens_skip [] = refl
tokens_skip (b ∷ text) =
    elim (cases_Bool (is_blank b)) [
      | inl hit ↦ rw (hit, one_more) (tokens_skip text)
      | inr miss ↦ rw (miss, miss) refl
    ]

pub no_blank_there : (text : List ℕ) → is_blank (get_or (drop (prefix_len is_blank text) text) 0 0) ≡ false
no_blank_there [] = refl
no_blank_there (b ∷ text) =
    elim (cases_Bool (is_blank b)) [
      | inl hit ↦ rw (hit, one_more) (no_blank_there text)
      | inr miss ↦ rw (miss, miss) refl
    ]

no_tokens : (rest : List ℕ) → length rest ≡ 0 → tokens rest ≡ []
unfolding tokens_after
no_tokens [] none = refl
no_tokens (b ∷ rest) none = absurd (omega arith)

pub takes_none : (text : List ℕ) (n : ℕ) → n ≡ prefix_len is_blank text → length (drop n text) ≡ 0 → tokens text ≡ []
takes_none text n is none = tokens_skip text ∙ rw (← is) (no_tokens (drop n text) none)

pub takes_token : (text : List ℕ) (n : ℕ) (kind : TokenKind) (width : ℕ) (bytes : Bor (List ℕ)) (rest : List ℕ) → n ≡ prefix_len is_blank text → Begins (drop n text) kind width → bytes.now ≡ take width (drop n text) → rest ≡ drop width (drop n text) → BeginsWith text (record { kind = kind; bytes = bytes }) rest
takes_token text n kind width bytes rest is begins prefix back =
    let free : is_blank (get_or (drop n text) 0 0) ≡ false = rw is (no_blank_there text) in
    let skip : tokens text ≡ tokens (drop n text) = rw is (tokens_skip text) in
    let len : length (take width (drop n text)) ≡ width = omega (arith, length-take width (drop n text), begins.inside) in
    record {
      tokens = rw (prefix, back) (skip ∙ tokens_first (drop n text) kind width free begins);
      prefix = take n text;
      whole = rw (prefix, back) (sym (ap (λ (t : List ℕ). take n text ++ t) (take-append-drop width (drop n text)) ∙ take-append-drop n text));
      some = rw (prefix, len) begins.some;
      named = λ name. rw prefix (begins_named (drop n text) kind width begins name);
      digits = λ number. rw prefix (begins_digits (drop n text) kind width begins number);
    }
