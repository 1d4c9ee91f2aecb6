-- The tokens of the terms, sides and lines that the canonical text writes.
use Rattle.crn_text.proofs.Prelude.{◌≡◌, ℕ, zero, suc, ◌+◌, ◌/◌, ◌%◌, ◌<◌, ◌≤◌, Bool, true, false, List, [], ◌∷◌, ◌++◌, length, take, drop, get_or, map, refl, sym, ap, ap₂, ◌∙◌, append_assoc, arith, codes, decimal, not, pos, AllByRecursion, flat_map, list_all, prefix_len, and_parts, not-true, take-append_seam, drop-append_seam, nat_tests, decimal_by_steps, append-nil, length-append, list_all-append, is_letter, is_name_byte, begins_name, IsName, MAX_AMOUNT, Token, token, tokens, tokens_after, first_token, is_digit, is_blank, digits_value, term, or_zero, Begins, TokenKind, Number, Name, Plus, Arrow}
use Rattle.crn_text.proofs.Apart.{no_digit}
use Rattle.crn_text.proofs.Lists.{one_more}
use Rattle.crn_text.proofs.Numbers.{digit_is_value, value_push}
use Rattle.crn_text.proofs.Tokens.{begins_number, begins_with_name, tokens_first}

-- ---- a token and the text after it

-- the list is empty, or its first element fails the test
abbrev pub stops : {X : Type 0} → (X → Bool) → List X → Bool
stops p [] = true
stops p (x ∷ xs) = not (p x)

prefix_is : {X : Type 0} (p : X → Bool) (xs rest : List X) → list_all p xs ≡ true → stops p rest ≡ true → prefix_len p (xs ++ rest) ≡ length xs
prefix_is p [] [] h s = refl
prefix_is p [] (y ∷ rest) h s = rw (not-true (p y) s) refl
prefix_is p (x ∷ xs) rest h s = let a = and_parts (p x) (list_all p xs) h in rw (a.0, one_more) (ap suc (prefix_is p xs rest a.1 s))

token_prefix : (p : ℕ → Bool) (kind : TokenKind) (xs rest : List ℕ) → list_all p xs ≡ true → stops p rest ≡ true → is_blank (get_or (xs ++ rest) 0 0) ≡ false → Begins (xs ++ rest) kind (prefix_len p (xs ++ rest)) → tokens (xs ++ rest) ≡ token kind xs ∷ tokens rest
token_prefix p kind xs rest all stop blank b =
    let width : prefix_len p (xs ++ rest) ≡ length xs = prefix_is p xs rest all stop in
    tokens_first (xs ++ rest) kind (prefix_len p (xs ++ rest)) blank b
    ∙ ap₂ (λ (t u : List ℕ). token kind t ∷ tokens u) (ap (λ (n : ℕ). take n (xs ++ rest)) width ∙ take-append_seam xs rest) (ap (λ (n : ℕ). drop n (xs ++ rest)) width ∙ drop-append_seam xs rest)

-- ---- numbers and names

digit_no_blank : (b : ℕ) → is_digit b ≡ true → is_blank b ≡ false
digit_no_blank b h = grind (arith, nat_tests)

letter_no_blank : (b : ℕ) → is_letter b ≡ true → is_blank b ≡ false
letter_no_blank b h = grind (arith, nat_tests)

pub letter_no_digit : (b : ℕ) → is_letter b ≡ true → is_digit b ≡ false
letter_no_digit b h = grind (arith, nat_tests)

pub tokens_number : (ds rest : List ℕ) → list_all is_digit ds ≡ true → 0 < length ds → stops is_digit rest ≡ true → tokens (ds ++ rest) ≡ token Number ds ∷ tokens rest
tokens_number [] rest all some stop = absurd (omega arith)
tokens_number (d ∷ ds) rest all some stop =
    let first : is_digit d ≡ true = (and_parts (is_digit d) (list_all is_digit ds) all).0 in
    token_prefix is_digit Number (d ∷ ds) rest all stop (digit_no_blank d first) (begins_number ((d ∷ ds) ++ rest) (omega arith) first)

letter_in_name : (b : ℕ) → is_letter b ≡ true → is_name_byte b ≡ true
letter_in_name b h = rw h refl

pub name_bytes : (name : List ℕ) → begins_name name ≡ true → list_all is_name_byte name ≡ true
name_bytes [] h = refl
name_bytes (b ∷ bs) h = let a = and_parts (is_letter b) (list_all is_name_byte bs) h in rw (letter_in_name b a.0) a.1

pub tokens_name : (name rest : List ℕ) → begins_name name ≡ true → stops is_name_byte rest ≡ true → tokens (name ++ rest) ≡ token Name name ∷ tokens rest
tokens_name [] rest h stop = absurd cc
tokens_name (b ∷ bs) rest h stop =
    let first : is_letter b ≡ true = (and_parts (is_letter b) (list_all is_name_byte bs) h).0 in
    token_prefix is_name_byte Name (b ∷ bs) rest (name_bytes (b ∷ bs) h) stop (letter_no_blank b first) (begins_with_name ((b ∷ bs) ++ rest) (omega arith) (letter_no_digit b first) first)

tokens_plus : (rest : List ℕ) → tokens (codes " + " ++ rest) ≡ token Plus (codes "+") ∷ tokens rest
unfolding tokens_after first_token
tokens_plus rest = refl

tokens_arrow : (rest : List ℕ) → tokens (codes " -> " ++ rest) ≡ token Arrow (codes "->") ∷ tokens rest
unfolding tokens_after first_token
tokens_arrow rest = refl

-- ---- the numbers that decimals write

pub record IsDecimal (n : ℕ) (ds : List ℕ) : Type 0 where
  pub digits : list_all is_digit ds ≡ true
  pub some : 0 < length ds
  pub value : digits_value 10 ds ≡ n

pub digit_is : (n : ℕ) → n < 10 → is_digit (48 + n) ≡ true
digit_is n lt = grind (arith, nat_tests)

decimal_one : (n : ℕ) → n < 10 → IsDecimal n ((48 + n) ∷ [])
decimal_one n lt = record { digits = rw (digit_is n lt) refl; some = omega arith; value = let d = digit_is_value (48 + n) (digit_is n lt) in omega (arith, d) }

decimal_more : (n : ℕ) (ds : List ℕ) → 10 ≤ n → IsDecimal (n / 10) ds → IsDecimal n (ds ++ ((48 + n % 10) ∷ []))
decimal_more n ds le h = record {
  digits = list_all-append is_digit ds ((48 + n % 10) ∷ []) ∙ rw (h.digits, digit_is (n % 10) (omega arith)) refl;
  some = omega (arith, h.some, length-append ds ((48 + n % 10) ∷ []));
  value = value_push 0 ds (48 + n % 10) ∙ (let v = h.value in let d = digit_is_value (48 + n % 10) (digit_is (n % 10) (omega arith)) in omega (arith, v, d));
}

pub decimal_is : (n : ℕ) → n ≤ MAX_AMOUNT → IsDecimal n (decimal n)
decimal_is n le = decimal_by_steps IsDecimal decimal_one decimal_more n (omega arith)

-- ---- the tokens of terms

-- a name with a number of at least 1, both within the limits
pub record IsGood (t : List ℕ × ℕ) : Type 0 where
  pub name : IsName t.0
  pub some : 1 ≤ t.1
  pub few : t.1 ≤ MAX_AMOUNT

-- the term as the canonical text writes it
abbrev pub term_text : List ℕ × ℕ → List ℕ
term_text t = term (pos t.1) t.0

-- the number before a name, if it is 2 or more
abbrev pub number_tokens : ℕ → List Token
number_tokens (suc zero) = []
number_tokens n = token Number (decimal n) ∷ []

abbrev pub term_tokens : List ℕ × ℕ → List Token
term_tokens t = number_tokens t.1 ++ token Name t.0 ∷ []

name_stops : (name rest : List ℕ) → begins_name name ≡ true → stops is_digit (name ++ rest) ≡ true
name_stops [] rest h = absurd cc
name_stops (b ∷ bs) rest h = rw (letter_no_digit b (and_parts (is_letter b) (list_all is_name_byte bs) h).0) refl

tokens_of_term : (name : List ℕ) (n : ℕ) (rest : List ℕ) → begins_name name ≡ true → 1 ≤ n → n ≤ MAX_AMOUNT → stops is_name_byte rest ≡ true → tokens (term (pos n) name ++ rest) ≡ number_tokens n ++ token Name name ∷ tokens rest
tokens_of_term name zero rest h some few stop = absurd (omega arith)
tokens_of_term name (suc zero) rest h some few stop = tokens_name name rest h stop
tokens_of_term name (suc (suc n)) rest h some few stop =
    let d = decimal_is (suc (suc n)) few in
    ap tokens (append_assoc (decimal (suc (suc n))) name rest)
    ∙ tokens_number (decimal (suc (suc n))) (name ++ rest) d.digits d.some (name_stops name rest h)
    ∙ ap (λ (t : List Token). token Number (decimal (suc (suc n))) ∷ t) (tokens_name name rest h stop)

tokens_term : (t : List ℕ × ℕ) (rest : List ℕ) → IsGood t → stops is_name_byte rest ≡ true → tokens (term_text t ++ rest) ≡ term_tokens t ++ tokens rest
tokens_term t rest g stop = tokens_of_term t.0 t.1 rest g.name.0 g.some g.few stop ∙ sym (append_assoc (number_tokens t.1) (token Name t.0 ∷ []) (tokens rest))

-- ---- the tokens of sides

abbrev pub tail_text : List (List ℕ × ℕ) → List ℕ
tail_text ts = flat_map (λ y. codes " + " ++ y) (map term_text ts)

abbrev pub tail_tokens : List (List ℕ × ℕ) → List Token
tail_tokens ts = flat_map (λ t. token Plus (codes "+") ∷ term_tokens t) ts

stops_tail : (ts : List (List ℕ × ℕ)) (rest : List ℕ) → stops is_name_byte rest ≡ true → stops is_name_byte (tail_text ts ++ rest) ≡ true
stops_tail [] rest stop = stop
stops_tail (t ∷ ts) rest stop = refl

tokens_tail : (ts : List (List ℕ × ℕ)) (rest : List ℕ) → AllByRecursion IsGood ts → stops is_name_byte rest ≡ true → tokens (tail_text ts ++ rest) ≡ tail_tokens ts ++ tokens rest
tokens_tail [] rest g stop = refl
tokens_tail (t ∷ ts) rest g stop =
    ap tokens (append_assoc (codes " + " ++ term_text t) (tail_text ts) rest)
    ∙ tokens_plus (term_text t ++ (tail_text ts ++ rest))
    ∙ ap (λ (u : List Token). token Plus (codes "+") ∷ u) (tokens_term t (tail_text ts ++ rest) g.0 (stops_tail ts rest stop) ∙ ap (λ (u : List Token). term_tokens t ++ u) (tokens_tail ts rest g.1 stop) ∙ sym (append_assoc (term_tokens t) (tail_tokens ts) (tokens rest)))

-- a side as the canonical text writes it
abbrev pub side_text : List (List ℕ × ℕ) → List ℕ
side_text ts = or_zero (map term_text ts)

abbrev pub side_tokens : List (List ℕ × ℕ) → List Token
side_tokens [] = token Number (codes "0") ∷ []
side_tokens (t ∷ ts) = term_tokens t ++ tail_tokens ts

stops_digit : (rest : List ℕ) → stops is_name_byte rest ≡ true → stops is_digit rest ≡ true
stops_digit [] h = refl
stops_digit (b ∷ rest) h = rw (no_digit b (not-true (is_name_byte b) h)) refl

tokens_side : (ts : List (List ℕ × ℕ)) (rest : List ℕ) → AllByRecursion IsGood ts → stops is_name_byte rest ≡ true → tokens (side_text ts ++ rest) ≡ side_tokens ts ++ tokens rest
tokens_side [] rest g stop = tokens_number (codes "0") rest refl (omega arith) (stops_digit rest stop)
tokens_side (t ∷ ts) rest g stop =
    ap tokens (append_assoc (term_text t) (tail_text ts) rest)
    ∙ tokens_term t (tail_text ts ++ rest) g.0 (stops_tail ts rest stop)
    ∙ ap (λ (u : List Token). term_tokens t ++ u) (tokens_tail ts rest g.1 stop) ∙ sym (append_assoc (term_tokens t) (tail_tokens ts) (tokens rest))

-- ---- the tokens of a line

abbrev pub line_text : List (List ℕ × ℕ) → List (List ℕ × ℕ) → List ℕ
line_text x y = side_text x ++ codes " -> " ++ side_text y

abbrev pub line_tokens : List (List ℕ × ℕ) → List (List ℕ × ℕ) → List Token
line_tokens x y = side_tokens x ++ token Arrow (codes "->") ∷ side_tokens y

no_tokens : tokens [] ≡ []
unfolding tokens_after
no_tokens = refl

pub tokens_line : (x y : List (List ℕ × ℕ)) → AllByRecursion IsGood x → AllByRecursion IsGood y → tokens (line_text x y) ≡ line_tokens x y
tokens_line x y g h =
    ap tokens (append_assoc (side_text x) (codes " -> ") (side_text y))
    ∙ tokens_side x (codes " -> " ++ side_text y) g refl
    ∙ ap (λ (u : List Token). side_tokens x ++ u) (tokens_arrow (side_text y) ∙ ap (λ (u : List Token). token Arrow (codes "->") ∷ u) (ap tokens (sym (append-nil (side_text y))) ∙ tokens_side y [] h refl ∙ ap (λ (u : List Token). side_tokens y ++ u) no_tokens ∙ append-nil (side_tokens y)))
