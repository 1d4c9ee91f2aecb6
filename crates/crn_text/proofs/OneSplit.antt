-- A text is split in one way, which is into its tokens.
use Rattle.crn_text.proofs.Prelude.{◌≡◌, ℕ, zero, suc, ◌<◌, ◌≤◌, Bool, true, false, eqb, List, [], ◌∷◌, ◌++◌, length, take, drop, get_or, refl, sym, ap, subst, ◌∙◌, inl, inr, arith, codes, nat_eq, ◌≢◌, ◌||◌, prefix_len, list_all, starts_with, take-append_seam, cases_Bool, ne_eqb, eqb-true, eqb-false, and_from, or_parts, Decides-eqb, append-nil, length-append, length-take, length-drop, take-append-drop, starts_is, is_letter, is_name_byte, Token, token, tokens, tokens_after, is_blank, is_digit, BeginsNot, BeginsNone, IsToken, IsSplitInto, TextsAreSplitInOneWay, Begins, TokenKind, Number, Name, Plus, Arrow, BothWays, Back, Stray}
use Rattle.std.specs.Prelude.{◌==◌}
use Rattle.crn_text.proofs.ArrowSplit.{tokens_arrow, tokens_both, tokens_back}
use Rattle.crn_text.proofs.CanonicalTokens.{stops, tokens_number, tokens_name}
use Rattle.crn_text.proofs.Lists.{one_more}
use Rattle.crn_text.proofs.Places.{tokens_plus}
use Rattle.crn_text.proofs.Tokens.{all_prefix, begins_number, begins_with_name, begins_plus, begins_arrow, begins_both, begins_back, begins_stray, begins_named, tokens_first}

-- ---- texts that begin with a mark

mark_prefix : (t p : List ℕ) → starts_with nat_eq t p ≡ true → t ≡ p ++ drop (length p) t
mark_prefix t p h = (starts_is Decides-eqb t p (starts_with nat_eq t p) refl).0 h

no_mark : (t p rest : List ℕ) → starts_with nat_eq t p ≡ false → t ≡ p ++ rest → ⊥
no_mark t p rest h e = let y = (starts_is Decides-eqb t p (starts_with nat_eq t p) refl).1 rest e in cc

take_mark : (t p : List ℕ) → starts_with nat_eq t p ≡ true → take (length p) t ≡ p
take_mark t p h = ap (take (length p)) (mark_prefix t p h) ∙ take-append_seam p (drop (length p) t)

mark_fits : (t p : List ℕ) → starts_with nat_eq t p ≡ true → length p ≤ length t
mark_fits t p h = omega (arith, ap length (mark_prefix t p h), length-append p (drop (length p) t))

-- a text that doesn't begin with `<-` doesn't begin with `<->`
no_longer : (t : List ℕ) → starts_with nat_eq t (codes "<-") ≡ false → starts_with nat_eq t (codes "<->") ≡ false
no_longer t h = elim (cases_Bool (starts_with nat_eq t (codes "<->"))) [
  | inl y ↦ absurd (no_mark t (codes "<-") (62 ∷ drop 3 t) h (mark_prefix t (codes "<->") y))
  | inr n ↦ n
]

-- ---- the token with which a text begins

-- a token of a text, with no longer one of its kind
pub record Found (t : List ℕ) : Type 0 where
  pub kind : TokenKind
  pub width : ℕ
  pub begins : Begins t kind width
  pub is : IsToken kind (take width t) (drop width t)

some_taken : (t : List ℕ) (width : ℕ) → 1 ≤ width → width ≤ length t → 1 ≤ length (take width t)
some_taken t width some inside = omega (arith, length-take width t, some, inside)

after_prefix : (p : ℕ → Bool) (t : List ℕ) → BeginsNot p (drop (prefix_len p t) t)
after_prefix p [] = tt
after_prefix p (b ∷ bs) = elim (cases_Bool (p b)) [ inl hit ↦ rw (hit, one_more) (after_prefix p bs) | inr miss ↦ rw miss miss ]

number_found : (t : List ℕ) → 0 < length t → is_digit (get_or t 0 0) ≡ true → Found t
number_found t some d =
    let b = begins_number t some d in
    record { kind = Number; width = prefix_len is_digit t; begins = b; is = (some_taken t (prefix_len is_digit t) b.some b.inside, all_prefix is_digit t, after_prefix is_digit t) }

name_found : (t : List ℕ) → 0 < length t → is_digit (get_or t 0 0) ≡ false → is_letter (get_or t 0 0) ≡ true → Found t
name_found t some d l =
    let b = begins_with_name t some d l in
    record { kind = Name; width = prefix_len is_name_byte t; begins = b; is = (begins_named t Name (prefix_len is_name_byte t) b refl, after_prefix is_name_byte t) }

not_angle : (rest : List ℕ) → ((more : List ℕ) → rest ≢ 62 ∷ more) → BeginsNot (λ b. b == 62) rest
not_angle [] apart = tt
not_angle (b ∷ rest) apart = ne_eqb b 62 (λ is. apart rest (ap (λ (x : ℕ). x ∷ rest) is))

after_back : (t : List ℕ) → starts_with nat_eq t (codes "<->") ≡ false → starts_with nat_eq t (codes "<-") ≡ true → BeginsNot (λ b. b == 62) (drop 2 t)
after_back t both back = not_angle (drop 2 t) (λ more e. no_mark t (codes "<->") more both (mark_prefix t (codes "<-") back ∙ ap (λ (u : List ℕ). codes "<-" ++ u) e))

stray_found : (b : ℕ) (bs : List ℕ) → is_blank b ≡ false → is_digit b ≡ false → is_letter b ≡ false → eqb b 43 ≡ false → starts_with nat_eq (b ∷ bs) (codes "->") ≡ false → starts_with nat_eq (b ∷ bs) (codes "<->") ≡ false → starts_with nat_eq (b ∷ bs) (codes "<-") ≡ false → Found (b ∷ bs)
stray_found b bs blank d l p s t u = record {
  kind = Stray;
  width = 1;
  begins = begins_stray (b ∷ bs) (omega arith) d l (eqb-false b 43 p) s t u;
  is = (refl, record { one = rw (blank, l, d, p) refl; right = s; left = u });
}

pub found : (b : ℕ) (bs : List ℕ) → is_blank b ≡ false → Found (b ∷ bs)
found b bs blank =
    let t = b ∷ bs in
    let some : 0 < length (b ∷ bs) = omega arith in
    elim (cases_Bool (is_digit b)) [
      | inl d ↦ number_found t some d
      | inr d ↦ elim (cases_Bool (is_letter b)) [
        | inl l ↦ name_found t some d l
        | inr l ↦ elim (cases_Bool (eqb b 43)) [
          | inl p ↦ record { kind = Plus; width = 1; begins = begins_plus t some d l (eqb-true b 43 p); is = ap (λ (x : ℕ). x ∷ []) (eqb-true b 43 p) }
          | inr p ↦ let n = eqb-false b 43 p in elim (cases_Bool (starts_with nat_eq t (codes "->"))) [
            | inl s ↦ record { kind = Arrow; width = 2; begins = begins_arrow t (mark_fits t (codes "->") s) d l n s; is = take_mark t (codes "->") s }
            | inr s ↦ elim (cases_Bool (starts_with nat_eq t (codes "<->"))) [
              | inl y ↦ record { kind = BothWays; width = 3; begins = begins_both t (mark_fits t (codes "<->") y) d l n s y; is = take_mark t (codes "<->") y }
              | inr y ↦ elim (cases_Bool (starts_with nat_eq t (codes "<-"))) [
                | inl u ↦ record { kind = Back; width = 2; begins = begins_back t (mark_fits t (codes "<-") u) d l n s y u; is = (take_mark t (codes "<-") u, after_back t y u) }
                | inr u ↦ stray_found b bs blank d l p s y u
              ]
            ]
          ]
        ]
      ]
    ]

-- ---- a text is split into its tokens

split_blank : (b : ℕ) (bs : List ℕ) (ws : List Token) → is_blank b ≡ true → IsSplitInto bs ws → IsSplitInto (b ∷ bs) ws
split_blank b bs [] y h = and_from (is_blank b) (list_all is_blank bs) y h
split_blank b bs (w ∷ ws) y h = (b ∷ h.0, h.1, and_from (is_blank b) (list_all is_blank h.0) y h.2, ap (λ (t : List ℕ). b ∷ t) h.3, h.4, h.5)

is_split : (n : ℕ) (text : List ℕ) → length text ≤ n → IsSplitInto text (tokens text)
unfolding tokens_after
is_split n [] le = refl
is_split zero (b ∷ bs) le = absurd (omega arith)
is_split (suc n) (b ∷ bs) le =
    elim (cases_Bool (is_blank b)) [
      | inl y ↦ rw y (split_blank b bs (tokens bs) y (is_split n bs (omega arith)))
      | inr blank ↦
          let f = found b bs blank in
          let shorter : length (drop f.width (b ∷ bs)) ≤ n = omega (arith, length-drop f.width (b ∷ bs), f.begins.some, le) in
          subst (IsSplitInto (b ∷ bs)) (sym (tokens_first (b ∷ bs) f.kind f.width blank f.begins))
          ([], drop f.width (b ∷ bs), refl, sym (take-append-drop f.width (b ∷ bs)), f.is, is_split n (drop f.width (b ∷ bs)) shorter)
    ]

-- ---- and in no other way

pub blanks_prefix : (prefix t : List ℕ) → list_all is_blank prefix ≡ true → tokens (prefix ++ t) ≡ tokens t
unfolding tokens_after
blanks_prefix [] t h = refl
blanks_prefix (b ∷ prefix) t h =
    elim (cases_Bool (is_blank b)) [
      | inl y ↦ rw y (blanks_prefix prefix t (rw y at h))
      | inr n ↦ absurd (let e = rw n at h in cc)
    ]

stops_there : (p : ℕ → Bool) (rest : List ℕ) → BeginsNot p rest → stops p rest ≡ true
stops_there p [] h = refl
stops_there p (b ∷ rest) h = rw h refl

no_angle_there : (rest : List ℕ) → BeginsNot (λ b. b == 62) rest → (more : List ℕ) → rest ≢ 62 ∷ more
no_angle_there [] h more e = cc
no_angle_there (b ∷ rest) h more e = eqb-false b 62 h (ap (λ (t : List ℕ). get_or t 0 0) e)

stray_tokens : (b : ℕ) (rest : List ℕ) → BeginsNone (b ∷ rest) → tokens (b ∷ rest) ≡ token Stray (b ∷ []) ∷ tokens rest
stray_tokens b rest h =
    let plus = or_parts (is_blank b || is_name_byte b) (eqb b 43) h.one in
    let blank = or_parts (is_blank b) (is_name_byte b) plus.0 in
    let name = or_parts (is_letter b) (is_digit b) blank.1 in
    tokens_first (b ∷ rest) Stray 1 blank.0 (begins_stray (b ∷ rest) (omega arith) name.1 name.0 (eqb-false b 43 plus.1) h.right (no_longer (b ∷ rest) h.left) h.left)

-- a token and the text after it
token_first : (kind : TokenKind) (text rest : List ℕ) → IsToken kind text rest → tokens (text ++ rest) ≡ token kind text ∷ tokens rest
token_first Number text rest h = tokens_number text rest h.1 (let some = h.0 in omega arith) (stops_there is_digit rest h.2)
token_first Name text rest h = tokens_name text rest h.0 (stops_there is_name_byte rest h.1)
token_first Plus text rest h = rw h (tokens_plus rest)
token_first Arrow text rest h = rw h (tokens_arrow rest)
token_first BothWays text rest h = rw h (tokens_both rest)
token_first Back text rest h = let is = h.0 in rw is (tokens_back rest (no_angle_there rest h.1))
token_first Stray [] rest h = absurd (let one = h.0 in omega arith)
token_first Stray (b ∷ []) rest h = stray_tokens b rest h.1
token_first Stray (b ∷ c ∷ more) rest h = absurd (let one = h.0 in omega arith)

split_is : (text : List ℕ) (ws : List Token) → IsSplitInto text ws → ws ≡ tokens text
unfolding tokens_after
split_is text [] h = sym (ap tokens (sym (append-nil text)) ∙ blanks_prefix text [] h)
split_is text (w ∷ ws) h =
    sym (ap tokens h.3 ∙ blanks_prefix h.0 (w.text ++ h.1) h.2 ∙ token_first w.kind w.text h.1 h.4 ∙ ap (λ (t : List Token). w ∷ t) (sym (split_is h.1 ws h.5)))

pub split_one : TextsAreSplitInOneWay
split_one text ws = (split_is text ws, λ e. subst (IsSplitInto text) (sym e) (is_split (length text) text (omega arith)))
