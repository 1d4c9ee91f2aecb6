-- A text split at its first arrow.
use Rattle.crn_text.proofs.Prelude.{◌≡◌, ℕ, suc, true, false, eqb, List, [], ◌∷◌, ◌++◌, Some, None, Bor, refl, sym, ap, ◌∙◌, append_assoc, inl, inr, arith, ◌≢◌, list_any, ne_eqb, or_parts, or_right, append-nil, list_any-append, Token, token, tokens, tokens_after, first_token, is_arrow, is_stray, SplitsAt, SplitsArrow, PartsAt, Arrow, BothWays, Back, Stray}
use Rattle.crn_text.proofs.Apart.{EndsBefore, last_or, tokens_apart, no_arrow}

-- ---- the end of a side

-- a text that is not empty ends with its last byte
ends_with_last : (b : ℕ) (xs : List ℕ) → (prefix : List ℕ) × (b ∷ xs ≡ prefix ++ last_or b xs ∷ [])
ends_with_last b [] = ([], refl)
ends_with_last b (x ∷ xs) = let e = ends_with_last x xs in (b ∷ e.0, ap (λ (t : List ℕ). b ∷ t) e.1)

last_differs : (xs : List ℕ) (e : ℕ) → ((prefix : List ℕ) → xs ≢ prefix ++ suc e ∷ []) → last_or 0 xs ≡ suc e → ⊥
last_differs [] e apart last = omega arith
last_differs (x ∷ xs) e apart last = let ends = ends_with_last x xs in apart ends.0 (ends.1 ∙ ap (λ (b : ℕ). ends.0 ++ b ∷ []) last)

-- a text that doesn't end with `<` ends before a `-`
before_dash : (prefix : List ℕ) → ((far : List ℕ) → prefix ≢ far ++ 60 ∷ []) → EndsBefore prefix 45
before_dash prefix apart = record { name = refl; arrow = λ is last. omega arith; both = λ is last. last_differs prefix 59 apart last }

before_angle : (prefix : List ℕ) → EndsBefore prefix 60
before_angle prefix = record { name = refl; arrow = λ is last. omega arith; both = λ is last. omega arith }

-- ---- the token that begins there

pub tokens_arrow : (rest : List ℕ) → tokens (45 ∷ 62 ∷ rest) ≡ token Arrow (45 ∷ 62 ∷ []) ∷ tokens rest
unfolding tokens_after first_token
tokens_arrow rest = refl

pub tokens_both : (rest : List ℕ) → tokens (60 ∷ 45 ∷ 62 ∷ rest) ≡ token BothWays (60 ∷ 45 ∷ 62 ∷ []) ∷ tokens rest
unfolding tokens_after first_token
tokens_both rest = refl

no_angle : (b : ℕ) (rest : List ℕ) → ((more : List ℕ) → b ∷ rest ≢ 62 ∷ more) → eqb 62 b ≡ false
no_angle b rest apart = ne_eqb 62 b (λ is. apart rest (ap (λ (x : ℕ). x ∷ rest) (sym is)))

pub tokens_back : (rest : List ℕ) → ((more : List ℕ) → rest ≢ 62 ∷ more) → tokens (60 ∷ 45 ∷ rest) ≡ token Back (60 ∷ 45 ∷ []) ∷ tokens rest
unfolding tokens_after first_token
tokens_back [] apart = refl
tokens_back (b ∷ rest) apart = let no = no_angle b rest apart in rw no refl

tokens_stray : (rest : List ℕ) → ((more : List ℕ) → rest ≢ 62 ∷ more) → tokens (45 ∷ rest) ≡ token Stray (45 ∷ []) ∷ tokens rest
unfolding tokens_after first_token
tokens_stray [] apart = refl
tokens_stray (b ∷ rest) apart = let no = no_angle b rest apart in rw no refl

-- ---- no arrow, or a stray mark

pub splits_none : (text prefix : List ℕ) → SplitsAt 45 text prefix None → SplitsArrow text text None
splits_none text prefix split = (refl, inl (ap (λ (t : List ℕ). list_any is_arrow (tokens t)) (split.whole ∙ append-nil prefix) ∙ no_arrow prefix split.apart))

pub splits_stray : (text prefix : List ℕ) (back : Bor (List ℕ)) → SplitsAt 45 text prefix (Some back) → ((far : List ℕ) → prefix ≢ far ++ 60 ∷ []) → ((more : List ℕ) → back.now ≢ 62 ∷ more) → SplitsArrow text text None
splits_stray text prefix back split left right =
    let same : tokens text ≡ tokens prefix ++ token Stray (45 ∷ []) ∷ tokens back.now = ap tokens split.whole ∙ tokens_apart prefix 45 back.now (before_dash prefix left) ∙ ap (λ (t : List Token). tokens prefix ++ t) (tokens_stray back.now right) in
    (refl, inr (ap (list_any is_stray) same ∙ list_any-append is_stray (tokens prefix) (token Stray (45 ∷ []) ∷ tokens back.now) ∙ or_right (list_any is_stray (tokens prefix)) true refl))

-- ---- an arrow

pub splits_arrow : (text prefix : List ℕ) (back rest : Bor (List ℕ)) → SplitsAt 45 text prefix (Some back) → ((far : List ℕ) → prefix ≢ far ++ 60 ∷ []) → back.now ≡ 62 ∷ rest.now → PartsAt text prefix Arrow rest.now
splits_arrow text prefix back rest split left right =
    let whole : text ≡ prefix ++ 45 ∷ 62 ∷ rest.now = split.whole ∙ ap (λ (t : List ℕ). prefix ++ 45 ∷ t) right in
    record {
      joins = refl;
      mark = 45 ∷ 62 ∷ [];
      some = omega arith;
      whole = whole;
      parted = ap tokens whole ∙ tokens_apart prefix 45 (62 ∷ rest.now) (before_dash prefix left) ∙ ap (λ (t : List Token). tokens prefix ++ t) (tokens_arrow rest.now);
      first = no_arrow prefix split.apart;
    }

-- the part before the `<` of an arrow has no `-`
side_apart : (prefix side : List ℕ) → prefix ≡ side ++ 60 ∷ [] → list_any (λ b. eqb b 45) prefix ≡ false → list_any is_arrow (tokens side) ≡ false
side_apart prefix side is apart =
    no_arrow side (or_parts (list_any (λ b. eqb b 45) side) (list_any (λ b. eqb b 45) (60 ∷ [])) (sym (list_any-append (λ b. eqb b 45) side (60 ∷ [])) ∙ ap (list_any (λ b. eqb b 45)) (sym is) ∙ apart)).0

pub splits_both : (text prefix side : List ℕ) (back rest : Bor (List ℕ)) → SplitsAt 45 text prefix (Some back) → prefix ≡ side ++ 60 ∷ [] → back.now ≡ 62 ∷ rest.now → PartsAt text side BothWays rest.now
splits_both text prefix side back rest split left right =
    let whole : text ≡ side ++ 60 ∷ 45 ∷ 62 ∷ rest.now = split.whole ∙ ap (λ (t : List ℕ). prefix ++ 45 ∷ t) right ∙ ap (λ (t : List ℕ). t ++ 45 ∷ 62 ∷ rest.now) left ∙ append_assoc side (60 ∷ []) (45 ∷ 62 ∷ rest.now) in
    record {
      joins = refl;
      mark = 60 ∷ 45 ∷ 62 ∷ [];
      some = omega arith;
      whole = whole;
      parted = ap tokens whole ∙ tokens_apart side 60 (45 ∷ 62 ∷ rest.now) (before_angle side) ∙ ap (λ (t : List Token). tokens side ++ t) (tokens_both rest.now);
      first = side_apart prefix side left split.apart;
    }

pub splits_back : (text prefix side : List ℕ) (back : Bor (List ℕ)) → SplitsAt 45 text prefix (Some back) → prefix ≡ side ++ 60 ∷ [] → ((more : List ℕ) → back.now ≢ 62 ∷ more) → PartsAt text side Back back.now
splits_back text prefix side back split left right =
    let whole : text ≡ side ++ 60 ∷ 45 ∷ back.now = split.whole ∙ ap (λ (t : List ℕ). t ++ 45 ∷ back.now) left ∙ append_assoc side (60 ∷ []) (45 ∷ back.now) in
    record {
      joins = refl;
      mark = 60 ∷ 45 ∷ [];
      some = omega arith;
      whole = whole;
      parted = ap tokens whole ∙ tokens_apart side 60 (45 ∷ back.now) (before_angle side) ∙ ap (λ (t : List Token). tokens side ++ t) (tokens_back back.now right);
      first = side_apart prefix side left split.apart;
    }
