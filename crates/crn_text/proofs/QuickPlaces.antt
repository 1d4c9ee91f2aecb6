-- A place that holds a name, or a number and a name, with blanks around them, read in one pass.
use Rattle.crn_text.proofs.Prelude.{◌≡◌, ℕ, ◌+◌, ◌-◌, Bool, true, false, eqb, List, [], ◌∷◌, ◌++◌, length, Option, Some, None, Bor, refl, ap, ◌∙◌, append_assoc, arith, list_all, list_any, and_parts, nat_tests, list_any-append, is_letter, is_name_byte, begins_name, name_at, Term, Token, token, tokens, tokens_after, is_digit, is_blank, Number, Name, OccursIn, after_split, Runs, Numbered, IsSpelled, ReadsTerm, ReadsPlace, count_of, NamesPlace, FindsName, FindsPlace}
use Rattle.crn_text.proofs.CanonicalTokens.{stops, letter_no_digit, name_bytes, tokens_number, tokens_name}
use Rattle.crn_text.proofs.Terms.{occurs_first, occurs_last, piece_at}
use Rattle.crn_text.proofs.OneSplit.{blanks_prefix}

-- ---- no plus sign

no_plus : (p : ℕ → Bool) (xs : List ℕ) → ((b : ℕ) → p b ≡ true → eqb b 43 ≡ false) → list_all p xs ≡ true → list_any (λ b. eqb b 43) xs ≡ false
no_plus p [] h all = refl
no_plus p (x ∷ xs) h all = let a = and_parts (p x) (list_all p xs) all in rw (h x a.0) (no_plus p xs h a.1)

blank_no_plus : (b : ℕ) → is_blank b ≡ true → eqb b 43 ≡ false
blank_no_plus b h = grind (arith, nat_tests)

digit_no_plus : (b : ℕ) → is_digit b ≡ true → eqb b 43 ≡ false
digit_no_plus b h = grind (arith, nat_tests)

name_no_plus : (b : ℕ) → is_name_byte b ≡ true → eqb b 43 ≡ false
name_no_plus b h = grind (arith, nat_tests)

none_joined : (q : ℕ → Bool) (xs ys : List ℕ) → list_any q xs ≡ false → list_any q ys ≡ false → list_any q (xs ++ ys) ≡ false
none_joined q xs ys a b = list_any-append q xs ys ∙ rw (a, b) refl

-- ---- the tokens of the place

pub blank_no_name : (b : ℕ) → is_blank b ≡ true → is_name_byte b ≡ false
blank_no_name b h = grind (arith, nat_tests)

blank_no_digit : (b : ℕ) → is_blank b ≡ true → is_digit b ≡ false
blank_no_digit b h = grind (arith, nat_tests)

pub all_blank : (bs : List ℕ) → list_all is_blank bs ≡ true → tokens bs ≡ []
unfolding tokens_after
all_blank [] h = refl
all_blank (b ∷ bs) h = let a = and_parts (is_blank b) (list_all is_blank bs) h in rw a.0 (all_blank bs a.1)

blanks_stop : (bs : List ℕ) → list_all is_blank bs ≡ true → stops is_name_byte bs ≡ true
blanks_stop [] h = refl
blanks_stop (b ∷ bs) h = rw (blank_no_name b (and_parts (is_blank b) (list_all is_blank bs) h).0) refl

digits_stop : (bs name rest : List ℕ) → list_all is_blank bs ≡ true → begins_name name ≡ true → stops is_digit (bs ++ (name ++ rest)) ≡ true
digits_stop [] [] rest h n = absurd cc
digits_stop [] (c ∷ name) rest h n = rw (letter_no_digit c (and_parts (is_letter c) (list_all is_name_byte name) n).0) refl
digits_stop (b ∷ bs) name rest h n = rw (blank_no_digit b (and_parts (is_blank b) (list_all is_blank bs) h).0) refl

-- the token of a number with these digits, or none
abbrev number_token : List ℕ → List Token
number_token [] = []
number_token (d ∷ ds) = token Number (d ∷ ds) ∷ []

named_tokens : (bs name after : List ℕ) → list_all is_blank bs ≡ true → begins_name name ≡ true → list_all is_blank after ≡ true → tokens (bs ++ (name ++ after)) ≡ token Name name ∷ []
named_tokens bs name after h n k = blanks_prefix bs (name ++ after) h ∙ tokens_name name after n (blanks_stop after k) ∙ ap (λ (ws : List Token). token Name name ∷ ws) (all_blank after k)

place_tokens : (before ds bs name after : List ℕ) → list_all is_blank before ≡ true → list_all is_digit ds ≡ true → list_all is_blank bs ≡ true → begins_name name ≡ true → list_all is_blank after ≡ true
    → tokens (before ++ (ds ++ (bs ++ (name ++ after)))) ≡ number_token ds ++ token Name name ∷ []
place_tokens before [] bs name after h d k n a = blanks_prefix before (bs ++ (name ++ after)) h ∙ named_tokens bs name after k n a
place_tokens before (x ∷ ds) bs name after h d k n a =
    blanks_prefix before ((x ∷ ds) ++ (bs ++ (name ++ after))) h
    ∙ tokens_number (x ∷ ds) (bs ++ (name ++ after)) d (omega arith) (digits_stop bs name after k n)
    ∙ ap (λ (ws : List Token). token Number (x ∷ ds) ∷ ws) (named_tokens bs name after k n a)

reads_tokens : (body place ds name : List ℕ) (t : Term) → tokens place ≡ number_token ds ++ token Name name ∷ [] → IsSpelled body t → name_at body t ≡ name → t.count ≡ count_of ds → ReadsTerm body place (Some t)
reads_tokens body place [] name t these spelled at counts = (rw these refl, spelled, rw these at, rw these counts)
reads_tokens body place (d ∷ ds) name t these spelled at counts = (rw these refl, spelled, rw these at, rw these counts)

-- ---- the place

-- digits between blanks
pub numbered : (text before start ds more after rest : List ℕ) → Runs is_blank text before start → Runs is_digit start ds more → Runs is_blank more after rest → Numbered text ds rest
numbered text before start ds more after rest r1 r2 r3 = record {
  before = before;
  after = after;
  whole = r1.whole ∙ ap (λ (u : List ℕ). before ++ u) (r2.whole ∙ ap (λ (u : List ℕ). ds ++ u) r3.whole);
  first = r1.all;
  digits = r2.all;
  last = r3.all;
}

-- no digits
pub not_numbered : (text ds rest : List ℕ) → ds ≡ [] → rest ≡ text → Numbered text ds rest
not_numbered text ds rest none same = record { before = []; after = []; whole = rw (none, same) refl; first = refl; digits = rw none refl; last = refl }

-- a name with what may be before it and after it
quick_reads : (body text ds named : List ℕ) (end count : ℕ) (next : Option (Bor (List ℕ))) (t : Term) → OccursIn body text end → Numbered text ds named → count ≡ count_of ds → NamesPlace named end count t next → ReadsPlace body text (Some t) next
quick_reads body text ds named end count next t h r number n =
    let before : List ℕ = r.before in
    let bs : List ℕ = r.after in
    let name : List ℕ = n.name in
    let after : List ℕ = n.blanks in
    let place : List ℕ = before ++ (ds ++ (bs ++ (name ++ after))) in
    let to_name : text ≡ (before ++ (ds ++ bs)) ++ named = r.whole ∙ simp append_assoc refl in
    let whole : text ≡ place ++ after_split 43 next = to_name ∙ ap (λ (u : List ℕ). (before ++ (ds ++ bs)) ++ u) n.whole ∙ simp append_assoc refl in
    let there : OccursIn body named end = occurs_last body text (before ++ (ds ++ bs)) named end h to_name in
    let occurs : OccursIn body name (end - length named + length name) = occurs_first body named name (after ++ after_split 43 next) end there n.whole in
    let here = piece_at body name (end - length named + length name) t.at occurs (omega (arith, there.ends, n.at)) in
    let bytes : name_at body t ≡ name = rw n.long here.0 in
    let spelled : IsSpelled body t = record { inside = rw n.long here.1; named = rw bytes n.named } in
    record {
      place = place;
      split = record {
        whole = whole;
        apart = none_joined (λ b. eqb b 43) before (ds ++ (bs ++ (name ++ after))) (no_plus is_blank before blank_no_plus r.first) (none_joined (λ b. eqb b 43) ds (bs ++ (name ++ after)) (no_plus is_digit ds digit_no_plus r.digits) (none_joined (λ b. eqb b 43) bs (name ++ after) (no_plus is_blank bs blank_no_plus r.last)
            (none_joined (λ b. eqb b 43) name after (no_plus is_name_byte name name_no_plus (name_bytes name n.named)) (no_plus is_blank after blank_no_plus n.blank))));
      };
      reads = reads_tokens body place ds name t (place_tokens before ds bs name after r.first r.digits r.last n.named n.blank) spelled bytes (n.counts ∙ number);
    }

-- the same if a term is found
pub quick_finds : (body text ds named : List ℕ) (end count : ℕ) (found : Option (Term × Option (Bor (List ℕ)))) → OccursIn body text end → Numbered text ds named → count ≡ count_of ds → FindsName named end count found → FindsPlace body text found
quick_finds body text ds named end count None h r number n = tt
quick_finds body text ds named end count (Some f) h r number n = quick_reads body text ds named end count f.1 f.0 h r number n
