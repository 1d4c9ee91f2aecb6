-- A text whose first byte but blanks is no zero is not the single number zero.
use Rattle.crn_text.proofs.Prelude.{◌≡◌, ℕ, zero, suc, ◌-◌, ◌≤◌, ◌==◌, true, false, List, [], ◌∷◌, take, drop, get_or, refl, ap, subst, ◌∙◌, arith, nat_le, list_all, prefix_len, digits_value, and_parts, leb-true, eqb-false, ne_eqb, digits_value-take-le, Token, token, tokens, tokens_after, is_blank, is_digit, IsToken, is_zero, first_byte, TokenKind, Number, Name, Plus, Arrow, BothWays, Back, Stray}
use Rattle.crn_text.proofs.Numbers.{digit_is_value}
use Rattle.crn_text.proofs.OneSplit.{found}
use Rattle.crn_text.proofs.Tokens.{tokens_skip, no_blank_there, tokens_first}

-- digits that begin with another digit than zero
some_value : (b : ℕ) (ds : List ℕ) → list_all is_digit (b ∷ ds) ≡ true → (b == 48) ≡ false → (digits_value 10 (b ∷ ds) == 0) ≡ false
some_value b ds digits ne =
    let digit : is_digit b ≡ true = (and_parts (is_digit b) (list_all is_digit ds) digits).0 in
    let low : 48 ≤ b = leb-true 48 b (and_parts (nat_le 48 b) (nat_le b 57) digit).0 in
    let other = eqb-false b 48 ne in
    let value = digit_is_value b digit in
    let more = digits_value-take-le 10 (b ∷ ds) 1 (omega arith) in
    ne_eqb (digits_value 10 (b ∷ ds)) 0 (λ none. other (omega (arith, low, value, more, none)))

no_zero : (kind : TokenKind) (b : ℕ) (ds rest : List ℕ) (more : List Token) → IsToken kind (b ∷ ds) rest → (b == 48) ≡ false → is_zero (token kind (b ∷ ds) ∷ more) ≡ false
no_zero Number b ds rest [] is ne = some_value b ds is.1 ne
no_zero Name b ds rest [] is ne = refl
no_zero Plus b ds rest [] is ne = refl
no_zero Arrow b ds rest [] is ne = refl
no_zero BothWays b ds rest [] is ne = refl
no_zero Back b ds rest [] is ne = refl
no_zero Stray b ds rest [] is ne = refl
no_zero kind b ds rest (x ∷ more) is ne = refl

first_taken : (width b : ℕ) (bs : List ℕ) → 1 ≤ width → take width (b ∷ bs) ≡ b ∷ take (width - 1) bs
first_taken zero b bs some = absurd (omega arith)
first_taken (suc width) b bs some = let e : suc width - 1 ≡ width = omega arith in rw e refl

from_first : (rest : List ℕ) → is_blank (get_or rest 0 0) ≡ false → (get_or rest 0 0 == 48) ≡ false → is_zero (tokens rest) ≡ false
unfolding tokens_after
from_first [] blank ne = refl
from_first (b ∷ bs) blank ne =
    let f = found b bs blank in
    let all = tokens_first (b ∷ bs) f.kind f.width blank f.begins in
    let one = first_taken f.width b bs f.begins.some in
    let is : IsToken f.kind (b ∷ take (f.width - 1) bs) (drop f.width (b ∷ bs)) = subst (λ (t : List ℕ). IsToken f.kind t (drop f.width (b ∷ bs))) one f.is in
    rw (all, one) (no_zero f.kind b (take (f.width - 1) bs) (drop f.width (b ∷ bs)) (tokens (drop f.width (b ∷ bs))) is ne)

pub not_zero : (text : List ℕ) → (first_byte text == 48) ≡ false → is_zero (tokens text) ≡ false
not_zero text ne = ap is_zero (tokens_skip text) ∙ from_first (drop (prefix_len is_blank text) text) (no_blank_there text) ne
