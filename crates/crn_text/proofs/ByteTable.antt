-- The table of what a byte can be in a name, held against the definitions at each byte by computing.
use Rattle.crn_text.proofs.Prelude.{◌≡◌, ℕ, ◌<◌, ◌==◌, ◌||◌, Bool, true, false, not, cond, List, get_or, map, refl, ap, ◌∙◌, arith, is_letter, is_name_byte, is_digit, get_or-map-range_with_len, range_with_len, KINDS}

-- the mark of a letter or an underscore, of a digit, and of every other byte
abbrev mark : Bool → Bool → ℕ
mark letter digit = cond letter 97 (cond digit 48 46)

abbrev kind : ℕ → ℕ
kind b = mark (is_letter b) (is_digit b)

table_is : KINDS ≡ map kind (range_with_len 0 256)
table_is = refl

kind_at : (b : ℕ) → b < 256 → get_or KINDS b 0 ≡ kind b
kind_at b lt = ap (λ (t : List ℕ). get_or t b 0) table_is ∙ get_or-map-range_with_len kind 0 256 b b 0 lt (omega arith)

of_letter : (letter digit : Bool) → (mark letter digit == 97) ≡ letter
of_letter true digit = refl
of_letter false true = refl
of_letter false false = refl

of_name : (letter digit : Bool) → not (mark letter digit == 46) ≡ (letter || digit)
of_name true digit = refl
of_name false true = refl
of_name false false = refl

-- the bytes with the mark of a letter
pub letter_at : (b : ℕ) → b < 256 → (get_or KINDS b 0 == 97) ≡ is_letter b
letter_at b lt = ap (λ (n : ℕ). n == 97) (kind_at b lt) ∙ of_letter (is_letter b) (is_digit b)

-- the bytes with a mark other than a dot
pub name_byte_at : (b : ℕ) → b < 256 → not (get_or KINDS b 0 == 46) ≡ is_name_byte b
name_byte_at b lt = ap (λ (n : ℕ). not (n == 46)) (kind_at b lt) ∙ of_name (is_letter b) (is_digit b)
