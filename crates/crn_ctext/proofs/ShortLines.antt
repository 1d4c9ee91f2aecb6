-- The lines of a document of plain records are short, and no byte ends one.
use Rattle.crn_ctext.proofs.Prelude.{◌≡◌, ◌+◌, ◌*◌, ◌<◌, ◌≤◌, ◌==◌, ◌^◌, ◌++◌, ℕ, zero, suc, Bool, true, false, if◌then◌else◌, List, [], ◌∷◌, length, map, get_or, refl, ap, subst, inl, inr, arith, ℤ, pos, negsuc, codes, decimal, nat_le, AllByRecursion, list_all, join_with_byte, signed_decimal, length-append, All-nil, cases_Bool, nat_tests, length-decimal-le_wide, Net, IsNetwork, IsPartialNetwork, IsVector, JoinsTwo, all_at, and_cases, side_text, held, good_terms, side_length, held_length, IsLine, Record, record_text, all_append}
use Rattle.crn_ctext.proofs.Digits.{is_digit, spells}
use Rattle.crn_ctext.proofs.Written.{IsShortLine}
use Rattle.crn_ctext.proofs.DocumentsWritten.{network_lines, text_lines}
use Rattle.crn_ctext.proofs.Bounded.{IsSlim, AreSlim, IsPlain, is_plain, word_fits}
use Rattle.crn_ctext.proofs.NetworkLines.{ends_in, net_line, line_is, net_line_has_none}
use Rattle.crn_ctext.proofs.ShortAnswers.{AllPlain}

-- ---- bytes

line_cons : (b : ℕ) (bs : List ℕ) → (b == 10) ≡ false → IsLine bs → IsLine (b ∷ bs)
line_cons b bs e p zero d lt = e
line_cons b bs e p (suc k) d lt = p k d (omega (arith, lt))

no_end : (b : ℕ) → nat_le 32 b ≡ true → (b == 10) ≡ false
no_end b e = grind (arith, nat_tests)

-- all bytes are plain
abbrev Plain : List ℕ → Type 0
Plain bs = list_all is_plain bs ≡ true

pub plain_is_line : (bs : List ℕ) → Plain bs → IsLine bs
plain_is_line [] e = All-nil (λ b. (b == 10) ≡ false)
plain_is_line (b ∷ bs) e = let p = and_cases (is_plain b) (list_all is_plain bs) e in line_cons b bs (no_end b p.0) (plain_is_line bs p.1)

none_is_line : (bs : List ℕ) → ends_in bs ≡ 0 → IsLine bs
none_is_line [] e = All-nil (λ b. (b == 10) ≡ false)
none_is_line (b ∷ bs) e = elim (cases_Bool (b == 10)) [
  | inl ends ↦ absurd (let f : 1 + ends_in bs ≡ 0 = subst (λ (t : Bool). (if t then 1 else 0) + ends_in bs ≡ 0) ends e in omega (arith, f))
  | inr goes ↦ line_cons b bs goes (none_is_line bs (let f : 0 + ends_in bs ≡ 0 = subst (λ (t : Bool). (if t then 1 else 0) + ends_in bs ≡ 0) goes e in omega (arith, f)))
]

plain_append : (xs ys : List ℕ) → Plain xs → Plain ys → Plain (xs ++ ys)
plain_append [] ys p q = q
plain_append (x ∷ xs) ys p q = let h = and_cases (is_plain x) (list_all is_plain xs) p in rw (h.0, plain_append xs ys h.1 q) refl

digit_is_plain : (b : ℕ) → is_digit b ≡ true → is_plain b ≡ true
digit_is_plain b e = grind (arith, nat_tests)

digits_are_plain : (bs : List ℕ) → list_all is_digit bs ≡ true → Plain bs
digits_are_plain [] e = refl
digits_are_plain (b ∷ bs) e = let p = and_cases (is_digit b) (list_all is_digit bs) e in rw (digit_is_plain b p.0, digits_are_plain bs p.1) refl

-- ---- numbers

decimal_plain : (n : ℕ) → n < 10 ^ 64 → Plain (decimal n)
decimal_plain n lt = let s = spells n lt in digits_are_plain (decimal n) s.digits

decimal_length : (n : ℕ) → n < 10 ^ 22 → length (decimal n) ≤ 22
decimal_length n lt = length-decimal-le_wide 22 n (omega arith) lt (omega (arith, lt))

signed_plain : (z : ℤ) → IsSlim z → Plain (signed_decimal z)
signed_plain (pos n) s = decimal_plain n (omega (arith, s))
signed_plain (negsuc n) s = decimal_plain (suc n) (omega (arith, s))

signed_length : (z : ℤ) → IsSlim z → length (signed_decimal z) ≤ 23
signed_length (pos n) s = omega (arith, decimal_length n s)
signed_length (negsuc n) s = omega (arith, decimal_length (suc n) s)

-- ---- a record's text

-- the bytes of these parts, each with one more
abbrev total : List (List ℕ) → ℕ
total [] = 0
total (p ∷ ps) = length p + 1 + total ps

total_append : (xs ys : List (List ℕ)) → total (xs ++ ys) ≡ total xs + total ys
total_append [] ys = omega arith
total_append (x ∷ xs) ys = omega (arith, total_append xs ys)

joined_plain : (ps : List (List ℕ)) → AllByRecursion Plain ps → Plain (join_with_byte 32 ps)
joined_plain [] p = refl
joined_plain (x ∷ []) p = p.0
joined_plain (x ∷ y ∷ xs) p = plain_append x (32 ∷ join_with_byte 32 (y ∷ xs)) p.0 (joined_plain (y ∷ xs) p.1)

joined_length : (ps : List (List ℕ)) → length (join_with_byte 32 ps) ≤ total ps
joined_length (x ∷ y ∷ xs) = omega (arith, length-append x (32 ∷ join_with_byte 32 (y ∷ xs)), joined_length (y ∷ xs))
joined_length ps = omega arith

words_plain : (ws : List (List ℕ)) → list_all word_fits ws ≡ true → AllByRecursion Plain ws
words_plain [] e = tt
words_plain (w ∷ ws) e = let p = and_cases (word_fits w) (list_all word_fits ws) e in let q = and_cases (list_all is_plain w) (nat_le (length w) 20) p.0 in (q.0, words_plain ws p.1)

within : (n most : ℕ) → nat_le n most ≡ true → n ≤ most
within n most e = grind (arith, nat_tests)

words_length : (ws : List (List ℕ)) → list_all word_fits ws ≡ true → total ws ≤ 21 * length ws
words_length [] e = omega arith
words_length (w ∷ ws) e =
    let p = and_cases (word_fits w) (list_all word_fits ws) e in
    let q = and_cases (list_all is_plain w) (nat_le (length w) 20) p.0 in
    omega (arith, within (length w) 20 q.1, words_length ws p.1)

numbers_plain : (zs : List ℤ) → AreSlim zs → AllByRecursion Plain (map signed_decimal zs)
numbers_plain [] s = tt
numbers_plain (z ∷ zs) s = (signed_plain z s.0, numbers_plain zs s.1)

numbers_length : (zs : List ℤ) → AreSlim zs → total (map signed_decimal zs) ≤ 24 * length zs
numbers_length [] s = omega arith
numbers_length (z ∷ zs) s = omega (arith, signed_length z s.0, numbers_length zs s.1)

pub record_line_is_short : (r : Record) → IsPlain r → IsShortLine (record_text r)
record_line_is_short r p =
    let w = and_cases (list_all word_fits r.words) (nat_le (length r.words) 3) p.words in
    let few = p.few in
    let parts = r.words ++ map signed_decimal r.numbers in (
      plain_is_line (join_with_byte 32 parts) (joined_plain parts (all_append Plain r.words (map signed_decimal r.numbers) (words_plain r.words w.0) (numbers_plain r.numbers p.numbers))),
      omega (arith, joined_length parts, total_append r.words (map signed_decimal r.numbers), words_length r.words w.0, within (length r.words) 3 w.1, numbers_length r.numbers p.numbers, few),
    )

-- it has room for its words and for its numbers
pub record_line_length : (r : Record) → IsPlain r → length (record_text r) ≤ 63 + 24 * length r.numbers
record_line_length r p =
    let w = and_cases (list_all word_fits r.words) (nat_le (length r.words) 3) p.words in
    let parts = r.words ++ map signed_decimal r.numbers in
    omega (arith, joined_length parts, total_append r.words (map signed_decimal r.numbers), words_length r.words w.0, within (length r.words) 3 w.1, numbers_length r.numbers p.numbers)

-- ---- a network's lines

net_line_is_short : (net : Net) (r : ℕ × ℕ) → IsPartialNetwork net → JoinsTwo (length net.complexes) r → IsShortLine (net_line net r)
net_line_is_short net r h j =
    let v = all_at (IsVector (length net.names)) net.complexes r.0 [] h.vectors j.1 in
    let w = all_at (IsVector (length net.names)) net.complexes r.1 [] h.vectors j.2 in
    let x = held net.names (get_or net.complexes r.0 []) in
    let y = held net.names (get_or net.complexes r.1 []) in
    let a = side_length x (good_terms net.names (get_or net.complexes r.0 []) h.names_spelled v.1) in
    let b = side_length y (good_terms net.names (get_or net.complexes r.1 []) h.names_spelled w.1) in
    let text = ap length (line_is net r) in
    let few = h.species_limit in (
      none_is_line (net_line net r) (net_line_has_none net r h j),
      omega (arith, a, b, few, text, held_length net.names (get_or net.complexes r.0 []), held_length net.names (get_or net.complexes r.1 []), length-append (side_text x ++ codes " -> ") (side_text y), length-append (side_text x) (codes " -> ")),
    )

net_lines_are_short : (net : Net) (rs : List (ℕ × ℕ)) → IsPartialNetwork net → AllByRecursion (JoinsTwo (length net.complexes)) rs → AllByRecursion IsShortLine (map (net_line net) rs)
net_lines_are_short net [] h a = tt
net_lines_are_short net (r ∷ rs) h a = (net_line_is_short net r h a.0, net_lines_are_short net rs h a.1)

-- ---- the document

-- words and a number of no more than 22 digits
said_line : (words : List ℕ) (n : ℕ) → Plain words → length words ≤ 100 → n < 10 ^ 22 → IsShortLine (words ++ decimal n)
said_line words n p few lt = (plain_is_line (words ++ decimal n) (plain_append words (decimal n) p (decimal_plain n (omega (arith, lt)))), omega (arith, length-append words (decimal n), few, decimal_length n lt))

records_are_short : (rs : List Record) → AllPlain rs → AllByRecursion IsShortLine (map record_text rs)
records_are_short [] p = tt
records_are_short (r ∷ rs) p = (record_line_is_short r p.0, records_are_short rs p.1)

pub text_lines_are_short : (version : ℕ) (net : Net) (records : List Record) → version ≤ 2 → IsNetwork net → AllPlain records → AllByRecursion IsShortLine (text_lines version net records)
text_lines_are_short version net records low n p =
    let h = n.partial in
    let few = h.reactions_limit in (
      said_line (codes "crn certificate ") version refl (omega arith) (omega (arith, low)),
      (
        said_line (codes "network ") (length net.reactions) refl (omega arith) (omega (arith, few)),
        all_append IsShortLine (network_lines net) (map record_text records ++ codes "end" ∷ []) (net_lines_are_short net net.reactions h h.apart)
            (all_append IsShortLine (map record_text records) (codes "end" ∷ []) (records_are_short records p) ((plain_is_line (codes "end") refl, omega arith), tt)),
      ),
    )
