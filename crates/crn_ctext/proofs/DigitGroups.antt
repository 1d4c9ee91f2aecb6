-- Eight digits at once: their value, and the value of all digits so far.
use Rattle.crn_ctext.proofs.Prelude.{◌≡◌, ◌≤◌, ◌<◌, ◌+◌, ◌-◌, ◌*◌, ℕ, zero, suc, List, [], ◌∷◌, length, take, drop, get_or, refl, ◌∙◌, arith, digit_value, AllDigits, digits_value, digits_value_after, drop-drop}
use Rattle.crn_ctext.proofs.LineNumbers.{all_digits_more, digits_value_next}

-- the byte at a place is a digit
abbrev pub IsDigitAt : List ℕ → ℕ → Type 0
IsDigitAt bs k = (48 ≤ get_or bs k 0) × (get_or bs k 0 ≤ 57)

-- the first eight bytes are digits
pub record AreEight (bs : List ℕ) : Type 0 where
  pub many : 8 ≤ length bs
  pub at0 : IsDigitAt bs 0
  pub at1 : IsDigitAt bs 1
  pub at2 : IsDigitAt bs 2
  pub at3 : IsDigitAt bs 3
  pub at4 : IsDigitAt bs 4
  pub at5 : IsDigitAt bs 5
  pub at6 : IsDigitAt bs 6
  pub at7 : IsDigitAt bs 7

more : (bs : List ℕ) (k : ℕ) → k < length bs → AllDigits 10 (take k bs) → IsDigitAt bs k → AllDigits 10 (take (k + 1) bs)
more bs k lt all p = all_digits_more bs k lt all p.0 p.1

pub eight_are : (bs : List ℕ) → AreEight bs → AllDigits 10 (take 8 bs)
eight_are bs e =
    let many = e.many in
    let one = more bs 0 (omega (arith, many)) tt e.at0 in
    let two = more bs 1 (omega (arith, many)) one e.at1 in
    let three = more bs 2 (omega (arith, many)) two e.at2 in
    let four = more bs 3 (omega (arith, many)) three e.at3 in
    let five = more bs 4 (omega (arith, many)) four e.at4 in
    let six = more bs 5 (omega (arith, many)) five e.at5 in
    let seven = more bs 6 (omega (arith, many)) six e.at6 in
    more bs 7 (omega (arith, many)) seven e.at7

next : (bs : List ℕ) (k v w : ℕ) → k < length bs → v ≡ digits_value 10 (take k bs) → IsDigitAt bs k → w ≡ v * 10 + (get_or bs k 0 - 48) → w ≡ digits_value 10 (take (k + 1) bs)
next bs k v w lt e p is = is ∙ digits_value_next bs k v (get_or bs k 0 - 48) lt e p.0 p.1 refl

pub eight_value : (bs : List ℕ) (a b c d e f g h : ℕ) → AreEight bs
    → a ≡ 0 * 10 + (get_or bs 0 0 - 48) → b ≡ a * 10 + (get_or bs 1 0 - 48) → c ≡ b * 10 + (get_or bs 2 0 - 48) → d ≡ c * 10 + (get_or bs 3 0 - 48)
    → e ≡ d * 10 + (get_or bs 4 0 - 48) → f ≡ e * 10 + (get_or bs 5 0 - 48) → g ≡ f * 10 + (get_or bs 6 0 - 48) → h ≡ g * 10 + (get_or bs 7 0 - 48)
    → h ≡ digits_value 10 (take 8 bs)
eight_value bs a b c d e f g h are p q r s t u v w =
    let many = are.many in
    let one = next bs 0 0 a (omega (arith, many)) refl are.at0 p in
    let two = next bs 1 a b (omega (arith, many)) one are.at1 q in
    let three = next bs 2 b c (omega (arith, many)) two are.at2 r in
    let four = next bs 3 c d (omega (arith, many)) three are.at3 s in
    let five = next bs 4 d e (omega (arith, many)) four are.at4 t in
    let six = next bs 5 e f (omega (arith, many)) five are.at5 u in
    let seven = next bs 6 f g (omega (arith, many)) six are.at6 v in
    next bs 7 g h (omega (arith, many)) seven are.at7 w

-- ---- eight digits after others

later : (i : ℕ) → suc i + 8 ≡ suc (i + 8)
later i = omega arith

pub group_digits : (bs : List ℕ) (i : ℕ) → AllDigits 10 (take i bs) → AllDigits 10 (take 8 (drop i bs)) → AllDigits 10 (take (i + 8) bs)
group_digits bs zero all eight = eight
group_digits [] (suc i) all eight = rw (later i) tt
group_digits (b ∷ bs) (suc i) all eight = rw (later i) (all.0, group_digits bs i all.1 eight)

eight_after : (v : ℕ) (bs : List ℕ) → 8 ≤ length bs → digits_value_after 10 v (take 8 bs) ≡ v * 100000000 + digits_value 10 (take 8 bs)
eight_after v (a ∷ b ∷ c ∷ d ∷ e ∷ f ∷ g ∷ h ∷ bs) le = omega arith
eight_after v bs le = absurd (omega (arith, le))

group_after : (v : ℕ) (bs : List ℕ) (i : ℕ) → 8 ≤ length (drop i bs)
    → digits_value_after 10 v (take (i + 8) bs) ≡ digits_value_after 10 v (take i bs) * 100000000 + digits_value 10 (take 8 (drop i bs))
group_after v bs zero le = eight_after v bs le
group_after v [] (suc i) le = absurd (omega (arith, le))
group_after v (b ∷ bs) (suc i) le = rw (later i) (group_after (v * 10 + digit_value b) bs i le)

pub group_value : (bs : List ℕ) (i v w : ℕ) → 8 ≤ length (drop i bs) → v ≡ digits_value 10 (take i bs) → w ≡ digits_value 10 (take 8 (drop i bs))
    → v * 100000000 + w ≡ digits_value 10 (take (i + 8) bs)
group_value bs i v w le p q = let h = group_after 0 bs i le in omega (arith, h, p, q)

-- the same after eight digits more
pub second_digits : (bs : List ℕ) (i : ℕ) → AllDigits 10 (take (i + 8) bs) → AllDigits 10 (take 8 (drop 8 (drop i bs))) → AllDigits 10 (take (i + 16) bs)
second_digits bs i all eight =
    let e : i + 16 ≡ i + 8 + 8 = omega arith in
    rw e (group_digits bs (i + 8) all (rw (drop-drop 8 i bs) at eight))

pub second_value : (bs : List ℕ) (i v w : ℕ) → 8 ≤ length (drop 8 (drop i bs)) → v ≡ digits_value 10 (take (i + 8) bs) → w ≡ digits_value 10 (take 8 (drop 8 (drop i bs)))
    → v * 100000000 + w ≡ digits_value 10 (take (i + 16) bs)
second_value bs i v w le p q =
    let e : i + 16 ≡ i + 8 + 8 = omega arith in
    rw e (group_value bs (i + 8) v w (rw (drop-drop 8 i bs) at le) p (rw (drop-drop 8 i bs) at q))
