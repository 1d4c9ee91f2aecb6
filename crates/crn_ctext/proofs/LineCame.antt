-- The numbers of a line's bytes, each after a space, one after another.
use Rattle.crn_ctext.proofs.Prelude.{◌≡◌, ◌≤◌, ◌<◌, ◌+◌, ◌++◌, ℕ, List, [], ◌∷◌, length, take, drop, get_or, map, refl, sym, ap, ap₂, subst, ◌∙◌, inl, inr, append_assoc, arith, ℤ, pos, AllZip, append-nil, take-append-drop, map-append, length-append, length_push, IsSpelled, capped, BeginsWithZero, BeginsWithZeros, EndsAt, HasNumber, HasNoNumber, spaced, SaysNumbers, Came, IsTail}
use Rattle.std.proofs.Common.{◌≢◌}
use Rattle.crn_ctext.proofs.Spelled.{spelled_one}
use Rattle.crn_ctext.proofs.LineNumbers.{tail_at, tail_begins, words_one, spelled_is_word, zero_number}

pub spaced_tail : (texts : List (List ℕ)) → IsTail (spaced texts)
spaced_tail [] = inl refl
spaced_tail (t ∷ texts) = inr (t ++ spaced texts, refl)

-- a first number
record First (left : List ℕ) (zs : List ℤ) : Type 0 where
  pub text : List ℕ
  pub number : ℤ
  pub texts : List (List ℕ)
  pub more : List ℤ
  pub spelled : IsSpelled text number
  pub others : AllZip IsSpelled texts more
  pub numbers : zs ≡ number ∷ more
  pub bytes : left ≡ 32 ∷ (text ++ spaced texts)

first_of : (left : List ℕ) (zs : List ℤ) → 0 < length left → SaysNumbers left zs → First left zs
first_of left zs lt ([], h, e) = absurd (let z : length left ≡ 0 = ap length e in omega (arith, lt, z))
first_of left [] lt (t ∷ texts, h, e) = absurd h
first_of left (z ∷ zs) lt (t ∷ texts, h, e) = record { text = t; number = z; texts = texts; more = zs; spelled = h.0; others = h.1; numbers = refl; bytes = e }

drop_one : (left rest : List ℕ) → left ≡ 32 ∷ rest → drop 1 left ≡ rest
drop_one left rest e = ap (λ (t : List ℕ). drop 1 t) e

-- no numbers are left if none can be
pub came_fails : (before left : List ℕ) (zs : List ℤ) → Came before left zs → ((ys : List ℤ) → SaysNumbers left ys → ⊥) → (ys : List ℤ) → SaysNumbers before ys → ⊥
came_fails before left zs c none ys h = let m = c.only ys h in none m.0 m.2

-- more numbers than so many
pub came_many : (before left : List ℕ) (zs : List ℤ) (most : ℕ) → Came before left zs → 0 < length left → length zs ≡ most → (ys : List ℤ) → SaysNumbers before ys → length ys ≤ most → ⊥
came_many before left zs most c lt is ys h le =
    let m = c.only ys h in
    let f = first_of left m.0 lt m.2 in
    let len : length ys ≡ length zs + length m.0 = simp length-append at (ap length m.1) in
    let one : length m.0 ≡ length f.more + 1 = ap length f.numbers ∙ length_cons f.number f.more in
    omega (arith, len, one, is, le)
  where
    length_cons : (z : ℤ) (zs : List ℤ) → length (z ∷ zs) ≡ length zs + 1
    length_cons z zs = omega arith

pub no_space_fails : (left : List ℕ) → 0 < length left → get_or left 0 0 ≢ 32 → (ys : List ℤ) → SaysNumbers left ys → ⊥
no_space_fails left lt ne ys h = let f = first_of left ys lt h in ne (ap (λ (t : List ℕ). get_or t 0 0) f.bytes)

pub no_number_fails : (left : List ℕ) → 0 < length left → HasNoNumber (drop 1 left) → (ys : List ℤ) → SaysNumbers left ys → ⊥
no_number_fails left lt none ys h =
    let f = first_of left ys lt h in
    none f.text f.number (tail_begins (drop 1 left) f.text (spaced f.texts) (spelled_is_word f.text f.number f.spelled) (drop_one left (f.text ++ spaced f.texts) f.bytes) (spaced_tail f.texts)) f.spelled

-- a space and a number come off
one_came : (left : List ℕ) (value : ℤ) (width : ℕ) → 0 < length left → get_or left 0 0 ≡ 32 → (n : HasNumber (drop 1 left) value width) → Came left (drop width (drop 1 left)) ((let h : HasNumber (drop 1 left) value width = n in h.number) ∷ [])
one_came [] value width lt space n = absurd (omega (arith, lt))
one_came (b ∷ field) value width lt space n = record {
  adds = λ ys h. (take width field ∷ h.0, (n.spelled, h.1), ap₂ (λ x t. x ∷ t) space (sym (take-append-drop width field) ∙ ap (λ t. take width field ++ t) h.2));
  only = λ ys h.
      let f = first_of (b ∷ field) ys lt h in
      let same : field ≡ f.text ++ spaced f.texts = drop_one (b ∷ field) (f.text ++ spaced f.texts) f.bytes in
      let parts = words_one f.text (take width field) (spaced f.texts) (drop width field) (spelled_is_word f.text f.number f.spelled) (spelled_is_word (take width field) n.number n.spelled)
      (spaced_tail f.texts) (tail_at field width n.ends) (sym same ∙ sym (take-append-drop width field)) in
      let number : f.number ≡ n.number = spelled_one f.text f.number n.number f.spelled (subst (λ t. IsSpelled t n.number) (sym parts.0) n.spelled) in
      (f.more, f.numbers ∙ ap (λ z. z ∷ f.more) number, (f.texts, f.others, sym parts.1));
}

came_both : (before middle left : List ℕ) (ys zs : List ℤ) → Came before middle ys → Came middle left zs → Came before left (ys ++ zs)
came_both before middle left ys zs p q = record {
  adds = λ ws h. subst (SaysNumbers before) (sym (append_assoc ys zs ws)) (p.adds (zs ++ ws) (q.adds ws h));
  only = λ ws h.
      let m = p.only ws h in
      let n = q.only m.0 m.2 in
      (n.0, m.1 ∙ ap (λ t. ys ++ t) n.1 ∙ sym (append_assoc ys zs n.0), n.2);
}

-- the numbers so far, and how they are held
pub came_more : (before left : List ℕ) (zs : List ℤ) (old now new : List ℤ) (value : ℤ) (width : ℕ) → Came before left zs → now ≡ old ++ map capped zs
    → 0 < length left → get_or left 0 0 ≡ 32 → HasNumber (drop 1 left) value width → new ≡ now ++ value ∷ []
    → (ys : List ℤ) × Came before (drop width (drop 1 left)) ys × (new ≡ old ++ map capped ys) × (length ys ≡ length zs + 1)
came_more before left zs old now new value width c e lt space n is = (
  zs ++ n.number ∷ [],
  came_both before left (drop width (drop 1 left)) zs (n.number ∷ []) c (one_came left value width lt space n),
  is ∙ ap₂ (λ (s t : List ℤ). s ++ t) e (ap (λ z. z ∷ []) n.is) ∙ append_assoc old (map capped zs) (capped n.number ∷ []) ∙ ap (λ (t : List ℤ). old ++ t) (sym (map-append capped zs (n.number ∷ []))),
  length_push zs n.number,
)

zero_ends : (after : List ℕ) → IsTail after → EndsAt (48 ∷ after) 1
zero_ends after (inl none) = λ lt. absurd (let z : length after ≡ 0 = ap length none in omega (arith, lt, z))
zero_ends after (inr more) = λ lt. ap (λ (t : List ℕ). get_or t 0 0) more.1

-- a 0 comes next
pub came_zero : (before left after : List ℕ) (zs : List ℤ) (old now new : List ℤ) → Came before left zs → now ≡ old ++ map capped zs → BeginsWithZero left after → new ≡ now ++ pos 0 ∷ []
    → (ys : List ℤ) × Came before after ys × (new ≡ old ++ map capped ys) × (length ys ≡ length zs + 1)
came_zero before left after zs old now new c e h is =
    let n = zero_number (48 ∷ after) (omega arith) refl (zero_ends after h.tail) in
    came_more before (32 ∷ 48 ∷ after) zs old now new (pos 0) 1 (subst (λ (t : List ℕ). Came before t zs) h.is c) e (omega arith) refl n is

held_by : (old now new ys : List ℤ) → new ≡ now → now ≡ old ++ map capped ys → new ≡ old ++ map capped ys
held_by old now new ys is e = is ∙ e

ungrouped : (now z : List ℤ) → (((now ++ z) ++ z) ++ z) ++ z ≡ now ++ (z ++ (z ++ (z ++ z)))
ungrouped now z = simp append_assoc

-- four zeros come next
pub came_zeros : (before left after : List ℕ) (zs : List ℤ) (old now new : List ℤ) → Came before left zs → now ≡ old ++ map capped zs → BeginsWithZeros left after → new ≡ now ++ (pos 0 ∷ pos 0 ∷ pos 0 ∷ pos 0 ∷ [])
    → (ys : List ℤ) × Came before after ys × (new ≡ old ++ map capped ys) × (length ys ≡ length zs + 4)
came_zeros before left after zs old now new c e h is =
    let z : List ℤ = pos 0 ∷ [] in
    let two : List ℕ = 32 ∷ 48 ∷ after in
    let four : List ℕ = 32 ∷ 48 ∷ two in
    let six : List ℕ = 32 ∷ 48 ∷ four in
    let a = came_zero before left six zs old now (now ++ z) c e (record { is = h.is; tail = inr (48 ∷ four, refl) }) refl in
    let b = came_zero before six four a.0 old (now ++ z) ((now ++ z) ++ z) a.1 a.2 (record { is = refl; tail = inr (48 ∷ two, refl) }) refl in
    let d = came_zero before four two b.0 old ((now ++ z) ++ z) (((now ++ z) ++ z) ++ z) b.1 b.2 (record { is = refl; tail = inr (48 ∷ after, refl) }) refl in
    let f = came_zero before two after d.0 old (((now ++ z) ++ z) ++ z) ((((now ++ z) ++ z) ++ z) ++ z) d.1 d.2 (record { is = refl; tail = h.tail }) refl in
    (f.0, f.1, held_by old ((((now ++ z) ++ z) ++ z) ++ z) new f.0 (is ∙ sym (ungrouped now z)) f.2, omega (arith, a.3, b.3, d.3, f.3))

-- nothing is left
pub came_all : (before left : List ℕ) (zs : List ℤ) → Came before left zs → length left ≡ 0 → SaysNumbers before zs
came_all before [] zs c e = subst (SaysNumbers before) (append-nil zs) (c.adds [] ([], tt, refl))
came_all before (b ∷ left) zs c e = absurd (omega (arith, e))

-- the bytes are one list of numbers
pub numbers_one : (texts : List (List ℕ)) (bytes : List ℕ) (ys zs : List ℤ) → AllZip IsSpelled texts ys → bytes ≡ spaced texts → SaysNumbers bytes zs → ys ≡ zs
numbers_one [] bytes [] [] h e s = refl
numbers_one [] bytes [] (z ∷ zs) h e ([], t, is) = absurd t
numbers_one [] bytes [] (z ∷ zs) h e (t ∷ texts, a, is) = absurd (let none : [] ≡ spaced (t ∷ texts) = sym e ∙ is in cc)
numbers_one (t ∷ texts) bytes (y ∷ ys) zs h e s =
    let some : 0 < length bytes = let l : length bytes ≡ length (t ++ spaced texts) + 1 = ap length e ∙ length_cons 32 (t ++ spaced texts) in omega (arith, l) in
    let f = first_of bytes zs some s in
    let parts = words_one t f.text (spaced texts) (spaced f.texts) (spelled_is_word t y h.0) (spelled_is_word f.text f.number f.spelled) (spaced_tail texts) (spaced_tail f.texts) (drop_one (32 ∷ (t ++ spaced texts)) (f.text ++ spaced f.texts) (sym e ∙ f.bytes)) in
    let one : y ≡ f.number = spelled_one f.text y f.number (subst (λ x. IsSpelled x y) parts.0 h.0) f.spelled in
    ap₂ (λ k l. k ∷ l) one (numbers_one texts (spaced texts) ys f.more h.1 refl (f.texts, f.others, parts.1)) ∙ sym f.numbers
  where
    length_cons : (b : ℕ) (bs : List ℕ) → length (b ∷ bs) ≡ length bs + 1
    length_cons b bs = omega arith
numbers_one texts bytes ys zs h e s = absurd h
