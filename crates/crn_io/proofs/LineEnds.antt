-- A place has a line, or one first test of a line fails there, and never both.
use Rattle.crn_io.proofs.Prelude.{◌≡◌, ◌⊎◌, ℕ, zero, suc, ◌+◌, ◌-◌, ◌<◌, ◌≤◌, false, List, [], ◌∷◌, ◌++◌, length, take, refl, sym, ap, ap₂, subst, ◌∙◌, inl, inr, arith, cases_lt, eqb_tells, length-append, take-append-le, All-nil, All-head, All-tail, All-cons, All-take, MAX_LINE, MAX_DOCUMENT, IsLine, Place, IsLineAt, ExceedsDocument, ExceedsLine, LacksLine, BreaksLine, document_too_long, line_too_long, otherwise}
use Rattle.std.specs.Prelude.{◌==◌}

-- the bytes before the first LF, and those after it, if there is one
pub split_line : (bs : List ℕ) → IsLine bs ⊎ ((l : List ℕ) × (r : List ℕ) × (bs ≡ l ++ 10 ∷ r) × IsLine l)
split_line [] = inl (All-nil (λ b. (b == 10) ≡ false))
split_line (b ∷ bs) = elim (eqb_tells b 10) [
  | inl end ↦ inr ([], bs, ap (λ (x : ℕ). x ∷ bs) end.1, All-nil (λ b. (b == 10) ≡ false))
  | inr none ↦ elim (split_line bs) [
    | inl rest ↦ inl (All-cons (λ b. (b == 10) ≡ false) b bs none.0 rest)
    | inr split ↦ inr (b ∷ split.0, split.1, ap (λ (x : List ℕ). b ∷ x) split.2, All-cons (λ b. (b == 10) ≡ false) b split.0 none.0 split.3)
  ]
]

-- if none of the first n bytes is LF, then an LF comes after at least n bytes
pub end_is_late : (l r : List ℕ) (n : ℕ) → length l < n → IsLine (take n (l ++ 10 ∷ r)) → ⊥
end_is_late [] r zero lt h = absurd (omega (arith, lt))
end_is_late [] r (suc n) lt h = let e : (10 == 10) ≡ false = All-head (λ b. (b == 10) ≡ false) 10 (take n r) h in absurd cc
end_is_late (x ∷ l) r zero lt h = absurd (omega (arith, lt))
end_is_late (x ∷ l) r (suc n) lt h = end_is_late l r n (omega (arith, lt)) (All-tail (λ b. (b == 10) ≡ false) x (take n (l ++ 10 ∷ r)) h)

-- bytes with an LF are not a line
pub end_is_none : (l r : List ℕ) → IsLine (l ++ 10 ∷ r) → ⊥
end_is_none l r h = end_is_late l r (length (l ++ 10 ∷ r)) (omega (arith, length-append l (10 ∷ r))) (All-take (λ b. (b == 10) ≡ false) (length (l ++ 10 ∷ r)) (l ++ 10 ∷ r) h)

-- bytes are split in one way at their first LF
pub split_is_one : (l m r s : List ℕ) → IsLine l → IsLine m → l ++ 10 ∷ r ≡ m ++ 10 ∷ s → (l ≡ m) × (r ≡ s)
split_is_one [] [] r s p q e = (refl, cc)
split_is_one [] (y ∷ m) r s p q e = let h : (y == 10) ≡ false = All-head (λ b. (b == 10) ≡ false) y m q in let is : y ≡ 10 = cc in absurd (let g : (10 == 10) ≡ false = subst (λ (b : ℕ). (b == 10) ≡ false) is h in cc)
split_is_one (x ∷ l) [] r s p q e = let h : (x == 10) ≡ false = All-head (λ b. (b == 10) ≡ false) x l p in let is : x ≡ 10 = cc in absurd (let g : (10 == 10) ≡ false = subst (λ (b : ℕ). (b == 10) ≡ false) is h in cc)
split_is_one (x ∷ l) (y ∷ m) r s p q e =
    let more : l ++ 10 ∷ r ≡ m ++ 10 ∷ s = cc in
    let rest = split_is_one l m r s (All-tail (λ b. (b == 10) ≡ false) x l p) (All-tail (λ b. (b == 10) ≡ false) y m q) more in
    let same : x ≡ y = cc in
    (ap₂ (λ (a : ℕ) (b : List ℕ). a ∷ b) same rest.0, rest.1)

-- bytes are a line or not
pub line_or_not : (bs : List ℕ) → IsLine bs ⊎ (IsLine bs → ⊥)
line_or_not bs = elim (split_line bs) [
  | inl line ↦ inl line
  | inr split ↦ inr (λ h. end_is_none split.0 split.1 (subst IsLine split.2 h))
]

-- a line reaches the bound of documents or not
pub document_or_not : (at : Place) → at.before < MAX_DOCUMENT → ExceedsDocument at ⊎ (ExceedsDocument at → ⊥)
document_or_not at lt = by (cases_lt (MAX_DOCUMENT - at.before - 1) (MAX_LINE + 1)) (cases_lt (MAX_DOCUMENT - at.before - 1) (length at.left)) (line_or_not (take (MAX_DOCUMENT - at.before - 1) at.left))
  where
    same : (p : ExceedsDocument at) → p.0 ≡ MAX_DOCUMENT - at.before - 1
    same p = omega (arith, p.4, lt)

    by : ((MAX_DOCUMENT - at.before - 1 < MAX_LINE + 1) ⊎ (MAX_LINE + 1 ≤ MAX_DOCUMENT - at.before - 1))
        → ((MAX_DOCUMENT - at.before - 1 < length at.left) ⊎ (length at.left ≤ MAX_DOCUMENT - at.before - 1))
        → (IsLine (take (MAX_DOCUMENT - at.before - 1) at.left) ⊎ (IsLine (take (MAX_DOCUMENT - at.before - 1) at.left) → ⊥))
        → ExceedsDocument at ⊎ (ExceedsDocument at → ⊥)
    by (inl a) (inl b) (inl c) = inl (MAX_DOCUMENT - at.before - 1, omega (arith, a), b, c, omega (arith, lt))
    by (inr a) b c = inr (λ p. absurd (omega (arith, a, same p, p.1)))
    by (inl a) (inr b) c = inr (λ p. absurd (omega (arith, b, same p, p.2)))
    by (inl a) (inl b) (inr c) = inr (λ p. c (subst (λ (n : ℕ). IsLine (take n at.left)) (same p) p.3))

-- a line is too long or not
pub long_or_not : (at : Place) → ExceedsLine at ⊎ (ExceedsLine at → ⊥)
long_or_not at = by (cases_lt MAX_LINE (length at.left)) (line_or_not (take (MAX_LINE + 1) at.left))
  where
    by : ((MAX_LINE < length at.left) ⊎ (length at.left ≤ MAX_LINE)) → (IsLine (take (MAX_LINE + 1) at.left) ⊎ (IsLine (take (MAX_LINE + 1) at.left) → ⊥)) → ExceedsLine at ⊎ (ExceedsLine at → ⊥)
    by (inl a) (inl b) = inl (a, b)
    by (inr a) b = inr (λ p. absurd (omega (arith, a, p.0)))
    by (inl a) (inr b) = inr (λ p. b p.1)

-- one of the three tests fails here, or none
pub breaks_or_not : (at : Place) (last : ℕ) (Other : Type 0) → at.before < MAX_DOCUMENT → Other ⊎ (Other → ⊥)
    → ((code : ℕ) × BreaksLine at last Other code) ⊎ ((ExceedsDocument at → ⊥) × (ExceedsLine at → ⊥) × (Other → ⊥))
breaks_or_not at last Other lt decided = by (document_or_not at lt) (long_or_not at) decided
  where
    by : ExceedsDocument at ⊎ (ExceedsDocument at → ⊥) → ExceedsLine at ⊎ (ExceedsLine at → ⊥) → Other ⊎ (Other → ⊥)
        → ((code : ℕ) × BreaksLine at last Other code) ⊎ ((ExceedsDocument at → ⊥) × (ExceedsLine at → ⊥) × (Other → ⊥))
    by (inl d) l o = inl (29, document_too_long d)
    by (inr d) (inl l) o = inl (30, line_too_long d l)
    by (inr d) (inr l) (inl o) = inl (last, otherwise d l o)
    by (inr d) (inr l) (inr o) = inr (d, l, o)

-- if none of them fails, a line is here
pub line_is_there : (at : Place) → at.before < MAX_DOCUMENT → (ExceedsDocument at → ⊥) → (ExceedsLine at → ⊥) → (LacksLine at → ⊥) → (line : List ℕ) × (after : Place) × IsLineAt at line after
line_is_there at lt d l o = elim (split_line at.left) [
  | inl line ↦ absurd (o line)
  | inr split ↦ found split.0 split.1 split.2 split.3
]
  where
    prefix : (n : ℕ) (line rest : List ℕ) → at.left ≡ line ++ 10 ∷ rest → IsLine line → n ≤ length line → IsLine (take n at.left)
    prefix n line rest e p le = rw (e, take-append-le n line (10 ∷ rest) le) (All-take (λ b. (b == 10) ≡ false) n line p)

    short : (line rest : List ℕ) → at.left ≡ line ++ 10 ∷ rest → IsLine line → length line ≤ MAX_LINE
    short line rest e p = elim (cases_lt MAX_LINE (length line)) [
      | inr le ↦ le
      | inl long ↦ absurd (l (rw e (omega (arith, long, length-append line (10 ∷ rest))), prefix (MAX_LINE + 1) line rest e p (omega (arith, long))))
    ]

    bound : (line rest : List ℕ) → at.left ≡ line ++ 10 ∷ rest → IsLine line → length line ≤ MAX_LINE → at.before + length line + 1 < MAX_DOCUMENT
    bound line rest e p le = elim (cases_lt (at.before + length line + 1) MAX_DOCUMENT) [
      | inl below ↦ below
      | inr above ↦ absurd (d (MAX_DOCUMENT - at.before - 1, omega (arith, above, le), rw e (omega (arith, above, lt, length-append line (10 ∷ rest))), prefix (MAX_DOCUMENT - at.before - 1) line rest e p (omega (arith, above)), omega (arith, lt)))
    ]

    found : (line rest : List ℕ) → at.left ≡ line ++ 10 ∷ rest → IsLine line → (line : List ℕ) × (after : Place) × IsLineAt at line after
    found line rest e p = (line, record { line = at.line + 1; before = at.before + length line + 1; left = rest }, record { left = e; whole = p; short = short line rest e p; next = refl; before = refl; bound = bound line rest e p (short line rest e p) })

-- if a line is here, none of them fails
pub line_breaks_none : (at : Place) (line : List ℕ) (after : Place) (last code : ℕ) → IsLineAt at line after → BreaksLine at last (LacksLine at) code → ⊥
line_breaks_none at line after last code p (document_too_long d) =
    end_is_late line after.left d.0 (let b = p.bound in let c = p.before in omega (arith, b, c, d.4)) (subst (λ (bs : List ℕ). IsLine (take d.0 bs)) p.left d.3)
line_breaks_none at line after last code p (line_too_long d l) =
    end_is_late line after.left (MAX_LINE + 1) (let s = p.short in omega (arith, s)) (subst (λ (bs : List ℕ). IsLine (take (MAX_LINE + 1) bs)) p.left l.1)
line_breaks_none at line after last code p (otherwise d l o) = end_is_none line after.left (subst IsLine p.left o)

abbrev place : ℕ → ℕ → List ℕ → Place
place n before left = record { line = n; before = before; left = left }

-- a place has one line
pub line_is_one : (at : Place) (line other : List ℕ) (after past : Place) → IsLineAt at line after → IsLineAt at other past → (line ≡ other) × (after ≡ past)
line_is_one at line other after past p q =
    let same = split_is_one line other after.left past.left p.whole q.whole (sym p.left ∙ q.left) in
    (same.0, place_eq (p.next ∙ sym q.next) (p.before ∙ ap (λ (l : List ℕ). at.before + length l + 1) same.0 ∙ sym q.before) same.1)
  where
    place_eq : after.line ≡ past.line → after.before ≡ past.before → after.left ≡ past.left → after ≡ past
    place_eq a b c = ap (λ (n : ℕ). place n after.before after.left) a ∙ ap (λ (n : ℕ). place past.line n after.left) b ∙ ap (λ (bs : List ℕ). place past.line past.before bs) c

-- a place has one first test that fails
pub break_is_one : (at : Place) (last c d : ℕ) (Other : Type 0) → BreaksLine at last Other c → BreaksLine at last Other d → c ≡ d
break_is_one at last c d Other (document_too_long p) (document_too_long q) = refl
break_is_one at last c d Other (document_too_long p) (line_too_long q l) = absurd (q p)
break_is_one at last c d Other (document_too_long p) (otherwise q l o) = absurd (q p)
break_is_one at last c d Other (line_too_long p l) (document_too_long q) = absurd (p q)
break_is_one at last c d Other (line_too_long p l) (line_too_long q m) = refl
break_is_one at last c d Other (line_too_long p l) (otherwise q m o) = absurd (m l)
break_is_one at last c d Other (otherwise p l o) (document_too_long q) = absurd (p q)
break_is_one at last c d Other (otherwise p l o) (line_too_long q m) = absurd (l m)
break_is_one at last c d Other (otherwise p l o) (otherwise q m r) = refl
