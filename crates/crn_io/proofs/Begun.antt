-- The beginning of a line, shorter beginnings of it, and what follows it.
use Rattle.crn_io.proofs.Prelude.{◌≡◌, ◌==◌, ◌⊎◌, ℕ, zero, suc, ◌+◌, ◌-◌, ◌≤◌, ◌<◌, false, List, [], ◌∷◌, ◌++◌, length, take, inl, inr, refl, sym, ap, subst, ◌∙◌, append_assoc, arith, take-append_seam, cases_lt, length-append, take-append-le, All-cons, MAX_AHEAD, MAX_DOCUMENT, MAX_LINE, IsBegun, IsLine, IsLineAt, Place, ExceedsLine, BreaksLine, document_too_long, line_too_long, otherwise, AreAsked}
use Rattle.crn_io.proofs.LineEnds.{end_is_none}
use Rattle.crn_io.proofs.LineLists.{IsLine-none, IsLine-take}

-- no bytes begin a line
pub begun_none : (before : ℕ) → before < MAX_DOCUMENT → IsBegun before []
begun_none before lt = (IsLine-none, omega arith, omega arith)

-- a prefix of the beginning of a line is one
pub begun_prefix : (before : ℕ) (x y z : List ℕ) → z ≡ x ++ y → IsBegun before z → IsBegun before x
begun_prefix before x y z e p =
    let same : take (length x) z ≡ x = ap (take (length x)) e ∙ take-append_seam x y in
    let size : length z ≡ length x + length y = ap length e ∙ length-append x y in
    (rw same at (IsLine-take (length x) z p.0), omega (arith, size, p.1), omega (arith, size, p.2))

-- a prefix of a line that is there is the beginning of a line
pub line_begun : (at after : Place) (line x y : List ℕ) → IsLineAt at line after → line ≡ x ++ y → IsBegun at.before x
line_begun at after line x y p e = begun_prefix at.before x y line e (p.whole, p.short, omega (arith, p.before, p.bound))

-- all but the bytes of the last pull, and so all but more bytes than these, begin a line
pub asked_begun : (taken : ℕ) (bytes begun last : List ℕ) → AreAsked taken bytes → bytes ≡ begun ++ last → MAX_AHEAD ≤ length last → IsBegun taken begun
asked_begun taken bytes begun last q e long =
    let size : length begun + length last ≡ length q.0 + length q.1 = sym (length-append begun last) ∙ ap length (sym e ∙ q.2) ∙ length-append q.0 q.1 in
    let few : length begun ≤ length q.0 = omega (arith, size, long, q.4) in
    let same : take (length begun) q.0 ≡ begun = sym (take-append-le (length begun) q.0 q.1 few) ∙ ap (take (length begun)) (sym q.2 ∙ e) ∙ take-append_seam begun last in
    (rw same at (IsLine-take (length begun) q.0 q.3.0), omega (arith, few, q.3.1), omega (arith, few, q.3.2))

-- what begins a text that begins with a line is the beginning of this line, or goes on after its LF
pub begun_or_more : (begun last line rest : List ℕ) → begun ++ last ≡ line ++ 10 ∷ rest
    → ((more : List ℕ) × (line ≡ begun ++ more)) ⊎ ((more : List ℕ) × (begun ≡ line ++ 10 ∷ more) × (rest ≡ more ++ last))
begun_or_more [] last line rest e = inl (line, refl)
begun_or_more (b ∷ begun) last [] rest e =
    let same : b ≡ 10 = cc in
    inr (begun, ap (λ (x : ℕ). x ∷ begun) same, cc)
begun_or_more (b ∷ begun) last (l ∷ line) rest e =
    let same : b ≡ l = cc in
    elim (begun_or_more begun last line rest cc) [
      | inl p ↦ inl (p.0, ap (λ (x : ℕ). x ∷ line) (sym same) ∙ ap (λ (t : List ℕ). b ∷ t) p.1)
      | inr p ↦ inr (p.0, ap (λ (x : ℕ). x ∷ begun) same ∙ ap (λ (t : List ℕ). l ∷ t) p.1, p.2)
    ]

-- the beginning of a line breaks none of the bounds
pub begun_breaks_last : (at : Place) (last code : ℕ) (Other : Type 0) → IsBegun at.before at.left → BreaksLine at last Other code → code ≡ last
begun_breaks_last at last code Other p (document_too_long d) = absurd (omega (arith, p.2, d.2, d.4))
begun_breaks_last at last code Other p (line_too_long d l) = absurd (omega (arith, p.1, l.0))
begun_breaks_last at last code Other p (otherwise d l o) = refl

-- and is no line
pub begun_is_no_line : (at after : Place) (line : List ℕ) → IsBegun at.before at.left → IsLineAt at line after → ⊥
begun_is_no_line at after line p q = end_is_none line after.left (let e = q.left in subst IsLine e p.0)

-- more bytes with no LF than a line may have break one of the bounds
pub long_breaks : (at : Place) (last : ℕ) (Other : Type 0) → IsLine at.left → MAX_LINE < length at.left → (code : ℕ) × BreaksLine at last Other code × (29 ≤ code) × (code ≤ 30)
long_breaks at last Other whole long =
    let exceeds : ExceedsLine at = (long, IsLine-take (MAX_LINE + 1) at.left whole) in
    elim (cases_lt at.before MAX_DOCUMENT) [
      | inr after ↦ (30, line_too_long (λ d. absurd (omega (arith, after, d.4))) exceeds, omega arith, omega arith)
      | inl before ↦
          let n : ℕ = MAX_DOCUMENT - at.before - 1 in
          elim (cases_lt MAX_LINE n) [
            | inl far ↦ (30, line_too_long (λ d. absurd (omega (arith, before, far, d.1, d.4))) exceeds, omega arith, omega arith)
            | inr near ↦ (29, document_too_long (n, near, omega (arith, near, long), IsLine-take n at.left whole, omega (arith, before)), omega arith, omega arith)
          ]
    ]

-- a line stays one if bytes are added after it
pub line_and_more : (at after : Place) (line more : List ℕ) → IsLineAt at line after → IsLineAt (record at { left = at.left ++ more }) line (record after { left = after.left ++ more })
line_and_more at after line more p = record { left = ap (λ (t : List ℕ). t ++ more) p.left ∙ append_assoc line (10 ∷ after.left) more; whole = p.whole; short = p.short; next = p.next; before = p.before; bound = p.bound }

-- so many bytes with no LF
pub none_ends : (n : ℕ) → (bytes : List ℕ) × (length bytes ≡ n) × IsLine bytes
none_ends zero = ([], refl, IsLine-none)
none_ends (suc n) = let p = none_ends n in (0 ∷ p.0, ap suc p.1, All-cons (λ b. (b == 10) ≡ false) 0 p.0 refl p.2)
