-- Bytes with and without an LF.
use Rattle.crn_io.proofs.Prelude.{◌≡◌, ◌==◌, ℕ, ◌+◌, ◌<◌, false, List, [], ◌∷◌, ◌++◌, length, take, drop, get_or, Some, sym, ap, ◌∙◌, append_assoc, arith, length-append, take-append-drop, drop_more, get_or-append-add, All-append, All-take, take-append-add, IsLine, EndsAt}

-- ---- bytes without an LF

pub IsLine-append : (x y : List ℕ) → IsLine x → IsLine y → IsLine (x ++ y)
IsLine-append x y p q = All-append (λ b. (b == 10) ≡ false) x y p q

pub IsLine-take : (n : ℕ) (xs : List ℕ) → IsLine xs → IsLine (take n xs)
IsLine-take n xs p = All-take (λ b. (b == 10) ≡ false) n xs p

-- an LF, and the bytes before and after it
pub at_end : (xs : List ℕ) (i : ℕ) → i < length xs → get_or xs i 0 ≡ 10 → xs ≡ take i xs ++ 10 ∷ drop (i + 1) xs
at_end xs i lt e = sym (take-append-drop i xs) ∙ ap (λ (t : List ℕ). take i xs ++ t) (drop_more xs i 0 lt ∙ ap (λ (b : ℕ). b ∷ drop (i + 1) xs) e)

-- the first LF is in what comes after bytes without one
pub EndsAt-append : (x y : List ℕ) (i : ℕ) → IsLine x → EndsAt y (Some i) → EndsAt (x ++ y) (Some (length x + i))
EndsAt-append x y i p q =
    (omega (arith, q.0, length-append x y), get_or-append-add x y i 0 ∙ q.1, rw (take-append-add x y i) (IsLine-append x (take i y) p q.2))

-- the same, of what is held
pub EndsAt-held : (held prefix new : List ℕ) (at i : ℕ) → new ≡ held ++ prefix → at ≡ length held → IsLine held → EndsAt prefix (Some i) → EndsAt new (Some (at + i))
EndsAt-held held prefix new at i is here p q = rw (is, here) (EndsAt-append held prefix i p q)

-- bytes without an LF, and more of them
pub IsLine-held : (held prefix new : List ℕ) → new ≡ held ++ prefix → IsLine held → IsLine prefix → IsLine new
IsLine-held held prefix new is p q = rw is (IsLine-append held prefix p q)

-- what is held, after one more pull
pub held_more : (old pulled held prefix new : List ℕ) → held ≡ old ++ pulled → new ≡ held ++ prefix → new ≡ old ++ (pulled ++ prefix)
held_more old pulled held prefix new p q = q ∙ ap (λ (t : List ℕ). t ++ prefix) p ∙ append_assoc old pulled prefix

-- no bytes hold no LF
pub IsLine-none : IsLine []
IsLine-none = λ k d below. absurd (omega arith)
