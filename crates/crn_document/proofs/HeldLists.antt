-- Lists of numbers that are held in one list, with one more.
use Rattle.crn_document.proofs.Prelude.{◌≡◌, ◌≤◌, ◌+◌, ◌-◌, ◌++◌, ◌∙◌, ℕ, zero, suc, List, [], ◌∷◌, length, take, drop, refl, ap, ap₂, arith, ℤ, length-append, map-append, drop-append-le, length-drop, take-append-le, AreSpans, span_of, spans_of, drop-append_seam}

-- numbers after a span leave it as it is
span_same : (numbers more : List ℤ) (s : ℕ × ℕ) → s.0 ≤ s.1 → s.1 ≤ length numbers → span_of (numbers ++ more) s ≡ span_of numbers s
span_same numbers more s order within =
    ap (take (s.1 - s.0)) (drop-append-le s.0 numbers more (omega (arith, order, within)))
    ∙ take-append-le (s.1 - s.0) (drop s.0 numbers) more (omega (arith, order, within, length-drop s.0 numbers))

spans_same : (numbers more : List ℤ) (spans : List (ℕ × ℕ)) → AreSpans (length numbers) spans → spans_of (numbers ++ more) spans ≡ spans_of numbers spans
spans_same numbers more [] h = refl
spans_same numbers more (s ∷ spans) h = ap₂ (λ (x : List ℤ) (xs : List (List ℤ)). x ∷ xs) (span_same numbers more s h.0.0 h.0.1) (spans_same numbers more spans h.1)

take_whole : (numbers : List ℤ) (n : ℕ) → n ≡ length numbers → take n numbers ≡ numbers
take_whole [] zero e = refl
take_whole [] (suc n) e = refl
take_whole (z ∷ numbers) zero e = absurd (omega (arith, e))
take_whole (z ∷ numbers) (suc n) e = ap (λ (t : List ℤ). z ∷ t) (take_whole numbers n (omega (arith, e)))

-- the numbers that were added last
span_last : (numbers more : List ℤ) (start end : ℕ) → start ≡ length numbers → end ≡ length (numbers ++ more) → span_of (numbers ++ more) (start, end) ≡ more
span_last numbers more start end from to =
    ap (λ (k : ℕ). take (end - start) (drop k (numbers ++ more))) from
    ∙ ap (take (end - start)) (drop-append_seam numbers more)
    ∙ take_whole more (end - start) (omega (arith, from, to, length-append numbers more))

-- with one list more
pub spans_push : (numbers more : List ℤ) (spans : List (ℕ × ℕ)) (start end : ℕ) → AreSpans (length numbers) spans → start ≡ length numbers → end ≡ length (numbers ++ more)
    → spans_of (numbers ++ more) (spans ++ (start, end) ∷ []) ≡ spans_of numbers spans ++ more ∷ []
spans_push numbers more spans start end h from to =
    map-append (span_of (numbers ++ more)) spans ((start, end) ∷ [])
    ∙ ap₂ (λ (xs ys : List (List ℤ)). xs ++ ys) (spans_same numbers more spans h) (ap (λ (x : List ℤ). x ∷ []) (span_last numbers more start end from to))
