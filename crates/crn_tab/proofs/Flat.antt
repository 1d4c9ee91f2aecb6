-- Rows that are in one list.
use Rattle.crn_tab.proofs.Prelude.{◌≡◌, ◌≢◌, ℕ, zero, suc, ◌+◌, ◌*◌, ◌<◌, ◌≤◌, ◌⊎◌, inl, inr, List, [], ◌∷◌, ◌++◌, length, take, drop, refl, sym, ap, ◌∙◌, arith, ℤ, pos, get_or-take, get_or-drop, length-take, length-drop, length-append, take-append_seam, suc-mul, mul-le-mul_right, entry, lt_or, drop_seam, row_at}
use Rattle.crn_tab.proofs.SameRows.{same_rows}

-- the row that was written
pub row_written : (w i : ℕ) (prefix into back : List ℤ) → length prefix ≡ i * w → length into ≡ w → row_at w (prefix ++ (into ++ back)) i ≡ into
row_written w i prefix into back e f =
    ap (λ k. take w (drop k (prefix ++ (into ++ back)))) (sym e) ∙ ap (take w) (drop_seam prefix (into ++ back))
    ∙ ap (λ k. take k (into ++ back)) (sym f) ∙ take-append_seam into back

entry_after : (into into' back : List ℤ) (k : ℕ) → length into ≡ length into' → length into ≤ k → entry (into ++ back) k ≡ entry (into' ++ back) k
entry_after [] [] back k e h = refl
entry_after [] (y ∷ ys) back k e h = absurd (omega arith)
entry_after (x ∷ xs) [] back k e h = absurd (omega arith)
entry_after (x ∷ xs) (y ∷ ys) back zero e h = absurd (omega arith)
entry_after (x ∷ xs) (y ∷ ys) back (suc k) e h = entry_after xs ys back k (omega arith) (omega arith)

outside : (prefix into into' back : List ℤ) (k : ℕ) → length into ≡ length into' → (k < length prefix) ⊎ (length prefix + length into ≤ k)
    → entry (prefix ++ (into ++ back)) k ≡ entry (prefix ++ (into' ++ back)) k
outside [] into into' back k e (inl h) = absurd (omega arith)
outside [] into into' back k e (inr h) = entry_after into into' back k e (omega arith)
outside (x ∷ prefix) into into' back zero e h = refl
outside (x ∷ prefix) into into' back (suc k) e (inl h) = outside prefix into into' back k e (inl (omega arith))
outside (x ∷ prefix) into into' back (suc k) e (inr h) = outside prefix into into' back k e (inr (omega arith))

pub entry-row : (w : ℕ) (xs : List ℤ) (j k : ℕ) → k < w → entry (row_at w xs j) k ≡ entry xs (j * w + k)
entry-row w xs j k h = get_or-take w (drop (j * w) xs) k (pos 0) h ∙ get_or-drop (j * w) xs k (pos 0)

pub length-row : (w : ℕ) (xs ys : List ℤ) (j : ℕ) → length xs ≡ length ys → length (row_at w xs j) ≡ length (row_at w ys j)
length-row w xs ys j e = omega (arith, length-take w (drop (j * w) xs), length-take w (drop (j * w) ys), length-drop (j * w) xs, length-drop (j * w) ys)

apart : (w i j k : ℕ) → j ≢ i → k < w → (j * w + k < i * w) ⊎ (i * w + w ≤ j * w + k)
apart w i j k ne h = elim (lt_or j i) [
  | inl lt ↦ inl (omega (arith, suc-mul j w, mul-le-mul_right w (let le : suc j ≤ i = omega arith in le)))
  | inr le ↦ inr (omega (arith, suc-mul i w, mul-le-mul_right w (let more : suc i ≤ j = omega arith in more)))
]

-- the other rows stay
pub row_other : (w i j : ℕ) (prefix into into' back : List ℤ) → j ≢ i → length prefix ≡ i * w → length into ≡ w → length into' ≡ w
    → row_at w (prefix ++ (into' ++ back)) j ≡ row_at w (prefix ++ (into ++ back)) j
row_other w i j prefix into into' back ne e f g =
    let same : length (prefix ++ (into' ++ back)) ≡ length (prefix ++ (into ++ back)) =
    omega (arith, length-append prefix (into' ++ back), length-append prefix (into ++ back), length-append into' back, length-append into back) in
    same_rows (row_at w (prefix ++ (into' ++ back)) j) (row_at w (prefix ++ (into ++ back)) j) (length-row w (prefix ++ (into' ++ back)) (prefix ++ (into ++ back)) j same)
    (λ k lt.
    let k_lt : k < w = omega (arith, length-take w (drop (j * w) (prefix ++ (into' ++ back)))) in
    let where_it_is : (j * w + k < length prefix) ⊎ (length prefix + length into' ≤ j * w + k) = elim (apart w i j k ne k_lt) [
      | inl h ↦ inl (omega arith)
      | inr h ↦ inr (omega arith)
    ] in
    entry-row w (prefix ++ (into' ++ back)) j k k_lt ∙ outside prefix into' into back (j * w + k) (omega arith) where_it_is
    ∙ sym (entry-row w (prefix ++ (into ++ back)) j k k_lt))
