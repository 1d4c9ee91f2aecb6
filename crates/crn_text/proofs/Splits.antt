-- Texts split at the first byte like this one.
use Rattle.crn_text.proofs.Prelude.{◌≡◌, ℕ, ◌+◌, false, eqb, List, [], ◌∷◌, ◌++◌, length, take, drop, Option, Some, None, Bor, refl, sym, ap, ap₂, ◌∙◌, inl, inr, arith, not, prefix_len, list_any, take_while, cases_Bool, eqb-true, eq-eqb, or_parts, length-append, append-nil, take-append-drop, lines, SplitsAt, after_split}
use Rattle.crn_text.proofs.Lists.{one_more, split_at, split_last}

-- the number of bytes before the first such byte
abbrev place_in : ℕ → List ℕ → ℕ
place_in byte text = prefix_len (λ b. not (eqb b byte)) text

nothing : {X : Type 0} (xs : List X) → length xs ≡ 0 → xs ≡ []
nothing [] e = refl
nothing (x ∷ xs) e = absurd (omega arith)

none_before : (byte : ℕ) (text : List ℕ) → list_any (λ b. eqb b byte) (take (place_in byte text) text) ≡ false
none_before byte [] = refl
none_before byte (b ∷ text) =
    elim (cases_Bool (eqb b byte)) [
      | inl hit ↦ rw hit refl
      | inr miss ↦ rw (miss, one_more, miss) (none_before byte text)
    ]

found_there : (byte : ℕ) (text : List ℕ) (b : ℕ) (rest : List ℕ) → drop (place_in byte text) text ≡ b ∷ rest → b ≡ byte
found_there byte [] b rest h = absurd cc
found_there byte (x ∷ text) b rest h =
    elim (cases_Bool (eqb x byte)) [
      | inl hit ↦ let e = rw hit at h in let is : x ≡ byte = eqb-true x byte hit in cc
      | inr miss ↦ let e = rw (miss, one_more) at h in found_there byte text b rest e
    ]

pub splits_none : (byte : ℕ) (text prefix : List ℕ) (n : ℕ) → n ≡ place_in byte text → prefix ≡ take n text → length (drop n text) ≡ 0 → SplitsAt byte text prefix None
splits_none byte text prefix n at is none = record {
  whole = sym (take-append-drop n text) ∙ ap₂ (λ (t u : List ℕ). t ++ u) (sym is) (nothing (drop n text) none);
  apart = rw (is, at) (none_before byte text);
}

pub splits_some : (byte : ℕ) (text prefix : List ℕ) (n b : ℕ) (rest : Bor (List ℕ)) → n ≡ place_in byte text → prefix ≡ take n text → drop n text ≡ b ∷ rest.now → SplitsAt byte text prefix (Some rest)
splits_some byte text prefix n b rest at is more =
    let found : b ≡ byte = found_there byte text b rest.now (rw at at more) in
    record {
      whole = sym (take-append-drop n text) ∙ ap₂ (λ (t u : List ℕ). t ++ u) (sym is) (more ∙ ap (λ (x : ℕ). x ∷ rest.now) found);
      apart = rw (is, at) (none_before byte text);
    }

pub split_size : (byte : ℕ) (text prefix : List ℕ) (after : Option (Bor (List ℕ))) → SplitsAt byte text prefix after → length prefix + length (after_split byte after) ≡ length text
split_size byte text prefix after split = sym (length-append prefix (after_split byte after)) ∙ sym (ap length split.whole)

-- ---- the part before the first such byte

prefix_of : (byte : ℕ) (prefix : List ℕ) (after : Option (Bor (List ℕ))) → list_any (λ b. eqb b byte) prefix ≡ false → take_while (λ b. not (eqb b byte)) (prefix ++ after_split byte after) ≡ prefix
prefix_of byte [] None h = refl
prefix_of byte [] (Some rest) h = rw (eq-eqb byte byte refl) refl
prefix_of byte (b ∷ prefix) after h =
    let a = or_parts (eqb b byte) (list_any (λ b. eqb b byte) prefix) h in
    rw (a.0, one_more) (ap (λ (t : List ℕ). b ∷ t) (prefix_of byte prefix after a.1))

pub split_prefix : (byte : ℕ) (text prefix : List ℕ) (after : Option (Bor (List ℕ))) → SplitsAt byte text prefix after → prefix ≡ take_while (λ b. not (eqb b byte)) text
split_prefix byte text prefix after split = sym (prefix_of byte prefix after split.apart) ∙ ap (λ (t : List ℕ). take_while (λ b. not (eqb b byte)) t) (sym split.whole)

-- ---- the lines of a text

-- the lines after a split
abbrev pub lines_after : Option (Bor (List ℕ)) → List (List ℕ)
lines_after None = []
lines_after (Some rest) = lines rest.now

pub lines_split : (text line : List ℕ) (after : Option (Bor (List ℕ))) → SplitsAt 10 text line after → lines text ≡ line ∷ lines_after after
lines_split text line None split = ap lines (split.whole ∙ append-nil line) ∙ split_last (λ b. eqb b 10) line split.apart
lines_split text line (Some rest) split = ap lines split.whole ∙ split_at (λ b. eqb b 10) line 10 rest.now split.apart refl
