-- Linked pairs that get the opposite sum one after another.
use Rattle.crn_shape.proofs.Prelude.{◌≡◌, ℕ, ◌+◌, ◌<◌, ◌≤◌, List, length, map, get_or, sym, ap, ◌∙◌, inl, inr, arith, pos, slice_set, get_or-map, get_or-set_same, get_or-set_other, length-map, ext_get_or, eq_or, opposite_linked, LinkedPair}

-- a linked pair past the end
abbrev pub no_linked : LinkedPair
no_linked = record { reaction = 0; top = 0; sum = pos 0 }

pub done_more : (old ps : List LinkedPair) (i : ℕ) (p : LinkedPair) → i < length ps → ((j : ℕ) → j < i → get_or ps j no_linked ≡ opposite_linked (get_or old j no_linked)) → p ≡ opposite_linked (get_or old i no_linked)
    → (j : ℕ) → j < i + 1 → get_or (slice_set ps i p) j no_linked ≡ opposite_linked (get_or old j no_linked)
done_more old ps i p lt h e j less = elim (eq_or j i) as (λ _. get_or (slice_set ps i p) j no_linked ≡ opposite_linked (get_or old j no_linked)) [
  | inl same ↦ ap (λ (k : ℕ). get_or (slice_set ps i p) k no_linked) same ∙ get_or-set_same ps i p no_linked lt ∙ e ∙ ap (λ (k : ℕ). opposite_linked (get_or old k no_linked)) (sym same)
  | inr other ↦ get_or-set_other ps i j p no_linked other ∙ h j (omega (arith, less, other))
]

pub rest_more : (old ps : List LinkedPair) (i : ℕ) (p : LinkedPair) → ((j : ℕ) → i ≤ j → get_or ps j no_linked ≡ get_or old j no_linked) → (j : ℕ) → i + 1 ≤ j → get_or (slice_set ps i p) j no_linked ≡ get_or old j no_linked
rest_more old ps i p h j le = get_or-set_other ps i j p no_linked (λ e. omega (arith, le, e)) ∙ h j (omega (arith, le))

pub all_opposite : (old ps : List LinkedPair) → length ps ≡ length old → ((j : ℕ) → j < length old → get_or ps j no_linked ≡ opposite_linked (get_or old j no_linked)) → ps ≡ map opposite_linked old
all_opposite old ps long h =
    ext_get_or no_linked ps (map opposite_linked old) (long ∙ sym (length-map old opposite_linked))
    (λ j lt. h j (omega (arith, lt, long)) ∙ sym (get_or-map opposite_linked old j no_linked no_linked (omega (arith, lt, long))))
