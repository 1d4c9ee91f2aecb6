-- Numbers of certificates, the vectors of a base, and the tests of duals, one after another.
use Rattle.crn_check.proofs.Prelude.{◌≡◌, ◌≢◌, inl, inr, ℕ, zero, suc, ◌+◌, ◌-◌, ◌<◌, List, [], ◌∷◌, length, get_or, drop, Result, Ok, Err, refl, sym, ap, subst, ◌∙◌, arith, ℤ, pos, dot, Net, IsFrom, all_at, lt_or, IsBase, drop_more, IsDual, dual_tests, vector_of, vectors_of, test, NotIndependent, CheckFault, Judges}
use Rattle.crn_check.proofs.Widths.{vector_width}
use Rattle.crn_check.proofs.Judging.{judges_pass}

-- the vector of a member of the base
pub vector_at : (net : Net) (base : List ℕ) (j : ℕ) → j < length base → get_or (vectors_of net base) j [] ≡ vector_of net (get_or base j 0)
vector_at net [] j lt = absurd (omega arith)
vector_at net (b ∷ base) zero lt = refl
vector_at net (b ∷ base) (suc j) lt = vector_at net base j (omega (arith, lt))

pub length_vectors : (net : Net) (base : List ℕ) → length (vectors_of net base) ≡ length base
length_vectors net [] = refl
length_vectors net (b ∷ base) = omega (arith, length_vectors net base)

-- ---- duals in order

-- if the duals from i on are judged so, all are
pub record AreDuals (vs : List (List ℤ)) (first : ℕ) (duals : List (List ℤ)) (i : ℕ) : Type 0 where
  pub judged : (said : Result Unit CheckFault) → Judges (dual_tests vs (first + i) i (drop i duals)) said → Judges (dual_tests vs first 0 duals) said

pub duals_none : (vs : List (List ℤ)) (first : ℕ) (duals : List (List ℤ)) → AreDuals vs first duals 0
duals_none vs first duals = record { judged = λ said h. subst (λ (n : ℕ). Judges (dual_tests vs n 0 duals) said) (let e : first + 0 ≡ first = omega arith in e) h }

-- the tests from dual i on
dual_here : (vs : List (List ℤ)) (first : ℕ) (duals : List (List ℤ)) (i : ℕ) → AreDuals vs first duals i → i < length duals → (said : Result Unit CheckFault) → Judges (dual_tests vs (first + i) i (get_or duals i [] ∷ drop (i + 1) duals)) said → Judges (dual_tests vs first 0 duals) said
dual_here vs first duals i h lt said j = h.judged said (subst (λ (ds : List (List ℤ)). Judges (dual_tests vs (first + i) i ds) said) (sym (drop_more duals i [] lt)) j)

pub duals_next : (vs : List (List ℤ)) (first : ℕ) (duals : List (List ℤ)) (i : ℕ) → AreDuals vs first duals i → i < length duals → IsDual vs i (get_or duals i []) → AreDuals vs first duals (i + 1)
duals_next vs first duals i h lt holds = record {
  judged = λ said j. dual_here vs first duals i h lt said (judges_pass (test (first + i) NotIndependent (IsDual vs i (get_or duals i []))) (dual_tests vs (suc (first + i)) (suc i) (drop (i + 1) duals)) said holds (go said j));
}
  where
    go : (said : Result Unit CheckFault) → Judges (dual_tests vs (first + (i + 1)) (i + 1) (drop (i + 1) duals)) said → Judges (dual_tests vs (suc (first + i)) (suc i) (drop (i + 1) duals)) said
    go said j =
        let e : first + (i + 1) ≡ suc (first + i) = omega arith in
        let f : i + 1 ≡ suc i = omega arith in
        subst (λ (n : ℕ). Judges (dual_tests vs n (suc i) (drop (i + 1) duals)) said) e (subst (λ (k : ℕ). Judges (dual_tests vs (first + (i + 1)) k (drop (i + 1) duals)) said) f j)

pub dual_fails : (vs : List (List ℤ)) (first : ℕ) (duals : List (List ℤ)) (i part : ℕ) → AreDuals vs first duals i → i < length duals → (IsDual vs i (get_or duals i []) → ⊥) → part ≡ first + i → Judges (dual_tests vs first 0 duals) (Err (record { code = 33; part = part }))
dual_fails vs first duals i part h lt fails is = dual_here vs first duals i h lt (Err (record { code = 33; part = part })) (inl (fails, sym is, refl))

pub duals_all : (vs : List (List ℤ)) (first : ℕ) (duals : List (List ℤ)) → AreDuals vs first duals (length duals) → Judges (dual_tests vs first 0 duals) (Ok tt)
duals_all vs first duals h = h.judged (Ok tt) (subst (λ (ds : List (List ℤ)). Judges (dual_tests vs (first + length duals) (length duals) ds) (Ok tt)) (sym (drop_all duals)) tt)
  where
    drop_all : (ds : List (List ℤ)) → drop (length ds) ds ≡ []
    drop_all [] = refl
    drop_all (d ∷ ds) = drop_all ds

-- the product with a member of the base
pub product_at : (net : Net) (base : List ℕ) (dual vector : List ℤ) (product : ℤ) (j : ℕ) → j < length base → vector ≡ vector_of net (get_or base j 0) → product ≡ dot dual vector → dot dual (get_or (vectors_of net base) j []) ≡ product
product_at net base dual vector product j lt is value = ap (dot dual) (vector_at net base j lt ∙ sym is) ∙ sym value

-- the vectors of a base have an entry for each species
pub widths_of_base : (net : Net) (base : List ℕ) → IsBase net base → (j : ℕ) → j < length (vectors_of net base) → length (get_or (vectors_of net base) j []) ≡ length net.names
widths_of_base net base h j lt =
    let less : j < length base = omega (arith, lt, length_vectors net base) in
    let b : IsFrom 1 (length net.reactions) (get_or base j 0) = all_at (IsFrom 1 (length net.reactions)) base j 0 h.members less in
    ap (λ (v : List ℤ). length v) (vector_at net base j less) ∙ vector_width net h.network (get_or base j 0 - 1) (omega (arith, b.0, b.1))

-- the products so far are as they have to be, with one more
pub own_next : (vs : List (List ℤ)) (i j : ℕ) (dual : List ℤ) (product : ℤ) → dot dual (get_or vs j []) ≡ product → (i < j → dot dual (get_or vs i []) ≢ pos 0) → (i ≡ j → product ≢ pos 0) → i < j + 1 → dot dual (get_or vs i []) ≢ pos 0
own_next vs i j dual product is before here lt = elim (lt_or i j) [
  | inl early ↦ before early
  | inr late ↦ let e : i ≡ j = omega arith in λ z. here e (sym is ∙ ap (λ (k : ℕ). dot dual (get_or vs k [])) (sym e) ∙ z)
]

pub others_next : (vs : List (List ℤ)) (i j : ℕ) (dual : List ℤ) (product : ℤ) → dot dual (get_or vs j []) ≡ product → ((k : ℕ) → k < j → i ≢ k → dot dual (get_or vs k []) ≡ pos 0) → (i ≢ j → product ≡ pos 0) → (k : ℕ) → k < j + 1 → i ≢ k → dot dual (get_or vs k []) ≡ pos 0
others_next vs i j dual product is before here k lt ne = elim (lt_or k j) [
  | inl early ↦ before k early ne
  | inr late ↦ let e : k ≡ j = omega arith in ap (λ (m : ℕ). dot dual (get_or vs m [])) e ∙ is ∙ here (λ same. ne (same ∙ sym e))
]
