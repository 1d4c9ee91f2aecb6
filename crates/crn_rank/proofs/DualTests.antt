-- The columns that a basis names pass the tests of duals.
use Rattle.crn_rank.proofs.Prelude.{◌≡◌, ℕ, suc, ◌+◌, ◌<◌, inl, inr, List, [], ◌∷◌, length, get_or, take, refl, sym, ap, subst, ◌∙◌, arith, ℤ, pos, unsigned_abs, AllZip, AllByRecursion, get_or-take, length-take-le, length-map, WIDE_ENTRY, Mat, entry, dot, IsIn, AreDistinct, chosen, dot-comm, zip_at, zip_long, same_place, at_in, chosen_at, as_column, column_some, AllHold, AreFree, IsDual, dual_tests, narrow_all, IsDualOf}

-- the product of a dual with a row
product : (a : Mat) (basis : List ℕ) (k q : ℕ) (dual : List ℤ) → IsIn (a.cols + k) basis → (d : IsDualOf a basis k dual) → q < length a.rows → dot dual (get_or a.rows q []) ≡ entry d.v (a.cols + q)
product a basis k q dual i d lt =
    let col = as_column a basis (a.cols + k) d.v i d.named in
    ap (λ (x : List ℤ). dot x (get_or a.rows q [])) d.is ∙ dot-comm (take a.cols d.v) (get_or a.rows q []) ∙ sym (col.space.is q lt)

-- the rows at these places have coordinates in the basis
abbrev pub AreInside : Mat → List ℕ → List ℕ → Type 0
AreInside a basis places = (p : ℕ) → IsIn p places → (p < length a.rows) × IsIn (a.cols + p) basis

is_dual : (a : Mat) (basis places : List ℕ) (duals : List (List ℤ)) → AreInside a basis places → AreDistinct places → AllZip (IsDualOf a basis) places duals → (i : ℕ) → i < length duals
    → IsDual (chosen places a.rows) i (get_or duals i [])
is_dual a basis places duals inside distinct h i lt =
    let vs = chosen places a.rows in
    let many : length vs ≡ length places = length-map places (λ k. get_or a.rows k []) in
    let here : i < length places = omega (arith, lt, zip_long (IsDualOf a basis) places duals h) in
    let p = get_or places i 0 in
    let p_in = inside p (at_in places i 0 here) in
    let d : IsDualOf a basis p (get_or duals i []) = zip_at (IsDualOf a basis) 0 [] places duals h i here in
    let col = as_column a basis (a.cols + p) d.v p_in.1 d.named in
    record {
      own = λ e. column_some a basis (a.cols + p) d.v p_in.1 d.named (sym (product a basis p p (get_or duals i []) p_in.1 d p_in.0) ∙ ap (dot (get_or duals i [])) (sym (chosen_at places a.rows i here)) ∙ e);
      others = λ j j_lt ne.
          let there : j < length places = omega (arith, j_lt, many) in
          let q = get_or places j 0 in
          let q_in = inside q (at_in places j 0 there) in
          ap (dot (get_or duals i [])) (chosen_at places a.rows j there) ∙ product a basis p q (get_or duals i []) p_in.1 d q_in.0
          ∙ col.zero_on_rest (a.cols + q) q_in.1 (λ e. ne (same_place places i j 0 distinct here there (let f : p ≡ q = omega (arith, e) in f)));
    }

tests_by : (vs : List (List ℤ)) (part i : ℕ) (duals : List (List ℤ)) → ((k : ℕ) → k < length duals → IsDual vs (i + k) (get_or duals k [])) → AllHold (dual_tests vs part i duals)
tests_by vs part i [] h = tt
tests_by vs part i (d ∷ duals) h = (
  subst (λ (n : ℕ). IsDual vs n d) (let e : i + 0 ≡ i = omega arith in e) (h 0 (omega arith)),
  tests_by vs (suc part) (suc i) duals (λ k lt. subst (λ (n : ℕ). IsDual vs n (get_or duals k [])) (let e : i + suc k ≡ suc i + k = omega arith in e) (h (suc k) (omega (arith, lt)))),
)

pub duals_hold : (a : Mat) (basis places : List ℕ) (duals : List (List ℤ)) (part : ℕ) → AreInside a basis places → AreDistinct places → AllZip (IsDualOf a basis) places duals
    → AllHold (dual_tests (chosen places a.rows) part 0 duals)
duals_hold a basis places duals part inside distinct h =
    tests_by (chosen places a.rows) part 0 duals (λ k lt. subst (λ (n : ℕ). IsDual (chosen places a.rows) n (get_or duals k [])) (let e : k ≡ 0 + k = omega arith in e) (is_dual a basis places duals inside distinct h k lt))

-- ---- form

dual_free : (a : Mat) (basis : List ℕ) (k : ℕ) (dual : List ℤ) → IsDualOf a basis k dual → IsIn (a.cols + k) basis → AreFree a.cols dual
dual_free a basis k dual d i =
    let col = as_column a basis (a.cols + k) d.v i d.named in
    let long : length (take a.cols d.v) ≡ a.cols = length-take-le a.cols d.v (omega (arith, col.space.long)) in
    subst (AreFree a.cols) (sym d.is) (record {
      long = long;
      each = narrow_all (take a.cols d.v) (λ j lt. subst (λ (x : ℤ). unsigned_abs x < WIDE_ENTRY) (sym (get_or-take a.cols d.v j (pos 0) (omega (arith, lt, long)))) (d.small j));
    })

pub duals_free : (a : Mat) (basis places : List ℕ) (duals : List (List ℤ)) → AreInside a basis places → AllZip (IsDualOf a basis) places duals → AllByRecursion (AreFree a.cols) duals
duals_free a basis [] [] inside h = tt
duals_free a basis [] (d ∷ duals) inside h = absurd h
duals_free a basis (p ∷ places) [] inside h = absurd h
duals_free a basis (p ∷ places) (d ∷ duals) inside h = (dual_free a basis p d h.0 (inside p (inl refl)).1, duals_free a basis places duals (λ q i. inside q (inr i)) h.1)
