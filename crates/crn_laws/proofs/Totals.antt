-- Sums over the numbers below a bound do not depend on their order.
use Rattle.crn_laws.proofs.Prelude.{◌≡◌, ◌≢◌, ℕ, zero, suc, ◌<◌, inl, inr, List, [], ◌∷◌, length, refl, sym, ap, ◌∙◌, arith, ℤ, pos, ◌+ℤ◌, ◌*ℤ◌, ints, entry, dot, eq_or, IsMoved, Renumbering}

-- f 0 + f 1 + .. , n terms
abbrev pub total : ℕ → (ℕ → ℤ) → ℤ
total zero f = pos 0
total (suc n) f = f 0 +ℤ total n (λ k. f (suc k))

pub total_same : (n : ℕ) (f g : ℕ → ℤ) → ((k : ℕ) → k < n → f k ≡ g k) → total n f ≡ total n g
total_same zero f g h = refl
total_same (suc n) f g h = omega (arith, ints, h 0 (omega arith), total_same n (λ k. f (suc k)) (λ k. g (suc k)) (λ k lt. h (suc k) (omega (arith, lt))))

total_none : (n : ℕ) → total n (λ k. pos 0) ≡ pos 0
total_none zero = refl
total_none (suc n) = omega (arith, ints, total_none n)

total_plus : (n : ℕ) (f g : ℕ → ℤ) → total n (λ k. f k +ℤ g k) ≡ total n f +ℤ total n g
total_plus zero f g = refl
total_plus (suc n) f g = omega (arith, ints, total_plus n (λ k. f (suc k)) (λ k. g (suc k)))

total_twice : (n m : ℕ) (g : ℕ → ℕ → ℤ) → total n (λ i. total m (λ j. g i j)) ≡ total m (λ j. total n (λ i. g i j))
total_twice zero m g = sym (total_none m)
total_twice (suc n) m g = omega (arith, ints, total_twice n m (λ i j. g (suc i) j), total_plus m (λ j. g 0 j) (λ j. total n (λ i. g (suc i) j)))

-- x at place k, 0 at the others
abbrev pub pick : ℕ → ℕ → ℤ → ℤ
pick zero zero x = x
pick zero (suc j) x = pos 0
pick (suc k) zero x = pos 0
pick (suc k) (suc j) x = pick k j x

pub pick_here : (k : ℕ) (x : ℤ) → pick k k x ≡ x
pick_here zero x = refl
pick_here (suc k) x = pick_here k x

pub pick_other : (k j : ℕ) (x : ℤ) → k ≢ j → pick k j x ≡ pos 0
pick_other zero zero x ne = absurd (ne refl)
pick_other zero (suc j) x ne = refl
pick_other (suc k) zero x ne = refl
pick_other (suc k) (suc j) x ne = pick_other k j x (λ e. ne (ap suc e))

total_pick : (m k : ℕ) (x : ℤ) → k < m → total m (λ j. pick k j x) ≡ x
total_pick zero k x lt = absurd (omega (arith, lt))
total_pick (suc m) zero x lt = omega (arith, ints, total_none m)
total_pick (suc m) (suc k) x lt = omega (arith, ints, total_pick m k x (omega (arith, lt)))

pub total_renumbered : (n m : ℕ) (p : Renumbering n m) (f : ℕ → ℤ) → total m f ≡ total n (λ k. f (p.to k))
total_renumbered n m p f =
    total_same m f (λ j. total n (λ i. pick (p.back j) i (f j))) (λ j lt. sym (total_pick n (p.back j) (f j) (p.back_below j lt)))
    ∙ total_twice m n (λ j i. pick (p.back j) i (f j))
    ∙ total_same n (λ i. total m (λ j. pick (p.back j) i (f j))) (λ i. f (p.to i)) (λ i lt.
    total_same m (λ j. pick (p.back j) i (f j)) (λ j. pick (p.to i) j (f (p.to i))) (λ j inside. by_place i j lt inside)
    ∙ total_pick m (p.to i) (f (p.to i)) (p.to_below i lt))
  where
    by_place : (i j : ℕ) → i < n → j < m → pick (p.back j) i (f j) ≡ pick (p.to i) j (f (p.to i))
    by_place i j lt inside = elim (eq_or (p.to i) j) [
      | inl e ↦
          let here : p.back j ≡ i = ap p.back (sym e) ∙ p.back_to i lt in
          ap (λ (k : ℕ). pick k i (f j)) here ∙ pick_here i (f j) ∙ ap f (sym e) ∙ sym (pick_here (p.to i) (f (p.to i))) ∙ ap (λ (k : ℕ). pick (p.to i) k (f (p.to i))) e
      | inr ne ↦ pick_other (p.back j) i (f j) (λ e. ne (ap p.to (sym e) ∙ p.to_back j inside)) ∙ sym (pick_other (p.to i) j (f (p.to i)) ne)
    ]

total_ones : (n : ℕ) → total n (λ k. pos 1) ≡ pos n
total_ones zero = refl
total_ones (suc n) = omega (arith, ints, total_ones n)

-- as many numbers as before
pub same_count : (n m : ℕ) → Renumbering n m → n ≡ m
same_count n m p = let e = total_renumbered n m p (λ k. pos 1) in omega (arith, ints, e, total_ones n, total_ones m)

dot_total : (xs ys : List ℤ) → length xs ≡ length ys → dot xs ys ≡ total (length xs) (λ k. entry xs k *ℤ entry ys k)
dot_total [] ys e = refl
dot_total (x ∷ xs) [] e = absurd (omega (arith, e))
dot_total (x ∷ xs) (y ∷ ys) e = omega (arith, ints, dot_total xs ys (omega (arith, e)))

pub dot_moved : (n m : ℕ) (p : Renumbering n m) (xs ys us vs : List ℤ) → IsMoved n m p xs ys → IsMoved n m p us vs → dot ys vs ≡ dot xs us
dot_moved n m p xs ys us vs a b =
    let f : ℕ → ℤ = λ k. entry ys k *ℤ entry vs k in
    dot_total ys vs (a.long_too ∙ sym b.long_too)
    ∙ ap (λ (k : ℕ). total k f) a.long_too
    ∙ total_renumbered n m p f
    ∙ total_same n (λ k. f (p.to k)) (λ k. entry xs k *ℤ entry us k) (λ k lt. ap (λ (x : ℤ). x *ℤ entry vs (p.to k)) (a.same k lt) ∙ ap (λ (x : ℤ). entry xs k *ℤ x) (b.same k lt))
    ∙ ap (λ (k : ℕ). total k (λ k. entry xs k *ℤ entry us k)) (sym a.long)
    ∙ sym (dot_total xs us (a.long ∙ sym b.long))
