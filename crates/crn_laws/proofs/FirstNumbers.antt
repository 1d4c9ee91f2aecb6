-- Values of the first numbers are numbered anew by first appearance.
use Rattle.crn_laws.proofs.Prelude.{◌≡◌, ◌≢◌, ◌⊎◌, ℕ, zero, suc, ◌<◌, inl, inr, get_or, refl, sym, ap, ◌∙◌, arith, Option, Some, range_with_len, get_or-range_with_len, below_or, eq_or, none_some, option_or, some_is}

-- the values that f has below n, by the place at which each appears first
pub record Numbered (f : ℕ → Option ℕ) (n : ℕ) : Type 0 where
  pub count : ℕ
  -- the value of a number, and the number of a value
  pub at : ℕ → ℕ
  pub place : ℕ → ℕ
  pub below : (y v : ℕ) → y < n → f y ≡ Some v → place v < count
  pub at_place : (y v : ℕ) → y < n → f y ≡ Some v → at (place v) ≡ v
  pub seen : (k : ℕ) → k < count → (y : ℕ) × (y < n) × (f y ≡ Some (at k)) × (place (at k) ≡ k)
  pub numbered : (y v j : ℕ) → y < n → f y ≡ Some v → j < place v → (x : ℕ) × (x < y) × (f x ≡ Some (at j))

-- one of the first n has the value, or none has
seen_or : (f : ℕ → Option ℕ) (v n : ℕ) → ((y : ℕ) × (y < n) × (f y ≡ Some v)) ⊎ ((y : ℕ) → y < n → f y ≡ Some v → ⊥)
seen_or f v zero = inr (λ y lt e. absurd (omega (arith, lt)))
seen_or f v (suc n) = elim (seen_or f v n) as (λ _. ((y : ℕ) × (y < suc n) × (f y ≡ Some v)) ⊎ ((y : ℕ) → y < suc n → f y ≡ Some v → ⊥)) [
  | inl (y, lt, e) ↦ inl (y, omega (arith, lt), e)
  | inr none ↦ elim (option_or (f n)) as (λ _. ((y : ℕ) × (y < suc n) × (f y ≡ Some v)) ⊎ ((y : ℕ) → y < suc n → f y ≡ Some v → ⊥)) [
    | inl empty ↦ inr (λ y lt e. elim (below_or y n lt) as (λ _. ⊥) [ inl less ↦ none y less e | inr is ↦ none_some (f n) v empty (ap f (sym is) ∙ e) ])
    | inr (w, here) ↦ elim (eq_or w v) as (λ _. ((y : ℕ) × (y < suc n) × (f y ≡ Some v)) ⊎ ((y : ℕ) → y < suc n → f y ≡ Some v → ⊥)) [
      | inl same ↦ inl (n, omega arith, here ∙ ap Some same)
      | inr other ↦ inr (λ y lt e. elim (below_or y n lt) as (λ _. ⊥) [ inl less ↦ none y less e | inr is ↦ other (some_is w v (sym here ∙ ap f (sym is) ∙ e)) ])
    ]
  ]
]

-- x at the number k, and else as before
abbrev pub put_by : (i k : ℕ) → (i ≡ k) ⊎ (i ≢ k) → ℕ → ℕ → ℕ
put_by i k (inl e) x before = x
put_by i k (inr ne) x before = before

pub put_here : (i k : ℕ) (d : (i ≡ k) ⊎ (i ≢ k)) (x before : ℕ) → i ≡ k → put_by i k d x before ≡ x
put_here i k (inl e) x before is = refl
put_here i k (inr ne) x before is = absurd (ne is)

pub put_other : (i k : ℕ) (d : (i ≡ k) ⊎ (i ≢ k)) (x before : ℕ) → i ≢ k → put_by i k d x before ≡ before
put_other i k (inl e) x before ne = absurd (ne e)
put_other i k (inr d) x before ne = refl

-- a value that is known, or none, changes nothing
numbered_still : (f : ℕ → Option ℕ) (n : ℕ) (b : Numbered f n) → ((v : ℕ) → f n ≡ Some v → (y : ℕ) × (y < n) × (f y ≡ Some v)) → Numbered f (suc n)
numbered_still f n b known =
    let count = b.count in
    let at = b.at in
    let place = b.place in
    record {
      count = count;
      at = at;
      place = place;
      below = λ y v lt e. elim (below_or y n lt) as (λ _. place v < count) [
        | inl less ↦ b.below y v less e
        | inr is ↦ let k = known v (ap f (sym is) ∙ e) in b.below k.0 v k.1 k.2
      ];
      at_place = λ y v lt e. elim (below_or y n lt) as (λ _. at (place v) ≡ v) [
        | inl less ↦ b.at_place y v less e
        | inr is ↦ let k = known v (ap f (sym is) ∙ e) in b.at_place k.0 v k.1 k.2
      ];
      seen = λ k lt. let s = b.seen k lt in let less = s.1 in (s.0, omega (arith, less), s.2, s.3);
      numbered = λ y v j lt e less. elim (below_or y n lt) as (λ _. (x : ℕ) × (x < y) × (f x ≡ Some (at j))) [
        | inl before ↦ b.numbered y v j before e less
        | inr is ↦
            let k = known v (ap f (sym is) ∙ e) in
            let x = b.numbered k.0 v j k.1 k.2 less in
            let first = k.1 in
            let second = x.1 in
            (x.0, omega (arith, first, second, is), x.2)
      ];
    }

-- a new value has the next number
numbered_new : (f : ℕ → Option ℕ) (n w : ℕ) → Numbered f n → f n ≡ Some w → ((y : ℕ) → y < n → f y ≡ Some w → ⊥) → Numbered f (suc n)
numbered_new f n w b here none =
    let count = b.count in
    let at : ℕ → ℕ = λ k. put_by k count (eq_or k count) w (b.at k) in
    let place : ℕ → ℕ = λ v. put_by v w (eq_or v w) count (b.place v) in
    let at_new : at count ≡ w = put_here count count (eq_or count count) w (b.at count) refl in
    let place_new : place w ≡ count = put_here w w (eq_or w w) count (b.place w) refl in
    let at_old : (k : ℕ) → k < count → at k ≡ b.at k = λ k lt. put_other k count (eq_or k count) w (b.at k) (λ e. omega (arith, lt, e)) in
    let place_old : (v : ℕ) → v ≢ w → place v ≡ b.place v = λ v ne. put_other v w (eq_or v w) count (b.place v) ne in
    let apart : (y v : ℕ) → y < n → f y ≡ Some v → v ≢ w = λ y v lt e is. none y lt (e ∙ ap Some is) in
    let last : (y v : ℕ) → y ≡ n → f y ≡ Some v → v ≡ w = λ y v is e. some_is v w (sym e ∙ ap f is ∙ here) in
    let known : (k : ℕ) → k < count → b.at k ≢ w = λ k lt. let s = b.seen k lt in apart s.0 (b.at k) s.1 s.2 in
    record {
      count = suc count;
      at = at;
      place = place;
      below = λ y v lt e. elim (below_or y n lt) as (λ _. place v < suc count) [
        | inl less ↦ let old = place_old v (apart y v less e) in let under = b.below y v less e in omega (arith, old, under)
        | inr is ↦ let same = ap place (last y v is e) ∙ place_new in omega (arith, same)
      ];
      at_place = λ y v lt e. elim (below_or y n lt) as (λ _. at (place v) ≡ v) [
        | inl less ↦ ap at (place_old v (apart y v less e)) ∙ at_old (b.place v) (b.below y v less e) ∙ b.at_place y v less e
        | inr is ↦ ap at (ap place (last y v is e) ∙ place_new) ∙ at_new ∙ sym (last y v is e)
      ];
      seen = λ k lt. elim (below_or k count lt) as (λ _. (y : ℕ) × (y < suc n) × (f y ≡ Some (at k)) × (place (at k) ≡ k)) [
        | inl less ↦
            let s = b.seen k less in
            let under = s.1 in
            (s.0, omega (arith, under), s.2 ∙ ap Some (sym (at_old k less)), ap place (at_old k less) ∙ place_old (b.at k) (known k less) ∙ s.3)
        | inr is ↦ (n, omega arith, here ∙ ap Some (sym (ap at is ∙ at_new)), ap place (ap at is ∙ at_new) ∙ place_new ∙ sym is)
      ];
      numbered = λ y v j lt e less. elim (below_or y n lt) as (λ _. (x : ℕ) × (x < y) × (f x ≡ Some (at j))) [
        | inl before ↦
            let old = place_old v (apart y v before e) in
            let under = b.below y v before e in
            let x = b.numbered y v j before e (omega (arith, old, less)) in
            (x.0, x.1, x.2 ∙ ap Some (sym (at_old j (omega (arith, old, under, less)))))
        | inr is ↦
            let same = ap place (last y v is e) ∙ place_new in
            let inside : j < count = omega (arith, same, less) in
            let s = b.seen j inside in
            let under = s.1 in
            (s.0, omega (arith, under, is), s.2 ∙ ap Some (sym (at_old j inside)))
      ];
    }

pub first_numbers : (f : ℕ → Option ℕ) (n : ℕ) → Numbered f n
first_numbers f zero = record {
  count = 0;
  at = λ k. 0;
  place = λ v. 0;
  below = λ y v lt e. absurd (omega (arith, lt));
  at_place = λ y v lt e. absurd (omega (arith, lt));
  seen = λ k lt. absurd (omega (arith, lt));
  numbered = λ y v j lt e less. absurd (omega (arith, lt));
}
first_numbers f (suc n) =
    let b = first_numbers f n in
    elim (option_or (f n)) as (λ _. Numbered f (suc n)) [
      | inl empty ↦ numbered_still f n b (λ v e. absurd (none_some (f n) v empty e))
      | inr (w, here) ↦ elim (seen_or f w n) as (λ _. Numbered f (suc n)) [
        | inl (y, lt, e) ↦ numbered_still f n b (λ v is. (y, lt, e ∙ sym here ∙ is))
        | inr none ↦ numbered_new f n w b here none
      ]
    ]

-- the number at a place of the first numbers
pub place_in : (n k : ℕ) → k < n → get_or (range_with_len 0 n) k 0 ≡ k
place_in n k lt = omega (arith, get_or-range_with_len 0 n k 0 lt)
