-- A system of homogeneous equations has a solution that is not zero, or only zero, and then no more unknowns than equations.
use Rattle.crn_vec.proofs.Prelude.{◌≡◌, ℕ, ◌≤◌, ◌⊎◌, inl, inr, arith, List, [], ◌∷◌, ap, refl, suc, zero, length, ◌<◌, ints, dot, AreOfLength, scale, entry}
use Rattle.std.proofs.Common.{ℤ, pos, ◌+ℤ◌, ◌-ℤ◌, ◌*ℤ◌, neg_ℤ}
use lib.IntN.{*ℤ_comm, *ℤ-zero}
use Rattle.crn_vec.proofs.Ring.{no_zero, distrib, left-comm, mul-neg, is_zero, one_ne_zero}
use Rattle.crn_vec.proofs.Sums.{plus, zeros, dot-scale, dot-plus, length-scale, length-plus, length-zeros}

abbrev pub Zero : List ℤ → Type 0
Zero [] = Unit {0}
Zero (x ∷ xs) = (x ≡ pos 0) × Zero xs

abbrev pub Solves : List (List ℤ) → List ℤ → Type 0
Solves [] c = Unit {0}
Solves (r ∷ rs) c = (dot r c ≡ pos 0) × Solves rs c

pub zero_from : (x : List ℤ) → ((k : ℕ) → k < length x → entry x k ≡ pos 0) → Zero x
zero_from [] h = tt
zero_from (y ∷ x) h = (h 0 (omega arith), zero_from x (λ k lt. h (suc k) (omega (arith, lt))))

pub dot-zeros : (k : ℕ) (r : List ℤ) → dot r (zeros k) ≡ pos 0
dot-zeros zero [] = refl
dot-zeros zero (x ∷ r) = refl
dot-zeros (suc k) [] = refl
dot-zeros (suc k) (x ∷ r) = omega (arith, ints, dot-zeros k r, *ℤ-zero x)

pub zero_from_scale : (a : ℤ) (xs : List ℤ) → ¬ (a ≡ pos 0) → Zero (scale a xs) → Zero xs
zero_from_scale a [] h z = tt
zero_from_scale a (x ∷ xs) h z = (no_zero a x z.0 h, zero_from_scale a xs h z.1)

pub dot-zero : (r c : List ℤ) → Zero c → dot r c ≡ pos 0
dot-zero [] c z = refl
dot-zero (x ∷ r) [] z = refl
dot-zero (x ∷ r) (y ∷ c) z =
    let e : x *ℤ y ≡ x *ℤ pos 0 = ap (λ t. x *ℤ t) z.0 in
    omega (arith, ints, e, *ℤ-zero x, dot-zero r c z.1)

-- the row q without its first entry, after r0 times q minus q0 times r
abbrev pub reduce : ℤ → List ℤ → List ℤ → List ℤ
reduce p r [] = []
reduce p r (q ∷ qs) = plus (scale p qs) (scale (neg_ℤ q) r)

abbrev pub reduce_all : ℤ → List ℤ → List (List ℤ) → List (List ℤ)
reduce_all p r [] = []
reduce_all p r (q ∷ qs) = reduce p r q ∷ reduce_all p r qs

pub reduced : (k : ℕ) (p : ℤ) (r : List ℤ) (qs : List (List ℤ)) → length r ≡ k → AreOfLength (suc k) qs → AreOfLength k (reduce_all p r qs)
reduced k p r [] e w = tt
reduced k p r ([] ∷ qs) e w = absurd (omega (arith, w.0))
reduced k p r ((q ∷ q') ∷ qs) e w =
    let same : length (scale p q') ≡ length (scale (neg_ℤ q) r) = omega (arith, w.0, length-scale p q', length-scale (neg_ℤ q) r) in
    (omega (arith, w.0, length-plus (scale p q') (scale (neg_ℤ q) r) same, length-scale p q'), reduced k p r qs e w.1)

-- what the reduced row says of c
pub dot-reduce : (k : ℕ) (p q : ℤ) (r qs c : List ℤ) → length r ≡ length qs → dot (reduce p r (q ∷ qs)) c ≡ p *ℤ dot qs c -ℤ q *ℤ dot r c
dot-reduce k p q r qs c e =
    let same : length (scale p qs) ≡ length (scale (neg_ℤ q) r) = omega (arith, length-scale p qs, length-scale (neg_ℤ q) r) in
    omega (arith, ints, dot-plus (scale p qs) (scale (neg_ℤ q) r) c same, dot-scale p qs c, dot-scale (neg_ℤ q) r c, *ℤ_comm (neg_ℤ q) (dot r c), mul-neg (dot r c) q, *ℤ_comm (dot r c) q)

pub dot-scale-right : (a : ℤ) (xs ys : List ℤ) → dot xs (scale a ys) ≡ a *ℤ dot xs ys
dot-scale-right a [] ys = omega (arith, ints, *ℤ-zero a)
dot-scale-right a (x ∷ xs) [] = omega (arith, ints, *ℤ-zero a)
dot-scale-right a (x ∷ xs) (y ∷ ys) =
    omega (arith, ints, dot-scale-right a xs ys, distrib a (x *ℤ y) (dot xs ys), left-comm x a y)

-- a row with a nonzero first entry, taken out of the list
pub record Pivot (k : ℕ) (rows : List (List ℤ)) : Type 0 where
  pub head : ℤ
  pub tail : List ℤ
  pub rest : List (List ℤ)
  pub nonzero : ¬ (head ≡ pos 0)
  pub long : length tail ≡ k
  pub wide : AreOfLength (suc k) rest
  pub count : length rows ≡ suc (length rest)
  pub apart : (c : List ℤ) → Solves rows c → (dot (head ∷ tail) c ≡ pos 0) × Solves rest c
  pub together : (c : List ℤ) → dot (head ∷ tail) c ≡ pos 0 → Solves rest c → Solves rows c

pub find_pivot : (k : ℕ) (rows : List (List ℤ)) → AreOfLength (suc k) rows → (Solves rows (pos 1 ∷ zeros k)) ⊎ (Pivot k rows)
find_pivot k [] w = inl tt
find_pivot k ([] ∷ rows) w = absurd (omega (arith, w.0))
find_pivot k ((p ∷ r) ∷ rows) w =
    elim (is_zero p) as (λ _. (Solves ((p ∷ r) ∷ rows) (pos 1 ∷ zeros k)) ⊎ (Pivot k ((p ∷ r) ∷ rows))) [
      | inr h ↦ inr (record {
        head = p;
        tail = r;
        rest = rows;
        nonzero = h;
        long = omega (arith, w.0);
        wide = w.1;
        count = refl;
        apart = λ c s. s;
        together = λ c d s. (d, s);
      })
      | inl e ↦
          let z : dot (p ∷ r) (pos 1 ∷ zeros k) ≡ pos 0 =
          let f : p *ℤ pos 1 ≡ pos 0 *ℤ pos 1 = ap (λ t. t *ℤ pos 1) e in
          omega (arith, ints, f, dot-zeros k r) in
          elim (find_pivot k rows w.1) as (λ _. (Solves ((p ∷ r) ∷ rows) (pos 1 ∷ zeros k)) ⊎ (Pivot k ((p ∷ r) ∷ rows))) [
            | inl s ↦ inl (z, s)
            | inr v ↦ inr (record {
              head = v.head;
              tail = v.tail;
              rest = (p ∷ r) ∷ v.rest;
              nonzero = v.nonzero;
              long = v.long;
              wide = (w.0, v.wide);
              count = omega (arith, v.count);
              apart = λ c s. ((v.apart c s.1).0, (s.0, (v.apart c s.1).1));
              together = λ c d s. (s.0, v.together c d s.1);
            })
          ]
    ]

pub lift_all : (k : ℕ) (p : ℤ) (r c : List ℤ) (qs : List (List ℤ)) → length r ≡ k → AreOfLength (suc k) qs → Solves (reduce_all p r qs) c → Solves qs (neg_ℤ (dot r c) ∷ scale p c)
lift_all k p r c [] e w s = tt
lift_all k p r c ([] ∷ qs) e w s = absurd (omega (arith, w.0))
lift_all k p r c ((q ∷ q') ∷ qs) e w s =
    let same : length r ≡ length q' = omega (arith, w.0) in
    (omega (arith, ints, s.0, dot-reduce k p q r q' c same, dot-scale-right p q' c, mul-neg q (dot r c)), lift_all k p r c qs e w.1 s.1)

pub drop_all : (k : ℕ) (p : ℤ) (r : List ℤ) (a : ℤ) (c : List ℤ) (qs : List (List ℤ)) → length r ≡ k → AreOfLength (suc k) qs → dot (p ∷ r) (a ∷ c) ≡ pos 0 → Solves qs (a ∷ c) → Solves (reduce_all p r qs) c
drop_all k p r a c [] e w d s = tt
drop_all k p r a c ([] ∷ qs) e w d s = absurd (omega (arith, w.0))
drop_all k p r a c ((q ∷ q') ∷ qs) e w d s =
    let same : length r ≡ length q' = omega (arith, w.0) in
    let f : p *ℤ (q *ℤ a +ℤ dot q' c) ≡ p *ℤ pos 0 = ap (λ t. p *ℤ t) s.0 in
    let g : q *ℤ (p *ℤ a +ℤ dot r c) ≡ q *ℤ pos 0 = ap (λ t. q *ℤ t) d in (
      omega (arith, ints, dot-reduce k p q r q' c same, f, g, distrib p (q *ℤ a) (dot q' c), distrib q (p *ℤ a) (dot r c), *ℤ-zero p, *ℤ-zero q, left-comm p q a),
      drop_all k p r a c qs e w.1 d s.1,
    )

-- either a solution that isn't zero, or no more unknowns than rows and zero the only solution
pub record Free (k : ℕ) (rows : List (List ℤ)) : Type 0 where
  pub solution : List ℤ
  pub long : length solution ≡ k
  pub nonzero : ¬ (Zero solution)
  pub solves : Solves rows solution

pub record Fixed (k : ℕ) (rows : List (List ℤ)) : Type 0 where
  pub count : k ≤ length rows
  pub only : (c : List ℤ) → length c ≡ k → Solves rows c → Zero c

pub length-reduce_all : (p : ℤ) (r : List ℤ) (qs : List (List ℤ)) → length (reduce_all p r qs) ≡ length qs
length-reduce_all p r [] = refl
length-reduce_all p r (q ∷ qs) = omega (arith, length-reduce_all p r qs)

pub free_up : (k : ℕ) (rows : List (List ℤ)) (v : Pivot k rows) → Free k (reduce_all v.head v.tail v.rest) → Free (suc k) rows
free_up k rows v f = record {
  solution = neg_ℤ (dot v.tail f.solution) ∷ scale v.head f.solution;
  long = omega (arith, f.long, length-scale v.head f.solution);
  nonzero = λ z. f.nonzero (zero_from_scale v.head f.solution v.nonzero z.1);
  solves = v.together (neg_ℤ (dot v.tail f.solution) ∷ scale v.head f.solution)
      (omega (arith, ints, dot-scale-right v.head v.tail f.solution, mul-neg v.head (dot v.tail f.solution)))
      (lift_all k v.head v.tail f.solution v.rest v.long v.wide f.solves);
}

pub only_up : (k : ℕ) (rows : List (List ℤ)) (v : Pivot k rows) → Fixed k (reduce_all v.head v.tail v.rest) → (c : List ℤ) → length c ≡ suc k → Solves rows c → Zero c
only_up k rows v f [] l s = absurd (omega arith)
only_up k rows v f (a ∷ c) l s =
    let both = v.apart (a ∷ c) s in
    let z : Zero c = f.only c (omega arith) (drop_all k v.head v.tail a c v.rest v.long v.wide both.0 both.1) in
    let e : v.head *ℤ a ≡ pos 0 = omega (arith, ints, both.0, dot-zero v.tail c z) in
    (no_zero v.head a e v.nonzero, z)

pub fixed_up : (k : ℕ) (rows : List (List ℤ)) (v : Pivot k rows) → Fixed k (reduce_all v.head v.tail v.rest) → Fixed (suc k) rows
fixed_up k rows v f = record {
  count = omega (arith, f.count, v.count, length-reduce_all v.head v.tail v.rest);
  only = only_up k rows v f;
}

pub empty_zero : (c : List ℤ) → length c ≡ 0 → Zero c
empty_zero [] l = tt
empty_zero (x ∷ c) l = absurd (omega arith)

pub null : (k : ℕ) (rows : List (List ℤ)) → AreOfLength k rows → (Free k rows) ⊎ (Fixed k rows)
null zero rows w = inr (record { count = omega arith; only = λ c l s. empty_zero c l })
null (suc k) rows w = elim (find_pivot k rows w) as (λ _. (Free (suc k) rows) ⊎ (Fixed (suc k) rows)) [
  | inl s ↦ inl (record { solution = pos 1 ∷ zeros k; long = omega (arith, length-zeros k); nonzero = λ z. one_ne_zero z.0; solves = s })
  | inr v ↦ elim (null k (reduce_all v.head v.tail v.rest) (reduced k v.head v.tail v.rest v.long v.wide)) as (λ _. (Free (suc k) rows) ⊎ (Fixed (suc k) rows)) [
    | inl f ↦ inl (free_up k rows v f)
    | inr f ↦ inr (fixed_up k rows v f)
  ]
]
