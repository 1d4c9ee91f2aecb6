-- Each network has right labels of its linkage classes.
use Rattle.crn_laws.proofs.Prelude.{◌≡◌, ◌≢◌, ℕ, zero, suc, ◌<◌, ◌≤◌, inl, inr, List, [], ◌∷◌, length, get_or, map, refl, sym, ap, ◌∙◌, arith, Option, Some, range_with_len, get_or-map, length-map, length-range_with_len, Net, IsLinked, SameClass, IsLabelCount, IsLabelled, along_map, class_back, class_link, class_then, eq_or, leads_keeps, some_is}
use Rattle.crn_laws.proofs.FirstNumbers.{Numbered, first_numbers, place_in, put_by, put_here, put_other}

-- ---- a number for each complex, which those of its linkage class share

pub record Classes (rs : List (ℕ × ℕ)) : Type 0 where
  pub of : ℕ → ℕ
  pub same : (y z : ℕ) → of y ≡ of z → SameClass rs y z
  pub together : (y z : ℕ) → SameClass rs y z → of y ≡ of z

-- a number that each link keeps is that of the class
kept : (rs : List (ℕ × ℕ)) (f : ℕ → ℕ) → ((y z : ℕ) → IsLinked rs y z → f y ≡ f z) → (y z : ℕ) → SameClass rs y z → f y ≡ f z
kept rs f even y z walk = leads_keeps (IsLinked rs) (λ w. f y ≡ f w) (λ v w link e. e ∙ even v w link) y z walk refl

more : (r : ℕ × ℕ) (rs : List (ℕ × ℕ)) (y z : ℕ) → SameClass rs y z → SameClass (r ∷ rs) y z
more r rs y z walk = (walk.0, along_map (IsLinked rs) (IsLinked (r ∷ rs)) (λ v w link. elim link as (λ _. IsLinked (r ∷ rs) v w) [ inl i ↦ inl (inr i) | inr i ↦ inr (inr i) ]) y z walk.0 walk.1)

-- the class of the product is joined to that of the reactant
pub classes_of : (rs : List (ℕ × ℕ)) → Classes rs
classes_of [] = record {
  of = λ y. y;
  same = λ y z e. ([], e);
  together = kept [] (λ y. y) (λ y z link. elim link as (λ _. y ≡ z) [ inl i ↦ absurd i | inr i ↦ absurd i ]);
}
classes_of (r ∷ rs) =
    let c = classes_of rs in
    let from = c.of r.0 in
    let into = c.of r.1 in
    let of : ℕ → ℕ = λ y. put_by (c.of y) into (eq_or (c.of y) into) from (c.of y) in
    let joined : (y : ℕ) → c.of y ≡ into → of y ≡ from = λ y. put_here (c.of y) into (eq_or (c.of y) into) from (c.of y) in
    let still : (y : ℕ) → c.of y ≢ into → of y ≡ c.of y = λ y. put_other (c.of y) into (eq_or (c.of y) into) from (c.of y) in
    let keeps : (y z : ℕ) → c.of y ≡ c.of z → of y ≡ of z = λ y z e. ap (λ (k : ℕ). put_by k into (eq_or k into) from k) e in
    let ends : of r.0 ≡ of r.1 = elim (eq_or from into) as (λ _. of r.0 ≡ of r.1) [
      | inl e ↦ keeps r.0 r.1 e
      | inr ne ↦ still r.0 ne ∙ sym (joined r.1 refl)
    ] in
    let was : (y z : ℕ) → c.of y ≡ c.of z → SameClass (r ∷ rs) y z = λ y z e. more r rs y z (c.same y z e) in
    let across : (y z : ℕ) → c.of y ≡ into → from ≡ c.of z → SameClass (r ∷ rs) y z = λ y z ey ez.
    class_then (r ∷ rs) y r.0 z (class_then (r ∷ rs) y r.1 r.0 (was y r.1 ey) (class_link (r ∷ rs) r.1 r.0 (inr (inl refl)))) (was r.0 z ez) in
    record {
      of = of;
      same = λ y z e. elim (eq_or (c.of y) into) as (λ _. SameClass (r ∷ rs) y z) [
        | inl ey ↦ elim (eq_or (c.of z) into) as (λ _. SameClass (r ∷ rs) y z) [
          | inl ez ↦ was y z (ey ∙ sym ez)
          | inr nz ↦ across y z ey (sym (joined y ey) ∙ e ∙ still z nz)
        ]
        | inr ny ↦ elim (eq_or (c.of z) into) as (λ _. SameClass (r ∷ rs) y z) [
          | inl ez ↦ class_back (r ∷ rs) z y (across z y ez (sym (joined z ez) ∙ sym e ∙ still y ny))
          | inr nz ↦ was y z (sym (still y ny) ∙ e ∙ still z nz)
        ]
      ];
      together = kept (r ∷ rs) of (λ y z link. elim link as (λ _. of y ≡ of z) [
        | inl (inl e) ↦ ap (λ (q : ℕ × ℕ). of q.0) e ∙ ends ∙ ap (λ (q : ℕ × ℕ). of q.1) (sym e)
        | inl (inr i) ↦ keeps y z (c.together y z (class_link rs y z (inl i)))
        | inr (inl e) ↦ sym (ap (λ (q : ℕ × ℕ). of q.0) e ∙ ends ∙ ap (λ (q : ℕ × ℕ). of q.1) (sym e))
        | inr (inr i) ↦ keeps y z (c.together y z (class_link rs y z (inr i)))
      ]);
    }

-- ---- the labels, by first appearance

from_one : (P : ℕ → Type 0) → ((j : ℕ) → P (suc j)) → (k : ℕ) → 1 ≤ k → P k
from_one P h zero some = absurd (omega (arith, some))
from_one P h (suc j) some = h j

pub record Labelled (net : Net) : Type 0 where
  pub labels : List ℕ
  pub right : IsLabelled net labels
  pub count : ℕ
  pub counted : IsLabelCount labels count

pub labelled : (net : Net) → Labelled net
labelled net =
    let rs = net.reactions in
    let n = length net.complexes in
    let range = range_with_len 0 n in
    let c = classes_of rs in
    let f : ℕ → Option ℕ = λ y. Some (c.of y) in
    let b : Numbered f n = first_numbers f n in
    let number : ℕ → ℕ = λ y. suc (b.place (c.of y)) in
    let labels = map number range in
    let long : length labels ≡ n = length-map range number ∙ length-range_with_len 0 n in
    let is : (y : ℕ) → y < n → get_or labels y 0 ≡ suc (b.place (c.of y)) = λ y lt.
    get_or-map number range y 0 0 (omega (arith, lt, length-range_with_len 0 n)) ∙ ap number (place_in n y lt) in
    let below : (y : ℕ) → y < length labels → y < n = λ y lt. omega (arith, lt, long) in
    let at : (y : ℕ) → y < n → b.at (b.place (c.of y)) ≡ c.of y = λ y lt. b.at_place y (c.of y) lt refl in
    let there : (y k : ℕ) → y < n → k < b.count → f y ≡ Some (b.at k) → get_or labels y 0 ≡ suc k = λ y k lt inside e.
    is y lt ∙ ap suc (ap b.place (some_is (c.of y) (b.at k) e) ∙ (b.seen k inside).3) in
    record {
      labels = labels;
      right = record {
        long = long;
        right = record {
          same = λ y z ly lz e.
              let one : b.place (c.of y) ≡ b.place (c.of z) = omega (arith, is y (below y ly), is z (below z lz), e) in
              c.same y z (sym (at y (below y ly)) ∙ ap b.at one ∙ at z (below z lz));
          together = λ y z ly lz s. is y (below y ly) ∙ ap (λ (k : ℕ). suc (b.place k)) (c.together y z s) ∙ sym (is z (below z lz));
          positive = λ y lt. omega (arith, is y (below y lt));
          numbered = λ y k lt some. from_one (λ k. k < get_or labels y 0 → (x : ℕ) × (x < y) × (get_or labels x 0 ≡ k)) (λ j less.
              let inside = below y lt in
              let before : j < b.place (c.of y) = omega (arith, less, is y inside) in
              let under = b.below y (c.of y) inside refl in
              let x = b.numbered y (c.of y) j inside refl before in
              let first = x.1 in
              (x.0, first, there x.0 j (omega (arith, first, inside)) (omega (arith, before, under)) x.2)) k some;
        };
      };
      count = b.count;
      counted = record {
        most = λ y lt. let under = b.below y (c.of y) (below y lt) refl in omega (arith, is y (below y lt), under);
        each = λ k some. from_one (λ k. k ≤ b.count → (y : ℕ) × (y < length labels) × (get_or labels y 0 ≡ k)) (λ j most.
            let inside : j < b.count = omega (arith, most) in
            let s = b.seen j inside in
            let first = s.1 in
            (s.0, omega (arith, first, long), there s.0 j first inside s.2)) k some;
      };
    }
