-- The rows that a basis names pass the tests of combinations, if the rows have entered it.
use Rattle.crn_rank.proofs.Prelude.{◌≡◌, ◌≢◌, ℕ, zero, suc, ◌+◌, ◌<◌, ◌≤◌, inl, inr, Bool, true, false, cond, not, List, [], ◌∷◌, length, get_or, map, take, drop, refl, sym, ap, ap₂, subst, ◌∙◌, arith, ℤ, pos, ◌+ℤ◌, ◌*ℤ◌, ◌≤ℤ◌, neg_ℤ, unsigned_abs, nat_lt, AllZip, AllByRecursion, ints, cases_Bool, nat_tests, get_or-drop, length-drop, length-map, map-append, take_all, Mat, entry, dot, column, IsIn, IsNamed, chosen, Net, eq_or, lt_or, dot_zero, dot_step, mul-neg, entry-column, length-column, all_map, dot-last, column-chosen, column_past, row_count, AllHold, IsNarrow, AreFree, vector_of, IsComb, comb_tests, NamesRows, AreEntered, as_row, picked, is_inside, rows_inside, comb_numbers, IsCombOf}
use lib.IntN.{*ℤ_comm, *ℤ-zero, zero-*ℤ}
use Rattle.crn_rank.proofs.PickedRows.{at, picked_yes, picked_no, inside_out}

-- ---- a number and its negative

-- the number, or its negative
abbrev kept_or_negative : Bool → ℤ → ℤ
kept_or_negative true x = x
kept_or_negative false x = neg_ℤ x

kept_product : (b : Bool) (x y : ℤ) → kept_or_negative b x *ℤ y ≡ kept_or_negative b (x *ℤ y)
kept_product true x y = refl
kept_product false x y = *ℤ_comm (neg_ℤ x) y ∙ mul-neg y x ∙ ap neg_ℤ (*ℤ_comm y x)

kept_other : (b : Bool) (x y : ℤ) → x +ℤ y ≡ pos 0 → kept_or_negative b y ≡ kept_or_negative (not b) x
kept_other true x y e = omega (arith, ints, e)
kept_other false x y e = omega (arith, ints, e)

kept_size : (b : Bool) (x : ℤ) → unsigned_abs (kept_or_negative b x) ≡ unsigned_abs x
kept_size true x = refl
kept_size false x = omega (arith, ints)

kept_sum : (b : Bool) (f g : ℕ → ℤ) (ps : List ℕ) → dot (map (λ p. kept_or_negative b (f p)) ps) (map g ps) ≡ kept_or_negative b (dot (map f ps) (map g ps))
kept_sum true f g ps = refl
kept_sum false f g [] = refl
kept_sum false f g (p ∷ ps) = omega (arith, ints, kept_product false (f p) (g p), kept_sum false f g ps)

-- ---- a sum of products over the places where the first list is not zero

-- x if k is before `end`, else 0
abbrev from_one : ℕ → ℕ → ℤ → ℤ
from_one k end x = cond (nat_lt k end) x (pos 0)

before : (k end : ℕ) (x : ℤ) → k < end → from_one k end x ≡ x
before k end x lt = let e : nat_lt k end ≡ true = grind (arith, nat_tests) in ap (λ (b : Bool). cond b x (pos 0)) e

not_before : (k end : ℕ) (x : ℤ) → end ≤ k → from_one k end x ≡ pos 0
not_before k end x le = let e : nat_lt k end ≡ false = grind (arith, nat_tests) in ap (λ (b : Bool). cond b x (pos 0)) e

same_from : (k m : ℕ) (x : ℤ) → m ≢ k → from_one k (m + 1) x ≡ from_one k m x
same_from k m x ne = elim (lt_or k m) as (λ _. from_one k (m + 1) x ≡ from_one k m x) [
  | inl lt ↦ before k (m + 1) x (omega (arith, lt)) ∙ sym (before k m x lt)
  | inr le ↦ not_before k (m + 1) x (omega (arith, le, ne)) ∙ sym (not_before k m x le)
]

-- the products at the places that pass the test, at place k, and no others
pub sum_split : (p : ℕ → Bool) (u col : List ℤ) (k m : ℕ) → m ≤ length u → m ≤ length col → p k ≡ false → ((q : ℕ) → q < length u → p q ≡ false → q ≢ k → entry u q ≡ pos 0)
    → dot (take m u) (take m col) ≡ dot (map (entry u) (picked p m)) (map (entry col) (picked p m)) +ℤ from_one k m (entry u k *ℤ entry col k)
sum_split p u col k zero lu lc miss none = omega (arith, ints, not_before k 0 (entry u k *ℤ entry col k) (omega arith))
sum_split p u col k (suc m) lu lc miss none =
    let x = entry u k *ℤ entry col k in
    let ps = picked p m in
    let S = dot (map (entry u) ps) (map (entry col) ps) in
    let G : ℕ → Type 0 = λ n. dot (take n u) (take n col) ≡ dot (map (entry u) (picked p n)) (map (entry col) (picked p n)) +ℤ from_one k n x in
    let step : dot (take (m + 1) u) (take (m + 1) col) ≡ dot (take m u) (take m col) +ℤ (entry u m *ℤ entry col m) = dot_step u col m (omega (arith, lu)) (omega (arith, lc)) in
    let rest : dot (take m u) (take m col) ≡ S +ℤ from_one k m x = sum_split p u col k m (omega (arith, lu)) (omega (arith, lc)) miss none in
    subst G (let e : m + 1 ≡ suc m = omega arith in e) (elim (cases_Bool (p m)) as (λ _. G (m + 1)) [
      | inl hit ↦
          let ne : m ≢ k = λ e. (let both : true ≡ false = sym hit ∙ ap p e ∙ miss in cc) in
          let more : dot (map (entry u) (picked p (m + 1))) (map (entry col) (picked p (m + 1))) ≡ S +ℤ (entry u m *ℤ entry col m) =
          ap (λ (l : List ℕ). dot (map (entry u) l) (map (entry col) l)) (picked_yes p m hit) ∙ ap₂ dot (map-append (entry u) ps (m ∷ [])) (map-append (entry col) ps (m ∷ []))
          ∙ dot-last (map (entry u) ps) (map (entry col) ps) (entry u m) (entry col m) (length-map ps (entry u) ∙ sym (length-map ps (entry col))) in
          omega (arith, ints, step, rest, more, same_from k m x ne)
      | inr pass ↦
          let more : dot (map (entry u) (picked p (m + 1))) (map (entry col) (picked p (m + 1))) ≡ S = ap (λ (l : List ℕ). dot (map (entry u) l) (map (entry col) l)) (picked_no p m pass) in
          elim (eq_or m k) as (λ _. G (m + 1)) [
            | inl e ↦
                let here : entry u m *ℤ entry col m ≡ x = ap (λ (j : ℕ). entry u j *ℤ entry col j) e in
                omega (arith, ints, step, rest, more, here, before k (m + 1) x (omega (arith, e)), not_before k m x (omega (arith, e)))
            | inr ne ↦
                let here : entry u m *ℤ entry col m ≡ pos 0 = ap (λ (z : ℤ). z *ℤ entry col m) (none m (omega (arith, lu)) pass ne) ∙ zero-*ℤ (entry col m) in
                omega (arith, ints, step, rest, more, here, same_from k m x ne)
          ]
    ])

-- ---- columns

-- ---- a row

pub is_comb : (a : Mat) (basis : List ℕ) (k : ℕ) (comb : List ℤ) → NamesRows a basis → AreEntered a basis a.cols → k < length a.rows → is_inside a basis k ≡ false
    → IsCombOf a basis (length a.rows) k comb → IsComb (chosen (rows_inside a basis (length a.rows)) a.rows) (get_or a.rows k []) comb
is_comb a basis k comb t entered lt miss c =
    let n = a.cols in
    let m = length a.rows in
    let e = n + k in
    let out = inside_out a basis k miss in
    let w = c.w in
    let named = as_row a basis e w out c.named in
    let places = rows_inside a basis m in
    let vs = chosen places a.rows in
    let u = drop n w in
    let at_u : (q : ℕ) → entry u q ≡ entry w (n + q) = λ q. get_or-drop n w q (pos 0) in
    let u_long : length u ≡ m = omega (arith, length-drop n w, named.space.long) in
    let b = true in
    let none : (q : ℕ) → q < length u → is_inside a basis q ≡ false → q ≢ k → entry u q ≡ pos 0 = λ q q_lt q_out ne.
    at_u q ∙ named.zero_outside (n + q) (inside_out a basis q q_out) (λ f. ne (omega (arith, f))) in
    subst (IsComb vs (get_or a.rows k [])) (sym c.is) (record {
      positive = c.positive;
      is = λ i.
          let col = column a.rows i in
          let c_long : length col ≡ m = length-column a.rows i in
          let zero_sum : dot u col ≡ pos 0 = elim (lt_or i n) as (λ _. dot u col ≡ pos 0) [
            | inl low ↦
                let minus : neg_ℤ (dot u col) ≡ pos 0 = sym (named.space.is i low) ∙ entered e (omega arith) (omega (arith, lt)) out w named i low in
                omega (arith, ints, minus)
            | inr high ↦ dot_zero u col (λ j. ap (λ (x : ℤ). entry u j *ℤ x) (column_past a.rows n i (λ q q_lt. row_count n a.rows q t.wide q_lt) high j) ∙ *ℤ-zero (entry u j))
          ] in
          let whole : dot (take m u) (take m col) ≡ dot u col = ap₂ dot (take_all m u (omega (arith, u_long))) (take_all m col (omega (arith, c_long))) in
          let S = dot (map (entry u) places) (map (entry col) places) in
          let split : dot (take m u) (take m col) ≡ S +ℤ from_one k m (entry u k *ℤ entry col k) = sum_split (is_inside a basis) u col k m (omega (arith, u_long)) (omega (arith, c_long)) miss none in
          let sum : S +ℤ (entry u k *ℤ entry col k) ≡ pos 0 = omega (arith, ints, split, whole, zero_sum, before k m (entry u k *ℤ entry col k) lt) in
          let left : kept_or_negative b (entry w e) *ℤ entry (get_or a.rows k []) i ≡ kept_or_negative b (entry u k *ℤ entry col k) =
          ap₂ (λ (x y : ℤ). kept_or_negative b x *ℤ y) (sym (at_u k)) (sym (entry-column a.rows i k)) ∙ kept_product b (entry u k) (entry col k) in
          let right : dot (map (λ q. kept_or_negative (not b) (entry w (n + q))) places) (column vs i) ≡ kept_or_negative (not b) S =
          ap₂ dot (same_map (λ q. kept_or_negative (not b) (entry w (n + q))) (λ q. kept_or_negative (not b) (entry u q)) places (λ q. ap (kept_or_negative (not b)) (sym (at_u q)))) (column-chosen places a.rows i)
          ∙ kept_sum (not b) (entry u) (entry col) places in
          left ∙ kept_other b S (entry u k *ℤ entry col k) sum ∙ sym right;
    })
  where
    same_map : (f g : ℕ → ℤ) (ps : List ℕ) → ((q : ℕ) → f q ≡ g q) → map f ps ≡ map g ps
    same_map f g [] h = refl
    same_map f g (p ∷ ps) h = ap₂ (λ (x : ℤ) (t : List ℤ). x ∷ t) (h p) (same_map f g ps h)

-- the numbers that the code puts for a row are those of a combination
pub comb_by : (a : Mat) (basis : List ℕ) (k own count : ℕ) (places : List ℕ) (comb : List ℤ) → NamesRows a basis → count ≡ length a.rows → k < count → ¬ IsIn (a.cols + k) basis → own ≡ a.cols + k
    → places ≡ rows_inside a basis count → ((w : List ℤ) → IsNamed a basis own w → pos 1 ≤ℤ entry w own → comb ≡ comb_numbers a own w places) → IsCombOf a basis count k comb
comb_by a basis k own count places comb t rows lt out is inside e =
    let h = t.rows (a.cols + k) (omega (arith, rows, lt)) out in
    let E : ℕ → List ℕ → Type 0 = λ f ps. (w : List ℤ) → IsNamed a basis f w → pos 1 ≤ℤ entry w f → comb ≡ comb_numbers a f w ps in
    let here : E (a.cols + k) (rows_inside a basis count) = subst (E (a.cols + k)) inside (subst (λ (f : ℕ). E f places) is e) in
    record {
      w = h.w;
      named = h.named;
      small = h.small;
      positive = h.positive;
      is = here h.w h.named h.positive;
    }

-- ---- form

comb_free : (a : Mat) (basis : List ℕ) (end k : ℕ) (comb : List ℤ) → IsCombOf a basis end k comb → AreFree (suc (length (rows_inside a basis end))) comb
comb_free a basis end k comb c =
    let places = rows_inside a basis end in
    let narrow : (b : Bool) (q : ℕ) → IsNarrow (kept_or_negative b (entry c.w q)) = λ b q. (let s = c.small q in omega (arith, s, kept_size b (entry c.w q))) in
    let f : ℕ → ℤ = λ q. neg_ℤ (entry c.w (a.cols + q)) in
    subst (AreFree (suc (length places))) (sym c.is) (record {
      long = ap suc (length-map places f);
      each = (narrow true (a.cols + k), all_map IsNarrow f places (λ q i. narrow false (a.cols + q)));
    })

pub combs_free : (a : Mat) (basis : List ℕ) (end : ℕ) (places : List ℕ) (combs : List (List ℤ)) → AllZip (IsCombOf a basis end) places combs → AllByRecursion (AreFree (suc (length (rows_inside a basis end)))) combs
combs_free a basis end [] [] h = tt
combs_free a basis end [] (c ∷ combs) h = absurd h
combs_free a basis end (p ∷ places) [] h = absurd h
combs_free a basis end (p ∷ places) (c ∷ combs) h = (comb_free a basis end p c h.0, combs_free a basis end places combs h.1)

-- ---- tests

pub combs_hold : (net : Net) (vs : List (List ℤ)) (members : List ℕ) (part : ℕ) (places : List ℕ) (combs : List (List ℤ)) → AllZip (λ k comb. IsComb vs (vector_of net (at members k)) comb) places combs
    → AllHold (comb_tests net vs part (map (at members) places) combs)
combs_hold net vs members part [] [] h = tt
combs_hold net vs members part [] (c ∷ combs) h = absurd h
combs_hold net vs members part (p ∷ places) [] h = absurd h
combs_hold net vs members part (p ∷ places) (c ∷ combs) h = (h.0, combs_hold net vs members (suc part) places combs h.1)

pub zip_map : (P Q : ℕ → List ℤ → Type 0) (places : List ℕ) (ls : List (List ℤ)) → ((k : ℕ) (l : List ℤ) → IsIn k places → P k l → Q k l) → AllZip P places ls → AllZip Q places ls
zip_map P Q [] [] f h = tt
zip_map P Q [] (l ∷ ls) f h = absurd h
zip_map P Q (p ∷ places) [] f h = absurd h
zip_map P Q (p ∷ places) (l ∷ ls) f h = (f p l (inl refl) h.0, zip_map P Q places ls (λ k m i. f k m (inr i)) h.1)
