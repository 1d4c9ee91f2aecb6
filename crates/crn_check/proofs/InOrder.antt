-- The tests of rows, one for each member of a range that has a property, met one after another.
use Rattle.crn_check.proofs.Prelude.{◌≡◌, inl, Bool, true, false, ℕ, suc, ◌+◌, ◌-◌, ◌<◌, ◌≤◌, List, [], ◌∷◌, length, get_or, drop, Result, Ok, Err, refl, sym, ap, ap₂, subst, ◌∙◌, arith, ℤ, filter, range_with_len, drop_more, test, BadVector, CheckFault, Judges, ordered_tests}
use Rattle.crn_check.proofs.Judging.{judges_pass}
use Rattle.crn_check.proofs.Outside.{filter_yes, filter_no}

-- the members from place i on, which counts from 0, among n numbers from a on
abbrev pub rest : (ℕ → Bool) → ℕ → ℕ → ℕ → List ℕ
rest p a n i = filter p (range_with_len (a + i) (n - i))

pub rest_all : (p : ℕ → Bool) (a n : ℕ) → rest p a n 0 ≡ filter p (range_with_len a n)
rest_all p a n = ap₂ (λ (b k : ℕ). filter p (range_with_len b k)) (let e : a + 0 ≡ a = omega arith in e) (let e : n - 0 ≡ n = omega arith in e)

pub rest_none : (p : ℕ → Bool) (a n : ℕ) → rest p a n n ≡ []
rest_none p a n = ap (λ (k : ℕ). filter p (range_with_len (a + n) k)) (let e : n - n ≡ 0 = omega arith in e)

rest_from : (p : ℕ → Bool) (a n i m : ℕ) → i < n → m ≡ a + i → rest p a n i ≡ filter p (range_with_len m (suc (n - (i + 1))))
rest_from p a n i m lt is = ap₂ (λ (b k : ℕ). filter p (range_with_len b k)) (sym is) (let e : n - i ≡ suc (n - (i + 1)) = omega (arith, lt) in e)

rest_next : (p : ℕ → Bool) (a n i m : ℕ) → m ≡ a + i → filter p (range_with_len (m + 1) (n - (i + 1))) ≡ rest p a n (i + 1)
rest_next p a n i m is = ap (λ (b : ℕ). filter p (range_with_len b (n - (i + 1)))) (let e : m + 1 ≡ a + (i + 1) = omega (arith, is) in e)

pub rest_yes : (p : ℕ → Bool) (a n i m : ℕ) → i < n → m ≡ a + i → p m ≡ true → rest p a n i ≡ m ∷ rest p a n (i + 1)
rest_yes p a n i m lt is hit = rest_from p a n i m lt is ∙ filter_yes p m (n - (i + 1)) hit ∙ ap (λ (l : List ℕ). m ∷ l) (rest_next p a n i m is)

pub rest_no : (p : ℕ → Bool) (a n i m : ℕ) → i < n → m ≡ a + i → p m ≡ false → rest p a n i ≡ rest p a n (i + 1)
rest_no p a n i m lt is miss = rest_from p a n i m lt is ∙ filter_no p m (n - (i + 1)) miss ∙ rest_next p a n i m is

-- the rows of the members before place i pass, and there are so many
pub record AreDone (Holds : ℕ → List ℤ → Type 0) (p : ℕ → Bool) (a n first : ℕ) (rows : List (List ℤ)) (i done : ℕ) : Type 0 where
  pub few : done ≤ i
  pub count : done + length (rest p a n i) ≡ length rows
  pub judged : (said : Result Unit CheckFault) → Judges (ordered_tests Holds (first + done) (rest p a n i) (drop done rows)) said → Judges (ordered_tests Holds first (filter p (range_with_len a n)) rows) said

pub done_none : (Holds : ℕ → List ℤ → Type 0) (p : ℕ → Bool) (a n first : ℕ) (rows : List (List ℤ)) → length rows ≡ length (filter p (range_with_len a n)) → AreDone Holds p a n first rows 0 0
done_none Holds p a n first rows long = record {
  few = omega arith;
  count = let e = ap (λ (l : List ℕ). length l) (rest_all p a n) in omega (arith, e, long);
  judged = λ said h. subst (λ (l : List ℕ). Judges (ordered_tests Holds first l rows) said) (rest_all p a n) (subst (λ (k : ℕ). Judges (ordered_tests Holds k (rest p a n 0) rows) said) (let e : first + 0 ≡ first = omega arith in e) h);
}

-- a number that is no member
pub done_skip : (Holds : ℕ → List ℤ → Type 0) (p : ℕ → Bool) (a n first : ℕ) (rows : List (List ℤ)) (i done m : ℕ) → AreDone Holds p a n first rows i done → i < n → m ≡ a + i → p m ≡ false → AreDone Holds p a n first rows (i + 1) done
done_skip Holds p a n first rows i done m h lt is miss =
    let same = rest_no p a n i m lt is miss in
    record {
      few = omega (arith, h.few);
      count = let e = ap (λ (l : List ℕ). length l) same in omega (arith, e, h.count);
      judged = λ said j. h.judged said (subst (λ (l : List ℕ). Judges (ordered_tests Holds (first + done) l (drop done rows)) said) (sym same) j);
    }

-- a member has a row
pub done_some : (Holds : ℕ → List ℤ → Type 0) (p : ℕ → Bool) (a n first : ℕ) (rows : List (List ℤ)) (i done m : ℕ) → AreDone Holds p a n first rows i done → i < n → m ≡ a + i → p m ≡ true → done < length rows
done_some Holds p a n first rows i done m h lt is hit = let e = ap (λ (l : List ℕ). length l) (rest_yes p a n i m lt is hit) in omega (arith, e, h.count)

-- the tests from this row on
tests_here : (Holds : ℕ → List ℤ → Type 0) (p : ℕ → Bool) (a n first : ℕ) (rows : List (List ℤ)) (i done m : ℕ) → AreDone Holds p a n first rows i done → i < n → m ≡ a + i → p m ≡ true → (said : Result Unit CheckFault)
    → Judges (ordered_tests Holds (first + done) (m ∷ rest p a n (i + 1)) (get_or rows done [] ∷ drop (done + 1) rows)) said → Judges (ordered_tests Holds first (filter p (range_with_len a n)) rows) said
tests_here Holds p a n first rows i done m h lt is hit said j =
    let here = rest_yes p a n i m lt is hit in
    let cut = drop_more rows done [] (done_some Holds p a n first rows i done m h lt is hit) in
    h.judged said (subst (λ (l : List ℕ). Judges (ordered_tests Holds (first + done) l (drop done rows)) said) (sym here)
    (subst (λ (rs : List (List ℤ)). Judges (ordered_tests Holds (first + done) (m ∷ rest p a n (i + 1)) rs) said) (sym cut) j))

pub done_next : (Holds : ℕ → List ℤ → Type 0) (p : ℕ → Bool) (a n first : ℕ) (rows : List (List ℤ)) (i done m : ℕ) → AreDone Holds p a n first rows i done → i < n → m ≡ a + i → p m ≡ true → Holds m (get_or rows done []) → AreDone Holds p a n first rows (i + 1) (done + 1)
done_next Holds p a n first rows i done m h lt is hit holds = record {
  few = omega (arith, h.few);
  count = let e = ap (λ (l : List ℕ). length l) (rest_yes p a n i m lt is hit) in omega (arith, e, h.count);
  judged = λ said j. tests_here Holds p a n first rows i done m h lt is hit said (judges_pass (test (first + done) BadVector (Holds m (get_or rows done []))) (ordered_tests Holds (suc (first + done)) (rest p a n (i + 1)) (drop (done + 1) rows)) said holds (subst (λ (k : ℕ). Judges (ordered_tests Holds k (rest p a n (i + 1)) (drop (done + 1) rows)) said) (let e : first + (done + 1) ≡ suc (first + done) = omega arith in e) j));
}

pub done_fails : (Holds : ℕ → List ℤ → Type 0) (p : ℕ → Bool) (a n first : ℕ) (rows : List (List ℤ)) (i done m part : ℕ) → AreDone Holds p a n first rows i done → i < n → m ≡ a + i → p m ≡ true → (Holds m (get_or rows done []) → ⊥) → part ≡ first + done → Judges (ordered_tests Holds first (filter p (range_with_len a n)) rows) (Err (record { code = 35; part = part }))
done_fails Holds p a n first rows i done m part h lt is hit fails at = tests_here Holds p a n first rows i done m h lt is hit (Err (record { code = 35; part = part })) (inl (fails, sym at, refl))

pub done_all : (Holds : ℕ → List ℤ → Type 0) (p : ℕ → Bool) (a n first : ℕ) (rows : List (List ℤ)) (i done : ℕ) → AreDone Holds p a n first rows i done → i ≡ n → Judges (ordered_tests Holds first (filter p (range_with_len a n)) rows) (Ok tt)
done_all Holds p a n first rows i done h all = h.judged (Ok tt) (subst (λ (l : List ℕ). Judges (ordered_tests Holds (first + done) l (drop done rows)) (Ok tt)) (sym (ap (rest p a n) all ∙ rest_none p a n)) (none (drop done rows)))
  where
    none : (rs : List (List ℤ)) → Judges (ordered_tests Holds (first + done) [] rs) (Ok tt)
    none rs = tt
