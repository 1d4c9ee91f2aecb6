-- The members outside an ascending base, met one after another.
use Rattle.crn_check.proofs.Prelude.{◌≡◌, inl, inr, ◌==◌, Bool, true, false, ℕ, suc, ◌+◌, ◌-◌, ◌<◌, ◌≤◌, List, [], ◌∷◌, length, get_or, drop, Result, Ok, Err, refl, sym, ap, subst, ◌∙◌, arith, ℤ, filter, list_any, range_with_len, cases_Bool, eq-eqb, ne_eqb, Decides-eqb, drop_more, IsIn, IsAbove, IsAscending, Net, any_is, above_ascending, above_lower, above_in, IsComb, comb_tests, outside, vector_of, test, NotSpanned, CheckFault, Members, Judges, is_member, members_of}
use Rattle.crn_check.proofs.Judging.{judges_pass}

has_not : (base : List ℕ) (r : ℕ) → (IsIn r base → ⊥) → list_any (λ b. b == r) base ≡ false
has_not base r none = elim (any_is (λ (b : ℕ). b == r) r (λ b. Decides-eqb b r) base) [ inl a ↦ absurd (none a.1) | inr b ↦ b.0 ]

-- ---- how many members are outside

outside_none : (ms : List ℕ) → outside [] ms ≡ ms
outside_none [] = refl
outside_none (m ∷ ms) = ap (λ (l : List ℕ). m ∷ l) (outside_none ms)

outside_in : (base : List ℕ) (m : ℕ) (ms : List ℕ) → list_any (λ b. b == m) base ≡ true → outside base (m ∷ ms) ≡ outside base ms
outside_in base m ms e = rw e refl

outside_out : (base : List ℕ) (m : ℕ) (ms : List ℕ) → list_any (λ b. b == m) base ≡ false → outside base (m ∷ ms) ≡ m ∷ outside base ms
outside_out base m ms e = rw e refl

-- a member of the base that is less than all members does not matter
outside_less : (b : ℕ) (bs ms : List ℕ) → IsAbove b ms → outside (b ∷ bs) ms ≡ outside bs ms
outside_less b bs [] h = refl
outside_less b bs (m ∷ ms) h =
    let ne : (b == m) ≡ false = ne_eqb b m (let lt = h.0 in omega (arith, lt)) in
    let rest = outside_less b bs ms (above_lower b m ms h.0 h.1) in
    elim (cases_Bool (list_any (λ (c : ℕ). c == m) bs)) [
      | inl hit ↦ outside_in (b ∷ bs) m ms (rw ne hit) ∙ rest ∙ sym (outside_in bs m ms hit)
      | inr miss ↦ outside_out (b ∷ bs) m ms (rw ne miss) ∙ ap (λ (l : List ℕ). m ∷ l) rest ∙ sym (outside_out bs m ms miss)
    ]

-- the members outside an ascending base among ascending members are all but as many as it has
pub outside_long : (base ms : List ℕ) → IsAscending base → IsAscending ms → ((b : ℕ) → IsIn b base → IsIn b ms) → length (outside base ms) + length base ≡ length ms
outside_long [] ms up more sub = let e = ap (λ (l : List ℕ). length l) (outside_none ms) in omega (arith, e)
outside_long (b ∷ bs) [] up more sub = absurd (sub b (inl refl))
outside_long (b ∷ bs) (m ∷ ms) up more sub = elim (sub b (inl refl)) [
  | inl is ↦
      let hit : (b == m) ≡ true = eq-eqb b m is in
      let here = outside_in (b ∷ bs) m ms (rw hit refl) in
      let above : IsAbove b ms = subst (λ (k : ℕ). IsAbove k ms) (sym is) more in
      let rest = outside_long bs ms (above_ascending b bs up) (above_ascending m ms more) (λ c i. elim (sub c (inr i)) [
        | inl same ↦ absurd (let lt = above_in b bs up c i in omega (arith, lt, same, is))
        | inr later ↦ later
      ]) in
      let e = ap (λ (l : List ℕ). length l) (here ∙ outside_less b bs ms above) in
      omega (arith, e, rest)
  | inr later ↦
      let lt = above_in m ms more b later in
      let none : IsIn m (b ∷ bs) → ⊥ = λ i. elim i [
        | inl same ↦ omega (arith, lt, same)
        | inr i ↦ let gt = above_in b bs up m i in omega (arith, lt, gt)
      ] in
      let e = ap (λ (l : List ℕ). length l) (outside_out (b ∷ bs) m ms (has_not (b ∷ bs) m none)) in
      let rest = outside_long (b ∷ bs) ms up (above_ascending m ms more) (λ c i. elim (sub c i) [
        | inl same ↦ absurd (none (subst (λ (x : ℕ). IsIn x (b ∷ bs)) same i))
        | inr l ↦ l
      ]) in
      omega (arith, e, rest)
]

-- ---- members in order

-- the members among reactions from place r on, which counts from 0
abbrev pub left : Net → Members → ℕ → List ℕ
left net m r = filter (is_member net m) (range_with_len (r + 1) (length net.reactions - r))

pub left_all : (net : Net) (m : Members) → left net m 0 ≡ members_of net m
left_all net m = ap (λ (n : ℕ). filter (is_member net m) (range_with_len 1 n)) (omega arith)

pub left_none : (net : Net) (m : Members) → left net m (length net.reactions) ≡ []
left_none net m = ap (λ (n : ℕ). filter (is_member net m) (range_with_len (length net.reactions + 1) n)) (let e : length net.reactions - length net.reactions ≡ 0 = omega arith in e)

pub filter_yes : (p : ℕ → Bool) (a n : ℕ) → p a ≡ true → filter p (range_with_len a (suc n)) ≡ a ∷ filter p (range_with_len (a + 1) n)
filter_yes p a n e = rw e refl

pub filter_no : (p : ℕ → Bool) (a n : ℕ) → p a ≡ false → filter p (range_with_len a (suc n)) ≡ filter p (range_with_len (a + 1) n)
filter_no p a n e = rw e refl

pub left_yes : (net : Net) (m : Members) (r : ℕ) → r < length net.reactions → is_member net m (r + 1) ≡ true → left net m r ≡ (r + 1) ∷ left net m (r + 1)
left_yes net m r lt e =
    let more : length net.reactions - r ≡ suc (length net.reactions - (r + 1)) = omega (arith, lt) in
    ap (λ (n : ℕ). filter (is_member net m) (range_with_len (r + 1) n)) more ∙ filter_yes (is_member net m) (r + 1) (length net.reactions - (r + 1)) e

pub left_no : (net : Net) (m : Members) (r : ℕ) → r < length net.reactions → is_member net m (r + 1) ≡ false → left net m r ≡ left net m (r + 1)
left_no net m r lt e =
    let more : length net.reactions - r ≡ suc (length net.reactions - (r + 1)) = omega (arith, lt) in
    ap (λ (n : ℕ). filter (is_member net m) (range_with_len (r + 1) n)) more ∙ filter_no (is_member net m) (r + 1) (length net.reactions - (r + 1)) e

-- ---- combinations in order

-- the combinations of the members outside the base before place r pass, and there are so many
pub record ArePassed (net : Net) (vs : List (List ℤ)) (first : ℕ) (base : List ℕ) (m : Members) (combs : List (List ℤ)) (r done : ℕ) : Type 0 where
  pub few : done ≤ r
  pub count : done + length (outside base (left net m r)) ≡ length combs
  pub judged : (said : Result Unit CheckFault) → Judges (comb_tests net vs (first + done) (outside base (left net m r)) (drop done combs)) said → Judges (comb_tests net vs first (outside base (members_of net m)) combs) said

pub passed_none : (net : Net) (vs : List (List ℤ)) (first : ℕ) (base : List ℕ) (m : Members) (combs : List (List ℤ)) → length combs ≡ length (outside base (members_of net m)) → ArePassed net vs first base m combs 0 0
passed_none net vs first base m combs long = record {
  few = omega arith;
  count = let e = ap (λ (l : List ℕ). length (outside base l)) (left_all net m) in omega (arith, e, long);
  judged = λ said h. subst (λ (l : List ℕ). Judges (comb_tests net vs first (outside base l) combs) said) (left_all net m) (subst (λ (n : ℕ). Judges (comb_tests net vs n (outside base (left net m 0)) combs) said) (let e : first + 0 ≡ first = omega arith in e) h);
}

-- a reaction that is not a member, or is in the base
passed_same : (net : Net) (vs : List (List ℤ)) (first : ℕ) (base : List ℕ) (m : Members) (combs : List (List ℤ)) (r done : ℕ) → ArePassed net vs first base m combs r done → outside base (left net m r) ≡ outside base (left net m (r + 1)) → ArePassed net vs first base m combs (r + 1) done
passed_same net vs first base m combs r done h same = record {
  few = omega (arith, h.few);
  count = let e = ap (λ (l : List ℕ). length l) same in omega (arith, e, h.count);
  judged = λ said j. h.judged said (subst (λ (l : List ℕ). Judges (comb_tests net vs (first + done) l (drop done combs)) said) (sym same) j);
}

pub passed_other : (net : Net) (vs : List (List ℤ)) (first : ℕ) (base : List ℕ) (m : Members) (combs : List (List ℤ)) (r done : ℕ) → ArePassed net vs first base m combs r done → r < length net.reactions → is_member net m (r + 1) ≡ false → ArePassed net vs first base m combs (r + 1) done
passed_other net vs first base m combs r done h lt lacks = passed_same net vs first base m combs r done h (ap (outside base) (left_no net m r lt lacks))

pub passed_in : (net : Net) (vs : List (List ℤ)) (first : ℕ) (base : List ℕ) (m : Members) (combs : List (List ℤ)) (r done : ℕ) → ArePassed net vs first base m combs r done → r < length net.reactions → is_member net m (r + 1) ≡ true → list_any (λ b. b == r + 1) base ≡ true → ArePassed net vs first base m combs (r + 1) done
passed_in net vs first base m combs r done h lt has hit = passed_same net vs first base m combs r done h (ap (outside base) (left_yes net m r lt has) ∙ outside_in base (r + 1) (left net m (r + 1)) hit)

out_next : (net : Net) (base : List ℕ) (m : Members) (r : ℕ) → r < length net.reactions → is_member net m (r + 1) ≡ true → list_any (λ b. b == r + 1) base ≡ false → outside base (left net m r) ≡ (r + 1) ∷ outside base (left net m (r + 1))
out_next net base m r lt has miss = ap (outside base) (left_yes net m r lt has) ∙ outside_out base (r + 1) (left net m (r + 1)) miss

pub passed_some : (net : Net) (vs : List (List ℤ)) (first : ℕ) (base : List ℕ) (m : Members) (combs : List (List ℤ)) (r done : ℕ) → ArePassed net vs first base m combs r done → r < length net.reactions → is_member net m (r + 1) ≡ true → list_any (λ b. b == r + 1) base ≡ false → done < length combs
passed_some net vs first base m combs r done h lt has miss = let e = ap (λ (l : List ℕ). length l) (out_next net base m r lt has miss) in omega (arith, e, h.count)

-- the tests from this combination on
tests_next : (net : Net) (vs : List (List ℤ)) (first : ℕ) (base : List ℕ) (m : Members) (combs : List (List ℤ)) (r done : ℕ) → ArePassed net vs first base m combs r done → r < length net.reactions → is_member net m (r + 1) ≡ true → list_any (λ b. b == r + 1) base ≡ false → (said : Result Unit CheckFault)
    → Judges (comb_tests net vs (first + done) ((r + 1) ∷ outside base (left net m (r + 1))) (get_or combs done [] ∷ drop (done + 1) combs)) said → Judges (comb_tests net vs first (outside base (members_of net m)) combs) said
tests_next net vs first base m combs r done h lt has miss said j =
    let here = out_next net base m r lt has miss in
    let cut = drop_more combs done [] (passed_some net vs first base m combs r done h lt has miss) in
    h.judged said (subst (λ (l : List ℕ). Judges (comb_tests net vs (first + done) l (drop done combs)) said) (sym here)
    (subst (λ (cs : List (List ℤ)). Judges (comb_tests net vs (first + done) ((r + 1) ∷ outside base (left net m (r + 1))) cs) said) (sym cut) j))

pub passed_out : (net : Net) (vs : List (List ℤ)) (first : ℕ) (base : List ℕ) (m : Members) (combs : List (List ℤ)) (r done : ℕ) → ArePassed net vs first base m combs r done → r < length net.reactions → is_member net m (r + 1) ≡ true → list_any (λ b. b == r + 1) base ≡ false → IsComb vs (vector_of net (r + 1)) (get_or combs done []) → ArePassed net vs first base m combs (r + 1) (done + 1)
passed_out net vs first base m combs r done h lt has miss holds = record {
  few = omega (arith, h.few);
  count = let e = ap (λ (l : List ℕ). length l) (out_next net base m r lt has miss) in omega (arith, e, h.count);
  judged = λ said j. tests_next net vs first base m combs r done h lt has miss said (judges_pass (test (first + done) NotSpanned (IsComb vs (vector_of net (r + 1)) (get_or combs done []))) (comb_tests net vs (suc (first + done)) (outside base (left net m (r + 1))) (drop (done + 1) combs)) said holds (subst (λ (n : ℕ). Judges (comb_tests net vs n (outside base (left net m (r + 1))) (drop (done + 1) combs)) said) (let e : first + (done + 1) ≡ suc (first + done) = omega arith in e) j));
}

pub passed_fails : (net : Net) (vs : List (List ℤ)) (first : ℕ) (base : List ℕ) (m : Members) (combs : List (List ℤ)) (r done part : ℕ) → ArePassed net vs first base m combs r done → r < length net.reactions → is_member net m (r + 1) ≡ true → list_any (λ b. b == r + 1) base ≡ false → (IsComb vs (vector_of net (r + 1)) (get_or combs done []) → ⊥) → part ≡ first + done → Judges (comb_tests net vs first (outside base (members_of net m)) combs) (Err (record { code = 34; part = part }))
passed_fails net vs first base m combs r done part h lt has miss fails is = tests_next net vs first base m combs r done h lt has miss (Err (record { code = 34; part = part })) (inl (fails, sym is, refl))

pub passed_all : (net : Net) (vs : List (List ℤ)) (first : ℕ) (base : List ℕ) (m : Members) (combs : List (List ℤ)) (done : ℕ) → ArePassed net vs first base m combs (length net.reactions) done → Judges (comb_tests net vs first (outside base (members_of net m)) combs) (Ok tt)
passed_all net vs first base m combs done h = h.judged (Ok tt) (subst (λ (l : List ℕ). Judges (comb_tests net vs (first + done) (outside base l) (drop done combs)) (Ok tt)) (sym (left_none net m)) (none (drop done combs)))
  where
    none : (cs : List (List ℤ)) → Judges (comb_tests net vs (first + done) [] cs) (Ok tt)
    none cs = tt
