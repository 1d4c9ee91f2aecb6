-- Rows of amounts, which end in zeros, and tables with a member put in.
use Rattle.crn_net.proofs.Prelude.{◌≡◌, ◌⊎◌, ℕ, ◌<◌, ◌≤◌, ◌+◌, ◌-◌, Bool, List, [], ◌∷◌, ◌++◌, length, get_or, take, map, replicate, sym, ap, subst, ◌∙◌, inl, inr, arith, ℤ, pos, Decides, AllByRecursion, cases_lt, length-replicate, ext_get_or, get_or-take, length-take-le, length-append, get_or_append_left, get_or-append_right, length_push, IsIn, AreDistinct, firsts, MAX_SPECIES, vectors_of, IsRow, AreRows, with_zeros, Puts, map_twice, map_same, all_in, all_push, at_in, distinct_push, firsts_known, firsts_new, firsts_all, entry_of_zeros}

-- ---- rows as vectors

pub row_ext : (n : ℕ) (a b : List ℤ) → IsRow n a → IsRow n b → take n a ≡ take n b → a ≡ b
row_ext n a b p q e =
    ext_get_or (pos 0) a b (p.long ∙ sym q.long) (λ k lt. elim (cases_lt k n) [
      | inl below ↦ sym (get_or-take n a k (pos 0) below) ∙ ap (λ (t : List ℤ). get_or t k (pos 0)) e ∙ get_or-take n b k (pos 0) below
      | inr above ↦ p.rest k above ∙ sym (q.rest k above)
    ])

pub row_wider : (n m : ℕ) (a : List ℤ) → n ≤ m → IsRow n a → IsRow m a
row_wider n m a le p = record { long = p.long; rest = λ k h. p.rest k (omega arith) }

pub row_length : (n : ℕ) (a : List ℤ) → n ≤ MAX_SPECIES → IsRow n a → length (take n a) ≡ n
row_length n a le p = let long = p.long in length-take-le n a (omega arith)

pub row_with_zeros : (n m : ℕ) (a : List ℤ) → n ≤ m → m ≤ MAX_SPECIES → IsRow n a → with_zeros m (take n a) ≡ take m a
row_with_zeros n m a le few p =
    let long = p.long in
    let prefix : length (take n a) ≡ n = row_length n a (omega arith) p in
    let zeros = replicate (m - length (take n a)) (pos 0) in
    let count = length-replicate (m - length (take n a)) (pos 0) in
    let whole : length (with_zeros m (take n a)) ≡ m = omega (arith, length-append (take n a) zeros, prefix, count) in
    let other : length (take m a) ≡ m = length-take-le m a (omega arith) in
    ext_get_or (pos 0) (with_zeros m (take n a)) (take m a) (whole ∙ sym other) (λ k lt. elim (cases_lt k n) [
      | inl below ↦ get_or_append_left (take n a) zeros (pos 0) k (omega arith) ∙ get_or-take n a k (pos 0) below ∙ sym (get_or-take m a k (pos 0) (omega arith))
      | inr above ↦ get_or-append_right (take n a) zeros n k (pos 0) prefix above ∙ entry_of_zeros (m - length (take n a)) (k - n) ∙ sym (get_or-take m a k (pos 0) (omega arith) ∙ p.rest k above)
    ])

-- the vectors of rows, with zeros for the new names
pub vectors_with_zeros : (n m : ℕ) (rows : List (List ℤ)) → n ≤ m → m ≤ MAX_SPECIES → AreRows n rows → map (with_zeros m) (vectors_of n rows) ≡ vectors_of m rows
vectors_with_zeros n m rows le few p = map_twice (take n) (with_zeros m) rows ∙ map_same (λ row. with_zeros m (take n row)) (take m) rows (λ row i. row_with_zeros n m row le few (all_in (IsRow n) rows row p i))

-- ---- a member put in

pub puts_distinct : {A : Type 0} (old new : List A) (x : A) → AreDistinct old → Puts old x new → AreDistinct new
puts_distinct {A} old new x d (inl p) = subst AreDistinct (sym p.1) d
puts_distinct {A} old new x d (inr p) = subst AreDistinct (sym p.1) (distinct_push old x d p.0)

pub puts_firsts : {A : Type 0} (same : A → A → Bool) (dec : (a b : A) → Decides (same a b) (a ≡ b)) (old new : List A) (x : A) → AreDistinct old → Puts old x new → firsts same (old ++ x ∷ []) ≡ new
puts_firsts same dec old new x d (inl p) = firsts_known same dec old x p.0 ∙ firsts_all same dec old d ∙ sym p.1
puts_firsts {A} same dec old new x d (inr p) = firsts_new same dec old x p.0 ∙ ap (λ (t : List A). t ++ x ∷ []) (firsts_all same dec old d) ∙ sym p.1

pub puts_all : {A : Type 0} (P : A → Type 0) (old new : List A) (x : A) → AllByRecursion P old → P x → Puts old x new → AllByRecursion P new
puts_all P old new x h p (inl q) = subst (AllByRecursion P) (sym q.1) h
puts_all P old new x h p (inr q) = subst (AllByRecursion P) (sym q.1) (all_push P old x h p)

-- an inserted member is at an old place, or at the new one at the end
pub puts_place : {A : Type 0} (old new : List A) (x : A) (y : ℕ) → Puts old x new → y < length new → get_or new y x ≡ x → ((y < length old) × (length new ≡ length old)) ⊎ ((y ≡ length old) × (length new ≡ length old + 1))
puts_place {A} old new x y (inl p) lt at = let e = ap length p.1 in inl (omega (arith, e, lt), e)
puts_place {A} old new x y (inr p) lt at =
    let e = ap length p.1 in
    let long = length_push old x in
    elim (cases_lt y (length old)) [
      | inl below ↦
          let there : IsIn (get_or old y x) old = at_in old y x below in
          let is : get_or old y x ≡ x = sym (get_or_append_left old (x ∷ []) x y below) ∙ ap (λ (t : List A). get_or t y x) (sym p.1) ∙ at in
          absurd (p.0 (subst (λ (t : A). IsIn t old) is there))
      | inr above ↦ inr (omega (arith, e, long, lt, above), omega (arith, e, long))
    ]

pub puts_keeps : {A : Type 0} (old new : List A) (x d : A) (k : ℕ) → Puts old x new → k < length old → get_or new k d ≡ get_or old k d
puts_keeps {A} old new x d k (inl p) lt = ap (λ (t : List A). get_or t k d) p.1
puts_keeps {A} old new x d k (inr p) lt = ap (λ (t : List A). get_or t k d) p.1 ∙ get_or_append_left old (x ∷ []) d k lt

pub puts_longer : {A : Type 0} (old new : List A) (x : A) → Puts old x new → length old ≤ length new
puts_longer old new x (inl p) = let e = ap length p.1 in omega (arith, e)
puts_longer old new x (inr p) = let e = ap length p.1 in let long = length_push old x in omega (arith, e, long)
