-- The amount of a name on a side, term by term, and whether a table has a member.
use Rattle.crn_net.proofs.Prelude.{◌≡◌, ℕ, ◌<◌, ◌≤◌, ◌+◌, true, cond, List, [], ◌∷◌, ◌++◌, length, get_or, take, refl, sym, ap, ◌∙◌, inl, inr, arith, Some, None, nat_lt, any_is, ℤ, position, position_or_len, sum_by, Decides, bytes_eq, int_eq, pointwise, signed_items, cases_Bool, Decides-ltb, sum_by-cons, sum_by_more, sum_by-take-le, position-Some, insert_key, IsIn, amount_in, Term, name_at, side_of}

-- the test by which a set of rows looks for one
pub row_sought : (row known : List ℤ) → Decides (pointwise int_eq row known) (known ≡ row)
row_sought row known = (λ h. sym ((signed_items row known).0 h), λ e. (signed_items row known).1 (sym e))

-- a place that `position` gives
pub found_at : (row : List ℤ) (rows : List (List ℤ)) (i : ℕ) → position (pointwise int_eq row) rows ≡ Some i → (i < length rows) × (get_or rows i row ≡ row)
found_at row rows i h = let f = position-Some (pointwise int_eq row) rows i row h in (f.0, (row_sought row (get_or rows i row)).0 f.1)

less_where_in : (row : List ℤ) (rows : List (List ℤ)) → IsIn row rows → position_or_len (pointwise int_eq row) rows < length rows
less_where_in row [] h = absurd h
less_where_in row (r ∷ rows) h =
    elim (cases_Bool (pointwise int_eq row r)) [
      | inl hit ↦ rw hit (omega arith)
      | inr miss ↦ elim h [
        | inl e ↦ absurd (let t = (row_sought row r).1 (sym e) in cc)
        | inr i ↦ let less = less_where_in row rows i in rw miss (omega (arith, less))
      ]
    ]

pub found_none : (row : List ℤ) (rows : List (List ℤ)) → position (pointwise int_eq row) rows ≡ None → IsIn row rows → ⊥
found_none row rows h i =
    let less = less_where_in row rows i in
    let t : nat_lt (position_or_len (pointwise int_eq row) rows) (length rows) ≡ true = (Decides-ltb (position_or_len (pointwise int_eq row) rows) (length rows)).1 less in
    let is : position (pointwise int_eq row) rows ≡ Some (position_or_len (pointwise int_eq row) rows) = rw t refl in
    absurd (let bad = sym is ∙ h in cc)

-- a row that is not there is put at the end
pub row_put : (old new : List (List ℤ)) (row : List ℤ) → new ≡ insert_key (pointwise int_eq) old row → (IsIn row old → ⊥) → new ≡ old ++ row ∷ []
row_put old new row keys free = elim (any_is (pointwise int_eq row) row (row_sought row) old) [ inl a ↦ absurd (free a.1) | inr b ↦ let e = keys in rw b.0 at e ]

-- ---- amounts

-- the amount of a name in one term
abbrev said : List ℕ → List ℕ → Term → ℕ
said text name t = cond (bytes_eq (name_at text t) name) t.count 0

pub amount_is : (text name : List ℕ) (side : List Term) → amount_in (side_of text side) name ≡ sum_by (said text name) side
amount_is text name [] = refl
amount_is text name (t ∷ side) =
    let f : List ℕ × ℕ → ℕ = λ u. cond (bytes_eq u.0 name) u.1 0 in
    sum_by-cons f (name_at text t, t.count) (side_of text side) ∙ ap (λ (n : ℕ). said text name t + n) (amount_is text name side) ∙ sym (sum_by-cons (said text name) t side)

-- one term more
pub amount_more : (text name : List ℕ) (side : List Term) (i : ℕ) (d : Term) → i < length side
    → amount_in (side_of text (take (i + 1) side)) name ≡ amount_in (side_of text (take i side)) name + cond (bytes_eq (name_at text (get_or side i d)) name) (get_or side i d).count 0
amount_more text name side i d lt =
    amount_is text name (take (i + 1) side) ∙ sum_by_more (said text name) side i d lt ∙ ap (λ (n : ℕ). n + said text name (get_or side i d)) (sym (amount_is text name (take i side)))

-- the terms up to one have at most as much as all terms
pub amount_part : (text name : List ℕ) (side : List Term) (i : ℕ) → amount_in (side_of text (take i side)) name ≤ amount_in (side_of text side) name
amount_part text name side i = let a = amount_is text name (take i side) in let b = amount_is text name side in let le = sum_by-take-le (said text name) side i in omega (arith, a, b, le)
