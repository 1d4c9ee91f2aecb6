-- The amounts of the names of a side.
use Rattle.crn_net.proofs.Prelude.{◌≡◌, ℕ, ◌<◌, ◌≤◌, ◌+◌, true, false, cond, List, [], ◌∷◌, ◌++◌, length, get_or, take, map, refl, sym, ap, ap₂, ◌∙◌, inl, inr, arith, sum_by, bytes_eq, bytes_eq-Decides, cases_Bool, map_more, take_all, sum_by-le-sum_by, IsIn, amount_in, MAX_AMOUNT, Term, name_at, side_of}
use Rattle.crn_net.proofs.Members.{amount_is, amount_more, amount_part}

-- ---- loops over the terms of a side

pub amount_yes : (text name : List ℕ) (side : List Term) (i sum : ℕ) (d : Term) → i < length side → sum ≡ amount_in (side_of text (take i side)) name → bytes_eq (name_at text (get_or side i d)) name ≡ true
    → sum + (get_or side i d).count ≡ amount_in (side_of text (take (i + 1) side)) name
amount_yes text name side i sum d lt is hit =
    let more = amount_more text name side i d lt in
    let one : cond (bytes_eq (name_at text (get_or side i d)) name) (get_or side i d).count 0 ≡ (get_or side i d).count = rw hit refl in
    omega (arith, is, more, one)

pub amount_no : (text name : List ℕ) (side : List Term) (i sum : ℕ) (d : Term) → i < length side → sum ≡ amount_in (side_of text (take i side)) name → bytes_eq (name_at text (get_or side i d)) name ≡ false
    → sum ≡ amount_in (side_of text (take (i + 1) side)) name
amount_no text name side i sum d lt is miss =
    let more = amount_more text name side i d lt in
    let one : cond (bytes_eq (name_at text (get_or side i d)) name) (get_or side i d).count 0 ≡ 0 = rw miss refl in
    omega (arith, is, more, one)

-- ---- sides that are the same terms in one order

-- one more term on both sides
pub alike_more : (text : List ℕ) (left right : List Term) (i : ℕ) (d : Term) → i < length left → i < length right → side_of text (take i left) ≡ side_of text (take i right) → name_at text (get_or left i d) ≡ name_at text (get_or right i d) → (get_or left i d).count ≡ (get_or right i d).count
    → side_of text (take (i + 1) left) ≡ side_of text (take (i + 1) right)
alike_more text left right i d l r same name number =
    let f : Term → List ℕ × ℕ = λ t. (name_at text t, t.count) in
    let here : f (get_or left i d) ≡ f (get_or right i d) = ap₂ (λ (n : List ℕ) (k : ℕ). (n, k)) name number in
    map_more f left i d l ∙ ap₂ (λ (u : List (List ℕ × ℕ)) (x : List ℕ × ℕ). u ++ x ∷ []) same here ∙ sym (map_more f right i d r)

pub alike_all : (text : List ℕ) (left right : List Term) (i : ℕ) → length left ≤ i → length right ≤ i → side_of text (take i left) ≡ side_of text (take i right) → side_of text left ≡ side_of text right
alike_all text left right i l r same = ap (side_of text) (sym (take_all i left l)) ∙ same ∙ ap (side_of text) (take_all i right r)

-- the first name of a side has an amount on it
pub first_some : (text : List ℕ) (side : List Term) (d : Term) → 0 < length side → 1 ≤ (get_or side 0 d).count → 1 ≤ amount_in (side_of text side) (name_at text (get_or side 0 d))
first_some text side d lt some =
    let name = name_at text (get_or side 0 d) in
    let more = amount_yes text name side 0 0 d lt refl ((bytes_eq-Decides name name).1 refl) in
    let part = amount_part text name side (0 + 1) in
    omega (arith, more, part, some)

-- ---- names

pub of_name : (text : List ℕ) (terms : List Term) (name : List ℕ) → IsIn name (map (λ t. t.0) (side_of text terms)) → (t : Term) × IsIn t terms × (name ≡ name_at text t)
of_name text [] name h = absurd h
of_name text (t ∷ terms) name (inl e) = (t, inl refl, e)
of_name text (t ∷ terms) name (inr i) = let r = of_name text terms name i in (r.0, inr r.1, r.2)

-- terms whose numbers add up to at most the limit have at most the limit of a name
pub amounts_most : (text : List ℕ) (terms : List Term) → sum_by (λ t. t.count) terms ≤ MAX_AMOUNT → (name : List ℕ) → amount_in (side_of text terms) name ≤ MAX_AMOUNT
amounts_most text terms h name =
    let f : Term → ℕ = λ t. cond (bytes_eq (name_at text t) name) t.count 0 in
    let is : amount_in (side_of text terms) name ≡ sum_by f terms = amount_is text name terms in
    let le = sum_by-le-sum_by f (λ t. t.count) terms (λ t. elim (cases_Bool (bytes_eq (name_at text t) name)) [ inl hit ↦ rw hit (omega arith) | inr miss ↦ rw miss (omega arith) ]) in
    omega (arith, is, le, h)
