-- Lists of signs by the places at which they are not zero: the kinds of columns, and which multipliers are cuts.
use Rattle.crn_ctree.proofs.Prelude.{◌≡◌, ◌≢◌, ℕ, zero, suc, ◌+◌, ◌<◌, ◌≤◌, ◌⊎◌, inl, inr, List, [], ◌∷◌, length, map, get_or, drop, Bool, drop-cons, true, false, cond, refl, sym, ap, ap₂, subst, ◌∙◌, arith, ℤ, pos, negsuc, ◌↔◌, ◌||◌, IsTrue, ints, or-false, eq-eqb, lt-ltb, le-ltb, false≢true, get_or-map, length-map, Sign, Zero, Plus, Minus, Kind, Pos, Neg, NonNeg, Free, ZeroKind, Net, sides_of, reaction_vector, plain_table, strong_table, Mat, entry, width, all_zero, column_kind, kind_of_sum, is_plus, is_minus, some_sign, product, products, sign, IsCut, MayWeigh, is_signed, kind_at, Fits, is_cut, problem_of, table_of, InfluenceTable, Plain, Strong, Problem, Concordance, Part, Spot, A, B, column_from, cut_by, kinds_of, matrix_of, opposite_kind, weights_of, AllWeigh, AreBelow, SomeSigned, column_numbers, columns_of, row_spots, rows_by, spots_from, spots_kind, lt_or, past_end, weigh_zero}
use Rattle.crn_ctree.proofs.KindLaws.{column_closed, column_more, strong_column}
use Rattle.crn_ctree.proofs.CutLaws.{CountsTo, weights_long, cut_from, cut_weighs, cut_counts}

-- ---- where they are

pub spots_below : (n k : ℕ) (ss : List Sign) → k + length ss ≤ n → AreBelow n (spots_from k ss)
spots_below n k [] le = tt
spots_below n k (Zero ∷ ss) le = spots_below n (suc k) ss (omega (arith, le))
spots_below n k (Plus ∷ ss) le = (omega (arith, le), spots_below n (suc k) ss (omega (arith, le)))
spots_below n k (Minus ∷ ss) le = (omega (arith, le), spots_below n (suc k) ss (omega (arith, le)))

-- ---- the kind of a column

or_by : (r b a : Bool) → (r || cond b true a) ≡ ((r || b) || a)
or_by true b a = refl
or_by false true a = refl
or_by false false a = refl

column_step : (raised lowered : Bool) (s t : Sign) (ss p : List Sign) → column_from (raised || is_plus (product s t)) (lowered || is_minus (product s t)) ss p ≡ column_from raised lowered (s ∷ ss) (t ∷ p)
column_step raised lowered s t ss p =
    ap₂ (λ (a b : Bool). cond (all_zero (drop (length p) ss)) (kind_of_sum a b) Free)
    (sym (or_by raised (is_plus (product s t)) (some_sign is_plus (products ss p))))
    (sym (or_by lowered (is_minus (product s t)) (some_sign is_minus (products ss p))))

not_yet : (s : Sign) (raised lowered : Bool) (k : ℕ) (spots : List Spot) (p : List Sign) → length p ≤ k → spots_kind raised lowered (record { place = k; sign = s } ∷ spots) p ≡ Free
not_yet s raised lowered k spots p le = rw (le-ltb k (length p) le) refl

chosen : (s : Sign) (raised lowered : Bool) (k : ℕ) (spots : List Spot) (p : List Sign) → k < length p
    → spots_kind raised lowered (record { place = k; sign = s } ∷ spots) p
    ≡ spots_kind (raised || is_plus (product s (get_or p k Zero))) (lowered || is_minus (product s (get_or p k Zero))) spots p
chosen s raised lowered k spots p lt = rw (lt-ltb k (length p) lt) refl

drop_past : (k : ℕ) (p : List Sign) → length p ≤ k → drop k p ≡ []
drop_past zero [] le = refl
drop_past (suc k) [] le = refl
drop_past zero (t ∷ p) le = absurd (omega (arith, le))
drop_past (suc k) (t ∷ p) le = drop_past k p (omega (arith, le))

closed_none : (raised lowered : Bool) (q : List Sign) → kind_of_sum (raised || false) (lowered || false) ≡ column_from raised lowered [] q
closed_none raised lowered [] = refl
closed_none raised lowered (t ∷ q) = refl

skip_zero : (raised lowered : Bool) (k : ℕ) (ss p : List Sign) → column_from raised lowered ss (drop (suc k) p) ≡ column_from raised lowered (Zero ∷ ss) (drop k p)
skip_zero raised lowered k ss p = elim (lt_or k (length p)) as (λ _. column_from raised lowered ss (drop (suc k) p) ≡ column_from raised lowered (Zero ∷ ss) (drop k p)) [
  | inl below ↦
      sym (column_more raised lowered Zero (get_or p k Zero) ss (drop (suc k) p) refl)
      ∙ ap (λ (q : List Sign). column_from raised lowered (Zero ∷ ss) q) (sym (drop-cons p k Zero below))
  | inr above ↦
      ap (λ (q : List Sign). column_from raised lowered ss q) (drop_past (suc k) p (omega (arith, above)))
      ∙ sym (column_closed raised lowered ss)
      ∙ ap (λ (q : List Sign). column_from raised lowered (Zero ∷ ss) q) (sym (drop_past k p above))
]

at_sign : (s : Sign) (raised lowered : Bool) (k : ℕ) (ss p : List Sign) → column_from raised lowered (s ∷ ss) [] ≡ Free
    → ((r l : Bool) → spots_kind r l (spots_from (suc k) ss) p ≡ column_from r l ss (drop (suc k) p))
    → spots_kind raised lowered (record { place = k; sign = s } ∷ spots_from (suc k) ss) p ≡ column_from raised lowered (s ∷ ss) (drop k p)
at_sign s raised lowered k ss p shut more = elim (lt_or k (length p)) as (λ _. spots_kind raised lowered (record { place = k; sign = s } ∷ spots_from (suc k) ss) p ≡ column_from raised lowered (s ∷ ss) (drop k p)) [
  | inl below ↦
      let t = get_or p k Zero in
      chosen s raised lowered k (spots_from (suc k) ss) p below
      ∙ more (raised || is_plus (product s t)) (lowered || is_minus (product s t))
      ∙ column_step raised lowered s t ss (drop (suc k) p)
      ∙ ap (λ (q : List Sign). column_from raised lowered (s ∷ ss) q) (sym (drop-cons p k Zero below))
  | inr above ↦
      not_yet s raised lowered k (spots_from (suc k) ss) p above ∙ sym shut
      ∙ ap (λ (q : List Sign). column_from raised lowered (s ∷ ss) q) (sym (drop_past k p above))
]

pub kind_by_spots : (raised lowered : Bool) (k : ℕ) (ss p : List Sign) → spots_kind raised lowered (spots_from k ss) p ≡ column_from raised lowered ss (drop k p)
kind_by_spots raised lowered k [] p = ap₂ kind_of_sum (sym (or-false raised)) (sym (or-false lowered)) ∙ closed_none raised lowered (drop k p)
kind_by_spots raised lowered k (Zero ∷ ss) p = kind_by_spots raised lowered (suc k) ss p ∙ skip_zero raised lowered k ss p
kind_by_spots raised lowered k (Plus ∷ ss) p = at_sign Plus raised lowered k ss p refl (λ r l. kind_by_spots r l (suc k) ss p)
kind_by_spots raised lowered k (Minus ∷ ss) p = at_sign Minus raised lowered k ss p refl (λ r l. kind_by_spots r l (suc k) ss p)

-- of the plain table, by the amounts of its reactant
pub plain_spots : (net : Net) (r : ℕ) (p : List Sign) (κ : Kind) → r < length net.reactions → κ ≡ spots_kind false false (spots_from 0 (map sign (sides_of net (get_or net.reactions r (0, 0))).0)) p → κ ≡ column_kind (get_or (plain_table net) r []) p
plain_spots net r p κ lt h =
    h ∙ kind_by_spots false false 0 (map sign (sides_of net (get_or net.reactions r (0, 0))).0) p
    ∙ ap (λ (l : List Sign). column_kind l p) (sym (get_or-map (λ (r : ℕ × ℕ). map sign (sides_of net r).0) net.reactions r (0, 0) [] lt))

-- of the strong table, by its vector
pub strong_spots : (net : Net) (r : ℕ) (p : List Sign) (κ κ' : Kind) → r < length net.reactions → κ ≡ spots_kind false false (spots_from 0 (map sign (reaction_vector net (get_or net.reactions r (0, 0))))) p → κ' ≡ opposite_kind κ → κ' ≡ column_kind (get_or (strong_table net) r []) p
strong_spots net r p κ κ' lt h g =
    let v = reaction_vector net (get_or net.reactions r (0, 0)) in
    strong_column net r v p κ κ' lt refl (h ∙ kind_by_spots false false 0 (map sign v) p) g

-- ---- the weights

weigh_plus : (κ : Kind) (n : ℕ) → MayWeigh κ (pos 1) → MayWeigh κ (pos (suc n))
weigh_plus Pos n h = omega (arith, ints)
weigh_plus Neg n h = absurd (omega (arith, ints, h))
weigh_plus NonNeg n h = omega (arith, ints)
weigh_plus ZeroKind n h = tt
weigh_plus Free n h = absurd (omega (arith, ints, h))

weigh_one : (κ : Kind) (n : ℕ) → MayWeigh κ (pos (suc n)) → MayWeigh κ (pos 1)
weigh_one Pos n h = omega (arith, ints)
weigh_one Neg n h = absurd (omega (arith, ints, h))
weigh_one NonNeg n h = omega (arith, ints)
weigh_one ZeroKind n h = tt
weigh_one Free n h = absurd (omega (arith, ints, h))

weigh_minus : (κ : Kind) (n : ℕ) → MayWeigh κ (negsuc 0) → MayWeigh κ (negsuc n)
weigh_minus Pos n h = absurd (omega (arith, ints, h))
weigh_minus Neg n h = omega (arith, ints)
weigh_minus NonNeg n h = absurd (omega (arith, ints, h))
weigh_minus ZeroKind n h = tt
weigh_minus Free n h = absurd (omega (arith, ints, h))

weigh_less : (κ : Kind) (n : ℕ) → MayWeigh κ (negsuc n) → MayWeigh κ (negsuc 0)
weigh_less Pos n h = absurd (omega (arith, ints, h))
weigh_less Neg n h = omega (arith, ints)
weigh_less NonNeg n h = absurd (omega (arith, ints, h))
weigh_less ZeroKind n h = tt
weigh_less Free n h = absurd (omega (arith, ints, h))

all_weigh : (kinds : List Kind) (k : ℕ) (w : List ℤ) → AllWeigh kinds (spots_from k (map sign w)) → (i j : ℕ) → j ≡ k + i → MayWeigh (kind_at kinds j) (entry w i)
all_weigh kinds k [] h i j e = subst (λ (x : ℤ). MayWeigh (kind_at kinds j) x) (sym (past_end [] i (omega arith))) (weigh_zero (kind_at kinds j))
all_weigh kinds k (pos zero ∷ w) h zero j e = weigh_zero (kind_at kinds j)
all_weigh kinds k (pos zero ∷ w) h (suc i) j e = all_weigh kinds (suc k) w h i j (omega (arith, e))
all_weigh kinds k (pos (suc n) ∷ w) h zero j e = let f : k ≡ j = omega (arith, e) in weigh_plus (kind_at kinds j) n (subst (λ (m : ℕ). MayWeigh (kind_at kinds m) (pos 1)) f h.0)
all_weigh kinds k (pos (suc n) ∷ w) h (suc i) j e = all_weigh kinds (suc k) w h.1 i j (omega (arith, e))
all_weigh kinds k (negsuc n ∷ w) h zero j e = let f : k ≡ j = omega (arith, e) in weigh_minus (kind_at kinds j) n (subst (λ (m : ℕ). MayWeigh (kind_at kinds m) (negsuc 0)) f h.0)
all_weigh kinds k (negsuc n ∷ w) h (suc i) j e = all_weigh kinds (suc k) w h.1 i j (omega (arith, e))

weigh_all : (kinds : List Kind) (k : ℕ) (w : List ℤ) → ((i j : ℕ) → j ≡ k + i → MayWeigh (kind_at kinds j) (entry w i)) → AllWeigh kinds (spots_from k (map sign w))
weigh_all kinds k [] h = tt
weigh_all kinds k (pos zero ∷ w) h = weigh_all kinds (suc k) w (λ i j e. h (suc i) j (omega (arith, e)))
weigh_all kinds k (pos (suc n) ∷ w) h = (weigh_one (kind_at kinds k) n (h 0 k (omega arith)), weigh_all kinds (suc k) w (λ i j e. h (suc i) j (omega (arith, e))))
weigh_all kinds k (negsuc n ∷ w) h = (weigh_less (kind_at kinds k) n (h 0 k (omega arith)), weigh_all kinds (suc k) w (λ i j e. h (suc i) j (omega (arith, e))))

-- a coordinate, after so many, that has to be positive or negative and has a weight
record Counted (kinds : List Kind) (k : ℕ) (w : List ℤ) : Type 0 where
  i : ℕ
  j : ℕ
  after : j ≡ k + i
  within : i < length w
  is : is_signed (kind_at kinds j) ≡ true
  some : entry w i ≢ pos 0

later : (kinds : List Kind) (k : ℕ) (x : ℤ) (w : List ℤ) → Counted kinds (suc k) w → Counted kinds k (x ∷ w)
later kinds k x w h = record { i = suc h.i; j = h.j; after = omega (arith, h.after); within = omega (arith, h.within); is = h.is; some = h.some }

some_signed : (kinds : List Kind) (k : ℕ) (w : List ℤ) → SomeSigned kinds (spots_from k (map sign w)) → Counted kinds k w
some_signed kinds k [] h = absurd h
some_signed kinds k (pos zero ∷ w) h = later kinds k (pos zero) w (some_signed kinds (suc k) w h)
some_signed kinds k (pos (suc n) ∷ w) (inl e) = record { i = 0; j = k; after = omega arith; within = omega arith; is = e; some = λ z. absurd (omega (arith, ints, z)) }
some_signed kinds k (pos (suc n) ∷ w) (inr h) = later kinds k (pos (suc n)) w (some_signed kinds (suc k) w h)
some_signed kinds k (negsuc n ∷ w) (inl e) = record { i = 0; j = k; after = omega arith; within = omega arith; is = e; some = λ z. absurd (omega (arith, ints, z)) }
some_signed kinds k (negsuc n ∷ w) (inr h) = later kinds k (negsuc n) w (some_signed kinds (suc k) w h)

signed_some : (kinds : List Kind) (k : ℕ) (w : List ℤ) (i j : ℕ) → j ≡ k + i → is_signed (kind_at kinds j) ≡ true → entry w i ≢ pos 0 → SomeSigned kinds (spots_from k (map sign w))
signed_some kinds k [] i j e s n = absurd (n (past_end [] i (omega arith)))
signed_some kinds k (pos zero ∷ w) zero j e s n = absurd (n refl)
signed_some kinds k (pos zero ∷ w) (suc i) j e s n = signed_some kinds (suc k) w i j (omega (arith, e)) s n
signed_some kinds k (pos (suc m) ∷ w) zero j e s n = let f : j ≡ k = omega (arith, e) in inl (subst (λ (x : ℕ). is_signed (kind_at kinds x) ≡ true) f s)
signed_some kinds k (pos (suc m) ∷ w) (suc i) j e s n = inr (signed_some kinds (suc k) w i j (omega (arith, e)) s n)
signed_some kinds k (negsuc m ∷ w) zero j e s n = let f : j ≡ k = omega (arith, e) in inl (subst (λ (x : ℕ). is_signed (kind_at kinds x) ≡ true) f s)
signed_some kinds k (negsuc m ∷ w) (suc i) j e s n = inr (signed_some kinds (suc k) w i j (omega (arith, e)) s n)

-- ---- cuts

counted : (kinds : List Kind) (w : List ℤ) (n : ℕ) → length w ≡ n → IsTrue false ⊎ SomeSigned kinds (spots_from 0 (map sign w)) → CountsTo kinds w n
counted kinds w n e (inl wrong) = absurd (false≢true wrong)
counted kinds w n e (inr h) =
    let s = some_signed kinds 0 w h in
    let f : s.j ≡ s.i = omega (arith, s.after) in
    (s.i, omega (arith, e, s.within), subst (λ (x : ℕ). is_signed (kind_at kinds x) ≡ true) f s.is, s.some)

pub cut_by_spots : (a : Mat) (kinds : List Kind) (u : List ℤ) (b : Bool) → length u ≡ length a.rows → length kinds ≡ width a
    → (IsTrue b ↔ (AllWeigh kinds (spots_from 0 (map sign (weights_of a u))) × (IsTrue false ⊎ SomeSigned kinds (spots_from 0 (map sign (weights_of a u))))))
    → IsTrue b ↔ IsCut a kinds u
cut_by_spots a kinds u b e long h =
    let w = weights_of a u in (
      λ t. cut_from a kinds u (width a) e long refl (λ j lt. all_weigh kinds 0 w (h.0 t).0 j j (omega arith)) (counted kinds w (width a) (weights_long a u e) (h.0 t).1),
      λ cut.
          let some = cut_counts a kinds u (width a) e refl cut in
          h.1 (
            weigh_all kinds 0 w (λ i j f. let g : i ≡ j = omega (arith, f) in subst (λ (x : ℕ). MayWeigh (kind_at kinds x) (entry w i)) g (cut_weighs a kinds u e cut i)),
            inr (signed_some kinds 0 w some.0 some.0 (omega arith) some.2 some.3),
          ),
    )

-- ---- what is kept of a vector and of a column

row_full : (a : Mat) (u : List ℤ) → length u ≡ length a.rows → row_spots a u ≡ spots_from 0 (map sign (weights_of a u))
row_full a u e = rw (eq-eqb (length u) (length a.rows) e) refl

pub row_below : (a : Mat) (u : List ℤ) (row : List Spot) → length u ≡ length a.rows → row ≡ row_spots a u → AreBelow (width a) row
row_below a u row e f =
    subst (λ (l : List Spot). AreBelow (width a) l) (sym (f ∙ row_full a u e))
    (spots_below (width a) 0 (map sign (weights_of a u)) (omega (arith, length-map (weights_of a u) sign, weights_long a u e)))

pub row_is : (net : Net) (problem : Problem) (part : Part) (a : Mat) (items : List (List Spot)) (table : List (List ℤ)) (row : List Spot) (i n : ℕ)
    → items ≡ rows_by a table → a ≡ matrix_of net problem part → i ≡ n → i < length table → row ≡ get_or items i row
    → row ≡ row_spots (matrix_of net problem part) (get_or table n [])
row_is net problem part a items table row i n e f g lt at =
    at ∙ ap (λ (l : List (List Spot)). get_or l i row) e
    ∙ get_or-map (λ (u : List ℤ). row_spots a u) table i [] row lt
    ∙ ap₂ (λ (m : Mat) (k : ℕ). row_spots m (get_or table k [])) f g

pub row_tells : (net : Net) (problem : Problem) (part part' : Part) (p : List Sign) (u : List ℤ) (row : List Spot) (b : Bool)
    → part' ≡ part → length u ≡ length (matrix_of net problem part).rows → row ≡ row_spots (matrix_of net problem part) u
    → length (kinds_of net problem part' p) ≡ width (matrix_of net problem part')
    → (IsTrue b ↔ (AllWeigh (kinds_of net problem part' p) row × (IsTrue false ⊎ SomeSigned (kinds_of net problem part' p) row)))
    → IsTrue b ↔ IsCut (matrix_of net problem part) (kinds_of net problem part p) u
row_tells net problem part part' p u row b q e f long h =
    let a = matrix_of net problem part in
    cut_by_spots a (kinds_of net problem part p) u b e
    (subst (λ (x : Part). length (kinds_of net problem x p) ≡ width (matrix_of net problem x)) q long)
    (subst (λ (l : List Spot). IsTrue b ↔ (AllWeigh (kinds_of net problem part p) l × (IsTrue false ⊎ SomeSigned (kinds_of net problem part p) l))) (f ∙ row_full a u e)
    (subst (λ (x : Part). IsTrue b ↔ (AllWeigh (kinds_of net problem x p) row × (IsTrue false ⊎ SomeSigned (kinds_of net problem x p) row))) q h))

pub column_is : (net : Net) (problem : Problem) (table : InfluenceTable) (items : List (List Spot)) (row : List Spot) (r : ℕ)
    → items ≡ columns_of net problem → problem ≡ Concordance table → r < length net.reactions → row ≡ get_or items r row
    → row ≡ spots_from 0 (map sign (column_numbers net table (get_or net.reactions r (0, 0))))
column_is net problem table items row r e f lt at =
    at ∙ ap (λ (l : List (List Spot)). get_or l r row) (e ∙ ap (λ (q : Problem). columns_of net q) f)
    ∙ get_or-map (λ (x : ℕ × ℕ). spots_from 0 (map sign (column_numbers net table x))) net.reactions r (0, 0) row lt

pub plain_kind : (net : Net) (table : InfluenceTable) (r : ℕ) (p : List Sign) (κ : Kind) (row : List Spot) → table ≡ Plain → r < length net.reactions
    → row ≡ spots_from 0 (map sign (column_numbers net table (get_or net.reactions r (0, 0)))) → κ ≡ spots_kind false false row p
    → κ ≡ column_kind (get_or (table_of net table) r []) p
plain_kind net table r p κ row e lt h g =
    plain_spots net r p κ lt (g ∙ ap (λ (l : List Spot). spots_kind false false l p) (h ∙ ap (λ (q : InfluenceTable). spots_from 0 (map sign (column_numbers net q (get_or net.reactions r (0, 0))))) e))
    ∙ ap (λ (q : InfluenceTable). column_kind (get_or (table_of net q) r []) p) (sym e)

pub strong_kind : (net : Net) (table : InfluenceTable) (r : ℕ) (p : List Sign) (κ κ' : Kind) (row : List Spot) → table ≡ Strong → r < length net.reactions
    → row ≡ spots_from 0 (map sign (column_numbers net table (get_or net.reactions r (0, 0)))) → κ ≡ spots_kind false false row p → κ' ≡ opposite_kind κ
    → κ' ≡ column_kind (get_or (table_of net table) r []) p
strong_kind net table r p κ κ' row e lt h g away =
    strong_spots net r p κ κ' lt (g ∙ ap (λ (l : List Spot). spots_kind false false l p) (h ∙ ap (λ (q : InfluenceTable). spots_from 0 (map sign (column_numbers net q (get_or net.reactions r (0, 0))))) e)) away
    ∙ ap (λ (q : InfluenceTable). column_kind (get_or (table_of net q) r []) p) (sym e)

-- ---- cuts that are worked out

pub cut_fits : (net : Net) (problem : Problem) (part : Part) (p : List Sign) (u : List ℤ) (b : Bool)
    → (IsTrue b ↔ IsCut (matrix_of net problem part) (kinds_of net problem part p) u) → IsTrue b ↔ Fits (problem_of net problem) p (cut_by part u)
cut_fits net problem A p u b h = h
cut_fits net problem B p u b h = h

pub cut_is : (part : Part) (u : List ℤ) → is_cut (cut_by part u) ≡ true
cut_is A u = refl
cut_is B u = refl
