-- The step of settling: a coordinate that was first wrong is right after the exchange and the settling of those before it.
use Rattle.crn_farkas.proofs.Prelude.{◌≡◌, ◌≢◌, ℕ, ◌+◌, ◌<◌, ◌↔◌, inl, inr, List, length, sym, ap, subst, arith, get_or, ℤ, pos, ◌<ℤ◌, true, slice_index, Kind, Free, Mat, entry, IsIn, IsNamedRow, IsNamedColumn, HasKind, MayTake, MayWeigh, kind_at, is_signed, Quiet, settled_dual, settled_row, take_zero, weigh_zero, kind_takes, kind_weighs, product_some, part, orthogonal, any_default, isIn_or, View, Row, Column, IsSeen, IsRight, IsSettled, IsFirstWrong, IsViewed, HasCrossed, AgreeBeyond, lt_or, past_end, width, AreLevels, ◌≤◌}
use Rattle.crn_farkas.proofs.Levels.{same_level}
use Rattle.crn_farkas.proofs.Pairs.{kind_some}

right_zero : (v : View) (κ : Kind) → IsRight v κ (pos 0)
right_zero Row κ = weigh_zero κ
right_zero (Column b) κ = take_zero κ

kind_right : (v : View) (κ : Kind) (x : ℤ) → is_signed κ ≡ true → HasKind κ x → IsRight v κ x
kind_right Row κ x s h = kind_weighs κ x s h
kind_right (Column b) κ x s h = kind_takes κ x h

seen_kind : (a : Mat) (basis : List ℕ) (v : View) (g : ℕ) (κ : Kind) (y : List ℤ) → IsSeen a basis v g κ y → HasKind κ (entry y g)
seen_kind a basis Row g κ y h = h.1
seen_kind a basis (Column b) g κ y h = h.1

-- what is wrong is not 0
pub wrong_some : (v : View) (κ : Kind) (x : ℤ) → ¬ IsRight v κ x → x ≢ pos 0
wrong_some v κ x h e = h (subst (IsRight v κ) (sym e) (right_zero v κ))

-- what is wrong is not g
pub wrong_other : (a : Mat) (basis : List ℕ) (v : View) (g c : ℕ) (kinds : List Kind) (y : List ℤ) → is_signed (kind_at kinds g) ≡ true → IsSeen a basis v g (kind_at kinds g) y
    → ¬ IsRight v (kind_at kinds c) (entry y c) → c ≢ g
wrong_other a basis v g c kinds y s seen wrong e =
    wrong (subst (λ (k : ℕ). IsRight v (kind_at kinds k) (entry y k)) (sym e) (kind_right v (kind_at kinds g) (entry y g) s (seen_kind a basis v g (kind_at kinds g) y seen)))

-- from a view that was wrong at c to one in which c has crossed, and the others beyond j are as they were
pub record Change (level : List ℕ) (g j c : ℕ) (basis : List ℕ) (view : View) (basis' : List ℕ) (view' : View) : Type 0 where
  pub crossed : HasCrossed view basis' view' c
  pub others : (i : ℕ) → i ≢ g → i ≢ c → j ≤ slice_index level i → IsViewed basis view i ↔ IsViewed basis' view' i

abbrev IsRightBelow : View → List Kind → List ℕ → ℕ → ℕ → List ℤ → Type 0
IsRightBelow view kinds level count j y = (i : ℕ) → i < count → slice_index level i < j → IsRight view (kind_at kinds i) (entry y i)

-- the vectors of both views at one coordinate other than g and c
row_quiet : (a : Mat) (basis basis' : List ℕ) (b g c j : ℕ) (kinds : List Kind) (level : List ℕ) (w y : List ℤ) → IsNamedRow a basis g w → IsNamedColumn a basis' b y
    → ((i : ℕ) → i ≢ g → i ≢ c → j ≤ slice_index level i → IsIn i basis → IsIn i basis' × (i ≢ b))
    → IsRightBelow Row kinds level (width a) j w → IsRightBelow (Column b) kinds level (width a) j y
    → (i : ℕ) → ¬ (i ≡ c) → ¬ (i ≡ g) → Quiet (kind_at kinds i) (entry w i) (entry y i)
row_quiet a basis basis' b g c j kinds level w y row col others before after i nc ng =
    elim (lt_or i (width a)) as (λ _. Quiet (kind_at kinds i) (entry w i) (entry y i)) [
      | inr far ↦ inr (inl (past_end w i (omega (arith, far, row.space.long))))
      | inl lt ↦ elim (lt_or (slice_index level i) j) as (λ _. Quiet (kind_at kinds i) (entry w i) (entry y i)) [
        | inl below ↦ inl (before i lt below, after i lt below)
        | inr beyond ↦ elim (isIn_or i basis) as (λ _. Quiet (kind_at kinds i) (entry w i) (entry y i)) [
          | inl m ↦ let v = others i ng nc beyond m in inr (inr (col.zero_on_rest i v.0 v.1))
          | inr o ↦ inr (inl (row.zero_outside i o ng))
        ]
      ]
    ]

-- the product at g is positive
goal_part : (κ : Kind) (w v : List ℤ) (g : ℕ) → is_signed κ ≡ true → HasKind κ (entry w g) → HasKind κ (entry v g) → pos 0 <ℤ part w v g
goal_part κ w v g s h k = product_some κ (entry w g) (entry v g) s (kind_weighs κ (entry w g) s h) (kind_some κ (entry w g) s h) k

pub step_right : (a : Mat) (basis basis' : List ℕ) (view view' : View) (g c j : ℕ) (kinds : List Kind) (level : List ℕ) (y y' : List ℤ) → is_signed (kind_at kinds g) ≡ true → c ≢ g
    → IsSeen a basis view g (kind_at kinds g) y → IsRightBelow view kinds level (width a) j y → ¬ IsRight view (kind_at kinds c) (entry y c)
    → Change level g j c basis view basis' view'
    → IsSeen a basis' view' g (kind_at kinds g) y' → IsRightBelow view' kinds level (width a) j y' → IsRight view' (kind_at kinds c) (entry y' c)
step_right a basis basis' Row Row g c j kinds level y y' s other seen before wrong change seen' after =
    subst (MayWeigh (kind_at kinds c)) (sym (seen'.0.zero_outside c change.crossed other)) (weigh_zero (kind_at kinds c))
step_right a basis basis' (Column b) (Column b') g c j kinds level y y' s other seen before wrong change seen' after =
    subst (MayTake (kind_at kinds c)) (sym (seen'.0.zero_on_rest c change.crossed.0 change.crossed.1)) (take_zero (kind_at kinds c))
step_right a basis basis' Row (Column b) g c j kinds level y y' s other seen before wrong change seen' after =
    settled_row (kind_at kinds) y y' c g other (orthogonal a y y' seen.0.space seen'.0.space) (goal_part (kind_at kinds g) y y' g s seen.1 seen'.1)
    (row_quiet a basis basis' b g c j kinds level y y' seen.0 seen'.0 (λ i ng nc far m. (change.others i ng nc far).0 m) before after) wrong
step_right a basis basis' (Column b) Row g c j kinds level y y' s other seen before wrong change seen' after =
    settled_dual (kind_at kinds) y' y c g other (orthogonal a y' y seen'.0.space seen.0.space) (goal_part (kind_at kinds g) y' y g s seen'.1 seen.1)
    (row_quiet a basis' basis b g c j kinds level y' y seen'.0 seen.0 (λ i ng nc far m. (change.others i ng nc far).1 m) after before) wrong

-- ---- agreement of views

pub agree_all : (level : List ℕ) (g k : ℕ) (basis : List ℕ) (view : View) → AgreeBeyond level g k basis view basis view
agree_all level g k basis view c ng far = (λ h. h, λ h. h)

crossed_by : (level : List ℕ) (g j c : ℕ) (basis next basis' : List ℕ) (view between view' : View) → c ≢ g → j ≤ slice_index level c
    → HasCrossed view next between c → AgreeBeyond level g j next between basis' view' → HasCrossed view basis' view' c
crossed_by level g j c basis next basis' Row between view' other far crossed agree = λ h. crossed ((agree c other far).1 h)
crossed_by level g j c basis next basis' (Column b) between view' other far crossed agree = (agree c other far).0 crossed

pub change_of : (level : List ℕ) (g j c : ℕ) (basis next basis' : List ℕ) (view between view' : View) → c ≢ g → j ≤ slice_index level c
    → HasCrossed view next between c → ((i : ℕ) → i ≢ g → i ≢ c → IsViewed basis view i ↔ IsViewed next between i)
    → AgreeBeyond level g j next between basis' view' → Change level g j c basis view basis' view'
change_of level g j c basis next basis' view between view' other far crossed others agree = record {
  crossed = crossed_by level g j c basis next basis' view between view' other far crossed agree;
  others = λ i ng nc beyond. (λ h. (agree i ng beyond).0 ((others i ng nc).0 h), λ h. (others i ng nc).1 ((agree i ng beyond).1 h));
}

pub agree_step : (level : List ℕ) (g j k c : ℕ) (start basis basis' : List ℕ) (first view view' : View) → j < k → slice_index level c ≡ j
    → AgreeBeyond level g k start first basis view → Change level g j c basis view basis' view' → AgreeBeyond level g k start first basis' view'
agree_step level g j k c start basis basis' first view view' lt at agree change i ng far =
    let next = change.others i ng (λ e. omega (arith, lt, at, far, ap (slice_index level) e)) (omega (arith, lt, far)) in
    (λ h. next.0 ((agree i ng far).0 h), λ h. (agree i ng far).1 (next.1 h))

-- one more level is settled
pub settled_step : (a : Mat) (basis basis' : List ℕ) (view view' : View) (g done k j : ℕ) (kinds : List Kind) (level : List ℕ) (y : List ℤ) → length kinds ≡ width a → AreLevels (length kinds) level → is_signed (kind_at kinds g) ≡ true
    → (f : IsFirstWrong a basis view g kinds level done k j) → IsSeen a basis view g (kind_at kinds g) y → Change level g j f.here.c basis view basis' view'
    → IsSettled a basis' view' g kinds level j → IsSettled a basis' view' g kinds level (j + 1)
settled_step a basis basis' view view' g done k j kinds level y long levels s f seen change settled y' seen' i i_lt lt =
    elim (lt_or (slice_index level i) j) as (λ _. IsRight view' (kind_at kinds i) (entry y' i)) [
      | inl below ↦ settled y' seen' i i_lt below
      | inr beyond ↦
          let c = f.here.c in
          let same : i ≡ c = same_level (length kinds) level i c levels (omega (arith, i_lt, long)) (omega (arith, f.here.inside, long)) (omega (arith, lt, beyond, f.here.at)) in
          let right : IsRight view' (kind_at kinds c) (entry y' c) = step_right a basis basis' view view' g c j kinds level y y' s
          (wrong_other a basis view g c kinds y s seen (f.here.wrong y seen)) seen (f.settled y seen) (f.here.wrong y seen) change seen' (settled y' seen') in
          subst (λ (m : ℕ). IsRight view' (kind_at kinds m) (entry y' m)) (sym same) right
    ]

-- ---- the kind at a place of the list, whatever comes past its end

pub seen_by : (a : Mat) (basis : List ℕ) (view : View) (g : ℕ) (d : Kind) (kinds : List Kind) (y : List ℤ) → g < length kinds → IsSeen a basis view g (kind_at kinds g) y → IsSeen a basis view g (get_or kinds g d) y
seen_by a basis view g d kinds y lt h = subst (λ (κ : Kind). IsSeen a basis view g κ y) (any_default Free d kinds g lt) h
