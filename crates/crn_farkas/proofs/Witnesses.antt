-- A settled column view shows a vector that is one of those that add up to a solution.
use Rattle.crn_farkas.proofs.Prelude.{◌≡◌, ◌≢◌, ℕ, ◌+◌, ◌-◌, ◌<◌, ◌⊎◌, inl, inr, List, length, sym, ap, subst, ◌∙◌, arith, ℤ, pos, ◌+ℤ◌, ◌*ℤ◌, unsigned_abs, Bool, true, ◌∣◌, ints, dvd-zero, WIDE_ENTRY, Kind, Sign, Zero, Mat, entry, HasSign, scale, IsIn, width, IsNamed, IsNamedColumn, NamesWide, WideAt, HasKind, MayTake, MayWeigh, kind_at, is_signed, eq_or, lt_or, past_end, entry-scale, same_members, NamesRows, IsNumbered, IsRefused, column_at, as_row, Row, Column, IsView, IsRightEverywhere, factor, IsWitness, IsNear, CutsBy}
use lib.IntN.{*ℤ_comm}
use Rattle.crn_farkas.proofs.Pairs.{pair, column_scaled, other_some, kind_some}
use Rattle.crn_farkas.proofs.Ruling.{kind_past, scaled_small, cut_of_ruling}

pub as_column : (a : Mat) (basis : List ℕ) (b : ℕ) (w : List ℤ) → IsIn b basis → IsNamed a basis b w → IsNamedColumn a basis b w
as_column a basis b w i n = elim n.named [ inl c ↦ c | inr r ↦ absurd (r.outside i) ]

-- a primitive vector that the basis names by a member is not 0 there
pub column_some : (a : Mat) (basis : List ℕ) (b : ℕ) (w : List ℤ) → IsIn b basis → IsNamed a basis b w → entry w b ≢ pos 0
column_some a basis b w i n none =
    let col = as_column a basis b w i n in
    let all : (k : ℕ) → entry w k ≡ pos 0 = n.basis_is.free w col.space (λ k m. elim (eq_or k b) as (λ _. entry w k ≡ pos 0) [
      | inl e ↦ ap (λ (j : ℕ). entry w j) e ∙ none
      | inr ne ↦ col.zero_on_rest k m ne
    ]) in
    let two : 2 ≡ 1 = n.primitive 2 (λ j. (let D : ℕ → Type 0 = λ n. 2 ∣ n in subst D (sym (ap unsigned_abs (all j))) (dvd-zero 2))) in
    omega (arith, two)

-- a view of a column shows each vector that the basis names so
view_some : (a : Mat) (basis : List ℕ) (b g : ℕ) (w : List ℤ) → NamesRows a basis → g < width a → IsView a basis (Column b) g → IsNamed a basis b w → entry w g ≢ pos 0
view_some a basis b g w t lt (y, named, some) n =
    let col = as_column a basis b w named.member n in
    let w_b = column_some a basis b w named.member n in
    elim (eq_or g b) as (λ _. entry w g ≢ pos 0) [
      | inl e ↦ subst (λ (k : ℕ). entry w k ≢ pos 0) (sym e) w_b
      | inr ne ↦
          let out : ¬ IsIn g basis = λ i. some (named.zero_on_rest g i ne) in
          let v = t.rows g lt out in
          let row = as_row a basis g v.w out v.named in
          let v_b : entry v.w b ≢ pos 0 = other_some (entry v.w b) (entry y b) (entry v.w g) (entry y g) (pair a basis g b v.w y row named) (λ e. omega (arith, ints, e, v.positive)) some in
          let sum : entry w g *ℤ entry v.w g +ℤ entry v.w b *ℤ entry w b ≡ pos 0 = omega (arith, ints, pair a basis g b v.w w row col, *ℤ_comm (entry w g) (entry v.w g)) in
          other_some (entry w g) (entry v.w g) (entry v.w b) (entry w b) sum v_b w_b
    ]

pub witness_from : (a : Mat) (basis : List ℕ) (kinds : List Kind) (b g : ℕ) (s : Bool) (w y : List ℤ) → NamesRows a basis → g < width a → length kinds ≡ width a → is_signed (kind_at kinds g) ≡ true
    → IsView a basis (Column b) g → IsRightEverywhere a basis (Column b) g kinds
    → IsNamed a basis b w → ((k : ℕ) → unsigned_abs (entry w k) < WIDE_ENTRY) → (entry w g ≢ pos 0 → HasKind (kind_at kinds g) (factor s *ℤ entry w g)) → y ≡ scale (factor s) w → IsWitness a kinds g y
witness_from a basis kinds b g s w y t lt long asked view right n small signs same =
    let v = scale (factor s) w in
    let col = column_scaled a basis b (factor s) w (as_column a basis b w view.1.member n) in
    let kind : HasKind (kind_at kinds g) (entry v g) = subst (HasKind (kind_at kinds g)) (sym (entry-scale (factor s) w g)) (signs (view_some a basis b g w t lt view n)) in
    let takes : (k : ℕ) → MayTake (kind_at kinds k) (entry v k) = λ k. elim (lt_or k (width a)) as (λ _. MayTake (kind_at kinds k) (entry v k)) [
      | inl h ↦ right v (col, kind) k h
      | inr h ↦ subst (λ (κ : Kind). MayTake κ (entry v k)) (sym (kind_past kinds k (omega (arith, h, long)))) tt
    ] in
    subst (λ (l : List ℤ). IsWitness a kinds g l) (sym same) (record {
      space = col.space;
      takes = takes;
      some = kind_some (kind_at kinds g) (entry v g) asked kind;
      small = scaled_small s w (WIDE_ENTRY) small;
    })

same_numbers : (a : Mat) (basis : List ℕ) (b : ℕ) (numbers : List ℕ) → NamesRows a basis → IsIn b basis → (n : IsNumbered basis b b numbers) → n.next ≡ basis
same_numbers a basis b numbers t i n =
    same_members n.next basis n.exchanged.ascending t.basis_is.ascending
    (λ k m. elim ((n.exchanged.members k).0 m) as (λ _. IsIn k basis) [ inl h ↦ h.0 | inr e ↦ subst (λ (j : ℕ). IsIn j basis) (sym e) i ])
    (λ k m. (n.exchanged.members k).1 (elim (eq_or k b) as (λ _. (IsIn k basis × (k ≢ b)) ⊎ (k ≡ b)) [ inl e ↦ inr e | inr ne ↦ inl (m, ne) ]))

-- the numbers of the basis itself
pub wide_here : (a : Mat) (basis : List ℕ) (b : ℕ) (numbers : List ℕ) → NamesRows a basis → IsIn b basis → WideAt a basis b → IsNumbered basis b b numbers → NamesWide a (b + 1) numbers
wide_here a basis b numbers t i wide n =
    let same = same_numbers a basis b numbers t i n in
    let back : b + 1 - 1 ≡ b = omega arith in
    record {
      from_zero = n.next;
      numbered = n.numbered;
      counted = omega arith;
      wide = subst (λ (l : List ℕ). WideAt a l (b + 1 - 1)) (sym same) (subst (λ (k : ℕ). WideAt a basis k) (sym back) wide);
    }

pub near_here : (a : Mat) (basis : List ℕ) (b : ℕ) (numbers : List ℕ) → NamesRows a basis → IsIn b basis → IsNumbered basis b b numbers → IsNear basis numbers
near_here a basis b numbers t i n = record { next = n.next; numbered = n.numbered; near = inl (same_numbers a basis b numbers t i n) }

-- the numbers of a basis that was refused
pub near_refused : (a : Mat) (basis : List ℕ) (leave enter index : ℕ) (numbers : List ℕ) → IsRefused a basis leave enter index → IsNumbered basis leave enter numbers → NamesWide a index numbers × IsNear basis numbers
near_refused a basis leave enter index numbers r n = (
  record { from_zero = n.next; numbered = n.numbered; counted = r.counted; wide = r.wide n.next n.exchanged },
  record { next = n.next; numbered = n.numbered; near = inr (record { leave = leave; enter = enter; member = r.member; outside = r.outside; exchanged = n.exchanged }) },
)

-- a settled row view shows multipliers
pub cuts_settled : (a : Mat) (basis : List ℕ) (kinds : List Kind) (g : ℕ) (sign : Sign) → length kinds ≡ width a → is_signed (kind_at kinds g) ≡ true
    → IsRightEverywhere a basis Row g kinds → (sign ≢ Zero) → ((x : ℤ) → HasSign sign x → HasKind (kind_at kinds g) x) → CutsBy a basis kinds g sign
cuts_settled a basis kinds g sign long asked right some kind = record {
  some = some;
  rules = λ w named at_g.
      let seen = kind (entry w g) at_g in
      cut_of_ruling a kinds w named.space long (
        λ k. elim (lt_or k (width a)) as (λ _. MayWeigh (kind_at kinds k) (entry w k)) [
          | inl h ↦ right w (named, seen) k h
          | inr h ↦ subst (λ (κ : Kind). MayWeigh κ (entry w k)) (sym (kind_past kinds k (omega (arith, h, long)))) (past_end w k (omega (arith, h, named.space.long)))
        ],
        (g, asked, kind_some (kind_at kinds g) (entry w g) asked seen),
      );
}

-- the first view of a member
pub view_first : (a : Mat) (basis : List ℕ) (g : ℕ) → NamesRows a basis → IsIn g basis → IsView a basis (Column g) g
view_first a basis g t i =
    let col = column_at a basis g t.wide t.basis_is i in
    (col.y, record { member = i; space = col.row; zero_on_rest = col.rest }, col.some)
