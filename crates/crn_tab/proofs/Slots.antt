-- The slots after an exchange.
use Rattle.crn_tab.proofs.Prelude.{◌≡◌, ◌≢◌, ℕ, zero, suc, ◌+◌, ◌<◌, ◌≤◌, inl, inr, List, [], ◌∷◌, length, set, refl, sym, ap, ◌∙◌, arith, Bool, true, false, nat_lt, slice_index, length-set, Exchanged, eq_or, look_at, choose, basis_from, basis_of, ArePlaced}
use Rattle.crn_tab.proofs.Places.{lt_true, lt_false, in_basis, basis_only, basis_ascending}
use Rattle.crn_tab.proofs.Exchanges.{Swapped}

pub at_same : (v : List ℕ) (c x : ℕ) → c < length v → slice_index (set v c x) c ≡ x
at_same v c x h = elim (look_at v c c x h) [ inl r ↦ r.1 | inr r ↦ absurd (r.0 refl) ]

pub at_other : (v : List ℕ) (c k x : ℕ) → c < length v → k ≢ c → slice_index (set v c x) k ≡ slice_index v k
at_other v c k x h ne = elim (look_at v c k x h) [ inl r ↦ absurd (ne r.0) | inr r ↦ r.1 ]

-- what two writes leave
pub record Wrote (v v' : List ℕ) (i x j y : ℕ) : Type 0 where
  pub long : length v' ≡ length v
  pub first : slice_index v' i ≡ x
  pub second : slice_index v' j ≡ y
  pub others : (k : ℕ) → k ≢ i → k ≢ j → slice_index v' k ≡ slice_index v k

pub wrote : (v : List ℕ) (i x j y : ℕ) → i < length v → j < length v → i ≢ j → Wrote v (set (set v i x) j y) i x j y
wrote v i x j y hi hj ne =
    let hj' : j < length (set v i x) = omega (arith, length-set v i x) in
    record {
      long = length-set (set v i x) j y ∙ length-set v i x;
      first = at_other (set v i x) j i y hj' ne ∙ at_same v i x hi;
      second = at_same (set v i x) j y hj';
      others = λ k ni nj. at_other (set v i x) j k y hj' nj ∙ at_other v i k x hi ni;
    }

bit : Bool → ℕ
bit true = 1
bit false = 0

count_choose : (b : Bool) (j : ℕ) (rest : List ℕ) → length (choose b (j ∷ rest) rest) ≡ bit b + length rest
unfolding bit
count_choose true j rest = omega arith
count_choose false j rest = omega arith

count_set : (j n : ℕ) (at : List ℕ) (k x : ℕ) → k < length at
    → length (basis_from j n (set at k x)) + bit (nat_lt (slice_index at k) n) ≡ length (basis_from j n at) + bit (nat_lt x n)
count_set j n [] k x h = absurd (omega arith)
count_set j n (s ∷ at) zero x h =
    omega (arith, count_choose (nat_lt s n) j (basis_from (suc j) n at), count_choose (nat_lt x n) j (basis_from (suc j) n at))
count_set j n (s ∷ at) (suc k) x h =
    omega (arith, count_set (suc j) n at k x (omega arith), count_choose (nat_lt s n) j (basis_from (suc j) n (set at k x)), count_choose (nat_lt s n) j (basis_from (suc j) n at))

-- as many are below n as before
pub count_kept : (n : ℕ) (at : List ℕ) (b e s c : ℕ) → b < length at → e < length at → b ≢ e → slice_index at b ≡ c → slice_index at e ≡ s → c < n → n ≤ s
    → length (basis_of n (set (set at b s) e c)) ≡ length (basis_of n at)
unfolding bit
count_kept n at b e s c hb he ne at_b at_e c_lt s_le =
    let mid = set at b s in
    let first = count_set 0 n at b s hb in
    let second = count_set 0 n mid e c (omega (arith, length-set at b s)) in
    let e1 : bit (nat_lt (slice_index at b) n) ≡ 1 = ap bit (lt_true (slice_index at b) n (omega arith)) in
    let e2 : bit (nat_lt s n) ≡ 0 = ap bit (lt_false s n s_le) in
    let e3 : bit (nat_lt (slice_index mid e) n) ≡ 0 = ap bit (lt_false (slice_index mid e) n (omega (arith, at_other at b e s hb (λ f. ne (sym f))))) in
    let e4 : bit (nat_lt c n) ≡ 1 = ap bit (lt_true c n c_lt) in
    omega (arith, first, second, e1, e2, e3, e4)

pub record After (n count c s : ℕ) (at order at' order' : List ℕ) : Type 0 where
  pub swapped : Swapped c s at order at'
  pub placed : ArePlaced n count at' order'
  pub exchanged : Exchanged (basis_of n at) (slice_index order c) (slice_index order s) (basis_of n at')

pub after : (n count c s : ℕ) (at order : List ℕ) → ArePlaced n count at order → c < n → n ≤ s → s < count
    → After n count c s at order (set (set at (slice_index order c) s) (slice_index order s) c) (set (set order c (slice_index order s)) s (slice_index order c))
after n count c s at order p c_lt s_le s_lt =
    let b = slice_index order c in
    let e = slice_index order s in
    let b_lt : b < count = p.order_below c (omega arith) in
    let e_lt : e < count = p.order_below s s_lt in
    let at_b : slice_index at b ≡ c = p.back c (omega arith) in
    let at_e : slice_index at e ≡ s = p.back s s_lt in
    let ne : b ≢ e = λ f. omega (arith, at_b, at_e, ap (slice_index at) f) in
    let at' = set (set at b s) e c in
    let order' = set (set order c e) s b in
    let wa = wrote at b s e c (omega (arith, p.at_long)) (omega (arith, p.at_long)) ne in
    let wo = wrote order c e s b (omega (arith, p.order_long)) (omega (arith, p.order_long)) (λ f. omega arith) in
    let long : length at' ≡ count = wa.long ∙ p.at_long in
    record {
      swapped = record { long = wa.long; leaves = wa.first; enters = wa.second; others = wa.others };
      placed = record {
        at_long = long;
        order_long = wo.long ∙ p.order_long;
        at_below = λ k lt. elim (eq_or k b) [
          | inl f ↦ omega (arith, ap (slice_index at') f, wa.first)
          | inr nb ↦ elim (eq_or k e) [
            | inl f ↦ omega (arith, ap (slice_index at') f, wa.second)
            | inr ne' ↦ omega (arith, wa.others k nb ne', p.at_below k lt)
          ]
        ];
        order_below = λ k lt. elim (eq_or k c) [
          | inl f ↦ omega (arith, ap (slice_index order') f, wo.first)
          | inr nb ↦ elim (eq_or k s) [
            | inl f ↦ omega (arith, ap (slice_index order') f, wo.second)
            | inr ne' ↦ omega (arith, wo.others k nb ne', p.order_below k lt)
          ]
        ];
        there = λ k lt. elim (eq_or k b) [
          | inl f ↦ ap (slice_index order') (ap (slice_index at') f ∙ wa.first) ∙ wo.second ∙ sym f
          | inr nb ↦ elim (eq_or k e) [
            | inl f ↦ ap (slice_index order') (ap (slice_index at') f ∙ wa.second) ∙ wo.first ∙ sym f
            | inr ne' ↦
                let nc : slice_index at k ≢ c = λ f. nb (sym (p.there k lt) ∙ ap (slice_index order) f) in
                let ns : slice_index at k ≢ s = λ f. ne' (sym (p.there k lt) ∙ ap (slice_index order) f) in
                ap (slice_index order') (wa.others k nb ne') ∙ wo.others (slice_index at k) nc ns ∙ p.there k lt
          ]
        ];
        back = λ k lt. elim (eq_or k c) [
          | inl f ↦ ap (slice_index at') (ap (slice_index order') f ∙ wo.first) ∙ wa.second ∙ sym f
          | inr nc ↦ elim (eq_or k s) [
            | inl f ↦ ap (slice_index at') (ap (slice_index order') f ∙ wo.second) ∙ wa.first ∙ sym f
            | inr ns ↦
                let nb : slice_index order k ≢ b = λ f. nc (sym (p.back k lt) ∙ ap (slice_index at) f ∙ at_b) in
                let ne' : slice_index order k ≢ e = λ f. ns (sym (p.back k lt) ∙ ap (slice_index at) f ∙ at_e) in
                ap (slice_index at') (wo.others k nc ns) ∙ wa.others (slice_index order k) nb ne' ∙ p.back k lt
          ]
        ];
        basis = count_kept n at b e s c (omega (arith, p.at_long)) (omega (arith, p.at_long)) ne at_b at_e c_lt s_le ∙ p.basis;
      };
      exchanged = record {
        ascending = basis_ascending 0 n at';
        members = λ k. (
          (λ h.
              let m = basis_only 0 n at' k h in
              let same : m.place ≡ k = omega (arith, m.is) in
              let basic : slice_index at' k < n = omega (arith, m.basic, ap (slice_index at') same) in
              let lt : k < count = omega (arith, m.inside, same, long) in
              elim (eq_or k e) [
                | inl f ↦ inr f
                | inr ne' ↦ elim (eq_or k b) [
                  | inl f ↦ absurd (omega (arith, basic, ap (slice_index at') f, wa.first))
                  | inr nb ↦ inl (in_basis n at k (omega (arith, p.at_long)) (omega (arith, basic, wa.others k nb ne')), nb)
                ]
              ]),
          (λ h. elim h [
            | inl g ↦
                let m = basis_only 0 n at k g.0 in
                let same : m.place ≡ k = omega (arith, m.is) in
                let basic : slice_index at k < n = omega (arith, m.basic, ap (slice_index at) same) in
                let lt : k < count = omega (arith, m.inside, same, p.at_long) in
                let ne' : k ≢ e = λ f. omega (arith, basic, at_e, ap (slice_index at) f) in
                in_basis n at' k (omega (arith, long)) (omega (arith, basic, wa.others k g.1 ne'))
            | inr f ↦ in_basis n at' k (omega (arith, long)) (omega (arith, ap (slice_index at') f, wa.second))
          ]),
        );
      };
    }
