-- Exits of strong classes, one reaction after another.
use Rattle.crn_graph.proofs.Prelude.{◌≡◌, ◌⊎◌, ◌≢◌, ℕ, zero, suc, ◌+◌, ◌-◌, ◌<◌, ◌≤◌, List, [], ◌∷◌, length, get_or, set, refl, sym, ap, subst, ◌∙◌, inl, inr, arith, ◌==◌, if◌then◌else◌, get_or-set_other, get_or-set_same, length-set, sum_by-cons, count_by-le-length, cases_eq, Net, goes_at, IsReactionNumber, IsFrom, AreFrom, GoesOut, AreAllExits, zeros_in}
use Rattle.crn_graph.proofs.LinkTests.{are_from}
use Rattle.crn_graph.proofs.PairLaws.{same_ends}

-- the exits as far as reaction `count`
pub record AreExitsTo (net : Net) (labels exits : List ℕ) (count : ℕ) : Type 0 where
  pub each : (k : ℕ) → k < length exits → ((get_or exits k 0 ≡ 0) × ((r : ℕ) → r ≤ count → GoesOut net labels (suc k) r → ⊥)) ⊎ GoesOut net labels (suc k) (get_or exits k 0)

pub exits_none : (net : Net) (labels exits : List ℕ) → ((k : ℕ) → get_or exits k 0 ≡ 0) → AreExitsTo net labels exits 0
exits_none net labels exits none = record { each = λ k lt. inl (none k, λ r le g. omega (arith, g.goes.0, le)) }

-- reaction r, counted from 0, goes from y to z
pub number_of : (net : Net) (r y z : ℕ) → r < length net.reactions → y ≡ (get_or net.reactions r (0, 0)).0 → z ≡ (get_or net.reactions r (0, 0)).1 → IsReactionNumber net (r + 1) y z
number_of net r y z lt ey ez = let e : r ≡ r + 1 - 1 = omega arith in (omega arith, subst (λ (k : ℕ). (k < length net.reactions) × (get_or net.reactions k (0, 0) ≡ (y, z))) e (goes_at net r y z lt ey ez))

-- a reaction within a class, or one whose class has its exit, changes no other exit
out_before : (net : Net) (labels : List ℕ) (r y z k q : ℕ) → IsReactionNumber net (r + 1) y z → q ≤ r + 1 → GoesOut net labels k q → (get_or labels y 0 ≡ k → get_or labels z 0 ≢ k → ⊥) → q ≤ r
out_before net labels r y z k q is le g none = elim (cases_eq q (r + 1)) [
  | inr ne ↦ omega (arith, le, ne)
  | inl e ↦
      let s = same_ends net (r + 1) y z g.y g.z is (subst (λ (v : ℕ). IsReactionNumber net v g.y g.z) e g.goes) in
      absurd (none (ap (λ (v : ℕ). get_or labels v 0) s.0 ∙ g.from) (λ f. g.other (ap (λ (v : ℕ). get_or labels v 0) (sym s.1) ∙ f)))
]

pub exits_past : (net : Net) (labels exits : List ℕ) (r y z : ℕ) → AreExitsTo net labels exits r → IsReactionNumber net (r + 1) y z → get_or labels y 0 ≡ get_or labels z 0 → AreExitsTo net labels exits (r + 1)
exits_past net labels exits r y z h is e = record {
  each = λ k lt. elim (h.each k lt) [
    | inr g ↦ inr g
    | inl g ↦ inl (g.0, λ q le o. g.1 q (out_before net labels r y z (suc k) q is le o (λ p ne. ne (sym e ∙ p))) o)
  ];
}

pub exits_more : (net : Net) (labels exits new : List ℕ) (r y z : ℕ) → AreExitsTo net labels exits r → IsReactionNumber net (r + 1) y z → get_or labels y 0 ≢ get_or labels z 0 → 1 ≤ get_or labels y 0 → get_or labels y 0 ≤ length exits
    → new ≡ set exits (get_or labels y 0 - 1) (r + 1) → AreExitsTo net labels new (r + 1)
exits_more net labels exits new r y z h is ne one few made =
    let at = get_or labels y 0 - 1 in
    let inside : at < length exits = omega (arith, one, few) in
    subst (λ (v : List ℕ). AreExitsTo net labels v (r + 1)) (sym made) (record {
      each = λ k lt. elim (cases_eq k at) [
        | inl e ↦
            let label : get_or labels y 0 ≡ suc k = omega (arith, e, one) in
            let here : get_or (set exits at (r + 1)) k 0 ≡ r + 1 = ap (λ (v : ℕ). get_or (set exits at (r + 1)) v 0) e ∙ get_or-set_same exits at (r + 1) 0 inside in
            inr (subst (GoesOut net labels (suc k)) (sym here) (record { y = y; z = z; goes = is; from = label; other = λ f. ne (label ∙ sym f) }))
        | inr other ↦
            let same : get_or (set exits at (r + 1)) k 0 ≡ get_or exits k 0 = get_or-set_other exits at k (r + 1) 0 other in
            elim (h.each k (omega (arith, lt, length-set exits at (r + 1)))) [
              | inr g ↦ inr (subst (GoesOut net labels (suc k)) (sym same) g)
              | inl g ↦ inl (same ∙ g.0, λ q le o. g.1 q (out_before net labels r y z (suc k) q is le o (λ p _. other (omega (arith, p)))) o)
            ]
      ];
    })

pub exits_all : (net : Net) (labels exits : List ℕ) → AreExitsTo net labels exits (length net.reactions) → AreAllExits net labels exits
exits_all net labels exits h k lt = elim (h.each k lt) [
  | inr g ↦ inr g
  | inl g ↦ inl (g.0, λ r o. g.1 r (omega (arith, o.goes.0, o.goes.1.0)) o)
]

pub exits_from : (net : Net) (labels exits : List ℕ) → AreAllExits net labels exits → AreFrom (length exits) 0 (length net.reactions) exits
exits_from net labels exits h = are_from (length exits) 0 (length net.reactions) exits refl (λ k lt. (
  omega arith,
  elim (h k lt) [ inl g ↦ omega (arith, g.0) | inr g ↦ omega (arith, g.goes.0, g.goes.1.0) ],
))

-- ---- terminal classes

zeros_cons : (x : ℕ) (exits : List ℕ) → zeros_in (x ∷ exits) ≡ (if x == 0 then 1 else 0) + zeros_in exits
zeros_cons x exits = sum_by-cons (λ e. if e == 0 then 1 else 0) x exits

zeros_some : (exits : List ℕ) (k : ℕ) → k < length exits → get_or exits k 0 ≡ 0 → 1 ≤ zeros_in exits
zeros_some [] k lt e = absurd (omega arith)
zeros_some (zero ∷ exits) k lt e = let one = zeros_cons 0 exits in omega (arith, one)
zeros_some (suc x ∷ exits) zero lt e = absurd (omega (arith, e))
zeros_some (suc x ∷ exits) (suc k) lt e = let rest = zeros_some exits k (omega (arith, lt)) e in let cons = zeros_cons (suc x) exits in omega (arith, rest, cons)

-- exits lead from class to class of smaller level, and so to one that has none
ends_somewhere : (net : Net) (labels exits level : List ℕ) → AreAllExits net labels exits → ((k r : ℕ) → GoesOut net labels (suc k) r → (j : ℕ) × (j < length exits) × (get_or level j 0 < get_or level k 0))
    → (n k : ℕ) → k < length exits → get_or level k 0 ≤ n → (j : ℕ) × (j < length exits) × (get_or exits j 0 ≡ 0)
ends_somewhere net labels exits level h falls zero k lt le = elim (h k lt) [
  | inl g ↦ (k, lt, g.0)
  | inr g ↦ absurd (let f = falls k (get_or exits k 0) g in omega (arith, f.2, le))
]
ends_somewhere net labels exits level h falls (suc n) k lt le = elim (h k lt) [
  | inl g ↦ (k, lt, g.0)
  | inr g ↦ let f = falls k (get_or exits k 0) g in ends_somewhere net labels exits level h falls n f.0 f.1 (omega (arith, f.2, le))
]

pub terminal_from : (net : Net) (labels exits level : List ℕ) → AreAllExits net labels exits → ((k r : ℕ) → GoesOut net labels (suc k) r → (j : ℕ) × (j < length exits) × (get_or level j 0 < get_or level k 0))
    → 1 ≤ length exits → IsFrom 1 (length exits) (zeros_in exits)
terminal_from net labels exits level h falls some =
    let e = ends_somewhere net labels exits level h falls (get_or level 0 0) 0 some (omega arith) in
    (zeros_some exits e.0 e.1 e.2, count_by-le-length (λ e. e == 0) exits)
